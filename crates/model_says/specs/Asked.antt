-- What a coroutine asks along a tape, in order: the requests that were answered, and the one that waits for an answer.
use Rattle.std.specs.Prelude.{◌≡◌, List, [], ◌∷◌, ◌++◌, map}
use Rattle.model_value.specs.Input.{Input}
use Rattle.model_value.specs.Request.{Request}
use Rattle.model_says.specs.Endings.{Saying, Asks, Exchange, Ending, saying_of, progress_of}
use Rattle.model_says.specs.Tape.{Tape}

abbrev pub requests_of : List Exchange → List Request
requests_of exchanges = map (λ exchange. exchange.request) exchanges

abbrev pub answers_of : List Exchange → List Input
answers_of exchanges = map (λ exchange. exchange.answer) exchanges

abbrev pub inputs_of : Tape → List Input
inputs_of tape = map (λ resumed. resumed.input) tape

-- the request that waits
abbrev pub waiting : Saying → List Request
waiting (Asks request) = request ∷ []
waiting saying = []

abbrev pub asked : Ending → List Request
asked ending = requests_of (progress_of ending).exchanges ++ waiting (saying_of ending)

-- the one list is the front of the other
pub record IsFront {A : Type 0} (front whole : List A) : Type 0 where
  pub rest : List A
  pub joined : front ++ rest ≡ whole
