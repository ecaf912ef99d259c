-- What a callback or a request does over a list of answers: what happened, in order, and what it ended with. It didn't end
-- where it asked for more answers than there are.
use Rattle.std.specs.Prelude.{ℕ, suc, length, List, [], ◌∷◌, Option, Some, None}
use Rattle.model_wire.specs.Call.{Call, Answer}
use Rattle.model_stream.specs.Doing.{Doing, Ends, Changes, Asks, Change}
use Rattle.model_stream.specs.Streams.{Streams}

pub data Happened : Type 0 where
  Asked : (call : Call) → Happened
  Changed : (change : Change) → Happened

pub record Played (A : Type 0) : Type 0 where
  pub happened : List Happened
  pub ended : Option A

abbrev pub first : {A : Type 0} → Happened → Played A → Played A
first event played = record played { happened = event ∷ played.happened }

abbrev pub play : {A : Type 0} → Doing A → List Answer → Played A
play (Ends result) answers = record { happened = []; ended = Some result }
play (Changes change rest) answers = first (Changed change) (play rest answers)
play (Asks call rest) [] = record { happened = Asked call ∷ []; ended = None }
play (Asks call rest) (answer ∷ answers) = first (Asked call) (play (rest answer) answers)

abbrev pub played : {A : Type 0} → List Happened → A → Played A
played happened result = record { happened = happened; ended = Some result }

-- how many calls were asked
abbrev pub calls_in : List Happened → ℕ
calls_in [] = 0
calls_in (Asked call ∷ happened) = suc (calls_in happened)
calls_in (Changed change ∷ happened) = calls_in happened

-- how many connections there are in the end
abbrev pub connected : Option Streams → ℕ
connected None = 0
connected (Some s) = length s.connections
