-- The ways through what a callback or a request does: what happens on each, in order, whichever fitting answers come; and
-- what it ends with.
use Rattle.std.specs.Prelude.{◌≡◌, ℕ, ◌+◌, Bool, true, false, ◌==◌, if◌then◌else◌, List, [], ◌∷◌}
use Rattle.model_value.specs.declared.action.Action.TheVariants as action
use Rattle.model_wire.specs.declared.call.Call.TheVariants as call
use Rattle.model_wire.specs.declared.event.Event.TheVariants as event
use Rattle.model_wire.specs.declared.event.Handed.{Handed}
use Rattle.model_wire.specs.declared.event.Handed.TheVariants as to
use Rattle.model_wire.specs.Call.{Call, Answer}
use Rattle.model_wire.specs.Event.{Event}
use Rattle.model_wire.specs.Fits.{fits}
use Rattle.model_stream.specs.Doing.{Doing, Ends, Changes, Asks, Change, CallSoon}
use Rattle.model_stream.specs.History.{handed}

pub data Move : Type 0 where
  Did : (change : Change) → Move
  Heard : (call : Call) (answer : Answer) → Move

-- whatever fitting answers come, this holds of what happened and of the result
abbrev pub Always : {A : Type 0} → (List Move → A → Type 0) → Doing A → Type 0
Always Holds (Ends result) = Holds [] result
Always Holds (Changes change rest) = Always (λ moves. Holds (Did change ∷ moves)) rest
Always Holds (Asks call rest) =
    (answer : Answer) → fits call answer ≡ true → Always (λ moves. Holds (Heard call answer ∷ moves)) (rest answer)

-- the events of it
abbrev pub told_by : List Move → List Event
told_by [] = []
told_by (Did change ∷ moves) = told_by moves
told_by (Heard call answer ∷ moves) = event.Called call ∷ event.Got answer ∷ told_by moves

-- the bytes that a connection or a child was handed by it
abbrev pub handed_in : Handed → List Move → List ℕ
handed_in whom moves = handed whom (told_by moves)

abbrev pub one_if : Bool → ℕ
one_if holds = if holds then 1 else 0

-- ---- how often something happened
abbrev pub is_loss : Handed → Change → Bool
is_loss (to.Conn id) (CallSoon (action.Lost other broken)) = id == other
is_loss (to.Child id) (CallSoon (action.LostChild other broken)) = id == other
is_loss _ _ = false

-- a loss was scheduled
abbrev pub losses : Handed → List Move → ℕ
losses whom [] = 0
losses whom (Did change ∷ moves) = one_if (is_loss whom change) + losses whom moves
losses whom (Heard call answer ∷ moves) = losses whom moves

abbrev pub is_offer : Handed → Call → Bool
is_offer (to.Conn id) (call.Send other bytes) = id == other
is_offer (to.Child id) (call.Feed other bytes) = id == other
is_offer _ _ = false

-- bytes were offered to the outside
abbrev pub offers : Handed → List Move → ℕ
offers whom [] = 0
offers whom (Did change ∷ moves) = offers whom moves
offers whom (Heard call answer ∷ moves) = one_if (is_offer whom call) + offers whom moves

abbrev pub is_close : Handed → Call → Bool
is_close (to.Conn id) (call.Close other) = id == other
is_close (to.Child id) (call.End other) = id == other
is_close _ _ = false

-- the outside was asked to close
abbrev pub closes : Handed → List Move → ℕ
closes whom [] = 0
closes whom (Did change ∷ moves) = closes whom moves
closes whom (Heard call answer ∷ moves) = one_if (is_close whom call) + closes whom moves
