-- What schedules no loss without an exception.
use Rattle.std.specs.Prelude.{◌≡◌, ℕ, ◌+◌, Bool, false, not, ◌&&◌, ◌==◌, List, [], ◌∷◌}
use Rattle.model_value.specs.declared.action.Action.TheVariants as action
use Rattle.model_wire.specs.declared.event.Handed.{Handed}
use Rattle.model_wire.specs.declared.event.Handed.TheVariants as to
use Rattle.model_wire.specs.Call.{Answer}
use Rattle.model_stream.specs.Doing.{Doing, Ends, Changes, Asks, Change, CallSoon, MakeFuture, Settle}
use Rattle.law_stream.specs.Ways.{Move, Did, Heard, one_if}

-- a loss without an exception is scheduled
abbrev pub is_good_loss : Handed → Change → Bool
is_good_loss (to.Conn id) (CallSoon (action.Lost other broken)) = not broken && id == other
is_good_loss (to.Child id) (CallSoon (action.LostChild other broken)) = not broken && id == other
is_good_loss _ _ = false

-- how often
abbrev pub good_losses : Handed → List Move → ℕ
good_losses whom [] = 0
good_losses whom (Did change ∷ moves) = one_if (is_good_loss whom change) + good_losses whom moves
good_losses whom (Heard call answer ∷ moves) = good_losses whom moves

-- along no way
abbrev pub IsMild : {A : Type 0} → Doing A → Type 0
IsMild (Ends result) = Unit {0}
IsMild (Changes MakeFuture rest) = IsMild rest
IsMild (Changes (Settle future outcome) rest) = IsMild rest
IsMild (Changes (CallSoon it) rest) = ((whom : Handed) → is_good_loss whom (CallSoon it) ≡ false) × IsMild rest
IsMild (Asks call rest) = (answer : Answer) → IsMild (rest answer)
