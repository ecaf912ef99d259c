-- What is done for one connection or child is no matter of another: along every way, it hands it nothing, schedules no loss of
-- it, and doesn't ask the outside to close it.
use Rattle.std.specs.Prelude.{◌≡◌, false, List, []}
use Rattle.model_value.specs.Action.{Action}
use Rattle.model_wire.specs.declared.event.Handed.{Handed}
use Rattle.model_wire.specs.Call.{Call, Answer}
use Rattle.model_wire.specs.Event.{handed_by}
use Rattle.model_stream.specs.Doing.{Doing, Ends, Changes, Asks, CallSoon, MakeFuture, Settle}
use Rattle.model_stream.specs.History.{is_same}
use Rattle.law_stream.specs.Ways.{Move, closes, handed_in, is_close, is_loss, losses}

-- a call that hands nothing to another, and closes no other
abbrev pub IsCallOf : Handed → Call → Type 0
IsCallOf whom call =
    (other : Handed) → is_same other whom ≡ false → (is_close other call ≡ false) × ((came : Answer) → handed_by other call came ≡ [])

-- a callback that is no loss of another
abbrev pub IsActionOf : Handed → Action → Type 0
IsActionOf whom it = (other : Handed) → is_same other whom ≡ false → is_loss other (CallSoon it) ≡ false

abbrev pub IsFramed : {A : Type 0} → Handed → Doing A → Type 0
IsFramed whom (Ends result) = Unit {0}
IsFramed whom (Changes MakeFuture rest) = IsFramed whom rest
IsFramed whom (Changes (Settle future outcome) rest) = IsFramed whom rest
IsFramed whom (Changes (CallSoon it) rest) = IsActionOf whom it × IsFramed whom rest
IsFramed whom (Asks call rest) = IsCallOf whom call × ((answer : Answer) → IsFramed whom (rest answer))

-- moves that are no matter of one
pub record IsApart (whom : Handed) (moves : List Move) : Type 0 where
  pub hands : handed_in whom moves ≡ []
  pub loses : losses whom moves ≡ 0
  pub closes : closes whom moves ≡ 0
