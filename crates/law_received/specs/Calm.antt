-- What receives nothing: along every way, whichever answers come, nothing is asked to be received, no news of a child is
-- scheduled, and this holds of the result.
use Rattle.std.specs.Prelude.{◌≡◌, Bool, true, false, List, [], ◌∷◌}
use Rattle.model_wire.specs.declared.call.Call.TheVariants as call
use Rattle.model_wire.specs.Call.{Call, Answer}
use Rattle.model_stream.specs.Children.{Child}
use Rattle.model_stream.specs.Connections.{Connection}
use Rattle.model_stream.specs.Doing.{Doing, Ends, Changes, Asks, MakeFuture, Settle, CallSoon}
use Rattle.model_stream.specs.Senders.{is_closing}
use Rattle.law_stream.specs.ReceiverOrder.{has_failed}
use Rattle.law_stream.specs.Ways.{Move, Did, Heard}
use Rattle.law_received.specs.Readers.{is_news}

abbrev pub is_recv : Call → Bool
is_recv (call.Recv conn) = true
is_recv _ = false

abbrev pub Apart : {A : Type 0} → (A → Type 0) → Doing A → Type 0
Apart Holds (Ends result) = Holds result
Apart Holds (Changes MakeFuture rest) = Apart Holds rest
Apart Holds (Changes (Settle future outcome) rest) = Apart Holds rest
Apart Holds (Changes (CallSoon it) rest) = (is_news it ≡ false) × Apart Holds rest
Apart Holds (Asks it rest) = (is_recv it ≡ false) × ((answer : Answer) → Apart Holds (rest answer))

-- moves that schedule no news
abbrev pub ScheduleNone : List Move → Type 0
ScheduleNone [] = Unit {0}
ScheduleNone (Did MakeFuture ∷ moves) = ScheduleNone moves
ScheduleNone (Did (Settle future outcome) ∷ moves) = ScheduleNone moves
ScheduleNone (Did (CallSoon it) ∷ moves) = (is_news it ≡ false) × ScheduleNone moves
ScheduleNone (Heard it came ∷ moves) = ScheduleNone moves

-- ---- what a connection and a child hold
-- its reader holds what it held, and fails by nothing; and the connection closes still, where it did
pub record SameConn (c after : Connection) : Type 0 where
  pub held : after.receiver.reader.held ≡ c.receiver.reader.held
  pub failed : has_failed after.receiver ≡ has_failed c.receiver
  pub closes : is_closing c.sender ≡ true → is_closing after.sender ≡ true

-- its reader failed and holds nothing, and the connection closes
pub record FailedConn (after : Connection) : Type 0 where
  pub held : after.receiver.reader.held ≡ []
  pub failed : has_failed after.receiver ≡ true
  pub closes : is_closing after.sender ≡ true

-- by a loss: with an exception, or without one
abbrev pub LostConn : (broken : Bool) → Connection → Connection → Type 0
LostConn true c after = FailedConn after
LostConn false c after = SameConn c after

-- its pipes are what they were
abbrev pub SameChild : Child → Child → Type 0
SameChild p after = (after.out ≡ p.out) × (after.errs ≡ p.errs)
