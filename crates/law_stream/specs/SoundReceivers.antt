-- Sound receivers, and the steps of one: who waits, and who is told.
use Rattle.std.specs.Prelude.{◌≡◌, ℕ, ◌+◌, ◌≤◌, false, if◌then◌else◌, ◌==◌, List, [], ◌∷◌, ◌++◌, Option, Some, None}
use Rattle.model_value.specs.Value.{Exc}
use Rattle.model_stream.specs.Doing.{Doing, Ends, MakeFuture, CallSoon, Settle, and_then}
use Rattle.model_stream.specs.Reading.{Reading, ReadOp}
use Rattle.law_stream.specs.SenderSteps.{Leads}
use Rattle.law_stream.specs.Ways.{Move, Did, Heard}
use Rattle.model_stream.specs.Receivers.{Receiver, receive, receive_end, receive_loss, read, read_all, give_up_read}

-- a reader for which one may wait: it takes more, and neither ended nor failed
pub record IsWaiting (r : Reading) : Type 0 where
  pub unpaused : r.paused ≡ false
  pub unended : r.eof ≡ false
  pub unfailed : r.failed ≡ None

-- a read's waiter is held only while one may wait
abbrev pub IsSoundReceiver : Receiver → Type 0
IsSoundReceiver r = (on : ℕ) → r.waiter ≡ Some on → IsWaiting r.reader

-- ---- what happens to a receiver, step by step
pub data ReceiverStep : Type 0 where
  Receives : (piece : List ℕ) → ReceiverStep
  ReceivesEnd : ReceiverStep
  -- the connection is lost: with an exception, or by its end
  IsLost : (fault : Option Exc) → ReceiverStep
  -- a read, where the future that is made next has this number
  Reads : (next : ℕ) (op : ReadOp) → ReceiverStep
  ReadsAll : (next : ℕ) → ReceiverStep
  -- the task of a read that waits on this future was resumed
  GivesUp : (on : ℕ) → ReceiverStep

abbrev pub receiver_of : {R : Type 0} → Doing (Receiver × R) → Doing Receiver
receiver_of doing = and_then doing (λ done. Ends done.0)

abbrev pub done : ReceiverStep → Receiver → Doing Receiver
done (Receives piece) r = receive piece r
done ReceivesEnd r = receive_end r
done (IsLost fault) r = receive_loss fault r
done (Reads next op) r = receiver_of (read next op r)
done (ReadsAll next) r = receiver_of (read_all next r)
done (GivesUp on) r = Ends (give_up_read on r)

-- the numbers of futures that reads may wait on
abbrev pub began_in : ReceiverStep → List ℕ
began_in (Reads next op) = next ∷ []
began_in (ReadsAll next) = next ∷ []
began_in (Receives piece) = []
began_in ReceivesEnd = []
began_in (IsLost fault) = []
began_in (GivesUp on) = []

abbrev pub one_if_same : ℕ → ℕ → ℕ
one_if_same future other = if future == other then 1 else 0

abbrev pub many_of : ℕ → List ℕ → ℕ
many_of future [] = 0
many_of future (other ∷ others) = one_if_same future other + many_of future others

abbrev pub waits_on : ℕ → Option ℕ → ℕ
waits_on future None = 0
waits_on future (Some other) = one_if_same future other

-- how often a future was told in these moves
abbrev pub told : ℕ → List Move → ℕ
told future [] = 0
told future (Did (Settle other outcome) ∷ moves) = one_if_same future other + told future moves
told future (Did MakeFuture ∷ moves) = told future moves
told future (Did (CallSoon action) ∷ moves) = told future moves
told future (Heard call answer ∷ moves) = told future moves

-- In steps, in which reads began that may wait on these futures, these moves were made.
pub data ReceiverComes : (from : Receiver) (began : List ℕ) (moves : List Move) (to : Receiver) → Type 0 where
  Rests : (r : Receiver) → ReceiverComes r [] [] r
  Steps : (step : ReceiverStep) (r mid after : Receiver) (moves more : List Move) (began : List ℕ) → Leads (done step r) moves mid
      → ReceiverComes mid began more after → ReceiverComes r (began_in step ++ began) (moves ++ more) after

-- what a step keeps: a sound receiver, and that a future is told at most as often as it was waited on
pub record KeepsReceiver (began : List ℕ) (r : Receiver) (moves : List Move) (after : Receiver) : Type 0 where
  pub sound : IsSoundReceiver r → IsSoundReceiver after
  pub tells : (future : ℕ) → told future moves + waits_on future after.waiter ≤ many_of future began + waits_on future r.waiter
