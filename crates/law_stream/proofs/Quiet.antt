-- What a receiver does is no matter of the sender beside it.
use Rattle.std.proofs.Common.{ℕ, Bool, true, false, cond, [], ◌∷◌, Option, Some, None}
use Rattle.model_value.specs.Value.{Exc}
use Rattle.model_wire.specs.declared.event.Handed.{Handed}
use Rattle.model_stream.specs.declared.answers.StreamGot.TheVariants as got_as
use Rattle.model_stream.specs.declared.read_op.Taken.TheVariants as taken
use Rattle.model_stream.specs.Doing.{Doing, Ends, Changes, Asks, MakeFuture, Settle, CallSoon, and_then}
use Rattle.model_stream.specs.Reading.{Reading, Take, Taken, take_read}
use Rattle.model_stream.specs.Receivers.{Receiver, StreamGot, AllGot, wakes, second_waiter, wait_for_data, read, read_as, read_all, all_taken}
use Rattle.model_stream.specs.Senders.{Sender}
use Rattle.law_stream.specs.SoundSenders.{IsSoundSender, KeepsSender}
use Rattle.law_stream.specs.Ways.{Did, Always}
use Rattle.law_stream.proofs.Along.{always_map}
use Rattle.law_stream.proofs.SoundSenders.{keeps_still, keeps_quiet, make_quiet, settle_quiet}
use Rattle.law_stream.specs.SoundReceivers as receivers

-- ---- what a receiver does makes and settles futures alone
abbrev pub AllQuiet : {A : Type 0} → Doing A → Type 0
AllQuiet (Ends result) = Unit {0}
AllQuiet (Changes MakeFuture rest) = AllQuiet rest
AllQuiet (Changes (Settle future outcome) rest) = AllQuiet rest
AllQuiet (Changes (CallSoon action) rest) = ⊥
AllQuiet (Asks call rest) = ⊥

quiet_into : {A B : Type 0} (into : A → B) (doing : Doing A) → AllQuiet doing → AllQuiet (and_then doing (λ result. Ends (into result)))
quiet_into into (Ends result) quiet = tt
quiet_into into (Changes MakeFuture rest) quiet = quiet_into into rest quiet
quiet_into into (Changes (Settle future outcome) rest) quiet = quiet_into into rest quiet
quiet_into into (Changes (CallSoon action) rest) quiet = absurd quiet
quiet_into into (Asks call rest) quiet = absurd quiet

quiet_wakes : (reader : Reading) (waiter : Option ℕ) → AllQuiet (wakes reader waiter)
quiet_wakes reader None = tt
quiet_wakes reader (Some future) = tt

quiet_wait : (next : ℕ) (r : Receiver) → AllQuiet (wait_for_data next r)
quiet_wait next r = at r.waiter
  where
    at : (waiter : Option ℕ) → AllQuiet {A = Receiver × StreamGot} (elim waiter [
      | Some future ↦ Ends (r, got_as.Raises second_waiter)
      | None ↦ Changes MakeFuture (Ends (record { reader = record r.reader { paused = false }; waiter = Some next }, got_as.Waits next))
    ])
    at (Some on) = tt
    at None = tt

quiet_read : (next : ℕ) (t : Take) (r : Receiver) (answer : Taken) → AllQuiet (read_as answer t next r)
quiet_read next t r (taken.Bytes bytes) = tt
quiet_read next t r (taken.Raises fault) = tt
quiet_read next t r taken.Needs = quiet_wait next r

quiet_all : (next : ℕ) (r : Receiver) → AllQuiet (read_all next r)
quiet_all next r = at r.reader.failed
  where
    by : (b : Bool) → AllQuiet {A = Receiver × AllGot} (cond b (Ends (all_taken r, record { taken = r.reader.held; got = got_as.Bytes [] }))
        (and_then (wait_for_data next (all_taken r)) (λ done. Ends (done.0, record { taken = r.reader.held; got = done.1 }))))
    by true = tt
    by false =
        quiet_into {A = Receiver × StreamGot} {B = Receiver × AllGot} (λ done. (done.0, record { taken = r.reader.held; got = done.1 }))
        (wait_for_data next (all_taken r)) (quiet_wait next (all_taken r))

    at : (failed : Option Exc) → AllQuiet {A = Receiver × AllGot} (elim failed [
      | Some fault ↦ Ends (r, record { taken = []; got = got_as.Raises fault })
      | None ↦ cond r.reader.eof (Ends (all_taken r, record { taken = r.reader.held; got = got_as.Bytes [] }))
          (and_then (wait_for_data next (all_taken r)) (λ done. Ends (done.0, record { taken = r.reader.held; got = done.1 })))
    ])
    at (Some fault) = tt
    at None = by r.reader.eof

pub quiet_step : (step : receivers.ReceiverStep) (r : Receiver) → AllQuiet (receivers.done step r)
quiet_step (receivers.Receives piece) r = quiet_wakes _ r.waiter
quiet_step receivers.ReceivesEnd r = quiet_wakes _ r.waiter
quiet_step (receivers.IsLost None) r = quiet_wakes _ r.waiter
quiet_step (receivers.IsLost (Some fault)) r = quiet_wakes _ r.waiter
quiet_step (receivers.Reads next op) r =
    quiet_into {A = Receiver × StreamGot} (λ done. done.0) (read next op r)
    (quiet_read next (take_read op r.reader) r (take_read op r.reader).answer)
quiet_step (receivers.ReadsAll next) r = quiet_into {A = Receiver × AllGot} (λ done. done.0) (read_all next r) (quiet_all next r)
quiet_step (receivers.GivesUp on) r = tt

-- so it is no matter of the sender
pub quiet_keeps : {A : Type 0} (whom : Handed) (s : Sender) → IsSoundSender s → (doing : Doing A) → AllQuiet doing
    → Always (λ moves result. KeepsSender whom 0 [] s moves s) doing
quiet_keeps whom s sound (Ends result) quiet = keeps_still whom s sound
quiet_keeps whom s sound (Changes MakeFuture rest) quiet =
    always_map (λ moves result. KeepsSender whom 0 [] s moves s) (λ moves result. KeepsSender whom 0 [] s (Did MakeFuture ∷ moves) s) rest
    (λ moves result keeps. keeps_quiet whom 0 [] s MakeFuture moves s (make_quiet whom) keeps) (quiet_keeps whom s sound rest quiet)
quiet_keeps whom s sound (Changes (Settle future outcome) rest) quiet =
    always_map (λ moves result. KeepsSender whom 0 [] s moves s)
    (λ moves result. KeepsSender whom 0 [] s (Did (Settle future outcome) ∷ moves) s) rest
    (λ moves result keeps. keeps_quiet whom 0 [] s (Settle future outcome) moves s (settle_quiet whom future outcome) keeps)
    (quiet_keeps whom s sound rest quiet)
quiet_keeps whom s sound (Changes (CallSoon action) rest) quiet = absurd quiet
quiet_keeps whom s sound (Asks call rest) quiet = absurd quiet
