-- A look of a read takes a front of what is held, asks nothing and schedules no news; and a reader that takes more takes more then.
use Rattle.std.proofs.Common.{◌≡◌, ℕ, Bool, true, false, cond, not, ◌&&◌, List, [], ◌∷◌, Option, Some, None, refl}
use Rattle.model_value.specs.Value.{Exc}
use Rattle.model_stream.specs.declared.answers.StreamGot.TheVariants as got_as
use Rattle.model_stream.specs.declared.read_op.Taken.TheVariants as taken
use Rattle.model_stream.specs.Doing.{Doing, Ends, Changes, Asks, MakeFuture, and_then}
use Rattle.model_stream.specs.Reading.{ReadOp, Taken, take_read}
use Rattle.model_stream.specs.Receivers.{AllGot, Receiver, StreamGot, all_taken, read, read_all, read_as, second_waiter, takes_more, wait_for_data}
use Rattle.law_stream.specs.Ways.{Move, Did, Heard, Always}
use Rattle.law_stream.proofs.Along.{always_map}
use Rattle.law_stream.proofs.ReceiverOrder.{Look, all_order, read_order}
use Rattle.law_stream.specs.ReceiverOrder as order
use Rattle.law_stream.specs.ReceiverOrder.{went}
use Rattle.law_received.specs.Calm.{Apart}
use Rattle.law_received.proofs.Apart.{BringNone, apart_always, apart_then}

-- a reader that takes more takes more after
abbrev pub TakesOn : Receiver → Receiver → Type 0
TakesOn r after = takes_more r ≡ true → takes_more after ≡ true

-- what a look does, which takes this
pub record Looks (took : List ℕ) (r : Receiver) (moves : List Move) (after : Receiver) : Type 0 where
  pub none : BringNone moves
  pub look : Look r (after, took)
  pub takes : TakesOn r after

-- ---- it takes more
after_takes : (eof paused more : Bool) → not eof && not paused ≡ true → not eof && not (paused && more) ≡ true
after_takes true paused more is = absurd (let bad : ⊥ = cc in bad)
after_takes false true more is = absurd (let bad : ⊥ = cc in bad)
after_takes false false more is = refl

resumed_takes : (eof paused : Bool) → not eof && not paused ≡ true → not eof && not false ≡ true
resumed_takes true paused is = absurd (let bad : ⊥ = cc in bad)
resumed_takes false paused is = refl

wait_takes : (next : ℕ) (r mid : Receiver) → TakesOn r mid → Apart (λ (done : Receiver × StreamGot). TakesOn r done.0) (wait_for_data next mid)
wait_takes next r mid on = at mid.waiter
  where
    at : (waiter : Option ℕ) → Apart (λ (done : Receiver × StreamGot). TakesOn r done.0) (elim waiter [
      | Some future ↦ Ends (mid, got_as.Raises second_waiter)
      | None ↦ Changes MakeFuture (Ends (record { reader = record mid.reader { paused = false }; waiter = Some next }, got_as.Waits next))
    ])
    at (Some future) = on
    at None = λ is. resumed_takes mid.reader.eof mid.reader.paused (on is)

read_takes : (next : ℕ) (op : ReadOp) (r : Receiver) → Apart (λ (done : Receiver × StreamGot). TakesOn r done.0) (read next op r)
read_takes next op r = at (take_read op r.reader).answer
  where
    at : (answer : Taken) → Apart (λ (done : Receiver × StreamGot). TakesOn r done.0) (read_as answer (take_read op r.reader) next r)
    at (taken.Bytes bytes) = λ is. after_takes r.reader.eof r.reader.paused _ is
    at (taken.Raises fault) = λ is. after_takes r.reader.eof r.reader.paused _ is
    at taken.Needs = wait_takes next r r (λ is. is)

all_takes : (next : ℕ) (r : Receiver) → Apart (λ (done : Receiver × AllGot). TakesOn r done.0) (read_all next r)
all_takes next r = at r.reader.failed
  where
    taken_all : TakesOn r (all_taken r)
    taken_all = λ is. after_takes r.reader.eof r.reader.paused _ is

    by : (b : Bool) → Apart (λ (done : Receiver × AllGot). TakesOn r done.0)
        (cond b (Ends (all_taken r, record { taken = r.reader.held; got = got_as.Bytes [] }))
        (and_then (wait_for_data next (all_taken r)) (λ done. Ends (done.0, record { taken = r.reader.held; got = done.1 }))))
    by true = taken_all
    by false =
        apart_then {A = Receiver × StreamGot} {B = Receiver × AllGot} (λ done. TakesOn r done.0) (λ done. TakesOn r done.0)
        (wait_for_data next (all_taken r)) (λ done. Ends (done.0, record { taken = r.reader.held; got = done.1 }))
        (wait_takes next r (all_taken r) taken_all) (λ done on. on)

    at : (failed : Option Exc) → Apart (λ (done : Receiver × AllGot). TakesOn r done.0) (elim failed [
      | Some fault ↦ Ends (r, record { taken = []; got = got_as.Raises fault })
      | None ↦ cond r.reader.eof (Ends (all_taken r, record { taken = r.reader.held; got = got_as.Bytes [] }))
          (and_then (wait_for_data next (all_taken r)) (λ done. Ends (done.0, record { taken = r.reader.held; got = done.1 })))
    ])
    at (Some fault) = λ is. is
    at None = by r.reader.eof

-- ---- it takes a front
always_and : {A : Type 0} (P Q : List Move → A → Type 0) (doing : Doing A) → Always P doing → Always Q doing
    → Always (λ moves result. P moves result × Q moves result) doing
always_and P Q (Ends result) p q = (p, q)
always_and P Q (Changes change rest) p q = always_and (λ moves. P (Did change ∷ moves)) (λ moves. Q (Did change ∷ moves)) rest p q
always_and P Q (Asks call rest) p q =
    λ answer fit. always_and (λ moves. P (Heard call answer ∷ moves)) (λ moves. Q (Heard call answer ∷ moves)) (rest answer) (p answer fit) (q answer fit)

pub read_looks : (next : ℕ) (op : ReadOp) (r : Receiver)
    → Always (λ moves (done : Receiver × StreamGot). Looks (went done.1 r.reader.held done.0.reader.held) r moves done.0) (read next op r)
read_looks next op r =
    always_map
    (λ moves (done : Receiver × StreamGot). Look r (order.looked r done) × (BringNone moves × TakesOn r done.0))
    (λ moves (done : Receiver × StreamGot). Looks (went done.1 r.reader.held done.0.reader.held) r moves done.0) (read next op r)
    (λ moves done it. record { none = it.1.0; look = it.0; takes = it.1.1 })
    (always_and {A = Receiver × StreamGot} (λ moves done. Look r (order.looked r done)) (λ moves done. BringNone moves × TakesOn r done.0)
    (read next op r) (read_order next op r)
    (apart_always (λ (done : Receiver × StreamGot). TakesOn r done.0) (read next op r) (read_takes next op r)))

pub all_looks : (next : ℕ) (r : Receiver)
    → Always (λ moves (done : Receiver × AllGot). Looks done.1.taken r moves done.0) (read_all next r)
all_looks next r =
    always_map
    (λ moves (done : Receiver × AllGot). Look r (done.0, done.1.taken) × (BringNone moves × TakesOn r done.0))
    (λ moves (done : Receiver × AllGot). Looks done.1.taken r moves done.0) (read_all next r)
    (λ moves done it. record { none = it.1.0; look = it.0; takes = it.1.1 })
    (always_and {A = Receiver × AllGot} (λ moves done. Look r (done.0, done.1.taken)) (λ moves done. BringNone moves × TakesOn r done.0)
    (read_all next r) (all_order next r)
    (apart_always (λ (done : Receiver × AllGot). TakesOn r done.0) (read_all next r) (all_takes next r)))
