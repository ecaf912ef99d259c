-- A reader with its waiter.
use Rattle.std.proofs.Common.{inr, ℕ, ◌+◌, Bool, true, false, cond, eqb, List, [], Option, Some, None, refl, le_refl, arith}
use Rattle.model_value.specs.Value.{Exc}
use Rattle.model_stream.specs.declared.answers.StreamGot.TheVariants as got_as
use Rattle.model_stream.specs.declared.read_op.Taken.TheVariants as taken
use Rattle.model_stream.specs.Doing.{Ends, Changes, MakeFuture, and_then}
use Rattle.model_stream.specs.Reading.{Reading, ReadOp, Take, Taken, feed_eof, feed, fail, take_read, after_take}
use Rattle.model_stream.specs.Receivers.{Receiver, StreamGot, AllGot, wakes, receive, receive_end, receive_loss, second_waiter, wait_for_data}
use Rattle.model_stream.specs.Receivers.{read, read_as, read_all, all_taken, give_up_read}
use Rattle.model_stream.specs.Kept.{OneIs}
use Rattle.law_cases.specs.Trees.{IsKnown, IsMade, IsOwn, Keeping, Owned, ReadWaits}
use Rattle.law_cases.proofs.Composing.{keeping_if, keeping_then, made_first}
use Rattle.law_cases.proofs.Fits.{ReceiverFits, grown, made_next, receiver_still}

-- the waiter is one that was kept, or none is left
pub give_up_keeps : (P : ℕ → Type 0) (limit : ℕ → ℕ) (on : ℕ) (r : Receiver) → ReceiverFits P limit r → ReceiverFits P limit (give_up_read on r)
give_up_keeps P limit on r kept = at r.waiter
  where
    if_so : (b : Bool) → ReceiverFits P limit (cond b (record r { waiter = None }) r)
    if_so true = (tt, λ future. omega arith)
    if_so false = kept

    at : (waiter : Option ℕ) → ReceiverFits P limit (elim waiter [ None ↦ r | Some future ↦ cond (eqb future on) (record r { waiter = None }) r ])
    at None = kept
    at (Some future) = if_so (eqb future on)

module _ (own : Owned) (limit : ℕ → ℕ) (Left : ℕ → Receiver → Type 0) (next : ℕ)
    (each : (after : Receiver) → ReceiverFits (IsOwn own) limit after → Left next after) where
  pub wakes_keep : (reader : Reading) (waiter : Option ℕ) → OneIs (IsOwn own) waiter → Keeping Left own next (wakes reader waiter)
  wakes_keep reader None kept = each (record { reader = reader; waiter = None }) (tt, λ future. omega arith)
  wakes_keep reader (Some future) kept = ((kept, refl), each (record { reader = reader; waiter = None }) (tt, λ future. omega arith))

  pub receive_keeps : (piece : List ℕ) (r : Receiver) → ReceiverFits (IsOwn own) limit r → Keeping Left own next (receive piece r)
  receive_keeps piece r kept = wakes_keep (feed piece r.reader) r.waiter kept.0

  pub receive_end_keeps : (r : Receiver) → ReceiverFits (IsOwn own) limit r → Keeping Left own next (receive_end r)
  receive_end_keeps r kept = wakes_keep (feed_eof r.reader) r.waiter kept.0

  pub receive_loss_keeps : (fault : Option Exc) (r : Receiver) → ReceiverFits (IsOwn own) limit r → Keeping Left own next (receive_loss fault r)
  receive_loss_keeps None r kept = receive_end_keeps r kept
  receive_loss_keeps (Some fault) r kept = wakes_keep (fail fault r.reader) r.waiter kept.0

-- ---- reads: the waiter is known, and a future that is waited on was made
module _ (own : Owned) (limit : ℕ → ℕ) (first : ℕ) where
  abbrev pub Reads : ℕ → Receiver × StreamGot → Type 0
  Reads next done = ReceiverFits (IsKnown own first next) (grown limit first next) done.0 × ReadWaits (IsMade first next) done.1

  still : (next : ℕ) (r : Receiver) → ReceiverFits (IsOwn own) limit r → ReceiverFits (IsKnown own first next) (grown limit first next) r
  still next r kept = receiver_still own limit first next r kept

  pub wait_keeps : (Left : ℕ → Receiver × StreamGot → Type 0) → ((next : ℕ) (done : Receiver × StreamGot) → Reads next done → Left next done)
      → (r : Receiver) → ReceiverFits (IsOwn own) limit r → Keeping Left own first (wait_for_data first r)
  wait_keeps Left each r kept = at r.waiter (still first r kept)
    where
      at : (waiter : Option ℕ) → ReceiverFits (IsKnown own first first) (grown limit first first) r
          → Keeping Left own first (elim waiter [
            | Some future ↦ Ends (r, got_as.Raises second_waiter)
            | None ↦ Changes MakeFuture (Ends (record { reader = record r.reader { paused = false }; waiter = Some first }, got_as.Waits first))
          ])
      at (Some future) h = each first (r, got_as.Raises second_waiter) (h, tt)
      at None h =
          each (first + 1) (record { reader = record r.reader { paused = false }; waiter = Some first }, got_as.Waits first)
          ((inr (made_first first), λ future. let a = made_next first first future (le_refl first) in omega (arith, a)), made_first first)

  module _ (Left : ℕ → Receiver × StreamGot → Type 0) (each : (next : ℕ) (done : Receiver × StreamGot) → Reads next done → Left next done) where
    as_keeps : (answer : Taken) (t : Take) (r : Receiver) → ReceiverFits (IsOwn own) limit r → Keeping Left own first (read_as answer t first r)
    as_keeps (taken.Bytes bytes) t r kept =
        each first (record r { reader = after_take t r.reader }, got_as.Bytes bytes) (still first r kept, tt)
    as_keeps (taken.Raises fault) t r kept =
        each first (record r { reader = after_take t r.reader }, got_as.Raises fault) (still first r kept, tt)
    as_keeps taken.Needs t r kept = wait_keeps Left each r kept

    pub read_keeps : (op : ReadOp) (r : Receiver) → ReceiverFits (IsOwn own) limit r → Keeping Left own first (read first op r)
    read_keeps op r kept = as_keeps (take_read op r.reader).answer (take_read op r.reader) r kept

  abbrev pub ReadsAll : ℕ → Receiver × AllGot → Type 0
  ReadsAll next done = ReceiverFits (IsKnown own first next) (grown limit first next) done.0 × ReadWaits (IsMade first next) done.1.got

  pub read_all_keeps : (Left : ℕ → Receiver × AllGot → Type 0) → ((next : ℕ) (done : Receiver × AllGot) → ReadsAll next done → Left next done)
      → (r : Receiver) → ReceiverFits (IsOwn own) limit r → Keeping Left own first (read_all first r)
  read_all_keeps Left each r kept = at r.reader.failed
    where
      whole : Keeping Left own first
          (cond r.reader.eof (Ends (all_taken r, record { taken = r.reader.held; got = got_as.Bytes [] }))
          (and_then (wait_for_data first (all_taken r)) (λ done. Ends (done.0, record { taken = r.reader.held; got = done.1 }))))
      whole =
          keeping_if own Left first r.reader.eof _ _
          (each first (all_taken r, record { taken = r.reader.held; got = got_as.Bytes [] }) (still first r kept, tt))
          (keeping_then own Left first (wait_for_data first (all_taken r)) (λ done. Ends (done.0, record { taken = r.reader.held; got = done.1 }))
          (wait_keeps (λ next done. Left next (done.0, record { taken = r.reader.held; got = done.1 }))
          (λ next done h. each next (done.0, record { taken = r.reader.held; got = done.1 }) h) (all_taken r) kept))

      at : (failed : Option Exc)
          → Keeping Left own first (elim failed [
            | Some fault ↦ Ends (r, record { taken = []; got = got_as.Raises fault })
            | None ↦ cond r.reader.eof (Ends (all_taken r, record { taken = r.reader.held; got = got_as.Bytes [] }))
                (and_then (wait_for_data first (all_taken r)) (λ done. Ends (done.0, record { taken = r.reader.held; got = done.1 })))
          ])
      at (Some fault) = each first (r, record { taken = []; got = got_as.Raises fault }) (still first r kept, tt)
      at None = whole
