-- What a read comes to, by the tree.
use Rattle.std.proofs.Common.{◌≡◌, ℕ, true, false, if◌then◌else◌, List, [], Option, Some, None, length, is_some, ◌∙◌, sym, ap, subst}
use Rattle.model_value.specs.Value.{Exc}
use Rattle.model_stream.specs.declared.answers.StreamGot.TheVariants as got_as
use Rattle.model_stream.specs.declared.read_op.Taken.TheVariants as taken
use Rattle.model_stream.specs.Doing.{Doing, Ends, Changes, MakeFuture, and_then}
use Rattle.model_stream.specs.Reading.{ReadOp, Taken, after_take, resume, take_read}
use Rattle.model_stream.specs.Receivers.{Receiver, StreamGot, AllGot, all_taken, read, read_all, read_as, second_waiter, wait_for_data}
use Rattle.aio_exchange.specs.Tells.{Tells}
use Rattle.aio_exchange.proofs.Telling.{tells_changed, tells_end, tells_then, tells_unless, tells_where}
use Rattle.aio_change.specs.View.{View}
use Rattle.aio_change.specs.Owned.{IsOwnIfAny}
use Rattle.aio_change.specs.Seen.{seen_changed}
use Rattle.aio_change.proofs.Owning.{own_made}
use Rattle.aio_receiver.proofs.Needing.{needs_leaves}

-- ---- a wait
module _ (next : ℕ) (r : Receiver) where
  abbrev waits_by : Option ℕ → Doing (Receiver × StreamGot)
  waits_by waiter = elim waiter [
    | Some future ↦ Ends (r, got_as.Raises second_waiter)
    | None ↦ Changes MakeFuture (Ends (record { reader = resume r.reader; waiter = Some next }, got_as.Waits next))
  ]

  pub second_raises : (at : View) (result : Receiver × StreamGot) → is_some r.waiter ≡ true → result ≡ (r, got_as.Raises second_waiter)
      → Tells seen_changed (wait_for_data next r) at at result
  second_raises at result some is = by r.waiter some
    where
      by : (waiter : Option ℕ) → is_some waiter ≡ true → Tells seen_changed (waits_by waiter) at at result
      by (Some future) e = tells_end seen_changed (r, got_as.Raises second_waiter) result at is
      by None e = absurd (let bad : ⊥ = cc in bad)

  pub first_waits : (old new : View) (result : Receiver × StreamGot) → is_some r.waiter ≡ false → new ≡ seen_changed MakeFuture old
      → result ≡ (record r { reader = resume r.reader; waiter = Some next }, got_as.Waits next)
      → Tells seen_changed (wait_for_data next r) old new result
  first_waits old new result none parts is = by r.waiter none
    where
      by : (waiter : Option ℕ) → is_some waiter ≡ false → Tells seen_changed (waits_by waiter) old new result
      by (Some future) e = absurd (let bad : ⊥ = cc in bad)
      by None e =
          tells_changed seen_changed MakeFuture (Ends (record { reader = resume r.reader; waiter = Some next }, got_as.Waits next)) old new new result
          parts (tells_end seen_changed (record { reader = resume r.reader; waiter = Some next }, got_as.Waits next) result new is)

-- the future that was made is no task's
pub waiter_own : (old new : View) (r : Receiver) (next : ℕ) → new ≡ seen_changed MakeFuture old → next ≡ length old.futures → r.waiter ≡ Some next
    → IsOwnIfAny new r.waiter
waiter_own old new r next parts is waits =
    subst (IsOwnIfAny new) (sym (waits ∙ ap Some is)) (subst (λ (v : View). IsOwnIfAny v (Some (length old.futures))) (sym parts) (own_made old))

-- ---- an operation
module _ (next : ℕ) (op : ReadOp) (r : Receiver) where
  abbrev after_read : Receiver
  after_read = record r { reader = after_take (take_read op r.reader) r.reader }

  read_by : (it : Taken) (old new : View) (result : Receiver × StreamGot) → it ≡ (take_read op r.reader).answer
      → Tells seen_changed (read_as it (take_read op r.reader) next r) old new result → Tells seen_changed (read next op r) old new result
  read_by it old new result is told =
      subst (λ a. Tells seen_changed (read_as a (take_read op r.reader) next r) old new result) is told

  pub read_gives : (bytes : List ℕ) (after : Receiver) (at : View) → taken.Bytes bytes ≡ (take_read op r.reader).answer → after ≡ after_read
      → Tells seen_changed (read next op r) at at (after, got_as.Bytes bytes)
  read_gives bytes after at is e =
      read_by (taken.Bytes bytes) at at (after, got_as.Bytes bytes) is
      (tells_end seen_changed (after_read, got_as.Bytes bytes) (after, got_as.Bytes bytes) at (ap (λ a. (a, got_as.Bytes bytes)) e))

  pub read_raises : (fault : Exc) (after : Receiver) (at : View) → taken.Raises fault ≡ (take_read op r.reader).answer → after ≡ after_read
      → Tells seen_changed (read next op r) at at (after, got_as.Raises fault)
  read_raises fault after at is e =
      read_by (taken.Raises fault) at at (after, got_as.Raises fault) is
      (tells_end seen_changed (after_read, got_as.Raises fault) (after, got_as.Raises fault) at (ap (λ a. (a, got_as.Raises fault)) e))

  -- it needs more
  pub same_read : (between : Receiver) → taken.Needs ≡ (take_read op r.reader).answer → between ≡ after_read → between ≡ r
  same_read between is e = e ∙ ap (λ reader. record r { reader = reader }) (needs_leaves op r.reader (sym is))

  pub read_waits : (between : Receiver) (old new : View) (result : Receiver × StreamGot) → taken.Needs ≡ (take_read op r.reader).answer
      → between ≡ after_read → Tells seen_changed (wait_for_data next between) old new result → Tells seen_changed (read next op r) old new result
  read_waits between old new result is e told =
      read_by taken.Needs old new result is
      (subst (λ b. Tells seen_changed (wait_for_data next b) old new result) (same_read between is e) told)

-- ---- a look of a read of all
module _ (next : ℕ) (r : Receiver) where
  abbrev goes_on : Doing (Receiver × AllGot)
  goes_on =
      if r.reader.eof
      then Ends (all_taken r, record { taken = r.reader.held; got = got_as.Bytes [] })
      else and_then (wait_for_data next (all_taken r)) (λ done. Ends (done.0, record { taken = r.reader.held; got = done.1 }))

  abbrev all_by : Option Exc → Doing (Receiver × AllGot)
  all_by failed = elim failed [ Some fault ↦ Ends (r, record { taken = []; got = got_as.Raises fault }) | None ↦ goes_on ]

  pub all_raises : (fault : Exc) (at : View) (result : Receiver × AllGot) → Some fault ≡ r.reader.failed
      → result ≡ (r, record { taken = []; got = got_as.Raises fault }) → Tells seen_changed (read_all next r) at at result
  all_raises fault at result is e =
      subst (λ failed. Tells seen_changed (all_by failed) at at result) is
      (tells_end seen_changed (r, record { taken = []; got = got_as.Raises fault }) result at e)

  pub all_given : (at : View) (result : Receiver × AllGot) → None ≡ r.reader.failed → r.reader.eof ≡ true
      → result ≡ (all_taken r, record { taken = r.reader.held; got = got_as.Bytes [] }) → Tells seen_changed (read_all next r) at at result
  all_given at result is eof e =
      subst (λ failed. Tells seen_changed (all_by failed) at at result) is
      (tells_where seen_changed r.reader.eof _ _ at at result eof
      (tells_end seen_changed (all_taken r, record { taken = r.reader.held; got = got_as.Bytes [] }) result at e))

  pub all_waits : (old new : View) (between after : Receiver) (got : StreamGot) (result : Receiver × AllGot) → None ≡ r.reader.failed
      → r.reader.eof ≡ false → between ≡ all_taken r → Tells seen_changed (wait_for_data next between) old new (after, got)
      → result ≡ (after, record { taken = r.reader.held; got = got }) → Tells seen_changed (read_all next r) old new result
  all_waits old new between after got result is eof same told e =
      subst (λ failed. Tells seen_changed (all_by failed) old new result) is
      (tells_unless seen_changed r.reader.eof _ _ old new result eof
      (tells_then seen_changed (wait_for_data next (all_taken r)) (λ done. Ends (done.0, record { taken = r.reader.held; got = done.1 })) (after, got)
      old new new result (subst (λ b. Tells seen_changed (wait_for_data next b) old new (after, got)) same told)
      (tells_end seen_changed (after, record { taken = r.reader.held; got = got }) result new e)))
