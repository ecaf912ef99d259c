-- A writer with those who wait for it.
use Rattle.std.proofs.Common.{◌≡◌, inr, ℕ, ◌+◌, ℤ, Bool, true, false, cond, not, ◌&&◌, List, [], ◌∷◌, ◌++◌, Option, Some, None, refl, le_refl, arith}
use Rattle.model_value.specs.declared.kind.Kind.TheVariants.{ConnectionResetError}
use Rattle.model_value.specs.declared.outcome.Outcome.TheVariants.{Value as Returned}
use Rattle.model_value.specs.Value.{Exc, Nothing, exception_of}
use Rattle.model_stream.specs.declared.phase.Phase.TheVariants as phase
use Rattle.model_stream.specs.declared.answers.Drain.TheVariants as drain_as
use Rattle.model_stream.specs.declared.answers.Wrote.{Wrote}
use Rattle.model_stream.specs.declared.answers.Wrote.TheVariants as wrote
use Rattle.model_stream.specs.declared.put.Put.{Put}
use Rattle.model_stream.specs.declared.put.Put.TheVariants.{Offer, Kept, Empty, AfterEof, Dropped}
use Rattle.model_stream.specs.declared.put.Limited.{Limited}
use Rattle.model_stream.specs.Answers.{Sent, SentSome, SentNone, SendFailed, sent_by}
use Rattle.model_stream.specs.Children.{inlet}
use Rattle.model_stream.specs.Connections.{outlet}
use Rattle.model_stream.specs.Doing.{Ends, Changes, MakeFuture, asks, settles}
use Rattle.model_stream.specs.Senders.{Sender, Outlet, Drain, has_unsent, is_closing, is_lost, with_writer, ended_sender, schedule_loss, fail_sender}
use Rattle.model_stream.specs.Senders.{close_sender, lose_sender, waiting_for_loss, outcome_of, loss_of, offered, write, write_as, sent, send_more}
use Rattle.model_stream.specs.Senders.{drain_sender, limits_sender, lost_text}
use Rattle.model_stream.specs.Sending.{took, put, put_answer, limits, limits_answer}
use Rattle.model_stream.specs.Kept.{AllAre}
use Rattle.law_cases.specs.Trees.{DrainWaits, IsKnown, IsMade, IsOwn, Keeping, Owned, is_aside, is_of_streams, names_opened}
use Rattle.law_cases.proofs.Composing.{all_then, keeping_if, keeping_settles, keeping_then, made_first}
use Rattle.law_cases.proofs.Fits.{SenderFits, grown, made_next, sender_still, times_push}

-- what an outlet's calls and its callback are
pub record IsOutlet (o : Outlet) : Type 0 where
  pub sends : (bytes : List ℕ) → is_aside (o.sends bytes) ≡ false
  pub closes : is_aside o.closes ≡ false
  pub loses : (broken : Bool) → is_of_streams (o.loses broken) ≡ true

pub outlet_is : (id : ℕ) → IsOutlet (outlet id)
outlet_is id = record { sends = λ bytes. refl; closes = refl; loses = λ broken. refl }

pub inlet_is : (id : ℕ) → IsOutlet (inlet id)
inlet_is id = record { sends = λ bytes. refl; closes = refl; loses = λ broken. refl }

module _ (own : Owned) (limit : ℕ → ℕ) (o : Outlet) (is : IsOutlet o) (Left : ℕ → Sender → Type 0) (next : ℕ)
    (each : (after : Sender) → SenderFits (IsOwn own) limit after → Left next after) where
  pub schedule_keeps : (broken : Bool) (s : Sender) → SenderFits (IsOwn own) limit s → Keeping Left own next (schedule_loss o broken s)
  schedule_keeps broken s kept = (is.loses broken, each (ended_sender (phase.Losing broken) s) kept)

  pub fail_keeps : (s : Sender) → SenderFits (IsOwn own) limit s → Keeping Left own next (fail_sender o s)
  fail_keeps s kept = keeping_if own Left next s.writer.ended (Ends s) (schedule_loss o true s) (each s kept) (schedule_keeps true s kept)

  pub close_keeps : (s : Sender) → SenderFits (IsOwn own) limit s → Keeping Left own next (close_sender o s)
  close_keeps s kept =
      keeping_if own Left next (is_closing s) (Ends s) _ (each s kept)
      (keeping_if own Left next (has_unsent s) (Ends (record s { phase = phase.Closing })) (schedule_loss o false s)
      (each (record s { phase = phase.Closing }) kept) (schedule_keeps false s kept))

  -- where nobody drains any more
  undrained : (s : Sender) → SenderFits (IsOwn own) limit s → SenderFits (IsOwn own) limit (record s { drains = [] })
  undrained s kept = (kept.0, tt, λ future. let a = kept.2 future in omega (arith, a))

  waiting_kept : (paused : Bool) (s : Sender) → SenderFits (IsOwn own) limit s
      → AllAre (IsOwn own) (s.closed_future ∷ cond paused s.drains [])
  waiting_kept true s kept = (kept.0, kept.1)
  waiting_kept false s kept = (kept.0, tt)

  lost_names : (fault : Option Exc) → names_opened own.connections (outcome_of fault) ≡ true
  lost_names None = refl
  lost_names (Some fault) = refl

  pub lose_keeps : (broken : Bool) (s : Sender) → SenderFits (IsOwn own) limit s → Keeping Left own next (lose_sender o broken s)
  lose_keeps broken s kept =
      keeping_settles own Left next (waiting_for_loss s) (outcome_of (loss_of o broken))
      (asks o.closes (Ends (record (ended_sender (phase.Lost broken) s) { drains = [] }))) (waiting_kept s.writer.paused s kept)
      (lost_names (loss_of o broken))
      (is.closes, λ answer. each (record (ended_sender (phase.Lost broken) s) { drains = [] }) (undrained s kept))

  -- ---- sending
  pub sent_keeps : (count : ℕ) (s : Sender) → SenderFits (IsOwn own) limit s → Keeping Left own next (sent count s)
  sent_keeps count s kept =
      let after = took count s.writer in
      keeping_if own Left next (s.writer.paused && not after.paused) (settles s.drains (Returned Nothing) (Ends (record s { writer = after; drains = [] })))
      (Ends (with_writer after s))
      (keeping_settles own Left next s.drains (Returned Nothing) (Ends (record s { writer = after; drains = [] })) kept.1 refl
      (each (record s { writer = after; drains = [] }) (undrained s kept)))
      (each (with_writer after s) kept)

  offered_keeps : (came : Sent) (s : Sender) → SenderFits (IsOwn own) limit s
      → Keeping Left own next (elim came [
        | SentSome count ↦ Ends (with_writer (took count s.writer) s)
        | SentNone ↦ Ends (with_writer (took 0 s.writer) s)
        | SendFailed ↦ fail_sender o s
      ])
  offered_keeps (SentSome count) s kept = each (with_writer (took count s.writer) s) kept
  offered_keeps SentNone s kept = each (with_writer (took 0 s.writer) s) kept
  offered_keeps SendFailed s kept = fail_keeps s kept

  more_keeps : (came : Sent) (s : Sender) → SenderFits (IsOwn own) limit s
      → Keeping Left own next (elim came [
        | SentSome count ↦ sent count s
        | SentNone ↦ Ends s
        | SendFailed ↦ fail_sender o s
      ])
  more_keeps (SentSome count) s kept = sent_keeps count s kept
  more_keeps SentNone s kept = each s kept
  more_keeps SendFailed s kept = fail_keeps s kept

  pub send_keeps : (s : Sender) → SenderFits (IsOwn own) limit s → Keeping Left own next (send_more o s)
  send_keeps s kept = (is.sends _, λ came. more_keeps (sent_by came) s kept)

  pub offer_keeps : (s : Sender) (came : Sent) → SenderFits (IsOwn own) limit s
      → Keeping Left own next (elim came [
        | SentSome count ↦ Ends (with_writer (took count s.writer) s)
        | SentNone ↦ Ends (with_writer (took 0 s.writer) s)
        | SendFailed ↦ fail_sender o s
      ])
  offer_keeps s came kept = offered_keeps came s kept

-- ---- with an answer
module _ (own : Owned) (limit : ℕ → ℕ) (first : ℕ) where
  module _ (o : Outlet) (is : IsOutlet o) (Left : ℕ → Sender × Wrote → Type 0)
      (each : (done : Sender × Wrote) → SenderFits (IsOwn own) limit done.0 → Left first done) where
    as_keeps : (it : Put) (s : Sender) → SenderFits (IsOwn own) limit s → Keeping Left own first (write_as it o s)
    as_keeps AfterEof s kept = each (s, wrote.AfterEof) kept
    as_keeps Offer s kept = (
      is.sends _,
      λ came.
          keeping_then own Left first (offered o s came) (λ after. Ends (after, wrote.Done))
          (offer_keeps own limit o is (λ next after. Left next (after, wrote.Done)) first (λ after h. each (after, wrote.Done) h) s (sent_by came) kept),
    )
    as_keeps Kept s kept = each (s, wrote.Done) kept
    as_keeps Empty s kept = each (s, wrote.Done) kept
    as_keeps Dropped s kept = each (s, wrote.Done) kept

    pub write_keeps : (piece : List ℕ) (s : Sender) → SenderFits (IsOwn own) limit s → Keeping Left own first (write o piece s)
    write_keeps piece s kept = as_keeps (put_answer piece s.writer) (with_writer (put piece s.writer) s) kept

  pub limits_keeps : (Left : ℕ → Sender × Limited → Type 0) → ((done : Sender × Limited) → SenderFits (IsOwn own) limit done.0 → Left first done)
      → (high low : Option ℤ) (s : Sender) → SenderFits (IsOwn own) limit s → Keeping Left own first (limits_sender high low s)
  limits_keeps Left each high low s kept = each (with_writer (limits high low s.writer) s, limits_answer high low) kept

  -- a drain may wait on a future that is made
  abbrev pub Drains : ℕ → Sender × Drain → Type 0
  Drains next done = SenderFits (IsKnown own first next) (grown limit first next) done.0 × DrainWaits (IsMade first next) done.1

  pub drain_keeps : (Left : ℕ → Sender × Drain → Type 0) → ((next : ℕ) (done : Sender × Drain) → Drains next done → Left next done)
      → (yielded : Bool) (s : Sender) → SenderFits (IsOwn own) limit s → Keeping Left own first (drain_sender yielded first s)
  drain_keeps Left each yielded s kept =
      keeping_if own Left first (is_closing s && not yielded) _ _ (each first (s, drain_as.Yields) (still first, tt))
      (keeping_if own Left first (is_lost s) _ _
      (each first (s, drain_as.Raises (exception_of ConnectionResetError lost_text)) (still first, tt))
      (keeping_if own Left first s.writer.paused
      (Changes MakeFuture (Ends (record s { drains = s.drains ++ first ∷ [] }, drain_as.Waits first))) (Ends (s, drain_as.Goes))
      (each (first + 1) (record s { drains = s.drains ++ first ∷ [] }, drain_as.Waits first) (
        (
          (still (first + 1)).0,
          all_then (IsKnown own first (first + 1)) s.drains first (still (first + 1)).1 (inr (made_first first)),
          λ future.
              let a = kept.2 future in
              let b = times_push future first s.drains in
              let c = made_next first first future (le_refl first) in
              omega (arith, a, b, c),
        ),
        made_first first,
      ))
      (each first (s, drain_as.Goes) (still first, tt))))
    where
      still : (next : ℕ) → SenderFits (IsKnown own first next) (grown limit first next) s
      still next = sender_still own limit first next s kept
