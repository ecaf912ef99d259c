-- What a sender's calls come to that ask nothing, by the tree.
use Rattle.std.proofs.Common.{◌≡◌, ◌⊎◌, inl, inr, ℕ, Bool, true, false, not, ◌&&◌, length, if◌then◌else◌, List, [], ◌∷◌, ◌++◌, ◌∙◌, refl, sym, ap, subst}
use Rattle.model_value.specs.Action.{Action}
use Rattle.model_value.specs.Value.{Nothing, exception_of}
use Rattle.model_value.specs.declared.kind.Kind.TheVariants.{ConnectionResetError}
use Rattle.model_value.specs.declared.outcome.Outcome.TheVariants.{Value as Returned}
use Rattle.model_wire.specs.Call.{Answer}
use Rattle.model_stream.specs.declared.answers.Drain.TheVariants as drain_as
use Rattle.model_stream.specs.declared.phase.Phase.TheVariants as phase
use Rattle.model_stream.specs.Answers.{Sent, SentSome, SentNone, SendFailed, sent_by}
use Rattle.model_stream.specs.Doing.{Doing, Ends, Changes, MakeFuture, CallSoon, settles}
use Rattle.model_stream.specs.Senders.{Sender, Outlet, Drain, with_writer, has_unsent, is_closing, is_lost, ended_sender, schedule_loss}
use Rattle.model_stream.specs.Senders.{fail_sender, close_sender, offered, sent, sent_more, drain_sender, lost_text}
use Rattle.model_stream.specs.Sending.{took}
use Rattle.aio_exchange.specs.Tells.{Tells}
use Rattle.aio_exchange.specs.Ways.{Did, changed_on}
use Rattle.aio_exchange.proofs.Telling.{tells_changed, tells_end, tells_ends, tells_unless, tells_where}
use Rattle.aio_task.specs.View.{View}
use Rattle.aio_change.specs.Owned.{AreOwn, IsOwn, settled_way}
use Rattle.aio_change.specs.Seen.{seen_changed}
use Rattle.aio_change.proofs.Owning.{are_own_along, own_made, told_own}
use Rattle.aio_change.proofs.InOrder.{tells_settles}
use Rattle.aio_sender.specs.Owned.{OwnsSender, futures_of}

-- whose futures are the same are no task's still
pub still_own : {A : Type 0} (doing : Doing A) (s after : Sender) (old new : View) (result : A) → futures_of after ≡ futures_of s
    → Tells seen_changed doing old new result → OwnsSender old s → OwnsSender new after
still_own doing s after old new result same told own =
    subst (AreOwn new) (sym same) (told_own doing old new result told (futures_of s) own)

are_own_push : (v : View) (futures : List ℕ) (future : ℕ) → AreOwn v futures → IsOwn v future → AreOwn v (futures ++ future ∷ [])
are_own_push v [] future own made = (made, tt)
are_own_push v (other ∷ futures) future own made = (own.0, are_own_push v futures future own.1 made)

-- one more drain waits, on a future that was made
pub drain_own : (s after : Sender) (old new : View) (future : ℕ) → new ≡ seen_changed MakeFuture old → future ≡ length old.futures
    → after ≡ record s { drains = s.drains ++ future ∷ [] } → OwnsSender old s → OwnsSender new after
drain_own s after old new future parts is e own =
    let made : View = seen_changed MakeFuture old in
    let before : OwnsSender made s = are_own_along (Did MakeFuture ∷ []) old (futures_of s) own in
    let last : IsOwn made future = subst (IsOwn made) (sym is) (own_made old) in
    subst (OwnsSender new) (sym e)
    (subst (λ (v : View). OwnsSender v (record s { drains = s.drains ++ future ∷ [] })) (sym parts)
    (before.0, are_own_push made s.drains future before.1 last))

and_false : (b : Bool) → (b && false) ≡ false
and_false true = refl
and_false false = refl

-- it doesn't yield: it isn't closing, or has yielded before
pub yields_not : (closing yielded : Bool) → (closing ≡ false) ⊎ (yielded ≡ true) → (closing && not yielded) ≡ false
yields_not closing yielded (inl e) = ap (λ b. b && not yielded) e
yields_not closing yielded (inr e) = ap (λ b. closing && not b) e ∙ and_false closing

module _ (to : Outlet) (s : Sender) where
  -- ---- loss
  pub scheduled_so : (broken : Bool) (after : Sender) (action : Action) (old new : View) → action ≡ to.loses broken
      → new ≡ seen_changed (CallSoon action) old → after ≡ ended_sender (phase.Losing broken) s
      → Tells seen_changed (schedule_loss to broken s) old new after
  scheduled_so broken after action old new is parts e =
      tells_changed seen_changed (CallSoon (to.loses broken)) (Ends (ended_sender (phase.Losing broken) s)) old new new after
      (parts ∙ ap (λ a. seen_changed (CallSoon a) old) is) (tells_end seen_changed (ended_sender (phase.Losing broken) s) after new e)

  pub failed_before : (at : View) → s.writer.ended ≡ true → Tells seen_changed (fail_sender to s) at at s
  failed_before at e =
      tells_where seen_changed s.writer.ended (Ends s) (schedule_loss to true s) at at s e (tells_ends seen_changed s at)

  pub fails_now : (after : Sender) (old new : View) → s.writer.ended ≡ false → Tells seen_changed (schedule_loss to true s) old new after
      → Tells seen_changed (fail_sender to s) old new after
  fails_now after old new e told =
      tells_unless seen_changed s.writer.ended (Ends s) (schedule_loss to true s) old new after e told

  -- ---- closing
  abbrev closes_on : Doing Sender
  closes_on = if has_unsent s then Ends (record s { phase = phase.Closing }) else schedule_loss to false s

  pub closed_before : (at : View) → is_closing s ≡ true → Tells seen_changed (close_sender to s) at at s
  closed_before at e = tells_where seen_changed (is_closing s) (Ends s) closes_on at at s e (tells_ends seen_changed s at)

  pub closes_later : (after : Sender) (at : View) → is_closing s ≡ false → has_unsent s ≡ true → after ≡ record s { phase = phase.Closing }
      → Tells seen_changed (close_sender to s) at at after
  closes_later after at e f is =
      tells_unless seen_changed (is_closing s) (Ends s) closes_on at at after e
      (tells_where seen_changed (has_unsent s) (Ends (record s { phase = phase.Closing })) (schedule_loss to false s) at at after f
      (tells_end seen_changed (record s { phase = phase.Closing }) after at is))

  pub closes_now : (after : Sender) (old new : View) → is_closing s ≡ false → has_unsent s ≡ false
      → Tells seen_changed (schedule_loss to false s) old new after → Tells seen_changed (close_sender to s) old new after
  closes_now after old new e f told =
      tells_unless seen_changed (is_closing s) (Ends s) closes_on old new after e
      (tells_unless seen_changed (has_unsent s) (Ends (record s { phase = phase.Closing })) (schedule_loss to false s) old new after f told)

  -- ---- an offer
  abbrev offered_as : Sent → Doing Sender
  offered_as it = elim it [
    | SentSome count ↦ Ends (with_writer (took count s.writer) s)
    | SentNone ↦ Ends (with_writer (took 0 s.writer) s)
    | SendFailed ↦ fail_sender to s
  ]

  pub offered_some : (came : Answer) (count : ℕ) (after : Sender) (at : View) → SentSome count ≡ sent_by came
      → after ≡ with_writer (took count s.writer) s → Tells seen_changed (offered to s came) at at after
  offered_some came count after at is e =
      subst (λ it. Tells seen_changed (offered_as it) at at after) is (tells_end seen_changed (with_writer (took count s.writer) s) after at e)

  pub offered_none : (came : Answer) (after : Sender) (at : View) → SentNone ≡ sent_by came
      → after ≡ with_writer (took 0 s.writer) s → Tells seen_changed (offered to s came) at at after
  offered_none came after at is e =
      subst (λ it. Tells seen_changed (offered_as it) at at after) is (tells_end seen_changed (with_writer (took 0 s.writer) s) after at e)

  pub offered_failed : (came : Answer) (after : Sender) (old new : View) → SendFailed ≡ sent_by came
      → Tells seen_changed (fail_sender to s) old new after → Tells seen_changed (offered to s came) old new after
  offered_failed came after old new is told = subst (λ it. Tells seen_changed (offered_as it) old new after) is told

  -- ---- a send of what is unsent
  abbrev sent_as : Sent → Doing Sender
  sent_as it = elim it [ SentSome count ↦ sent count s | SentNone ↦ Ends s | SendFailed ↦ fail_sender to s ]

  pub sent_so : (came : Answer) (it : Sent) (after : Sender) (old new : View) → it ≡ sent_by came
      → Tells seen_changed (sent_as it) old new after → Tells seen_changed (sent_more to s came) old new after
  sent_so came it after old new is told = subst (λ how. Tells seen_changed (sent_as how) old new after) is told

-- bytes were sent
module _ (s : Sender) (count : ℕ) where
  abbrev resumed : Sender
  resumed = record s { writer = took count s.writer; drains = [] }

  abbrev goes_on : Bool
  goes_on = s.writer.paused && not (took count s.writer).paused

  pub resumes_so : (after : Sender) (old new : View) → goes_on ≡ true → new ≡ changed_on seen_changed (settled_way (Returned Nothing) s.drains) old
      → after ≡ resumed → Tells seen_changed (sent count s) old new after
  resumes_so after old new on parts e =
      tells_where seen_changed goes_on (settles s.drains (Returned Nothing) (Ends resumed)) (Ends (with_writer (took count s.writer) s)) old new after on
      (tells_settles s.drains (Returned Nothing) (Ends resumed) old new new after parts (tells_end seen_changed resumed after new e))

  pub stays_so : (after : Sender) (at : View) → goes_on ≡ false → after ≡ with_writer (took count s.writer) s → Tells seen_changed (sent count s) at at after
  stays_so after at off e =
      tells_unless seen_changed goes_on (settles s.drains (Returned Nothing) (Ends resumed)) (Ends (with_writer (took count s.writer) s)) at at after off
      (tells_end seen_changed (with_writer (took count s.writer) s) after at e)

-- ---- a drain
module _ (yielded : Bool) (next : ℕ) (s : Sender) where
  abbrev waits_if_paused : Doing (Sender × Drain)
  waits_if_paused =
      if s.writer.paused then Changes MakeFuture (Ends (record s { drains = s.drains ++ next ∷ [] }, drain_as.Waits next))
      else Ends (s, drain_as.Goes)

  abbrev raises_if_lost : Doing (Sender × Drain)
  raises_if_lost = if is_lost s then Ends (s, drain_as.Raises (exception_of ConnectionResetError lost_text)) else waits_if_paused

  pub drain_yields : (at : View) → (is_closing s && not yielded) ≡ true → Tells seen_changed (drain_sender yielded next s) at at (s, drain_as.Yields)
  drain_yields at e =
      tells_where seen_changed (is_closing s && not yielded) (Ends (s, drain_as.Yields)) raises_if_lost at at (s, drain_as.Yields) e
      (tells_ends seen_changed {A = Sender × Drain} (s, drain_as.Yields) at)

  drains_on : (old new : View) (result : Sender × Drain) → (is_closing s && not yielded) ≡ false → Tells seen_changed raises_if_lost old new result
      → Tells seen_changed (drain_sender yielded next s) old new result
  drains_on old new result e told =
      tells_unless seen_changed (is_closing s && not yielded) (Ends (s, drain_as.Yields)) raises_if_lost old new result e told

  pub drain_raises : (at : View) (result : Sender × Drain) → (is_closing s && not yielded) ≡ false → is_lost s ≡ true
      → result ≡ (s, drain_as.Raises (exception_of ConnectionResetError lost_text)) → Tells seen_changed (drain_sender yielded next s) at at result
  drain_raises at result e lost is =
      drains_on at at result e
      (tells_where seen_changed (is_lost s) (Ends (s, drain_as.Raises (exception_of ConnectionResetError lost_text))) waits_if_paused at at result lost
      (tells_end seen_changed (s, drain_as.Raises (exception_of ConnectionResetError lost_text)) result at is))

  pub drain_goes : (at : View) → (is_closing s && not yielded) ≡ false → is_lost s ≡ false → s.writer.paused ≡ false
      → Tells seen_changed (drain_sender yielded next s) at at (s, drain_as.Goes)
  drain_goes at e lost off =
      drains_on at at (s, drain_as.Goes) e
      (tells_unless seen_changed (is_lost s) (Ends (s, drain_as.Raises (exception_of ConnectionResetError lost_text))) waits_if_paused at at
      (s, drain_as.Goes) lost
      (tells_unless seen_changed s.writer.paused (Changes MakeFuture (Ends (record s { drains = s.drains ++ next ∷ [] }, drain_as.Waits next)))
      (Ends (s, drain_as.Goes)) at at (s, drain_as.Goes) off (tells_ends seen_changed {A = Sender × Drain} (s, drain_as.Goes) at)))

  pub drain_waits : (old new : View) (result : Sender × Drain) → (is_closing s && not yielded) ≡ false → is_lost s ≡ false
      → s.writer.paused ≡ true → new ≡ seen_changed MakeFuture old
      → result ≡ (record s { drains = s.drains ++ next ∷ [] }, drain_as.Waits next)
      → Tells seen_changed (drain_sender yielded next s) old new result
  drain_waits old new result e lost on parts is =
      let after : Sender × Drain = (record s { drains = s.drains ++ next ∷ [] }, drain_as.Waits next) in
      drains_on old new result e
      (tells_unless seen_changed (is_lost s) (Ends (s, drain_as.Raises (exception_of ConnectionResetError lost_text))) waits_if_paused old new result lost
      (tells_where seen_changed s.writer.paused (Changes MakeFuture (Ends after)) (Ends (s, drain_as.Goes)) old new result on
      (tells_changed seen_changed MakeFuture (Ends after) old new new result parts (tells_end seen_changed after result new is))))
