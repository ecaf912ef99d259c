-- A request that is woken and waits again does so under its key, and on what is pending.
use Rattle.std.proofs.Common.{◌≡◌, ℕ, ◌+◌, ◌⊎◌, inl, inr, Bool, true, false, List, [], ◌∷◌, Option, Some, None, slice_get, refl, sym, ap, subst, ◌∙◌}
use Rattle.std.specs.Prelude.{is_some}
use Rattle.std.specs.List.{AllByRecursion as Each}
use Rattle.std.specs.Option.{option_map_or}
use Rattle.std.proofs.lemmas.Bool.{false≢true}
use Rattle.model_value.specs.Input.{Input}
use Rattle.model_value.specs.Value.{Value}
use Rattle.model_value.specs.declared.input.Input.TheVariants.{Send, Throw}
use Rattle.model_loop.specs.Futures.{future_outcome, next_future, outcome_at}
use Rattle.model_loop.specs.Parts.{Plain}
use Rattle.model_machine.specs.Extra as extra
use Rattle.model_machine.specs.Extra.{Answers, ExtraAnswer, ExtraSaid, KeepsKeys, MakesPlain, Raises, Waits, WakesFall, called, is_woken_at_once, key_of, made_by_all}
use Rattle.model_machine.specs.State.{State}
use Rattle.model_reach.specs.Part.{only_says, passes, place_of}
use Rattle.law_cancel.proofs.Lookups.{get-push_last}
use Rattle.model_sync.specs.Synced.{Acquires, Awaits, Event, Gets, Lock, Puts, Queue, Synced, Waiting, sync_keeps, sync_part, waiting_at}
use Rattle.model_sync.specs.Locks.{acquired}
use Rattle.model_sync.specs.Events.{waited}
use Rattle.model_sync.specs.Queues.{getting, putting}
use Rattle.model_sync.specs.Serving.{named, sync_means, woken}
use Rattle.law_sync.proofs.Lists.{each_at, each_from}
use Rattle.law_sync.proofs.Holding.{EventHolds, Holds, LockHolds, QueueHolds, holds_from}
use Rattle.law_sync.proofs.Comes.{AnswerHolds, Comes, acquired_comes, getting_comes, putting_comes, waited_comes}

-- nothing is asked of futures or of values
abbrev pub Any : {A : Type 0} → A → Type 0
Any x = Unit {0}

pub any_each : {A : Type 0} (xs : List A) → Each Any xs
any_each [] = tt
any_each (x ∷ xs) = (tt, any_each xs)

pub any_holds : (kept : Synced) → Holds Any Any kept
any_holds kept = holds_from Any Any kept (any_each (sync_keeps kept).own) (any_each (sync_keeps kept).values)

-- it waits on the next future, which it made, under this key, or it waits no more
abbrev WaitsAgain : (key : ℕ) → State Synced → ExtraSaid Synced → Type 0
WaitsAgain key s said =
    ((next : ℕ) → key_of said.answer ≡ Some next → next ≡ key) × (is_woken_at_once said.answer (called said.call s).loop ≡ false)

over : (key : ℕ) (s : State Synced) (said : ExtraSaid Synced) → AnswerHolds Any Any said.answer → WaitsAgain key s said
over key s said h = at said.answer h
  where
    at : (answer : ExtraAnswer) → AnswerHolds Any Any answer
        → ((next : ℕ) → key_of answer ≡ Some next → next ≡ key) × (is_woken_at_once answer (called said.call s).loop ≡ false)
    at (Answers value) h = (λ next e. absurd (cc), refl)
    at (Raises exception) h = (λ next e. absurd (cc), refl)
    at (Waits on other) h = absurd h
    at (extra.Asks code bytes other) h = absurd h

comes : (key : ℕ) (s : State Synced) (said : ExtraSaid Synced) → Comes Any Any (next_future s.loop.parts) s.extra.drawn key said → WaitsAgain key s said
comes key s said (inl g) = over key s said g.answer
comes key s said (inr w) = (
  λ next e. ap (λ o. option_map_or (λ (k : ℕ). k) o key) (sym e ∙ ap key_of w.answer),
  ap (λ answer. is_woken_at_once answer (called said.call s).loop) w.answer
      ∙ ap (λ steps. is_some (future_outcome (made_by_all steps s.loop).parts (next_future s.loop.parts))) w.steps
      ∙ ap (λ o. is_some (outcome_at o)) (get-push_last s.loop.parts.futures (record { kind = Plain; outcome = None; callbacks = [] })),
)

passed : (key : ℕ) (input : Input) (s : State Synced) → WaitsAgain key s (only_says (passes input) s.extra)
passed key (Send value) s = over key s (only_says (passes (Send value)) s.extra) tt
passed key (Throw exception) s = over key s (only_says (passes (Throw exception)) s.extra) tt

module _ (key : ℕ) (input : Input) (s : State Synced) where
  abbrev place : ℕ
  place = place_of sync_part key

  named_again : {A : Type 0} (o : Option A) (next_ : A → ExtraSaid Synced)
      → ((it : A) → o ≡ Some it → Comes Any Any (next_future s.loop.parts) s.extra.drawn key (next_ it))
      → WaitsAgain key s (named o input next_ s.extra)
  named_again None next_ so = passed key input s
  named_again (Some it) next_ so = comes key s (next_ it) (so it refl)

  again : (o : Option Waiting) → waiting_at place s.extra ≡ o → WaitsAgain key s (woken o key place input s.loop.parts s.extra)
  again None e = passed key input s
  again (Some (Acquires id on)) e =
      named_again (slice_get s.extra.locks id) (λ lock. acquired place id on input lock s.extra)
      (λ lock there. acquired_comes Any Any tt (λ is. tt) (λ number. tt) s.loop.parts s.extra (any_holds s.extra) key place id on input lock
      (any_each lock.waiters))
  again (Some (Awaits id on)) e =
      named_again (slice_get s.extra.events id) (λ event. waited place id on input event s.extra)
      (λ event there. waited_comes Any Any tt (λ is. tt) (λ number. tt) s.loop.parts s.extra (any_holds s.extra) key place id on input event
      (any_each event.waiters))
  again (Some (Puts id value on)) e =
      named_again (slice_get s.extra.queues id) (λ queue. putting key place id on value input queue s.loop.parts s.extra)
      (λ queue there. putting_comes Any Any tt (λ is. tt) (λ number. tt) s.loop.parts s.extra (any_holds s.extra) key place id on value tt input queue
      (record { values = any_each queue.values; getters = any_each queue.getters; putters = any_each queue.putters }) (Puts id value on) e)
  again (Some (Gets id on)) e =
      named_again (slice_get s.extra.queues id) (λ queue. getting key place id on input queue s.loop.parts s.extra)
      (λ queue there. getting_comes Any Any tt (λ is. tt) (λ number. tt) s.loop.parts s.extra (any_holds s.extra) key place id on input queue
      (record { values = any_each queue.values; getters = any_each queue.getters; putters = any_each queue.putters }) (Gets id on) e)

pub sync_falls : WakesFall sync_means
sync_falls = λ key input s next e once.
    absurd (false≢true (sym (again key input s (waiting_at (place_of sync_part key) s.extra) refl).1 ∙ once))

pub sync_same : KeepsKeys sync_means
sync_same = λ key input s next e. (again key input s (waiting_at (place_of sync_part key) s.extra) refl).0 next e
