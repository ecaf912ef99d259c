-- Locks, events and queues keep to their own futures, and so does a part that isn't there.
use Rattle.std.proofs.Common.{◌≡◌, inl, inr, ℕ, ◌<◌, ℤ, Bool, true, false, List, [], ◌∷◌, Option, Some, None, slice_get, sym, refl, subst, arith}
use Rattle.std.proofs.Common.{length-append}
use Rattle.std.specs.Prelude.{if◌then◌else◌}
use Rattle.std.specs.List.{AllByRecursion as Each}
use Rattle.model_value.specs.Input.{Input}
use Rattle.model_value.specs.Value.{Value}
use Rattle.model_loop.specs.Futures.{next_future}
use Rattle.model_loop.specs.Parts.{Plain}
use Rattle.model_says.specs.Operations.{out_of_range}
use Rattle.model_machine.specs.Extra as extra
use Rattle.model_machine.specs.Extra.{ExtraSaid, ExtraStep, MakesPlain, made_by_all, no_extra}
use Rattle.model_machine.specs.State.{State}
use Rattle.model_reach.specs.Part.{can_draw, place_of, refuses, stays}
use Rattle.model_sync.specs.Events.{waited}
use Rattle.model_sync.specs.Locks.{acquired}
use Rattle.model_sync.specs.Queues.{getting, putting}
use Rattle.model_sync.specs.Serving.{Acquire, Clear, Get, IsLocked, IsSet, MakesEvent, MakesLock, MakesQueue, Put, Release, Set, Size, Wait, Wanted}
use Rattle.model_sync.specs.Serving.{asked_for, named}
use Rattle.model_sync.specs.Serving.{served, sync_means, wanted_of, woken}
use Rattle.model_sync.specs.Synced.{Acquires, Awaits, Gets, Puts, Synced, Waiting, sync_keeps, sync_part, waiting_at}
use Rattle.law_runs.specs.Allowed.{IsAmong}
use Rattle.law_sync.proofs.Comes.{Comes, OrNext, PutsHold, Wakes, acquired_comes, getting_comes, putting_comes, served_comes, waited_comes}
use Rattle.law_sync.proofs.Holding.{EventHolds, Holds, LockHolds, QueueHolds, holds_from, holds_on, own_holds}
use Rattle.law_sync.proofs.Lists.{each_at, each_from, each_on}
use Rattle.law_heeded.specs.Owned.{IsCallKept, KeepsToItsFutures, SettlesOwn, WasOwnOrMade}

-- ---- a part that isn't there
pub missing_keeps : KeepsToItsFutures no_extra
missing_keeps = record {
  ask = λ task code arguments s. record { settles = tt; own = tt };
  wake = λ key input s. record { settles = tt; own = tt };
  act = λ key s. record { settles = tt; own = tt };
  item = λ code bytes s. record { settles = tt; own = tt };
}

-- ---- locks, events and queues
-- values are any
abbrev pub Any : Value → Type 0
Any value = Unit {0}

any_values : (xs : List Value) → Each Any xs
any_values [] = tt
any_values (x ∷ xs) = (tt, any_values xs)

pub any_puts : (wanted : Wanted) → PutsHold Any wanted
any_puts (Put queue value) = tt
any_puts MakesLock = tt
any_puts (Acquire lock) = tt
any_puts (Release lock) = tt
any_puts (IsLocked lock) = tt
any_puts MakesEvent = tt
any_puts (Set event) = tt
any_puts (Clear event) = tt
any_puts (IsSet event) = tt
any_puts (Wait event) = tt
any_puts (MakesQueue size) = tt
any_puts (Get queue) = tt
any_puts (Size queue) = tt

module _ (s : State Synced) where
  abbrev pub Old : ℕ → Type 0
  Old id = IsAmong (sync_keeps s.extra).own id

  abbrev first : ℕ
  first = next_future s.loop.parts

  pub holds : Holds Old Any s.extra
  holds =
      holds_from Old Any s.extra (each_from Old (sync_keeps s.extra).own (λ id among. among)) (any_values (sync_keeps s.extra).values)

  pub still_kept : IsCallKept sync_means (stays s.extra) s
  still_kept = record {
    settles = tt;
    own = each_from (WasOwnOrMade (sync_keeps s.extra).own first first) (sync_keeps s.extra).own (λ id among. inl among);
  }

  wakes_own : (step : ExtraStep) → Wakes Old Any step → SettlesOwn (sync_keeps s.extra).own first step
  wakes_own (extra.Settles future outcome) wakes = inl wakes.0
  wakes_own _ wakes = absurd wakes

  -- it waits on a future that it makes
  waits_kept : (steps : List ExtraStep) (state : Synced) → steps ≡ MakesPlain ∷ [] → Holds (OrNext Old Any first) Any state
      → IsCallKept sync_means (record { state = state; steps = steps }) s
  waits_kept steps state is h =
      let e = length-append s.loop.parts.futures (record { kind = Plain; outcome = None; callbacks = [] } ∷ []) in
      subst (λ all. IsCallKept sync_means (record { state = state; steps = all }) s) (sym is) (record {
        settles = (tt, tt);
        own = own_holds (WasOwnOrMade (sync_keeps s.extra).own first (next_future (made_by_all (MakesPlain ∷ []) s.loop).parts)) Any state
            (holds_on (OrNext Old Any first) (WasOwnOrMade (sync_keeps s.extra).own first (next_future (made_by_all (MakesPlain ∷ []) s.loop).parts)) Any
            (λ id or. at id or (omega (arith, e))) state h);
      })
    where
      at : (id : ℕ) → OrNext Old Any first id → first < next_future (made_by_all (MakesPlain ∷ []) s.loop).parts
          → WasOwnOrMade (sync_keeps s.extra).own first (next_future (made_by_all (MakesPlain ∷ []) s.loop).parts) id
      at id (inl old) more = inl old
      at id (inr same) more = inr (omega (arith, same), omega (arith, same, more))

  comes_kept : (drawn key : ℕ) (said : ExtraSaid Synced) → Comes Old Any first drawn key said → IsCallKept sync_means said.call s
  comes_kept drawn key said (inl g) = record {
    settles = each_on (Wakes Old Any) (SettlesOwn (sync_keeps s.extra).own first) wakes_own said.call.steps g.steps;
    own = own_holds (WasOwnOrMade (sync_keeps s.extra).own first (next_future (made_by_all said.call.steps s.loop).parts)) Any said.call.state
        (holds_on Old (WasOwnOrMade (sync_keeps s.extra).own first (next_future (made_by_all said.call.steps s.loop).parts)) Any (λ id old. inl old)
        said.call.state g.state);
  }
  comes_kept drawn key said (inr w) = waits_kept said.call.steps said.call.state w.steps w.state

  ask_kept : (code : ℤ) (o : Option (Option Wanted)) → IsCallKept sync_means (asked_for code o s.loop.parts s.extra).call s
  ask_kept code None = still_kept
  ask_kept code (Some None) = still_kept
  ask_kept code (Some (Some wanted)) = at (can_draw sync_part s.extra.drawn 1)
    where
      at : (b : Bool) → IsCallKept sync_means (ExtraSaid.call (if b then served wanted s.loop.parts s.extra else refuses out_of_range s.extra)) s
      at true =
          comes_kept _ _ (served wanted s.loop.parts s.extra)
          (served_comes Old Any tt (λ is. tt) (λ number. tt) s.loop.parts s.extra holds wanted (any_puts wanted))
      at false = still_kept

  module _ (key : ℕ) (input : Input) where
    abbrev place : ℕ
    place = place_of sync_part key

    named_kept : {A : Type 0} (o : Option A) (next : A → ExtraSaid Synced)
        → ((it : A) → o ≡ Some it → Comes Old Any first s.extra.drawn key (next it)) → IsCallKept sync_means (named o input next s.extra).call s
    named_kept None next comes = still_kept
    named_kept (Some it) next comes = comes_kept s.extra.drawn key (next it) (comes it refl)

    wake_kept : (o : Option Waiting) → waiting_at place s.extra ≡ o → IsCallKept sync_means (woken o key place input s.loop.parts s.extra).call s
    wake_kept None e = still_kept
    wake_kept (Some (Acquires id on)) e =
        named_kept (slice_get s.extra.locks id) (λ lock. acquired place id on input lock s.extra)
        (λ lock there. acquired_comes Old Any tt (λ is. tt) (λ number. tt) s.loop.parts s.extra holds key place id on input lock
        (each_at (LockHolds Old Any) s.extra.locks id lock there holds.locks))
    wake_kept (Some (Awaits id on)) e =
        named_kept (slice_get s.extra.events id) (λ event. waited place id on input event s.extra)
        (λ event there. waited_comes Old Any tt (λ is. tt) (λ number. tt) s.loop.parts s.extra holds key place id on input event
        (each_at (EventHolds Old Any) s.extra.events id event there holds.events))
    wake_kept (Some (Puts id value on)) e =
        named_kept (slice_get s.extra.queues id) (λ queue. putting key place id on value input queue s.loop.parts s.extra)
        (λ queue there. putting_comes Old Any tt (λ is. tt) (λ number. tt) s.loop.parts s.extra holds key place id on value tt input queue
        (each_at (QueueHolds Old Any) s.extra.queues id queue there holds.queues) (Puts id value on) e)
    wake_kept (Some (Gets id on)) e =
        named_kept (slice_get s.extra.queues id) (λ queue. getting key place id on input queue s.loop.parts s.extra)
        (λ queue there. getting_comes Old Any tt (λ is. tt) (λ number. tt) s.loop.parts s.extra holds key place id on input queue
        (each_at (QueueHolds Old Any) s.extra.queues id queue there holds.queues) (Gets id on) e)

pub sync_keeps_to : KeepsToItsFutures sync_means
sync_keeps_to = record {
  ask = λ task code arguments s. ask_kept s code (wanted_of code arguments);
  wake = λ key input s. wake_kept s key input (waiting_at (place_of sync_part key) s.extra) refl;
  act = λ key s. still_kept s;
  item = λ code bytes s. still_kept s;
}
