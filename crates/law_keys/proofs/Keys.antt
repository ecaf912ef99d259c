-- Requests of locks, events and queues wake waiters or make a future to wait on, and stand under the keys that they drew.
use Rattle.std.proofs.Common.{◌≡◌, ℕ, ℤ, inl, inr, Bool, true, false, List, [], ◌∷◌, Option, Some, None, slice_get, refl, sym, ap, subst, arith}
use Rattle.std.specs.Prelude.{◌%◌, ◌==◌, if◌then◌else◌}
use Rattle.std.specs.List.{AllByRecursion as Each}
use Rattle.model_value.specs.Input.{Input}
use Rattle.model_value.specs.declared.input.Input.TheVariants.{Send, Throw}
use Rattle.model_loop.specs.Futures.{next_future}
use Rattle.model_loop.specs.Parts.{Parts}
use Rattle.model_machine.specs.Extra as extra
use Rattle.model_machine.specs.Extra.{Answers, CallsLater, CallsSoon, Cancels, ExtraAnswer, ExtraSaid, ExtraStep, MakesMany, MakesPlain, Raises, Registers}
use Rattle.model_machine.specs.Extra.{Releases, Revokes, Settles, Uncancels}
use Rattle.model_machine.specs.State.{State}
use Rattle.model_reach.specs.Part.{can_draw, key_at, only_says, passes, place_of, refuses}
use Rattle.model_reach.specs.Reach.{OfDgram, OfExec, OfGather, OfSync, part_of_key}
use Rattle.model_says.specs.Operations.{out_of_range}
use Rattle.model_sync.specs.Synced.{Acquires, Awaits, Gets, Puts, Synced, Waiting, sync_part, waiting_at}
use Rattle.model_sync.specs.Locks.{acquired}
use Rattle.model_sync.specs.Events.{waited}
use Rattle.model_sync.specs.Queues.{getting, putting}
use Rattle.model_sync.specs.Serving.{Acquire, Clear, Get, IsLocked, IsSet, MakesEvent, MakesLock, MakesQueue, Put, Release, Set, Size, Wait, Wanted, asked_for}
use Rattle.model_sync.specs.Serving.{named, served, sync_means, wanted_of, woken}
use Rattle.law_sync.proofs.Comes.{AnswerHolds, Comes, PutsHold, Wakes, acquired_comes, getting_comes, putting_comes, served_comes, waited_comes}
use Rattle.law_sync.proofs.Falling.{Any, any_each, any_holds}
use Rattle.law_waiters.specs.Timed.{IsStepOf, KeepsToKeys, WaitsAsPart}

-- its steps and its answer stand under keys of this part
abbrev IsOfSync : ExtraSaid Synced → Type 0
IsOfSync said = Each (IsStepOf OfSync) said.call.steps × WaitsAsPart OfSync said.answer

key_of_sync : (place : ℕ) → part_of_key (key_at sync_part place) ≡ OfSync
key_of_sync place =
    let one : key_at sync_part place % 4 ≡ 1 = omega arith in
    ap (λ n. if n == 0 then OfGather else (if n == 1 then OfSync else (if n == 2 then OfExec else OfDgram))) one

wakes_of_sync : (step : ExtraStep) → Wakes Any Any step → IsStepOf OfSync step
wakes_of_sync (Settles future outcome) w = tt
wakes_of_sync MakesPlain w = tt
wakes_of_sync (MakesMany members) w = tt
wakes_of_sync (Releases future) w = tt
wakes_of_sync (Registers future key) w = absurd w
wakes_of_sync (CallsSoon key) w = absurd w
wakes_of_sync (CallsLater when key) w = absurd w
wakes_of_sync (Revokes tag) w = tt
wakes_of_sync (Cancels key future) w = absurd w
wakes_of_sync (Uncancels key task) w = absurd w

all_of_sync : (steps : List ExtraStep) → Each (Wakes Any Any) steps → Each (IsStepOf OfSync) steps
all_of_sync [] all = tt
all_of_sync (step ∷ steps) all = (wakes_of_sync step all.0, all_of_sync steps all.1)

over_of_sync : (answer : ExtraAnswer) → AnswerHolds Any Any answer → WaitsAsPart OfSync answer
over_of_sync (Answers value) h = tt
over_of_sync (Raises exception) h = tt
over_of_sync (extra.Waits on key) h = absurd h
over_of_sync (extra.Asks code bytes key) h = absurd h

comes_of_sync : {next drawn key : ℕ} (said : ExtraSaid Synced) → part_of_key key ≡ OfSync → Comes Any Any next drawn key said → IsOfSync said
comes_of_sync said of (inl goes) = (all_of_sync said.call.steps goes.steps, over_of_sync said.answer goes.answer)
comes_of_sync said of (inr waits) = (
  subst (λ steps. Each (IsStepOf OfSync) steps) (sym waits.steps) (tt, tt),
  subst (λ answer. WaitsAsPart OfSync answer) (sym waits.answer) of,
)

passed_of_sync : (input : Input) (kept : Synced) → IsOfSync (only_says (passes input) kept)
passed_of_sync (Send value) kept = (tt, tt)
passed_of_sync (Throw exception) kept = (tt, tt)

-- ---- as it is asked
puts_any : (wanted : Wanted) → PutsHold Any wanted
puts_any MakesLock = tt
puts_any (Acquire lock) = tt
puts_any (Release lock) = tt
puts_any (IsLocked lock) = tt
puts_any MakesEvent = tt
puts_any (Set event) = tt
puts_any (Clear event) = tt
puts_any (IsSet event) = tt
puts_any (Wait event) = tt
puts_any (MakesQueue size) = tt
puts_any (Put queue value) = tt
puts_any (Get queue) = tt
puts_any (Size queue) = tt

asked_of_sync : (code : ℤ) (o : Option (Option Wanted)) (p : Parts) (kept : Synced) → IsOfSync (asked_for code o p kept)
asked_of_sync code None p kept = (tt, tt)
asked_of_sync code (Some None) p kept = (tt, tt)
asked_of_sync code (Some (Some wanted)) p kept = at (can_draw sync_part kept.drawn 1)
  where
    at : (b : Bool) → IsOfSync (if b then served wanted p kept else refuses out_of_range kept)
    at true =
        comes_of_sync (served wanted p kept) (key_of_sync kept.drawn)
        (served_comes Any Any tt (λ is. tt) (λ number. tt) p kept (any_holds kept) wanted (puts_any wanted))
    at false = (tt, tt)

-- ---- as it is woken
module _ (key : ℕ) (input : Input) (s : State Synced) (of : part_of_key key ≡ OfSync) where
  abbrev place : ℕ
  place = place_of sync_part key

  named_of_sync : {A : Type 0} (o : Option A) (next_ : A → ExtraSaid Synced)
      → ((it : A) → Comes Any Any (next_future s.loop.parts) s.extra.drawn key (next_ it)) → IsOfSync (named o input next_ s.extra)
  named_of_sync None next_ so = passed_of_sync input s.extra
  named_of_sync (Some it) next_ so = comes_of_sync (next_ it) of (so it)

  woken_of_sync : (o : Option Waiting) → waiting_at place s.extra ≡ o → IsOfSync (woken o key place input s.loop.parts s.extra)
  woken_of_sync None e = passed_of_sync input s.extra
  woken_of_sync (Some (Acquires id on)) e =
      named_of_sync (slice_get s.extra.locks id) (λ lock. acquired place id on input lock s.extra)
      (λ lock. acquired_comes Any Any tt (λ is. tt) (λ number. tt) s.loop.parts s.extra (any_holds s.extra) key place id on input lock
      (any_each lock.waiters))
  woken_of_sync (Some (Awaits id on)) e =
      named_of_sync (slice_get s.extra.events id) (λ event. waited place id on input event s.extra)
      (λ event. waited_comes Any Any tt (λ is. tt) (λ number. tt) s.loop.parts s.extra (any_holds s.extra) key place id on input event
      (any_each event.waiters))
  woken_of_sync (Some (Puts id value on)) e =
      named_of_sync (slice_get s.extra.queues id) (λ queue. putting key place id on value input queue s.loop.parts s.extra)
      (λ queue. putting_comes Any Any tt (λ is. tt) (λ number. tt) s.loop.parts s.extra (any_holds s.extra) key place id on value tt input queue
      (record { values = any_each queue.values; getters = any_each queue.getters; putters = any_each queue.putters }) (Puts id value on) e)
  woken_of_sync (Some (Gets id on)) e =
      named_of_sync (slice_get s.extra.queues id) (λ queue. getting key place id on input queue s.loop.parts s.extra)
      (λ queue. getting_comes Any Any tt (λ is. tt) (λ number. tt) s.loop.parts s.extra (any_holds s.extra) key place id on input queue
      (record { values = any_each queue.values; getters = any_each queue.getters; putters = any_each queue.putters }) (Gets id on) e)

pub sync_keeps_to_keys : KeepsToKeys OfSync sync_means
sync_keeps_to_keys = record {
  ask = λ task code arguments s. asked_of_sync code (wanted_of code arguments) s.loop.parts s.extra;
  wake = λ key input s of. woken_of_sync key input s of (waiting_at (place_of sync_part key) s.extra) refl;
  act = λ key s of. tt;
  item = λ code bytes s. tt;
}
