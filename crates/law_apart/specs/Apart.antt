-- Futures that the loop of itself doesn't hold: no sleep, no group, no stream, no name of a script and no task has one of them. They
-- are told by a test, and were made: their numbers are below `made`.
use Rattle.std.specs.Prelude.{◌≡◌, ◌⊎◌, ℕ, ◌<◌, ◌≤◌, Bool, true, false, Some, None}
use Rattle.std.specs.List.{AllByRecursion as Each, list_any}
use Rattle.model_value.specs.Action.{Action}
use Rattle.model_value.specs.declared.action.Action.TheVariants as action
use Rattle.model_value.specs.declared.outcome.Outcome.TheVariants.{Cancelled}
use Rattle.model_loop.specs.Futures.{future_outcome, next_future}
use Rattle.model_loop.specs.Loop.{Group, Loop}
use Rattle.model_loop.specs.Parts.{Future, Handle, Parts, Task, Timer}
use Rattle.model_machine.specs.State.{ResumePoint, Serving, State}
use Rattle.model_value.specs.Request.{Request}
use Rattle.model_value.specs.declared.request.Request.TheVariants as request
use Rattle.model_stream.specs.Kept.{OneIs, StreamsKeep}

-- one of so many that is none of these
abbrev pub IsTheirs : (ours : ℕ → Bool) → (next : ℕ) → ℕ → Type 0
IsTheirs ours next future = (ours future ≡ false) × (future < next)

-- what ends a sleep
abbrev pub ends_sleep : Action → Bool
ends_sleep (action.SleepDone task future) = true
ends_sleep _ = false

abbrev pub EndsTheirs : (ours : ℕ → Bool) → (next : ℕ) → Action → Type 0
EndsTheirs ours next (action.SleepDone task future) = IsTheirs ours next future
EndsTheirs ours next _ = Unit {0}

abbrev pub HandleApart : (ours : ℕ → Bool) → (next : ℕ) → Handle → Type 0
HandleApart ours next handle = EndsTheirs ours next handle.action

abbrev pub TimerApart : (ours : ℕ → Bool) → (next : ℕ) → Timer → Type 0
TimerApart ours next timer = EndsTheirs ours next timer.action

abbrev pub CallsNoSleep : Future → Type 0
CallsNoSleep future = list_any ends_sleep future.callbacks ≡ false

abbrev pub TaskApart : (ours : ℕ → Bool) → (next : ℕ) → Task → Type 0
TaskApart ours next task = IsTheirs ours next task.future

abbrev pub GroupApart : (ours : ℕ → Bool) → (next : ℕ) → Group → Type 0
GroupApart ours next group = OneIs (IsTheirs ours next) group.exit_future

pub record ArePartsApart (ours : ℕ → Bool) (made : ℕ) (p : Parts) : Type 0 where
  pub reached : made ≤ next_future p
  pub pending : Each (HandleApart ours (next_future p)) p.pending
  pub timers : Each (TimerApart ours (next_future p)) p.timers
  pub callbacks : Each CallsNoSleep p.futures
  pub tasks : Each (TaskApart ours (next_future p)) p.tasks

pub record IsLoopApart (ours : ℕ → Bool) (made : ℕ) (l : Loop) : Type 0 where
  pub parts : ArePartsApart ours made l.parts
  pub groups : Each (GroupApart ours (next_future l.parts)) l.groups

pub record IsApart {S : Type 0} (ours : ℕ → Bool) (made : ℕ) (s : State S) : Type 0 where
  pub loop : IsLoopApart ours made s.loop
  pub streams : StreamsKeep (IsTheirs ours (next_future s.loop.parts)) s.streams
  pub scripts : Each (IsTheirs ours (next_future s.loop.parts)) s.futures

-- ---- what is none of what is added
abbrev pub is_extra_request : Request → Bool
is_extra_request (request.Extra code arguments) = true
is_extra_request _ = false

abbrev pub serves_none : ResumePoint → Bool
serves_none (Serving key) = false
serves_none _ = true

-- a step of a task, or of what is added
abbrev pub steps_or_extra : Action → Bool
steps_or_extra (action.Step task) = true
steps_or_extra (action.StepInCycle task cycle) = true
steps_or_extra (action.Wakeup task) = true
steps_or_extra (action.Extra key) = true
steps_or_extra (action.ExtraItem code bytes) = true
steps_or_extra _ = false

-- ---- what becomes of them
-- it stays as it is, or was pending and is cancelled
abbrev pub StaysOrIsCancelled : (p q : Parts) → ℕ → Type 0
StaysOrIsCancelled p q on =
    (future_outcome q on ≡ future_outcome p on) ⊎ ((future_outcome p on ≡ None) × (future_outcome q on ≡ Some Cancelled))

pub record Leaves (ours : ℕ → Bool) (p q : Parts) : Type 0 where
  pub more : next_future p ≤ next_future q
  pub stay : (future : ℕ) → ours future ≡ true → StaysOrIsCancelled p q future

-- Those futures stay, or are cancelled; and the loop doesn't come to hold them.
pub record GoesApart {S : Type 0} (ours : ℕ → Bool) (made : ℕ) (s t : State S) : Type 0 where
  pub apart : IsApart ours made t
  pub leaves : Leaves ours s.loop.parts t.loop.parts

pub record LoopGoesApart (ours : ℕ → Bool) (made : ℕ) (l m : Loop) : Type 0 where
  pub apart : IsLoopApart ours made m
  pub leaves : Leaves ours l.parts m.parts

-- such futures were made
abbrev pub AreBelow : (ours : ℕ → Bool) → (made : ℕ) → Type 0
AreBelow ours made = (future : ℕ) → ours future ≡ true → future < made
