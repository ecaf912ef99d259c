-- What a call of streams leaves of what is stood for.
use Rattle.std.specs.Prelude.{◌≡◌, ℕ, ◌<◌, true, Option, None, Some, slice_get}
use Rattle.model_loop.specs.Futures.{is_pending_at, next_future}
use Rattle.model_loop.specs.Owning.{OwnsFutures, is_plain}
use Rattle.model_loop.specs.Suspend.{suspend}
use Rattle.model_loop.specs.Tasks.{waiter_of}
use Rattle.model_stream.specs.Kept.{times_asked}
use Rattle.model_machine.specs.Replies.{waits}
use Rattle.model_machine.specs.Sound.{AreStreamsFutures}
use Rattle.model_machine.specs.State.{State}
use Rattle.law_cases.specs.Trees.{IsMade}
use Rattle.aio_cancel.specs.Awaitables.{Appended}
use Rattle.aio_task.specs.View.{View, parts}
use Rattle.aio_extra.specs.Added.{Added, named_in, owned_by}
use Rattle.aio_body.specs.declared.run_state.RunState.{RunState}
use Rattle.aio_body.specs.Stands.{IsOwnSleep, Context, Stands}

-- Where a call of streams may be made: what is kept stands for a state in which each future that streams keep is a plain one, and
-- each task has its own.
pub record MayCall {X : Type 0} {a : Added X} (out : Option ℕ) (c : Context a) (body : RunState X) (s : State a.Kept) : Type 0 where
  pub stands : Stands out c body s
  pub streams : AreStreamsFutures s
  pub owns : OwnsFutures s.loop.parts

-- the running task awaits this, and runs no more
pub record CallsSuspend (task on : ℕ) (old new : View) : Type 0 where
  pub after : parts new ≡ (suspend task on (parts old)).parts
  pub queue : Appended old.queue new.queue
  pub frame : new ≡ record old { queue = new.queue; futures = new.futures; tasks = new.tasks; running = None }

-- what scripts name, what tasks wait for, and what is added has as its own was made
pub record AreMade {X : Type 0} (a : Added X) (s : State a.Kept) : Type 0 where
  pub scripts : (place id : ℕ) → slice_get s.futures place ≡ Some id → is_plain s.loop.parts id ≡ true
  pub waiting : (task id : ℕ) → waiter_of s.loop.parts task ≡ Some id → id < next_future s.loop.parts
  pub own : (id : ℕ) → owned_by a s.extra id → id < next_future s.loop.parts

-- A call was made, the body is as the new one, and the machine goes on so. `Made` says what was made in it, by what `IsMade` of
-- the call's futures is.
pub record HasGone {X M : Type 0} {a : Added X} (out : Option ℕ) (Made : (first next : ℕ) → Type 0) (machine : M) (next : State a.Kept → M)
    (c : Context a) (old new : RunState X) (s : State a.Kept) : Type 0 where
  pub now : State a.Kept
  pub does : machine ≡ next now
  pub stands : Stands out c new now
  pub called : new.parts.called ≡ old.parts.called
  pub running : new.parts.running ≡ old.parts.running
  pub made : Made (next_future s.loop.parts) (next_future now.loop.parts)
  -- a future that was made is pending, and a task may wait for it
  pub pending : (on : ℕ) → IsMade (next_future s.loop.parts) (next_future now.loop.parts) on
      → is_pending_at (slice_get new.parts.futures on) ≡ true
  pub waiting : (task on : ℕ) (v : View) → IsMade (next_future s.loop.parts) (next_future now.loop.parts) on → CallsSuspend task on new.parts v
      → Stands out c (record new { parts = v }) (waits task on now)
  -- and is its own then, where no connection and no child asks for it
  pub alone : (task on : ℕ) → IsMade (next_future s.loop.parts) (next_future now.loop.parts) on → times_asked on now.streams ≡ 0 → AreMade a s
      → IsOwnSleep (waits task on now).loop.parts (named_in a (waits task on now)) (Some task) on

-- where a connect waits: the number of its connection beside
abbrev pub BegunWaits : (ℕ → Type 0) → Option (ℕ × ℕ) → Type 0
BegunWaits P None = Unit {0}
BegunWaits P (Some begun) = P begun.1
