-- What a step of the loop leaves to whoever looks from above: which handles are still to come, which tasks live and which
-- futures are plain, which values futures have, and of timeouts and groups whether their blocks are open.
use Rattle.std.specs.Prelude.{◌≡◌, ℕ, ◌≤◌, ◌<◌, ◌⊎◌, Bool, true, false, ◌==◌, Option, Some, Result, Ok, Err, length}
use Rattle.model_value.specs.Action.{Action}
use Rattle.model_value.specs.declared.action.Action.TheVariants.{Step}
use Rattle.model_value.specs.declared.outcome.Outcome.TheVariants.{Value as Returned}
use Rattle.model_value.specs.Value.{Value, Exc, Outcome}
use Rattle.model_loop.specs.Entries.{AreTimed, entries}
use Rattle.model_loop.specs.Futures.{future_outcome, is_pending, next_future}
use Rattle.model_loop.specs.Groups.{group_of}
use Rattle.model_loop.specs.Loop.{Group, Loop, Timeout}
use Rattle.model_loop.specs.Owning.{is_main_done, is_plain, owner_of}
use Rattle.model_loop.specs.Parts.{Parts}
use Rattle.model_loop.specs.Tasks.{future_of, next_task}
use Rattle.model_loop.specs.Timeouts.{timeout_of}
use Rattle.model_loop.specs.Totals.{pending_where}
use Rattle.model_loop.specs.Ways.{is_running}
use Rattle.model_machine.specs.Sound.{IsMainTold, is_open}
use Rattle.law_changes.specs.Changes.{LoopChange, OfParts, MakesTimeout, ChangesTimeout, MakesGroup, ChangesGroup}
use Rattle.law_changes.specs.Changes.{PartsChange, CallsSoon, FallsDue, LeavesPending, MakesTask, Registers, Revokes, Settles}
use Rattle.law_groups.proofs.Entries.{of_tag}

-- a task's first step, or one after a bare `yield`
abbrev pub is_step : ℕ → Action → Bool
is_step task (Step other) = other == task
is_step task _ = false

-- each value that a future has passes a test
abbrev pub HasIn : (Value → Bool) → Parts → Type 0
HasIn test p = (id : ℕ) (value : Value) → future_outcome p id ≡ Some (Returned value) → test value ≡ true

abbrev pub OutcomeIn : (Value → Bool) → Outcome → Type 0
OutcomeIn test (Returned value) = test value ≡ true
OutcomeIn test _ = Unit {0}

-- the end of a task, with a value that passes
abbrev pub ResultIn : (Value → Bool) → Result Value Exc → Type 0
ResultIn test (Ok value) = test value ≡ true
ResultIn test (Err fault) = Unit {0}

-- `q` is after `p`, by something that may make a task where `grown` says so, and may take a step of the excused task out. The
-- test is of a kind of values.
pub record IsAfter (test : Value → Bool) (grown : Bool) (excused : Option ℕ) (p q : Parts) : Type 0 where
  -- what a tag that was given names is what it named, or nothing
  pub next : p.next_tag ≤ q.next_tag
  pub tags : (kind : ℕ → Action → Bool) (tag : ℕ) → tag < p.next_tag → entries (of_tag tag kind) q ≤ entries (of_tag tag kind) p
  -- a step that is pending stays so
  pub steps : (task : ℕ) → is_running excused task ≡ false
      → pending_where (is_step task) p.pending ≤ pending_where (is_step task) q.pending
  -- tasks and futures stay, and what is done stays so
  pub futures : next_future p ≤ next_future q
  pub tasks : next_task p ≤ next_task q
  pub same : grown ≡ false → next_task q ≡ next_task p
  pub owned : (task : ℕ) → task < next_task p → future_of q task ≡ future_of p task
  pub pends : (id : ℕ) → is_pending q id ≡ true → (is_pending p id ≡ true) ⊎ (next_future p ≤ id)
  pub plain : (id : ℕ) → is_plain p id ≡ true → is_plain q id ≡ true
  pub owners : (id : ℕ) → id < next_future p → owner_of q id ≡ owner_of p id
  pub outcomes : HasIn test p → HasIn test q
  pub main : IsMainTold p → IsMainTold q

-- of a timeout, which may be left
pub record TimeoutAfter (left : Bool) (a b : Timeout) : Type 0 where
  pub task : b.task ≡ a.task
  pub open_ : left ≡ false → is_open b.state ≡ is_open a.state

-- of a group, whose exit may end, or begin
pub record GroupAfter (left begun : Bool) (g h : Group) : Type 0 where
  pub parent : h.parent ≡ g.parent
  pub entered : h.entered ≡ g.entered
  pub ended : left ≡ false → h.ended ≡ g.ended
  pub exiting : g.exiting ≡ true → h.exiting ≡ true
  pub still : begun ≡ false → h.exiting ≡ g.exiting

-- of the loop, where this timeout may be left, this group may end, and the exit of this one may begin, and none comes
pub record IsLoopAfter (test : Value → Bool) (grown : Bool) (excused timeout group begun : Option ℕ) (l m : Loop) : Type 0 where
  pub parts : IsAfter test grown excused l.parts m.parts
  pub timeouts_made : length m.timeouts ≡ length l.timeouts
  pub groups_made : length m.groups ≡ length l.groups
  pub timeouts : (id : ℕ) → TimeoutAfter (is_running timeout id) (timeout_of l id) (timeout_of m id)
  pub groups : (id : ℕ) → GroupAfter (is_running group id) (is_running begun id) (group_of l id) (group_of m id)

-- What a change needs so that the rest is left. A handle that is taken out is told of apart, since it runs.
abbrev pub MayLeave : (test : Value → Bool) (grown : Bool) → PartsChange → Parts → Type 0
MayLeave test grown (CallsSoon action) p = is_main_done action ≡ false
MayLeave test grown (Registers future action) p = is_main_done action ≡ false
MayLeave test grown (Revokes tag) p = (task : ℕ) → entries (of_tag tag (λ other. is_step task)) p ≡ 0
MayLeave test grown (Settles future outcome) p = OutcomeIn test outcome
MayLeave test grown MakesTask p = grown ≡ true
MayLeave test grown FallsDue p = AreTimed p
MayLeave test grown (LeavesPending rest) p = ⊥
MayLeave test grown _ p = Unit {0}

-- The same of a change of the loop, where this timeout may be left, this group may end, and the exit of this one may begin.
abbrev pub MayLeaveLoop : (test : Value → Bool) (grown : Bool) (timeout group begun : Option ℕ) → LoopChange → Loop → Type 0
MayLeaveLoop test grown timeout group begun (OfParts change) l = MayLeave test grown change l.parts
MayLeaveLoop test grown timeout group begun (ChangesTimeout id new) l = TimeoutAfter (is_running timeout id) (timeout_of l id) new
MayLeaveLoop test grown timeout group begun (ChangesGroup id new) l =
    GroupAfter (is_running group id) (is_running begun id) (group_of l id) new
MayLeaveLoop test grown timeout group begun (MakesTimeout task) l = ⊥
MayLeaveLoop test grown timeout group begun (MakesGroup parent) l = ⊥
MayLeaveLoop test grown timeout group begun _ l = Unit {0}
