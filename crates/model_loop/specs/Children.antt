-- A group and its children: which of them it was told of, which it will be told of, and what that makes of its fields.
-- What a user relies on follows: once an exit has ended, all tasks that were made in the group are done, and its errors
-- are the exceptions of those that failed, each once, in the order in which the group was told, and last the body's.
use Rattle.std.specs.Prelude.{◌≡◌, ℕ, ◌+◌, ◌≤◌, ◌<◌, Bool, true, false, ◌&&◌, ◌==◌, List, [], ◌∷◌, ◌++◌, Option, Some, None, if◌then◌else◌}
use Rattle.std.specs.List.{filter_map}
use Rattle.model_value.specs.Action.{Action}
use Rattle.model_value.specs.declared.action.Action.TheVariants.{GroupDone}
use Rattle.model_value.specs.Value.{Exc}
use Rattle.model_loop.specs.Parts.{Parts}
use Rattle.model_loop.specs.Loop.{Group}
use Rattle.model_loop.specs.Tasks.{lives, next_task}
use Rattle.model_loop.specs.Groups.{failure_of, body_failure}
use Rattle.model_loop.specs.Numbered.{occurrences}
use Rattle.model_loop.specs.Totals.{pending_where, total, IsAtHome}
use Rattle.model_loop.specs.Owning.{own_future, is_plain}

-- the exceptions of those of these tasks that failed, in order
abbrev pub failures : Parts → List ℕ → List Exc
failures p = filter_map (failure_of p)

-- whether an action tells the group that the task is done
abbrev pub tells : (group task : ℕ) → Action → Bool
tells group task (GroupDone other child) = (other == group) && (child == task)
tells group task _ = false

-- What group `id` is to the parts, where it was told of these tasks that they are done.
pub record IsTold (p : Parts) (id : ℕ) (told : List ℕ) (group : Group) : Type 0 where
  -- the group will be told of each child once, and of nothing else; the home of that is the child's own future
  pub tellings : (task : ℕ) → total p (tells id task) (own_future p task) ≡ occurrences task group.children
  pub at_home : (task : ℕ) → IsAtHome p (tells id task) (own_future p task)
  pub not_yet : (task : ℕ) → lives p task ≡ true → pending_where (tells id task) p.pending ≡ 0
  pub told_done : (task : ℕ) → 1 ≤ occurrences task told → lives p task ≡ false
  pub made_below : (task : ℕ) → 1 ≤ occurrences task group.made → task < next_task p
  -- the parent lives until the exit has ended
  pub parent_lives : group.entered ≡ true → group.ended ≡ false → lives p group.parent ≡ true

-- what it is by its lists and flags
pub record IsKeptGroup (told : List ℕ) (group : Group) : Type 0 where
  -- each task was made in it once; it is a child, or the group was told of it
  pub made_once : (task : ℕ) → occurrences task group.made ≤ 1
  pub child_or_told : (task : ℕ) → occurrences task group.children + occurrences task told ≡ occurrences task group.made
  pub none_left : group.ended ≡ true → group.children ≡ []
  pub ended_exiting : group.ended ≡ true → group.exiting ≡ true

abbrev pub body_at_end : Bool → Option Exc → List Exc
body_at_end ended body = if ended then body_failure body else []

-- its errors are the failures in the order in which it was told, and the body's last
abbrev pub HasErrors : Parts → List ℕ → Group → Type 0
HasErrors p told group = group.errors ≡ failures p told ++ body_at_end group.ended group.body

-- the order in which its flags rise
pub record IsOrderly (group : Group) : Type 0 where
  pub exiting_entered : group.exiting ≡ true → group.entered ≡ true
  -- a kept CancelledError goes with no failure of the body, and a body that raised aborts the group
  pub kept_clean : (exception : Exc) → group.kept ≡ Some exception → body_failure group.body ≡ []
  pub body_aborts : group.aborting ≡ false → group.body ≡ None
  -- before its exit it keeps nothing, and waits for nothing before that and after it
  pub body_exiting : group.exiting ≡ false → group.body ≡ None
  pub kept_exiting : group.exiting ≡ false → group.kept ≡ None
  pub waits_exiting : group.exiting ≡ false → group.exit_future ≡ None
  pub waits_open : group.ended ≡ true → group.exit_future ≡ None

-- an exit waits for a plain future
abbrev pub HasPlainExit : Parts → Group → Type 0
HasPlainExit p group = (future : ℕ) → group.exit_future ≡ Some future → is_plain p future ≡ true

-- a group was told of a task more
abbrev pub told_more : (ℕ → List ℕ) → (group task : ℕ) → ℕ → List ℕ
told_more told group task id = if group == id then told id ++ task ∷ [] else told id

-- Group `id`, which was told of these tasks.
pub record IsGroup (p : Parts) (id : ℕ) (told : List ℕ) (group : Group) : Type 0 where
  pub tellings : IsTold p id told group
  pub kept : IsKeptGroup told group
  pub errors : HasErrors p told group
  pub orderly : IsOrderly group
  pub plain_exit : HasPlainExit p group
