-- How groups in code stand for the machine's, beside the parts.
use Rattle.std.specs.Prelude.{◌≡◌, ℕ, ◌<◌, true, false, List, [], Option, Some, None, length, map, slice_get, slice_set}
use Rattle.std.specs.List.{AllByRecursion as Each}
use Rattle.model_loop.specs.Parts.{Parts}
use Rattle.model_loop.specs.Loop.{Group, Loop}
use Rattle.model_loop.specs.Futures.{next_future}
use Rattle.model_loop.specs.Groups.{body_failure, failure_of}
use Rattle.model_loop.specs.Owning.{owner_at}
use Rattle.model_loop.specs.Tasks.{future_of, next_task}
use Rattle.aio_task.specs.View.{View}
use Rattle.aio_task.specs.Keeps.{NameMap, Keeps, Extends}
use Rattle.aio_group.specs.GoesOn.{PartsGoOn}
use Rattle.aio_group.specs.Held.{Held, shown, listed}

-- ---- the condition on groups and their parts
-- a future that was made and is no task's
abbrev pub IsOwn : View → ℕ → Type 0
IsOwn v future = (future < length v.futures) × (owner_at (slice_get v.futures future) ≡ None)

-- the tasks that a group keeps were made in these parts, and so was the future on which its exit waits
pub record Belongs (v : View) (held : Held) : Type 0 where
  pub children : Each (λ task. task < length v.tasks) held.children
  pub exit : (future : ℕ) → held.exit_future ≡ Some future → IsOwn v future

abbrev pub AllBelong : View → List Held → Type 0
AllBelong v groups = (id : ℕ) (held : Held) → slice_get groups id ≡ Some held → Belongs v held

-- ---- groups and the machine's
-- a task that was made, and whose own future was made and isn't released
pub record IsLive (t : NameMap) (p : Parts) (task : ℕ) : Type 0 where
  pub made : task < next_task p
  pub future : future_of p task < next_future p
  pub there : t.gone (future_of p task) ≡ false

-- what a group keeps until its exit has ended
pub record KeepsFaults (p : Parts) (held : Held) (group : Group) : Type 0 where
  -- the errors are the exceptions of the children that failed
  pub errors : map (failure_of p) held.failed ≡ map Some group.errors
  pub body : listed held.body ≡ body_failure group.body
  pub kept : held.kept ≡ group.kept

abbrev pub bare : Group → Group
bare group = record group { made = []; errors = []; body = None; kept = None }

pub record KeepsGroup (t : NameMap) (p : Parts) (held : Held) (group : Group) : Type 0 where
  pub same : shown held ≡ bare group
  pub children : Each (IsLive t p) held.children
  pub failed : Each (IsLive t p) held.failed
  pub faults : held.ended ≡ false → KeepsFaults p held group
  -- only an exit that has begun ends, and only one that hasn't ended waits
  pub early : held.exiting ≡ false → (held.ended ≡ false) × (held.exit_future ≡ None)
  pub late : held.ended ≡ true → held.exit_future ≡ None

abbrev pub KeepsAt : NameMap → Parts → Option Held → Option Group → Type 0
KeepsAt t p None None = Unit {0}
KeepsAt t p (Some held) (Some group) = KeepsGroup t p held group
KeepsAt t p _ _ = ⊥

pub record StandForGroups (t : NameMap) (groups : List Held) (v : View) (p : Parts) (plain : List Group) : Type 0 where
  pub keeps : Keeps t v p
  pub each : (id : ℕ) → KeepsAt t p (slice_get groups id) (slice_get plain id)

-- The groups and the parts stand for this loop. Its timeouts and its ledger are not theirs.
abbrev pub GroupsStand : NameMap → List Held → View → Loop → Type 0
GroupsStand t groups v l = StandForGroups t groups v l.parts l.groups

-- From a loop for which some stood by this name map the machine came to one for which these stand.
pub record Came (t : NameMap) (l : Loop) (groups : List Held) (v : View) (m : Loop) : Type 0 where
  pub name_map : NameMap
  pub stands : GroupsStand name_map groups v m
  pub extends : Extends l.parts t m.parts name_map
  pub goes_on : PartsGoOn l.parts m.parts

-- A group and the parts became these, as the machine's did by a step of this group.
abbrev pub GroupSteps : Held → View → Held → View → (ℕ → Loop → Loop) → Type 0
GroupSteps before v after w step =
    (t : NameMap) (groups : List Held) (id : ℕ) (l : Loop) → slice_get groups id ≡ Some before
    → GroupsStand t groups v l → Came t l (slice_set groups id after) w (step id l)
