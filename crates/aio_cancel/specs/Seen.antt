-- What a request keeps while it goes: the tasks that it visited, with a mark for each task, and the stack, with its room.
use Rattle.std.specs.Prelude.{◌≡◌, ℕ, ◌+◌, ◌≤◌, Bool, true, false, List, length, slice_index_or}
use Rattle.model_loop.specs.Cancel.{has_seen}
use Rattle.law_cancel.proofs.Seen.{left}
use Rattle.algorithm_parts.specs.declared.walk.WalkFrame.{WalkFrame}

-- for how many tasks there are marks, and those that were visited, in order
pub record Marked : Type 0 where
  pub tasks : ℕ
  pub visited : List ℕ

pub record HasRoomToMark (marks : List Bool) (visited : List ℕ) (capacity : ℕ) : Type 0 where
  pub room : length marks ≤ capacity
  -- each visit leaves one task fewer
  pub count : length visited + left (length marks) visited ≡ length marks
  pub told : (task : ℕ) → slice_index_or marks task false ≡ has_seen visited task

-- for how many frames there is room, and those that wait, the next last
pub record Stacked : Type 0 where
  pub room : ℕ
  pub frames : List WalkFrame

-- marks that are being cleared: those of tasks that are still to be cleared alone may be set
pub record Clears (marks : List Bool) (visited : List ℕ) (capacity count room : ℕ) : Type 0 where
  pub told : (task : ℕ) → slice_index_or marks task false ≡ true → has_seen visited task ≡ true
  pub size : length marks ≡ count
  pub same : capacity ≡ room
