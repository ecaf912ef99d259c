-- Stamps, tags and members: what is numbered is numbered once, and in order of making.
use Rattle.std.specs.Prelude.{◌≡◌, ℕ, ◌<◌, ◌≤◌, List, [], ◌++◌, Some, None, map, nat_eq, slice_get}
use Rattle.std.specs.List.{All, count_by}
use Rattle.model_loop.specs.Parts.{Handle, Timer, Plain, OfTask, Many, Parts}

abbrev pub stamps_of : Parts → List ℕ
stamps_of p = map (λ (handle : Handle). handle.stamp) p.pending

-- a tag names a pending handle or a timer
abbrev pub tags_of : Parts → List ℕ
tags_of p = map (λ (handle : Handle). handle.tag) p.pending ++ map (λ (timer : Timer). timer.tag) p.timers

-- how often a number stands in a list
abbrev pub occurrences : ℕ → List ℕ → ℕ
occurrences number = count_by (nat_eq number)

-- no number stands twice, and none from the next one on stands at all
pub record AreGivenOnce (numbers : List ℕ) (next : ℕ) : Type 0 where
  pub once : (number : ℕ) → occurrences number numbers ≤ 1
  pub below : (number : ℕ) → next ≤ number → occurrences number numbers ≡ 0

-- the futures that one stands for
abbrev pub members_of : Parts → ℕ → List ℕ
members_of p id =
    elim (slice_get p.futures id) [
      | None ↦ []
      | Some future ↦ elim future.kind [ Plain ↦ [] | OfTask task ↦ [] | Many members asked ↦ members ]
    ]

pub record IsNumbered (p : Parts) : Type 0 where
  pub stamps : AreGivenOnce (stamps_of p) p.next_stamp
  pub tags : AreGivenOnce (tags_of p) p.next_tag
  -- the futures that another one stands for were made before it
  pub members : (id : ℕ) → All (λ member. member < id) (members_of p id)
