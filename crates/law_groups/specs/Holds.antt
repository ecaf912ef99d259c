-- Sound parts, and what all groups are to them: `told` says of which tasks each was told, and `heard` which of these are in
-- its errors; they differ only while a group is told.
use Rattle.std.specs.Prelude.{ℕ, ◌≤◌, List, Option}
use Rattle.model_loop.specs.Parts.{Parts}
use Rattle.model_loop.specs.Loop.{Group}
use Rattle.model_loop.specs.Numbered.{occurrences}
use Rattle.model_loop.specs.Children.{IsTold, IsKeptGroup, HasErrors, HasPlainExit}
use Rattle.model_loop.specs.Sound.{ArePartsSound}

pub record Holds (running excused : Option ℕ) (told heard : ℕ → List ℕ) (groups : ℕ → Group) (p : Parts) : Type 0 where
  pub parts : ArePartsSound running excused p
  pub tellings : (id : ℕ) → IsTold p id (told id) (groups id)
  pub heards : (id task : ℕ) → 1 ≤ occurrences task (heard id)
      → (1 ≤ occurrences task (told id)) × (1 ≤ occurrences task (groups id).made)
  pub errors : (id : ℕ) → HasErrors p (heard id) (groups id)
  pub kept : (id : ℕ) → IsKeptGroup (told id) (groups id)
  pub exits : (id : ℕ) → HasPlainExit p (groups id)
