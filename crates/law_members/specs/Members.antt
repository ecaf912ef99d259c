-- The count of a gather, and of a wait, comes to 0 only where the members are done.
use Rattle.std.specs.Prelude.{◌≡◌, ℕ, Some}
use Rattle.std.specs.List.{AllByRecursion as Each}
use Rattle.model_value.specs.Value.{Outcome}
use Rattle.model_loop.specs.Futures.{future_outcome, made_before}
use Rattle.model_loop.specs.Parts.{Parts}
use Rattle.model_gather.specs.Gathered.{Gathered, Gathering, Gathers, Waiting, Waits, futures_of}
use Rattle.law_waiters.specs.Reached.{entry_under}

abbrev pub IsDone : Parts → ℕ → Type 0
IsDone p id = (outcome : Outcome) × (future_outcome p id ≡ Some outcome)

-- Those that were made before its own future, which in every sound state are all.
pub record CountsMembers (kept : Gathered) (p : Parts) : Type 0 where
  pub gathers : (key : ℕ) (it : Gathering) → entry_under kept key ≡ Some (Gathers it) → it.left ≡ 0
      → Each (IsDone p) (made_before it.outer it.awaited)
  pub waits : (key : ℕ) (it : Waiting) → entry_under kept key ≡ Some (Waits it) → it.left ≡ 0
      → Each (IsDone p) (made_before it.on (futures_of it.arguments))
