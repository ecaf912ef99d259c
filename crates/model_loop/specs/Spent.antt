-- Spent futures: those that a cancel request can't reach any more. Source: `tasks.py`, `_GatheringFuture.cancel`, which
-- answers true only where a child does.
use Rattle.std.specs.Prelude.{ℕ, zero, suc, Bool, true, false, Option, Some, None, slice_get}
use Rattle.std.specs.List.{list_all}
use Rattle.model_loop.specs.Parts.{Plain, OfTask, Many, Future, Parts}
use Rattle.model_loop.specs.Futures.{made_before}

-- A done future is spent, and one that stands for several is where all its members are.
abbrev pub spent_by : (ℕ → Bool) → Option Future → ℕ → Bool
spent_by member_spent found id =
    elim found [
      | None ↦ true
      | Some future ↦ elim future.outcome [
        | Some outcome ↦ true
        | None ↦ elim future.kind [
          | Plain ↦ false
          | OfTask task ↦ false
          | Many members asked ↦ list_all member_spent (made_before id members)
        ]
      ]
    ]

-- of a future whose number is below a bound
abbrev pub spent_below : ℕ → Parts → ℕ → Bool
spent_below zero p id = true
spent_below (suc bound) p id = spent_by (spent_below bound p) (slice_get p.futures id) id

-- Members have smaller numbers, so the bound isn't reached: `is_spent p` is `spent_by (is_spent p)` at each future.
abbrev pub is_spent : Parts → ℕ → Bool
is_spent p id = spent_below (suc id) p id
