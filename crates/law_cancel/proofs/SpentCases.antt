-- Whether a future is spent, a function for each case that it splits: `spent_by` is these, by computing alone. Proofs go
-- along them.
use Rattle.std.specs.Prelude.{ℕ, Bool, true, false, Option, Some, None}
use Rattle.std.specs.List.{list_all}
use Rattle.model_value.specs.Value.{Outcome}
use Rattle.model_loop.specs.Parts.{FutureKind, Plain, OfTask, Many}
use Rattle.model_loop.specs.Futures.{made_before}

-- by the kind, and by the outcome
abbrev pub spent_kind : (ℕ → Bool) → FutureKind → ℕ → Bool
spent_kind member_spent kind id =
    elim kind [ Plain ↦ false | OfTask task ↦ false | Many members asked ↦ list_all member_spent (made_before id members) ]

abbrev pub spent_until : (ℕ → Bool) → Option Outcome → FutureKind → ℕ → Bool
spent_until member_spent outcome kind id = elim outcome [ Some done ↦ true | None ↦ spent_kind member_spent kind id ]
