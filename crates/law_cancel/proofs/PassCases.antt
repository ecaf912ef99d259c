-- What a future passes to, a function for each case that it splits: `passes` is `passes_at` at what is found, by computing
-- alone. Proofs go along them.
use Rattle.std.specs.Prelude.{ℕ, List, [], Option, Some, None}
use Rattle.std.specs.Option.{option_to_list}
use Rattle.model_value.specs.Value.{Outcome}
use Rattle.model_loop.specs.Parts.{FutureKind, Plain, OfTask, Many, Future, Parts}
use Rattle.model_loop.specs.Futures.{made_before}
use Rattle.model_loop.specs.Tasks.{waiter_of}

-- by the kind, by the outcome, and by the future
abbrev pub passes_of_kind : FutureKind → ℕ → Parts → List ℕ
passes_of_kind kind id p =
    elim kind [
      | Plain ↦ []
      | OfTask task ↦ option_to_list (waiter_of p task)
      | Many members asked ↦ made_before id members
    ]

abbrev pub passes_until : Option Outcome → FutureKind → ℕ → Parts → List ℕ
passes_until outcome kind id p = elim outcome [ Some done ↦ [] | None ↦ passes_of_kind kind id p ]

abbrev pub passes_at : Option Future → ℕ → Parts → List ℕ
passes_at found id p = elim found [ None ↦ [] | Some future ↦ passes_until future.outcome future.kind id p ]
