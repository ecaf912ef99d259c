-- A future by what it is: `settle` is `settled` at what is found, `register` `registered`, `members_of` `members_at` and
-- `is_plain` `is_plain_at`, by computing alone. Proofs go along them.
use Rattle.std.specs.Prelude.{ℕ, Bool, true, false, List, [], ◌∷◌, ◌++◌, Option, Some, None}
use Rattle.model_value.specs.Action.{Action}
use Rattle.model_value.specs.Value.{Outcome}
use Rattle.model_loop.specs.Parts.{FutureKind, Plain, OfTask, Many, Future, Parts}
use Rattle.model_loop.specs.Handles.{soon, soon_all}
use Rattle.model_loop.specs.Futures.{with_future}

abbrev pub settled_as : Option Outcome → ℕ → Future → Outcome → Parts → Parts
settled_as done id future outcome p =
    elim done [
      | Some before ↦ p
      | None ↦ soon_all future.callbacks (with_future id (record future { outcome = Some outcome; callbacks = [] }) p)
    ]

abbrev pub settled : Option Future → ℕ → Outcome → Parts → Parts
settled found id outcome p =
    elim found [ None ↦ p | Some future ↦ settled_as future.outcome id future outcome p ]

abbrev pub registered_on : Option Outcome → ℕ → Future → Action → Parts → Parts
registered_on done id future action p =
    elim done [
      | Some before ↦ soon action p
      | None ↦ with_future id (record future { callbacks = future.callbacks ++ action ∷ [] }) p
    ]

abbrev pub registered : Option Future → ℕ → Action → Parts → Parts
registered found id action p = elim found [ None ↦ p | Some future ↦ registered_on future.outcome id future action p ]

abbrev pub members_in : FutureKind → List ℕ
members_in kind = elim kind [ Plain ↦ [] | OfTask task ↦ [] | Many members asked ↦ members ]

abbrev pub members_at : Option Future → List ℕ
members_at found = elim found [ None ↦ [] | Some future ↦ members_in future.kind ]

abbrev pub is_plain_kind : FutureKind → Bool
is_plain_kind kind = elim kind [ Plain ↦ true | _ ↦ false ]

abbrev pub is_plain_at : Option Future → Bool
is_plain_at found = elim found [ None ↦ false | Some future ↦ is_plain_kind future.kind ]
