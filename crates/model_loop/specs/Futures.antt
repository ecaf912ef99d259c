-- Futures. Source: `futures.py`, `set_result`, `add_done_callback`, `__schedule_callbacks`; of those that stand for
-- several, `_GatheringFuture` of `tasks.py`.
use Rattle.std.specs.Prelude.{ℕ, Bool, true, false, List, [], ◌∷◌, ◌++◌, Option, Some, None, is_none, filter, length, nat_lt, slice_get, slice_set}
use Rattle.std.specs.Option.{option_map_or}
use Rattle.model_value.specs.Action.{Action}
use Rattle.model_value.specs.Value.{Outcome}
use Rattle.model_loop.specs.Parts.{FutureKind, Plain, OfTask, Many, Future, Parts}
use Rattle.model_loop.specs.Handles.{soon, soon_all}

abbrev pub with_future : ℕ → Future → Parts → Parts
with_future id future p = record p { futures = slice_set p.futures id future }

abbrev pub outcome_at : Option Future → Option Outcome
outcome_at None = None
outcome_at (Some future) = future.outcome

-- how the future of a number ended, where it did
abbrev pub future_outcome : Parts → ℕ → Option Outcome
future_outcome p id = outcome_at (slice_get p.futures id)

abbrev pub is_pending_at : Option Future → Bool
is_pending_at None = false
is_pending_at (Some future) = is_none future.outcome

-- whether there is a future of this number that isn't done
abbrev pub is_pending : Parts → ℕ → Bool
is_pending p id = is_pending_at (slice_get p.futures id)

-- The members of a future that stands for several were made before it; a number that isn't less than its own names none.
abbrev pub made_before : ℕ → List ℕ → List ℕ
made_before id = filter (λ member. nat_lt member id)

-- the number of the future that is made next
abbrev pub next_future : Parts → ℕ
next_future p = length p.futures

abbrev pub make_future : FutureKind → Parts → Parts
make_future kind p = record p { futures = p.futures ++ record { kind = kind; outcome = None; callbacks = [] } ∷ [] }

abbrev pub new_plain : Parts → Parts
new_plain = make_future Plain

abbrev pub new_many : List ℕ → Parts → Parts
new_many members = make_future (Many members false)

-- A pending future gets its outcome, and its callbacks are called soon, in order of registration. A done one stays.
abbrev pub settle : ℕ → Outcome → Parts → Parts
settle id outcome p =
    elim (slice_get p.futures id) [
      | None ↦ p
      | Some future ↦ elim future.outcome [
        | Some done ↦ p
        | None ↦ soon_all future.callbacks (with_future id (record future { outcome = Some outcome; callbacks = [] }) p)
      ]
    ]

-- a callback of a pending future waits for its outcome; of a done one it is called soon
abbrev pub register : ℕ → Action → Parts → Parts
register id action p =
    elim (slice_get p.futures id) [
      | None ↦ p
      | Some future ↦ elim future.outcome [
        | Some done ↦ soon action p
        | None ↦ with_future id (record future { callbacks = future.callbacks ++ action ∷ [] }) p
      ]
    ]

abbrev pub asked_kind : FutureKind → FutureKind
asked_kind Plain = Plain
asked_kind (OfTask task) = OfTask task
asked_kind (Many members asked) = Many members true

-- a future that stands for several keeps that its cancel was asked for
abbrev pub mark_asked : ℕ → Parts → Parts
mark_asked id p =
    option_map_or (λ (future : Future). with_future id (record future { kind = asked_kind future.kind }) p) (slice_get p.futures id) p
