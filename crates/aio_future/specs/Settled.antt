-- What becomes of the futures where one of them is done, asked, or waited for. Source: `futures.py`, `set_result`,
-- `add_done_callback`, `__schedule_callbacks`.
use Rattle.std.specs.Prelude.{ℕ, ◌∷◌, ◌++◌, List, [], Option, None, Some, slice_get, slice_set}
use Rattle.model_value.specs.Action.{Action}
use Rattle.model_value.specs.Value.{Outcome}
use Rattle.model_loop.specs.Parts.{Future}
use Rattle.model_loop.specs.Futures.{asked_kind}
use Rattle.aio_ready.specs.Queue as queue
use Rattle.aio_ready.specs.Queue.{Queue}

abbrev pub settled_until : Option Outcome → Future → ℕ → Outcome → List Future → List Future
settled_until (Some done) future id outcome futures = futures
settled_until None future id outcome futures = slice_set futures id (record future { outcome = Some outcome; callbacks = [] })

abbrev pub settled_at : Option Future → ℕ → Outcome → List Future → List Future
settled_at None id outcome futures = futures
settled_at (Some future) id outcome futures = settled_until future.outcome future id outcome futures

-- a pending future gets its outcome, and its callbacks leave
abbrev pub settled : ℕ → Outcome → List Future → List Future
settled id outcome futures = settled_at (slice_get futures id) id outcome futures

abbrev pub called_until : Option Outcome → List Action → List Action
called_until (Some done) callbacks = []
called_until None callbacks = callbacks

abbrev pub called_at : Option Future → List Action
called_at None = []
called_at (Some future) = called_until future.outcome future.callbacks

-- what is called then
abbrev pub called : ℕ → List Future → List Action
called id futures = called_at (slice_get futures id)

abbrev pub registered_until : Option Outcome → Future → ℕ → Action → List Future → List Future
registered_until (Some done) future id action futures = futures
registered_until None future id action futures =
    slice_set futures id (record future { callbacks = future.callbacks ++ action ∷ [] })

abbrev pub registered_at : Option Future → ℕ → Action → List Future → List Future
registered_at None id action futures = futures
registered_at (Some future) id action futures = registered_until future.outcome future id action futures

-- a pending future gets a callback
abbrev pub registered : ℕ → Action → List Future → List Future
registered id action futures = registered_at (slice_get futures id) id action futures

abbrev pub soon_until : Option Outcome → Action → Queue → Queue
soon_until (Some done) action q = queue.soon action q
soon_until None action q = q

abbrev pub soon_at : Option Future → Action → Queue → Queue
soon_at None action q = q
soon_at (Some future) action q = soon_until future.outcome action q

-- a callback of a done future is called soon
abbrev pub soon_if_done : ℕ → Action → List Future → Queue → Queue
soon_if_done id action futures q = soon_at (slice_get futures id) action q

abbrev pub asked_at : Option Future → ℕ → List Future → List Future
asked_at None id futures = futures
asked_at (Some future) id futures = slice_set futures id (record future { kind = asked_kind future.kind })

-- a future that stands for several keeps that its cancel was asked for
abbrev pub asked : ℕ → List Future → List Future
asked id futures = asked_at (slice_get futures id) id futures
