-- How many handles that pass a test are still to come: pending, timed, and registered on futures.
use Rattle.std.specs.Prelude.{ℕ, ◌+◌, Bool, List}
use Rattle.std.specs.List.{count_by, sum_by}
use Rattle.model_value.specs.Action.{Action}
use Rattle.model_loop.specs.Entries.{entries}
use Rattle.model_loop.specs.Parts.{Future, Parts}

abbrev pub registered : (Action → Bool) → List Future → ℕ
registered test = sum_by (λ (future : Future). count_by test future.callbacks)

abbrev pub coming : (Action → Bool) → Parts → ℕ
coming test p = entries (λ tag. test) p + registered test p.futures
