-- What the edge answers for what the system gave.
use Rattle.std.specs.Prelude.{◌≡◌, ◌≤◌, ℕ, Result, Ok, Err, None}
use Rattle.model_wire.specs.Told.{ShelfSeen, SinkSeen, Rose}
use Rattle.aio_wire.specs.declared.sink.SinkTook.{SinkTook}
use Rattle.aio_wire.specs.declared.sink.SinkTook.TheVariants as took

-- files that tell nothing and have one count
abbrev pub counting : ℕ → ShelfSeen
counting faults = record { file = λ name. None; faults = λ name. faults }

-- an output that tells nothing, and has a count
abbrev pub untaken : ℕ → SinkSeen
untaken faults = record { taken = None; faults = faults }

-- what a write answers: as much as the system took, or that it failed, and then the count rose
abbrev pub Took : {E : Type 0} → Result ℕ E → ℕ → ℕ → SinkTook → Type 0
Took (Ok count) before now answer = (answer ≡ took.Took count) × (now ≡ before)
Took (Err error) before now answer = (answer ≡ took.Failed) × Rose before now × (before ≤ now)
