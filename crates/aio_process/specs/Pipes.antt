-- What is answered of a pipe for what the system gave, and what becomes of the bytes in it, where these are known.
use Rattle.std.specs.Prelude.{◌≡◌, ℕ, ◌≤◌, List, take, Option, Result, Ok, Err}
use Rattle.std.specs.Io.KnownBytes.{Keeps, Appends, Consumes, IsAtEnd}
use Rattle.model_wire.specs.Told.{Rose}
use Rattle.aio_wire.specs.Got.{got_of}
use Rattle.aio_wire.specs.declared.source.SourceGot.{SourceGot}
use Rattle.aio_wire.specs.declared.source.SourceGot.TheVariants as got
use Rattle.aio_wire.specs.declared.sink.SinkTook.{SinkTook}
use Rattle.aio_wire.specs.declared.sink.SinkTook.TheVariants as took

-- what a read answers: the bytes that came, and the end where none came; or that it failed, and then the count rose
abbrev pub Got : {E : Type 0} → Result ℕ E → List ℕ → ℕ → ℕ → SourceGot → Type 0
Got (Ok count) piece before now answer = (answer ≡ got_of (take count piece)) × (now ≡ before)
Got (Err error) piece before now answer = (answer ≡ got.Failed) × Rose before now × (before ≤ now)

-- what a write answers: as much as the system took; or that it failed, and then the count rose
abbrev pub Took : {E : Type 0} → Result ℕ E → ℕ → ℕ → SinkTook → Type 0
Took (Ok count) before now answer = (answer ≡ took.Took count) × (now ≡ before)
Took (Err error) before now answer = (answer ≡ took.Failed) × Rose before now × (before ≤ now)

-- What a read leaves in a pipe: what comes after the bytes that it gave; nothing at the end; and all, where it failed.
abbrev pub Drains : Option (List ℕ) → Option (List ℕ) → SourceGot → Type 0
Drains old new (got.Bytes bytes) = Consumes old new bytes
Drains old new got.End = Keeps old new × IsAtEnd new
Drains old new got.Failed = Keeps old new

-- what a write adds to a pipe: as much of the piece as was taken; and nothing, where it failed
abbrev pub Fills : Option (List ℕ) → Option (List ℕ) → List ℕ → SinkTook → Type 0
Fills old new piece (took.Took count) = Appends old new (take count piece)
Fills old new piece took.Failed = Keeps old new
