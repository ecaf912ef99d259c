-- What becomes of the bytes of a file and of the output, where these are known.
use Rattle.std.specs.Prelude.{◌≡◌, ℕ, ◌<◌, List, length, take, Option, Result, MatchResult}
use Rattle.std.specs.Io.KnownBytes.{Keeps, Appends, Consumes, IsAtEnd}
use Rattle.aio_wire.specs.declared.source.SourceGot.{SourceGot}
use Rattle.aio_wire.specs.declared.source.SourceGot.TheVariants as got
use Rattle.aio_wire.specs.declared.sink.SinkTook.{SinkTook}
use Rattle.aio_wire.specs.declared.sink.SinkTook.TheVariants as took

-- as much of the piece as was taken stands behind what was there; where it failed, nothing does
abbrev pub Fills : Option (List ℕ) → Option (List ℕ) → List ℕ → SinkTook → Type 0
Fills old new piece (took.Took count) = Appends old new (take count piece)
Fills old new piece took.Failed = Keeps old new

-- these bytes stand at the front of what is left
abbrev pub IsFront : Option (List ℕ) → List ℕ → Type 0
IsFront left bytes = (rest : Option (List ℕ)) × Consumes left rest bytes

-- what a read into this buffer found of what was left: its front, and none only where nothing was left
abbrev pub ReadsFront : {E : Type 0} → Option (List ℕ) → Result ℕ E → List ℕ → Type 0
ReadsFront left read buffer =
    MatchResult read (λ n. IsFront left (take n buffer) × (n ≡ 0 → 0 < length buffer → IsAtEnd left)) (λ _. Unit {0})

-- what is answered of what was left: its front; the end, only where nothing was left; or that it failed
abbrev pub Gives : Option (List ℕ) → SourceGot → Type 0
Gives left (got.Bytes bytes) = IsFront left bytes
Gives left got.End = IsAtEnd left
Gives left got.Failed = Unit {0}
