-- What is seen of a shelf after an append.
use Rattle.std.specs.Prelude.{◌≡◌, ◌≢◌, ℕ, List, ◌++◌, Option, Some, None, take}
use Rattle.model_wire.specs.Told.{ShelfSeen, FileFailed, NoneFell}
use Rattle.aio_wire.specs.declared.sink.SinkTook.{SinkTook}
use Rattle.aio_wire.specs.declared.sink.SinkTook.TheVariants.{Took, Failed}

-- a file with a piece behind its end; one that is missing holds the piece
abbrev pub with_piece : Option (Option (List ℕ)) → List ℕ → Option (Option (List ℕ))
with_piece None piece = None
with_piece (Some None) piece = Some (Some piece)
with_piece (Some (Some held)) piece = Some (Some (held ++ piece))

-- the file's end has what was taken, and no other file changes; where it failed, none does
abbrev pub Appends : List ℕ → List ℕ → ShelfSeen → ShelfSeen → SinkTook → Type 0
Appends name piece old new (Took count) =
    (new.file name ≡ with_piece (old.file name) (take count piece))
    × ((other : List ℕ) → other ≢ name → new.file other ≡ old.file other) × (new.faults ≡ old.faults)
Appends name piece old new Failed = (new.file ≡ old.file) × FileFailed name old new × NoneFell old new
