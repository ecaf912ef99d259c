-- What a read may give.
use Rattle.std.specs.Prelude.{◌≡◌, ℕ, ◌≤◌, List, [], ◌∷◌, ◌++◌, Option, Some, length, drop, take}
use Rattle.model_wire.specs.Told.{Agrees, Rose, ShelfSeen, SourceSeen, FileFailed, NoneFell}
use Rattle.aio_wire.specs.declared.source.SourceGot.{SourceGot}
use Rattle.aio_wire.specs.declared.source.SourceGot.TheVariants.{Bytes, End, Failed}

-- the answer that gives these bytes: the end where there are none
abbrev pub got_of : List ℕ → SourceGot
got_of [] = End
got_of (byte ∷ bytes) = Bytes (byte ∷ bytes)

-- bytes that were read are at least one and at most as many as were asked for
abbrev pub FitsRead : ℕ → SourceGot → Type 0
FitsRead max (Bytes bytes) = (1 ≤ length bytes) × (length bytes ≤ max)
FitsRead max End = Unit {0}
FitsRead max Failed = Unit {0}

-- Bytes are the next of what is left, and are then gone; the end comes where nothing is left; a read that failed takes
-- nothing, and is counted.
abbrev pub ReadLeaves : SourceSeen → SourceSeen → SourceGot → Type 0
ReadLeaves old new (Bytes bytes) = (rest : List ℕ) → Agrees new.left rest → Agrees old.left (bytes ++ rest)
ReadLeaves old new End = Agrees old.left [] × (new.left ≡ old.left)
ReadLeaves old new Failed = (new.left ≡ old.left) × Rose old.faults new.faults

-- What a read from a place gives of a file: its bytes there, or the end where none are there. A missing file gives
-- neither.
abbrev pub ReadsAt : Option (List ℕ) → ℕ → SourceGot → Type 0
ReadsAt held from (Bytes bytes) =
    (all : List ℕ) × (held ≡ Some all) × (bytes ≡ take (length bytes) (drop from all)) × (from ≤ length all)
ReadsAt held from End = (all : List ℕ) × (held ≡ Some all) × (length all ≤ from)
ReadsAt held from Failed = Unit {0}

-- what a read of a file leaves of the shelf: all as it was, but where it failed
abbrev pub ReadLeavesShelf : List ℕ → ShelfSeen → ShelfSeen → SourceGot → Type 0
ReadLeavesShelf name old new (Bytes bytes) = new ≡ old
ReadLeavesShelf name old new End = new ≡ old
ReadLeavesShelf name old new Failed = FileFailed name old new × NoneFell old new
