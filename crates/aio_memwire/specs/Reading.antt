-- How far a file was read.
use Rattle.std.specs.Prelude.{◌≡◌, ℕ, List, [], Option, Some, None, length, take}
use Rattle.model_wire.specs.Told.{ShelfSeen, FileFailed, NoneFell}
use Rattle.aio_memwire.specs.declared.reading.ReadFault.{ReadFault}
use Rattle.aio_memwire.specs.declared.reading.ReadFault.TheVariants.{Memory, Failed}

-- reading a file stops for want of memory, and then nothing failed, or where the file failed
abbrev pub StopsReading : List ℕ → ShelfSeen → ShelfSeen → ReadFault → Type 0
StopsReading name old new Memory = new ≡ old
StopsReading name old new Failed = FileFailed name old new × NoneFell old new

-- a text is the front of what a file holds; of a missing file nothing was read
abbrev pub Begins : Option (List ℕ) → List ℕ → Type 0
Begins None text = text ≡ []
Begins (Some all) text = text ≡ take (length text) all

-- the text is the first bytes of a file, at most so many, where the file is told
abbrev pub IsFront : (limit : ℕ) → Option (Option (List ℕ)) → List ℕ → Type 0
IsFront limit told text =
    (held : Option (List ℕ)) → told ≡ Some held → (all : List ℕ) × (held ≡ Some all) × (text ≡ take limit all)
