-- What a shelf in memory holds, and what its calls do.
use Rattle.std.specs.Prelude.{ℕ, ◌+◌, ◌-◌, ◌^◌, List, [], ◌∷◌, ◌++◌, Option, Some, None, drop, min, take, unwrap_or}
use Rattle.std.specs.Map.{lookup}
use Rattle.std.specs.Str.{bytes_eq}
use Rattle.std.specs.String.{string_bytes}
use Rattle.std.specs.declared.alloc.Global.{Global}
use Rattle.std.specs.declared.string.String.{String}
use Rattle.std.specs.declared.vec.Vec.{Vec}
use Rattle.model_wire.specs.Told.{ShelfSeen}
use Rattle.aio_wire.specs.Got.{got_of}
use Rattle.aio_wire.specs.declared.source.SourceGot.{SourceGot}
use Rattle.aio_wire.specs.declared.source.SourceGot.TheVariants.{Failed}
use Rattle.indexmap.specs.IndexMap.{insert_entry}

-- The names with their bytes, in the order in which the files were made, and how often a missing file was read.
pub record Shelved : Type 0 where
  pub files : List (List ℕ × List ℕ)
  pub missed : ℕ

-- the bytes of a file, or nothing where it is missing
abbrev pub held : Shelved → List ℕ → Option (List ℕ)
held shelf name = lookup (bytes_eq name) shelf.files

-- what is seen of it: all that its files hold, and one count for all of them
abbrev pub seen_of : Shelved → ShelfSeen
seen_of shelf = record { file = λ name. Some (held shelf name); faults = λ name. shelf.missed }

-- what a read from a place gives: as many bytes as are asked for and are left there
abbrev pub got_at : Option (List ℕ) → ℕ → ℕ → SourceGot
got_at None from max = Failed
got_at (Some bytes) from max = got_of (take max (drop from bytes))

-- the count after a read: one more where the file is missing, and no more than its type holds
abbrev pub missed_by : Option (List ℕ) → ℕ → ℕ
missed_by None missed = min (missed + 1) (2 ^ 64 - 1)
missed_by (Some bytes) missed = missed

-- the files with a piece behind the end of the one with this name, which is made where it is missing
abbrev pub with_appended : List (List ℕ × List ℕ) → List ℕ → List ℕ → List (List ℕ × List ℕ)
with_appended files name piece = insert_entry bytes_eq files name (unwrap_or (lookup (bytes_eq name) files) [] ++ piece)

-- the files that a map's entries stand for
abbrev pub files_of : List (String Global × Vec ℕ Global) → List (List ℕ × List ℕ)
files_of [] = []
files_of (entry ∷ entries) = (string_bytes entry.0, entry.1.items) ∷ files_of entries
