-- What a request notes of futures that stand for several: what each would answer again. Notes of earlier requests say nothing.
use Rattle.std.specs.Prelude.{◌≡◌, ℕ, ◌≤◌, Bool, ◌==◌, ◌&&◌, List, Option, None, Some, nat_eq, if◌then◌else◌}
use Rattle.std.specs.Map.{lookup}
use Rattle.aio_cancel.specs.declared.notes.Note.{Note}

pub record Noted : Type 0 where
  pub entries : List (ℕ × Note)
  pub request : ℕ
  -- whether there was a number for the request
  pub known : Bool

abbrev pub note_of : Noted → Option Note → Option Bool
note_of n None = None
note_of n (Some note) = if n.known && (note.request == n.request) then Some note.again else None

-- what is noted of a future
abbrev pub noted : Noted → ℕ → Option Bool
noted n id = note_of n (lookup (nat_eq id) n.entries)

-- each note is of a request up to this one, of which there was one at least
pub record AreEarlier (entries : List (ℕ × Note)) (request : ℕ) : Type 0 where
  pub began : 1 ≤ request
  pub earlier : (id : ℕ) (note : Note) → lookup (nat_eq id) entries ≡ Some note → note.request ≤ request

-- nothing is noted
abbrev pub HasNoNotes : Noted → Type 0
HasNoNotes n = (id : ℕ) → noted n id ≡ None
