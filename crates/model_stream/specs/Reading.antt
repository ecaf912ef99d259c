-- A reader: bytes that came and were not taken yet, and the operations that take them. Only the bytes held decide, and
-- not the pieces in which they came.
-- Source: `streams.py`, StreamReader.
use Rattle.std.specs.Prelude.{ℕ, ◌+◌, ◌-◌, ◌*◌, ℤ, pos, negsuc, Bool, true, false, not, ◌&&◌, ◌||◌, if◌then◌else◌, List, [], ◌∷◌, ◌++◌, Option, Some, None}
use Rattle.std.specs.Prelude.{length, take, drop, nat_eq, nat_lt, nat_le}
use Rattle.std.specs.Fmt.{decimal}
use Rattle.std.specs.List.{starts_with}
use Rattle.std.specs.Option.{option_map}
use lib.Chars.{codes}
use Rattle.model_value.specs.declared.kind.Kind.TheVariants.{ValueError, LimitOverrunError, IncompleteReadError}
use Rattle.model_value.specs.Value.{Exc, exception_of, with_bytes}
use Rattle.model_stream.specs.declared.read_op.ReadOp as op
use Rattle.model_stream.specs.declared.read_op.ReadOp.TheVariants.{UpTo, Exactly, Until, Line}
use Rattle.model_stream.specs.declared.read_op.Taken as taken
use Rattle.model_stream.specs.declared.read_op.Taken.TheVariants.{Bytes, Raises, Needs}
use Rattle.model_stream.specs.Sending.{is_nothing}

abbrev pub ReadOp : Type 0
ReadOp = op.ReadOp (List ℕ)

abbrev pub Taken : Type 0
Taken = taken.Taken (List ℕ) Exc

-- `eof` says that the end came, `failed` holds the exception with which the connection was lost, and `paused` says that
-- no more is received for now.
pub record Reading : Type 0 where
  pub held : List ℕ
  pub eof : Bool
  pub failed : Option Exc
  pub limit : ℕ
  pub paused : Bool

abbrev pub new_reading : ℕ → Reading
new_reading limit = record { held = []; eof = false; failed = None; limit = limit; paused = false }

-- ---- what comes
-- reading is paused where more than twice the limit is held
abbrev pub feed : List ℕ → Reading → Reading
feed piece r =
    record r { held = r.held ++ piece; paused = r.paused || nat_lt (2 * r.limit) (length (r.held ++ piece)) }

abbrev pub feed_eof : Reading → Reading
feed_eof r = record r { eof = true }

-- no read gives what is held then, so it is let go
abbrev pub fail : Exc → Reading → Reading
fail exception r = record r { failed = Some exception; held = [] }

-- a wait for data resumes reading
abbrev pub resume : Reading → Reading
resume r = record r { paused = false }

-- ---- what is taken
-- An operation on what is held: its answer, the bytes that are left, and whether it may resume reading.
pub record Take : Type 0 where
  pub answer : Taken
  pub rest : List ℕ
  pub resumes : Bool

-- the first bytes held, or all
abbrev pub gives : ℕ → List ℕ → Take
gives count held = record { answer = Bytes (take count held); rest = drop count held; resumes = true }

abbrev pub raises : Exc → List ℕ → Take
raises exception rest = record { answer = Raises exception; rest = rest; resumes = false }

abbrev pub needs : List ℕ → Take
needs held = record { answer = Needs; rest = held; resumes = false }

-- a reader that failed raises its exception
abbrev pub unless_failed : Reading → Take → Take
unless_failed r other = elim r.failed [ None ↦ other | Some exception ↦ raises exception r.held ]

abbrev pub incomplete_text : (count : ℕ) (wanted : List ℕ) → List ℕ
incomplete_text count wanted =
    decimal count ++ (codes " bytes read on a total of " ++ (wanted ++ codes " expected bytes"))

-- the end came before enough did: the exception holds the bytes
abbrev pub incomplete : (wanted held : List ℕ) → Take
incomplete wanted held =
    raises (with_bytes (exception_of IncompleteReadError (incomplete_text (length held) wanted)) held) []

-- where a text first has a separator
abbrev pub first_at : (separator held : List ℕ) → Option ℕ
first_at separator [] = None
first_at separator (byte ∷ bytes) =
    if starts_with nat_eq (byte ∷ bytes) separator then Some 0 else option_map (λ at. at + 1) (first_at separator bytes)

abbrev pub found_too_far : List ℕ
found_too_far = codes "Separator is found, but chunk is longer than limit"

abbrev pub not_found_so_far : List ℕ
not_found_so_far = codes "Separator is not found, and chunk exceed the limit"

-- `read(n)`
abbrev pub take_up_to : ℕ → Reading → Take
take_up_to count r =
    unless_failed r
    (if nat_eq count 0 then gives 0 r.held
    else (if is_nothing r.held && not r.eof then needs r.held else gives count r.held))

-- `readexactly(n)`
abbrev pub take_exactly : ℤ → Reading → Take
take_exactly (negsuc n) r =
    raises (exception_of ValueError (codes "readexactly size can not be less than zero")) r.held
take_exactly (pos count) r =
    unless_failed r
    (if nat_le count (length r.held) then gives count r.held
    else (if r.eof then incomplete (decimal count) r.held else needs r.held))

-- a separator of this length begins at this place
abbrev pub until_found : (at separator : ℕ) → Reading → Take
until_found at separator r =
    if nat_lt r.limit at then raises (exception_of LimitOverrunError found_too_far) r.held
    else gives (at + separator) r.held

-- no separator, of this length, is held
abbrev pub until_unfound : (separator : ℕ) → Reading → Take
until_unfound separator r =
    if nat_lt r.limit (length r.held + 1 - separator)
    then raises (exception_of LimitOverrunError not_found_so_far) r.held
    else (if r.eof then incomplete (codes "undefined") r.held else needs r.held)

-- `readuntil(separator)`
abbrev pub take_until : List ℕ → Reading → Take
take_until separator r =
    if is_nothing separator
    then raises (exception_of ValueError (codes "Separator should be at least one-byte string")) r.held
    else unless_failed r
    (elim (first_at separator r.held)
    [ Some at ↦ until_found at (length separator) r | None ↦ until_unfound (length separator) r ])

-- a line that is too long is removed: up to its newline, where that came
abbrev pub removes : (text rest : List ℕ) → Take
removes text rest = record { answer = Raises (exception_of ValueError text); rest = rest; resumes = true }

abbrev pub line_at : ℕ → Reading → Take
line_at at r =
    if nat_lt r.limit at then removes found_too_far (drop (at + 1) r.held) else gives (at + 1) r.held

-- no newline is held: the last line lacks it
abbrev pub unended_line : Reading → Take
unended_line r =
    if nat_lt r.limit (length r.held) then removes not_found_so_far []
    else (if r.eof then gives (length r.held) r.held else needs r.held)

abbrev pub newline : List ℕ
newline = 10 ∷ []

-- `readline()`
abbrev pub take_line : Reading → Take
take_line r =
    unless_failed r
    (elim (first_at newline r.held) [ Some at ↦ line_at at r | None ↦ unended_line r ])

abbrev pub take_read : ReadOp → Reading → Take
take_read (UpTo count) r = take_up_to count r
take_read (Exactly count) r = take_exactly count r
take_read (Until separator) r = take_until separator r
take_read Line r = take_line r

-- reading resumes where a take leaves at most the limit
abbrev pub after_take : Take → Reading → Reading
after_take t r =
    record r { held = t.rest; paused = r.paused && not (t.resumes && nat_le (length t.rest) r.limit) }
