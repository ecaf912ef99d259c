-- A writer: bytes that were written to a connection, or to a child's standard input, and wait to be sent; and its marks,
-- between which writing is paused and resumed.
-- Source: `selector_events.py`, `_SelectorSocketTransport.write` and `_write_ready`; `transports.py`, `_FlowControlMixin`;
-- of a child `unix_events.py`, `_UnixWritePipeTransport`.
use Rattle.std.specs.Prelude.{ℕ, ◌*◌, ◌/◌, ◌==◌, ℤ, pos, negsuc, Bool, false, true, ◌&&◌, ◌||◌, if◌then◌else◌, List, [], ◌++◌, Option, Some, None, length, take}
use Rattle.std.specs.Prelude.{drop, nat_lt, nat_le}
use Rattle.std.specs.Option.{option_and_then}
use Rattle.model_stream.specs.declared.put.Put.{Put}
use Rattle.model_stream.specs.declared.put.Put.TheVariants.{Offer, Kept, Empty, AfterEof, Dropped}
use Rattle.model_stream.specs.declared.put.Limited.{Limited}
use Rattle.model_stream.specs.declared.put.Limited.TheVariants.{Set, BadLimits}

-- `unsent` is what was written and was neither handed on nor dropped. `eof` says that the end was written, `ended` that
-- loss is scheduled or done, and `whole` that writing resumes only where nothing is unsent, as a child's does.
pub record Writer : Type 0 where
  pub unsent : List ℕ
  pub high : ℕ
  pub low : ℕ
  pub paused : Bool
  pub eof : Bool
  pub ended : Bool
  pub whole : Bool

-- a writer to which nothing was written
abbrev pub new_writer : (whole : Bool) → Writer
new_writer whole =
    record { unsent = []; high = 65536; low = 16384; paused = false; eof = false; ended = false; whole = whole }

abbrev pub is_nothing : List ℕ → Bool
is_nothing bytes = length bytes == 0

-- ---- what is offered to the outside
-- the most bytes that one call offers
abbrev pub most_offered : ℕ
most_offered = 65536

abbrev pub offer : Writer → List ℕ
offer w = take most_offered w.unsent

-- ---- the marks
-- writing is paused where more than the high mark is unsent
abbrev pub paused_over : Writer → Writer
paused_over w = record w { paused = w.paused || nat_lt w.high (length w.unsent) }

-- where at most so much is unsent, writing resumes
abbrev pub resume_mark : Writer → ℕ
resume_mark w = if w.whole then 0 else w.low

abbrev pub resumed_under : Writer → Writer
resumed_under w = if nat_le (length w.unsent) (resume_mark w) then record w { paused = false } else w

-- ---- a piece is written
abbrev pub put_answer : List ℕ → Writer → Put
put_answer piece w =
    if w.eof then AfterEof
    else (if is_nothing piece then Empty
    else (if w.ended then Dropped
    else (if is_nothing w.unsent then Offer else Kept)))

abbrev pub with_piece : List ℕ → Writer → Writer
with_piece piece w = record w { unsent = w.unsent ++ piece }

abbrev pub put_as : Put → List ℕ → Writer → Writer
put_as Offer piece w = with_piece piece w
put_as Kept piece w = paused_over (with_piece piece w)
put_as Empty piece w = w
put_as AfterEof piece w = w
put_as Dropped piece w = w

-- what of a piece is written: all of it, unless it is refused, empty or dropped
abbrev pub written_of : Put → List ℕ → List ℕ
written_of Offer piece = piece
written_of Kept piece = piece
written_of Empty piece = []
written_of AfterEof piece = []
written_of Dropped piece = []

-- A piece that is to be offered is tested against the marks by the `took` that follows it.
abbrev pub put : List ℕ → Writer → Writer
put piece w = put_as (put_answer piece w) piece w

-- The outside took so many of the bytes that were offered; none, where it could not take any.
abbrev pub took : ℕ → Writer → Writer
took count w = resumed_under (paused_over (record w { unsent = drop count w.unsent }))

-- ---- the end
abbrev pub set_eof : Writer → Writer
set_eof w = record w { eof = true }

-- loss is scheduled: what is unsent is dropped
abbrev pub set_ended : Writer → Writer
set_ended w = record w { unsent = []; ended = true }

-- ---- new marks
abbrev pub most_high : ℕ
most_high = 2147483647

-- the high and the low mark, where they may be
abbrev pub checked_marks : (high low : ℕ) → Option (ℕ × ℕ)
checked_marks high low = if nat_le low high && nat_le high most_high then Some (high, low) else None

abbrev pub natural : ℤ → Option ℕ
natural (pos number) = Some number
natural (negsuc number) = None

-- The marks that are asked for: `high` defaults to four times `low`, and `low` to a quarter of `high`.
abbrev pub marks_of : (high low : Option ℤ) → Option (ℕ × ℕ)
marks_of None None = checked_marks 65536 16384
marks_of None (Some low) = option_and_then (λ mark. checked_marks (4 * mark) mark) (natural low)
marks_of (Some high) None = option_and_then (λ mark. checked_marks mark (mark / 4)) (natural high)
marks_of (Some high) (Some low) =
    option_and_then (λ above. option_and_then (λ below. checked_marks above below) (natural low)) (natural high)

abbrev pub limited_by : Option (ℕ × ℕ) → Limited
limited_by None = BadLimits
limited_by (Some marks) = Set

abbrev pub with_marks : Option (ℕ × ℕ) → Writer → Writer
with_marks None w = w
with_marks (Some marks) w = paused_over (record w { high = marks.0; low = marks.1 })

abbrev pub limits_answer : (high low : Option ℤ) → Limited
limits_answer high low = limited_by (marks_of high low)

-- Marks that are refused leave those that stood.
abbrev pub limits : (high low : Option ℤ) → Writer → Writer
limits high low w = with_marks (marks_of high low) w
