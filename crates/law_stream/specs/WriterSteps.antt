-- What happens to a writer, step by step, and what is written and handed on in the steps.
use Rattle.std.specs.Prelude.{ℕ, ℤ, List, [], ◌∷◌, ◌++◌, Option, take}
use Rattle.model_stream.specs.Sending.{Writer, put, put_answer, written_of, took, limits, set_eof, set_ended}

pub data WriterStep : Type 0 where
  Writes : (piece : List ℕ) → WriterStep
  -- the outside took so many of the bytes that were offered
  Takes : (count : ℕ) → WriterStep
  SetsMarks : (high low : Option ℤ) → WriterStep
  WritesEnd : WriterStep
  -- loss is scheduled
  IsLost : WriterStep

abbrev pub after : WriterStep → Writer → Writer
after (Writes piece) w = put piece w
after (Takes count) w = took count w
after (SetsMarks high low) w = limits high low w
after WritesEnd w = set_eof w
after IsLost w = set_ended w

abbrev pub written_in : WriterStep → Writer → List ℕ
written_in (Writes piece) w = written_of (put_answer piece w) piece
written_in _ w = []

abbrev pub handed_in : WriterStep → Writer → List ℕ
handed_in (Takes count) w = take count w.unsent
handed_in _ w = []

abbrev pub dropped_in : WriterStep → Writer → List ℕ
dropped_in IsLost w = w.unsent
dropped_in _ w = []

-- ---- in all steps
abbrev pub after_all : List WriterStep → Writer → Writer
after_all [] w = w
after_all (step ∷ steps) w = after_all steps (after step w)

abbrev pub written : List WriterStep → Writer → List ℕ
written [] w = []
written (step ∷ steps) w = written_in step w ++ written steps (after step w)

abbrev pub handed : List WriterStep → Writer → List ℕ
handed [] w = []
handed (step ∷ steps) w = handed_in step w ++ handed steps (after step w)

abbrev pub dropped : List WriterStep → Writer → List ℕ
dropped [] w = []
dropped (step ∷ steps) w = dropped_in step w ++ dropped steps (after step w)
