-- `readline` by `readuntil`: what it makes of each answer, where the first newline stands there, if one is held. What came
-- before the end is given, and a line that is too long is removed: up to its newline, or all that is held.
-- Source: `streams.py`, StreamReader.readline.
use Rattle.std.specs.Prelude.{ℕ, ◌+◌, [], Option, Some, None, drop, length}
use Rattle.model_value.specs.declared.kind.Kind.{Kind}
use Rattle.model_value.specs.declared.kind.Kind.TheVariants.{IncompleteReadError, LimitOverrunError}
use Rattle.model_value.specs.Value.{Exc, kind_of, text_of}
use Rattle.model_stream.specs.declared.read_op.Taken.TheVariants.{Bytes, Raises, Needs}
use Rattle.model_stream.specs.Reading.{Reading, Take, gives, removes}

abbrev pub turned : Kind → Exc → (newline_at : Option ℕ) → Reading → Take → Take
turned IncompleteReadError fault at r t = gives (length r.held) r.held
turned LimitOverrunError fault (Some at) r t = removes (text_of fault) (drop (at + 1) r.held)
turned LimitOverrunError fault None r t = removes (text_of fault) []
turned _ fault at r t = t

abbrev pub line_by : (newline_at : Option ℕ) → Reading → Take → Take
line_by at r t = elim t.answer [ Bytes bytes ↦ t | Raises fault ↦ turned (kind_of fault) fault at r t | Needs ↦ t ]
