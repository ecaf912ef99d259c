-- Scripts whose jobs are done beside the loop.
use Rattle.std.specs.Prelude.{ℕ, pos, List, [], ◌∷◌, Some, None, codes}
use Rattle.model_value.specs.declared.kind.Kind.TheVariants as kind
use Rattle.model_value.specs.Value.{Nothing, Bytes, Exception, exception_of}
use Rattle.model_wire.specs.declared.answer.Answer.TheVariants as answer
use Rattle.model_wire.specs.declared.item.Item.TheVariants as item
use Rattle.model_wire.specs.declared.call.Call.TheVariants as call
use Rattle.model_wire.specs.declared.watch.Watch.TheVariants as watch
use Rattle.model_wire.specs.declared.event.End.TheVariants.{Returned}
use Rattle.model_wire.specs.declared.event.Event.TheVariants as event
use Rattle.model_wire.specs.Call.{Call}
use Rattle.model_wire.specs.Event.{Event}
use Rattle.model_wire.specs.Journal.{Entry, Answered}
use Rattle.model_wire.specs.Trace.{End}
use Rattle.model_machine.specs.Run.{Run}
use Rattle.model_program.specs.Runs.{run}
use Rattle.row_reach.specs.Reading.{PrintedLine, lines_of, prints, program_of, text}

-- what was asked
abbrev pub calls_of : List Event → List Call
calls_of [] = []
calls_of (event.Called call ∷ events) = call ∷ calls_of events
calls_of (_ ∷ events) = calls_of events

pub record Asked : Type 0 where
  pub lines : List PrintedLine
  pub calls : List Call
  pub end : End

abbrev pub asked_of : Run → Asked
asked_of it = record { lines = lines_of it.events; calls = calls_of it.events; end = it.end }

abbrev pub asked : List ℕ → List Entry → Asked
asked script journal = asked_of (run (program_of script) journal 1000)

abbrev pub selects : Call
selects = call.Select (Some 0) []

abbrev pub asks : Call
asks = call.Extra (pos 300) (codes "1 abc")

-- ---- a job that is done
abbrev pub done_text : List ℕ
done_text =
    text
    (codes "def main()"
    ∷ codes "  r = yield from extra(300, [1, b\"abc\"])"
    ∷ codes "  print r"
    ∷ codes "end" ∷ [])

abbrev pub done_journal : List Entry
done_journal =
    Answered (answer.Turn 0 [])
    ∷ Answered (answer.Extra (codes "0"))
    ∷ Answered (answer.Turn 0 (item.Extra (pos 300) (codes "0 cba") ∷ []))
    ∷ Answered (answer.Turn 0 [])
    ∷ Answered (answer.Turn 0 []) ∷ []

abbrev pub done_asked : Asked
done_asked =
    record {
      lines = prints 0 (Bytes (codes "cba") ∷ []) ∷ [];
      calls = selects ∷ asks ∷ call.Select None (watch.Extra ∷ []) ∷ selects ∷ selects ∷ [];
      end = Returned Nothing;
    }

-- ---- a job that is refused
abbrev pub refused_text : List ℕ
refused_text =
    text
    (codes "def main()"
    ∷ codes "  try"
    ∷ codes "    r = yield from extra(300, [1, b\"abc\"])"
    ∷ codes "    print r"
    ∷ codes "  except OSError as e"
    ∷ codes "    print e"
    ∷ codes "  end"
    ∷ codes "end" ∷ [])

abbrev pub refused_journal : List Entry
refused_journal = Answered (answer.Turn 0 []) ∷ Answered answer.Refused ∷ Answered (answer.Turn 0 []) ∷ []

abbrev pub refused_asked : Asked
refused_asked =
    record {
      lines = prints 0 (Exception (exception_of kind.OSError (codes "extra refused")) ∷ []) ∷ [];
      calls = selects ∷ asks ∷ selects ∷ [];
      end = Returned Nothing;
    }
