-- Scripts of children, over answers that were written by hand.
use Rattle.std.specs.Prelude.{ℕ, pos, true, false, List, [], ◌∷◌, Some, None, codes}
use Rattle.model_value.specs.declared.action.ChildItem.TheVariants as news
use Rattle.model_value.specs.declared.kind.Kind.TheVariants as kind
use Rattle.model_value.specs.Value.{Nothing, Int, Bytes, Exception, exception_of}
use Rattle.model_wire.specs.declared.answer.Answer.TheVariants as answer
use Rattle.model_wire.specs.declared.call.Call.TheVariants as call
use Rattle.model_wire.specs.declared.event.End.TheVariants.{Returned}
use Rattle.model_wire.specs.declared.item.Item.TheVariants as item
use Rattle.model_wire.specs.declared.watch.Watch.TheVariants as watch
use Rattle.model_wire.specs.Call.{Answer}
use Rattle.row_machine.specs.Reading.{prints, text}
use Rattle.row_machine.specs.Streams.{Outcome}

-- A child exits before its pipes end: the wait goes on at once, and the read of all goes on to the end of the pipe.
abbrev pub exit_first_text : List ℕ
exit_first_text =
    text
    (codes "def main()"
    ∷ codes "  p = yield from launch([\"cat\", \"x\"])"
    ∷ codes "  yield from write(p, b\"ab\")"
    ∷ codes "  yield from close(p)"
    ∷ codes "  n = yield from wait(p)"
    ∷ codes "  print n"
    ∷ codes "  d = yield from read(p, -1)"
    ∷ codes "  print d"
    ∷ codes "  e = yield from stderr(p)"
    ∷ codes "  d = yield from read(e, -1)"
    ∷ codes "  print d"
    ∷ codes "end" ∷ [])

abbrev pub exit_first_answers : List Answer
exit_first_answers =
    answer.Turn 0 ([])
    ∷ answer.Child
    ∷ answer.Took 2
    ∷ answer.Turn 0 (item.Child 0 (news.Exit (pos 3)) ∷ [])
    ∷ answer.Done
    ∷ answer.Turn 0 ([])
    ∷ answer.Turn 0 (item.Child 0 (news.Out (codes "ab")) ∷ [])
    ∷ answer.Turn 0 ([])
    ∷ answer.Turn 0 (item.Child 0 news.OutEnd ∷ [])
    ∷ answer.Turn 0 ([])
    ∷ answer.Turn 0 (item.Child 0 news.ErrsEnd ∷ [])
    ∷ answer.Turn 0 ([])
    ∷ answer.Turn 0 ([]) ∷ []

abbrev pub exit_first_seen : Outcome
exit_first_seen =
    record {
      calls =
          call.Select (Some 0) ([])
          ∷ call.Launch (codes "cat" ∷ codes "x" ∷ [])
          ∷ call.Feed 0 (codes "ab")
          ∷ call.Select (Some 0) (watch.Child 0 false true true true true ∷ [])
          ∷ call.End 0
          ∷ call.Select (Some 0) (watch.Child 0 false false true true false ∷ [])
          ∷ call.Select None (watch.Child 0 false false true true false ∷ [])
          ∷ call.Select (Some 0) (watch.Child 0 false false true true false ∷ [])
          ∷ call.Select None (watch.Child 0 false false true true false ∷ [])
          ∷ call.Select (Some 0) (watch.Child 0 false false false true false ∷ [])
          ∷ call.Select None (watch.Child 0 false false false true false ∷ [])
          ∷ call.Select (Some 0) ([])
          ∷ call.Select (Some 0) ([]) ∷ [];
      lines =
          prints 0 (Int (pos 3) ∷ [])
          ∷ prints 0 (Bytes (codes "ab") ∷ [])
          ∷ prints 0 (Bytes [] ∷ [])
          ∷ [];
      end = Returned Nothing;
    }

-- A standard input that breaks with bytes unsent is lost with an exception, which who waits for its close is thrown.
abbrev pub broken_stdin_text : List ℕ
broken_stdin_text =
    text
    (codes "def main()"
    ∷ codes "  p = yield from launch([\"x\"])"
    ∷ codes "  yield from write(p, b\"abc\")"
    ∷ codes "  try"
    ∷ codes "    yield from wait_closed(p)"
    ∷ codes "  except BrokenPipeError as e"
    ∷ codes "    print e"
    ∷ codes "  end"
    ∷ codes "end" ∷ [])

abbrev pub broken_stdin_answers : List Answer
broken_stdin_answers =
    answer.Turn 0 ([])
    ∷ answer.Child
    ∷ answer.Took 1
    ∷ answer.Turn 0 (item.Child 0 news.Broken ∷ [])
    ∷ answer.Turn 0 ([])
    ∷ answer.Done
    ∷ answer.Turn 0 ([])
    ∷ answer.Turn 0 ([]) ∷ []

abbrev pub broken_stdin_seen : Outcome
broken_stdin_seen =
    record {
      calls =
          call.Select (Some 0) ([])
          ∷ call.Launch (codes "x" ∷ [])
          ∷ call.Feed 0 (codes "abc")
          ∷ call.Select None (watch.Child 0 true true true true true ∷ [])
          ∷ call.Select (Some 0) (watch.Child 0 false true true true true ∷ [])
          ∷ call.End 0
          ∷ call.Select (Some 0) (watch.Child 0 false false true true true ∷ [])
          ∷ call.Select (Some 0) (watch.Child 0 false false true true true ∷ []) ∷ [];
      lines =
          prints 0 (Exception (exception_of kind.BrokenPipeError (codes "Connection lost")) ∷ [])
          ∷ [];
      end = Returned Nothing;
    }
