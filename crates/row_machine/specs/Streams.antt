-- Scripts of connections, over answers that were written by hand.
use Rattle.std.specs.Prelude.{ℕ, true, false, List, [], ◌∷◌, Some, None, codes, map}
use Rattle.model_value.specs.declared.kind.Kind.TheVariants as kind
use Rattle.model_value.specs.Value.{Nothing, Bytes, Text, Exception, exception_of}
use Rattle.model_wire.specs.declared.answer.Answer.TheVariants as answer
use Rattle.model_wire.specs.declared.call.Call.TheVariants as call
use Rattle.model_wire.specs.declared.event.End.TheVariants.{Returned}
use Rattle.model_wire.specs.declared.event.Event.TheVariants as event
use Rattle.model_wire.specs.declared.item.Item.TheVariants as item
use Rattle.model_wire.specs.declared.item.Readiness.TheVariants as ready
use Rattle.model_wire.specs.declared.watch.Watch.TheVariants as watch
use Rattle.model_wire.specs.Call.{Answer, Call}
use Rattle.model_wire.specs.Event.{Event}
use Rattle.model_wire.specs.Journal.{Answered}
use Rattle.model_wire.specs.Trace.{End}
use Rattle.model_says.specs.Says.{step_limit}
use Rattle.model_machine.specs.Run.{Run, run_on}
use Rattle.model_machine.specs.State.{start}
use Rattle.model_program.specs.Added.{added, first_added}
use Rattle.model_program.specs.Runs.{run}
use Rattle.row_machine.specs.Reading.{PrintedLine, lines_of, prints, program_of, text}

-- what a row compares: the calls in order, what was printed, and the end
pub record Outcome : Type 0 where
  pub calls : List Call
  pub lines : List PrintedLine
  pub end : End

abbrev pub calls_of : List Event → List Call
calls_of [] = []
calls_of (event.Called call ∷ events) = call ∷ calls_of events
calls_of (_ ∷ events) = calls_of events

abbrev pub outcome_of : Run → Outcome
outcome_of it = record { calls = calls_of it.events; lines = lines_of it.events; end = it.end }

abbrev pub over : List ℕ → List Answer → Outcome
over text answers = outcome_of (run (program_of text) (map Answered answers) 1000)

-- the same where so few of each kind can be numbered
abbrev pub over_few : ℕ → List ℕ → List Answer → Outcome
over_few most text answers =
    outcome_of
    (run_on step_limit added 1000 1000 (start most first_added (program_of text) (map Answered answers)))

-- A listener accepts a connection, whose handler reads a line and closes it; then the listener is closed.
abbrev pub listener_text : List ℕ
listener_text =
    text
    (codes "def h(c)"
    ∷ codes "  d = yield from readline(c)"
    ∷ codes "  print d"
    ∷ codes "  yield from close(c)"
    ∷ codes "  yield from wait_closed(c)"
    ∷ codes "end"
    ∷ codes "def main()"
    ∷ codes "  s = yield from listen(9, h)"
    ∷ codes "  yield from sleep(5)"
    ∷ codes "  yield from close(s)"
    ∷ codes "end" ∷ [])

abbrev pub listener_answers : List Answer
listener_answers =
    answer.Turn 0 ([])
    ∷ answer.Done
    ∷ answer.Turn 1 (item.ReadableServer 0 ∷ [])
    ∷ answer.Conn
    ∷ answer.Again
    ∷ answer.Turn 1 ([])
    ∷ answer.Turn 2 (item.Ready 0 ready.Read ∷ [])
    ∷ answer.Data (codes "ab\ncd")
    ∷ answer.Turn 2 ([])
    ∷ answer.Turn 2 ([])
    ∷ answer.Done
    ∷ answer.Turn 5 ([])
    ∷ answer.Turn 5 ([])
    ∷ answer.Done
    ∷ answer.Turn 5 ([]) ∷ []

abbrev pub listener_seen : Outcome
listener_seen =
    record {
      calls =
          call.Select (Some 0) ([])
          ∷ call.Listen 9
          ∷ call.Select (Some 5) (watch.Server 0 ∷ [])
          ∷ call.Accept 0
          ∷ call.Accept 0
          ∷ call.Select (Some 0) (watch.Server 0 ∷ [])
          ∷ call.Select (Some 0) (watch.Server 0 ∷ watch.Conn 0 true false ∷ [])
          ∷ call.Recv 0
          ∷ call.Select (Some 0) (watch.Server 0 ∷ watch.Conn 0 true false ∷ [])
          ∷ call.Select (Some 0) (watch.Server 0 ∷ [])
          ∷ call.Close 0
          ∷ call.Select (Some 0) (watch.Server 0 ∷ [])
          ∷ call.Select (Some 0) (watch.Server 0 ∷ [])
          ∷ call.CloseServer 0
          ∷ call.Select (Some 0) ([]) ∷ [];
      lines =
          prints 1 (Bytes (codes "ab\n") ∷ [])
          ∷ [];
      end = Returned Nothing;
    }

-- Writing the end passes it on at once where nothing is unsent; no write follows it, not even of nothing.
abbrev pub write_after_eof_text : List ℕ
write_after_eof_text =
    text
    (codes "def main()"
    ∷ codes "  c = yield from connect(9)"
    ∷ codes "  yield from write_eof(c)"
    ∷ codes "  try"
    ∷ codes "    yield from write(c, b\"\")"
    ∷ codes "  except RuntimeError as e"
    ∷ codes "    print e"
    ∷ codes "  end"
    ∷ codes "  yield from close(c)"
    ∷ codes "  yield from wait_closed(c)"
    ∷ codes "end" ∷ [])

abbrev pub write_after_eof_answers : List Answer
write_after_eof_answers =
    answer.Turn 0 ([])
    ∷ answer.Conn
    ∷ answer.Turn 0 (item.Up 0 ∷ [])
    ∷ answer.Turn 0 ([])
    ∷ answer.Done
    ∷ answer.Turn 0 ([])
    ∷ answer.Done
    ∷ answer.Turn 0 ([])
    ∷ answer.Turn 0 ([]) ∷ []

abbrev pub write_after_eof_seen : Outcome
write_after_eof_seen =
    record {
      calls =
          call.Select (Some 0) ([])
          ∷ call.Connect 9
          ∷ call.Select None (watch.Making 0 ∷ [])
          ∷ call.Select (Some 0) ([])
          ∷ call.Shut 0
          ∷ call.Select (Some 0) ([])
          ∷ call.Close 0
          ∷ call.Select (Some 0) ([])
          ∷ call.Select (Some 0) ([]) ∷ [];
      lines =
          prints 0 (Exception (exception_of kind.RuntimeError (codes "Cannot call write() after write_eof()")) ∷ [])
          ∷ [];
      end = Returned Nothing;
    }

-- A connect is refused, and so is a listen; a port is a number from 1 to 65,535.
abbrev pub refused_text : List ℕ
refused_text =
    text
    (codes "def h(c)"
    ∷ codes "end"
    ∷ codes "def main()"
    ∷ codes "  try"
    ∷ codes "    c = yield from connect(9)"
    ∷ codes "  except ConnectionRefusedError as e"
    ∷ codes "    print e"
    ∷ codes "  end"
    ∷ codes "  try"
    ∷ codes "    s = yield from listen(9, h)"
    ∷ codes "  except OSError as e"
    ∷ codes "    print e"
    ∷ codes "  end"
    ∷ codes "  try"
    ∷ codes "    c = yield from connect(65536)"
    ∷ codes "  except ValueError as e"
    ∷ codes "    print e"
    ∷ codes "  end"
    ∷ codes "  try"
    ∷ codes "    c = yield from connect(\"9\")"
    ∷ codes "  except TypeError as e"
    ∷ codes "    print e"
    ∷ codes "  end"
    ∷ codes "end" ∷ [])

abbrev pub refused_answers : List Answer
refused_answers =
    answer.Turn 0 ([])
    ∷ answer.Refused
    ∷ answer.Refused
    ∷ answer.Turn 0 ([]) ∷ []

abbrev pub refused_seen : Outcome
refused_seen =
    record {
      calls =
          call.Select (Some 0) ([])
          ∷ call.Connect 9
          ∷ call.Listen 9
          ∷ call.Select (Some 0) ([]) ∷ [];
      lines =
          prints 0 (Exception (exception_of kind.ConnectionRefusedError (codes "connect refused")) ∷ [])
          ∷ prints 0 (Exception (exception_of kind.OSError (codes "listen refused")) ∷ [])
          ∷ prints 0 (Exception (exception_of kind.ValueError (codes "port")) ∷ [])
          ∷ prints 0 (Exception (exception_of kind.TypeError (codes "bad argument")) ∷ [])
          ∷ [];
      end = Returned Nothing;
    }

-- A handler that fails closes its connection.
abbrev pub failing_handler_text : List ℕ
failing_handler_text =
    text
    (codes "def h(c)"
    ∷ codes "  raise error(ValueError, \"no\")"
    ∷ codes "end"
    ∷ codes "def main()"
    ∷ codes "  s = yield from listen(9, h)"
    ∷ codes "  yield from sleep(2)"
    ∷ codes "end" ∷ [])

abbrev pub failing_handler_answers : List Answer
failing_handler_answers =
    answer.Turn 0 ([])
    ∷ answer.Done
    ∷ answer.Turn 0 (item.ReadableServer 0 ∷ [])
    ∷ answer.Conn
    ∷ answer.Again
    ∷ answer.Turn 0 ([])
    ∷ answer.Turn 0 ([])
    ∷ answer.Turn 0 ([])
    ∷ answer.Turn 0 ([])
    ∷ answer.Done
    ∷ answer.Turn 2 ([])
    ∷ answer.Turn 2 ([])
    ∷ answer.Turn 2 ([]) ∷ []

abbrev pub failing_handler_seen : Outcome
failing_handler_seen =
    record {
      calls =
          call.Select (Some 0) ([])
          ∷ call.Listen 9
          ∷ call.Select (Some 2) (watch.Server 0 ∷ [])
          ∷ call.Accept 0
          ∷ call.Accept 0
          ∷ call.Select (Some 0) (watch.Server 0 ∷ [])
          ∷ call.Select (Some 0) (watch.Server 0 ∷ watch.Conn 0 true false ∷ [])
          ∷ call.Select (Some 0) (watch.Server 0 ∷ watch.Conn 0 true false ∷ [])
          ∷ call.Select (Some 0) (watch.Server 0 ∷ [])
          ∷ call.Close 0
          ∷ call.Select (Some 2) (watch.Server 0 ∷ [])
          ∷ call.Select (Some 0) (watch.Server 0 ∷ [])
          ∷ call.Select (Some 0) (watch.Server 0 ∷ []) ∷ [];
      lines =
          [];
      end = Returned Nothing;
    }

-- A connect that is cancelled while its connection is being made closes it.
abbrev pub dropped_text : List ℕ
dropped_text =
    text
    (codes "def w()"
    ∷ codes "  c = yield from connect(9)"
    ∷ codes "end"
    ∷ codes "def main()"
    ∷ codes "  t = yield from spawn(w)"
    ∷ codes "  yield"
    ∷ codes "  yield"
    ∷ codes "  yield from cancel(t)"
    ∷ codes "  yield from sleep(1)"
    ∷ codes "end" ∷ [])

abbrev pub dropped_answers : List Answer
dropped_answers =
    answer.Turn 0 ([])
    ∷ answer.Turn 0 ([])
    ∷ answer.Conn
    ∷ answer.Turn 0 ([])
    ∷ answer.Turn 0 ([])
    ∷ answer.Done
    ∷ answer.Turn 1 ([])
    ∷ answer.Turn 1 ([])
    ∷ answer.Turn 1 ([]) ∷ []

abbrev pub dropped_seen : Outcome
dropped_seen =
    record {
      calls =
          call.Select (Some 0) ([])
          ∷ call.Select (Some 0) ([])
          ∷ call.Connect 9
          ∷ call.Select (Some 0) (watch.Making 0 ∷ [])
          ∷ call.Select (Some 0) (watch.Making 0 ∷ [])
          ∷ call.Close 0
          ∷ call.Select (Some 1) ([])
          ∷ call.Select (Some 0) ([])
          ∷ call.Select (Some 0) ([]) ∷ [];
      lines =
          [];
      end = Returned Nothing;
    }

-- A read that is given up leaves its place: the next read waits in its stead.
abbrev pub given_up_text : List ℕ
given_up_text =
    text
    (codes "def main()"
    ∷ codes "  c = yield from connect(9)"
    ∷ codes "  try"
    ∷ codes "    with timeout(1) as o"
    ∷ codes "      d = yield from read(c, 5)"
    ∷ codes "    end"
    ∷ codes "  except TimeoutError"
    ∷ codes "    print \"late\""
    ∷ codes "  end"
    ∷ codes "  d = yield from read(c, 5)"
    ∷ codes "  print d"
    ∷ codes "end" ∷ [])

abbrev pub given_up_answers : List Answer
given_up_answers =
    answer.Turn 0 ([])
    ∷ answer.Conn
    ∷ answer.Turn 0 (item.Up 0 ∷ [])
    ∷ answer.Turn 0 ([])
    ∷ answer.Turn 1 ([])
    ∷ answer.Turn 1 ([])
    ∷ answer.Turn 2 (item.Ready 0 ready.Read ∷ [])
    ∷ answer.Data (codes "abc")
    ∷ answer.Turn 2 ([])
    ∷ answer.Turn 2 ([]) ∷ []

abbrev pub given_up_seen : Outcome
given_up_seen =
    record {
      calls =
          call.Select (Some 0) ([])
          ∷ call.Connect 9
          ∷ call.Select None (watch.Making 0 ∷ [])
          ∷ call.Select (Some 0) ([])
          ∷ call.Select (Some 1) (watch.Conn 0 true false ∷ [])
          ∷ call.Select (Some 0) (watch.Conn 0 true false ∷ [])
          ∷ call.Select None (watch.Conn 0 true false ∷ [])
          ∷ call.Recv 0
          ∷ call.Select (Some 0) (watch.Conn 0 true false ∷ [])
          ∷ call.Select (Some 0) (watch.Conn 0 true false ∷ []) ∷ [];
      lines =
          prints 0 (Text (codes "late") ∷ [])
          ∷ prints 0 (Bytes (codes "abc") ∷ [])
          ∷ [];
      end = Returned Nothing;
    }

-- Where no more can be numbered, the outside is not asked.
abbrev pub numbered_text : List ℕ
numbered_text =
    text
    (codes "def h(c)"
    ∷ codes "end"
    ∷ codes "def main()"
    ∷ codes "  s = yield from listen(1, h)"
    ∷ codes "  s = yield from listen(2, h)"
    ∷ codes "  s = yield from listen(3, h)"
    ∷ codes "  try"
    ∷ codes "    s = yield from listen(4, h)"
    ∷ codes "  except OverflowError as e"
    ∷ codes "    print e"
    ∷ codes "  end"
    ∷ codes "end" ∷ [])

abbrev pub numbered_answers : List Answer
numbered_answers =
    answer.Turn 0 ([])
    ∷ answer.Done
    ∷ answer.Done
    ∷ answer.Done
    ∷ answer.Turn 0 ([]) ∷ []

abbrev pub numbered_seen : Outcome
numbered_seen =
    record {
      calls =
          call.Select (Some 0) ([])
          ∷ call.Listen 1
          ∷ call.Listen 2
          ∷ call.Listen 3
          ∷ call.Select (Some 0) (watch.Server 0 ∷ watch.Server 1 ∷ watch.Server 2 ∷ []) ∷ [];
      lines =
          prints 0 (Exception (exception_of kind.OverflowError (codes "out of range")) ∷ [])
          ∷ [];
      end = Returned Nothing;
    }

-- Over its high mark a writer is paused, and a drain waits until at most the low mark is unsent.
abbrev pub drained_text : List ℕ
drained_text =
    text
    (codes "def main()"
    ∷ codes "  c = yield from connect(9)"
    ∷ codes "  yield from limits(c, 4, 2)"
    ∷ codes "  yield from write(c, b\"abcdefghij\")"
    ∷ codes "  yield from drain(c)"
    ∷ codes "  print \"drained\""
    ∷ codes "end" ∷ [])

abbrev pub drained_answers : List Answer
drained_answers =
    answer.Turn 0 ([])
    ∷ answer.Conn
    ∷ answer.Turn 0 (item.Up 0 ∷ [])
    ∷ answer.Turn 0 ([])
    ∷ answer.Took 1
    ∷ answer.Turn 0 (item.Ready 0 ready.Write ∷ [])
    ∷ answer.Took 8
    ∷ answer.Turn 0 ([])
    ∷ answer.Turn 0 ([]) ∷ []

abbrev pub drained_seen : Outcome
drained_seen =
    record {
      calls =
          call.Select (Some 0) ([])
          ∷ call.Connect 9
          ∷ call.Select None (watch.Making 0 ∷ [])
          ∷ call.Select (Some 0) ([])
          ∷ call.Send 0 (codes "abcdefghij")
          ∷ call.Select None (watch.Conn 0 true true ∷ [])
          ∷ call.Send 0 (codes "bcdefghij")
          ∷ call.Select (Some 0) (watch.Conn 0 true true ∷ [])
          ∷ call.Select (Some 0) (watch.Conn 0 true true ∷ []) ∷ [];
      lines =
          prints 0 (Text (codes "drained") ∷ [])
          ∷ [];
      end = Returned Nothing;
    }
