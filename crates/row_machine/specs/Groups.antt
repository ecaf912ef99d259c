-- Scripts with `with group`.
use Rattle.std.specs.Prelude.{ℕ, pos, List, [], ◌∷◌, Some, codes}
use Rattle.model_value.specs.declared.kind.Kind.TheVariants as kind
use Rattle.model_value.specs.Value.{Int, Text, Exception, Exc, Nothing, exc, excs, exception_of}
use Rattle.model_wire.specs.declared.event.End.TheVariants.{Returned}
use Rattle.row_machine.specs.Reading.{Seen, text, prints}

-- what a group raises
abbrev pub group_error : List Exc → Exc
group_error errors = exc kind.ExceptionGroup (codes "unhandled errors in a TaskGroup") [] (excs errors)

abbrev pub value_error : List ℕ → Exc
value_error text = exception_of kind.ValueError text

abbrev pub child_fails_while_exit_waits_text : List ℕ
child_fails_while_exit_waits_text =
    text
    (codes "def bad()"
    ∷ codes "  yield"
    ∷ codes "  raise error(ValueError, \"a\")"
    ∷ codes "end"
    ∷ codes "def main()"
    ∷ codes "  t = yield from current()"
    ∷ codes "  try"
    ∷ codes "    with group as g"
    ∷ codes "      yield from create(g, bad)"
    ∷ codes "    end"
    ∷ codes "  except ExceptionGroup as e"
    ∷ codes "    n = yield from cancelling(t)"
    ∷ codes "    print e, n"
    ∷ codes "  end"
    ∷ codes "end" ∷ [])

abbrev pub child_fails_while_exit_waits_seen : Seen
child_fails_while_exit_waits_seen =
    record {
      lines =
          prints 0 (Exception (group_error (value_error (codes "a") ∷ [])) ∷ Int (pos 1) ∷ []) ∷ [];
      waits = Some 0 ∷ Some 0 ∷ Some 0 ∷ Some 0 ∷ Some 0 ∷ Some 0 ∷ [];
      end = Returned Nothing;
    }

abbrev pub children_and_body_fail_text : List ℕ
children_and_body_fail_text =
    text
    (codes "def bad(s)"
    ∷ codes "  raise error(ValueError, s)"
    ∷ codes "end"
    ∷ codes "def main()"
    ∷ codes "  try"
    ∷ codes "    with group as g"
    ∷ codes "      yield from create(g, bad, \"a\")"
    ∷ codes "      yield from create(g, bad, \"b\")"
    ∷ codes "      yield"
    ∷ codes "      raise error(TypeError, \"c\")"
    ∷ codes "    end"
    ∷ codes "  except ExceptionGroup as e"
    ∷ codes "    print e"
    ∷ codes "  end"
    ∷ codes "end" ∷ [])

abbrev pub children_and_body_fail_seen : Seen
children_and_body_fail_seen =
    record {
      lines =
          prints 0 (Exception (group_error (value_error (codes "a") ∷ value_error (codes "b") ∷ exception_of kind.TypeError (codes "c") ∷ [])) ∷ []) ∷ [];
      waits = Some 0 ∷ Some 0 ∷ Some 0 ∷ Some 0 ∷ Some 0 ∷ [];
      end = Returned Nothing;
    }

abbrev pub outer_cancel_and_child_failure_text : List ℕ
outer_cancel_and_child_failure_text =
    text
    (codes "def bad()"
    ∷ codes "  yield from sleep(10)"
    ∷ codes "  raise error(ValueError, \"a\")"
    ∷ codes "end"
    ∷ codes "def work()"
    ∷ codes "  with group as g"
    ∷ codes "    yield from create(g, bad)"
    ∷ codes "    yield from sleep(100)"
    ∷ codes "  end"
    ∷ codes "end"
    ∷ codes "def main()"
    ∷ codes "  w = yield from spawn(work)"
    ∷ codes "  yield from sleep(10)"
    ∷ codes "  yield from cancel(w)"
    ∷ codes "  try"
    ∷ codes "    yield from w"
    ∷ codes "  except ExceptionGroup as e"
    ∷ codes "    print e"
    ∷ codes "  end"
    ∷ codes "end" ∷ [])

abbrev pub outer_cancel_and_child_failure_seen : Seen
outer_cancel_and_child_failure_seen =
    record {
      lines =
          prints 0 (Exception (group_error (value_error (codes "a") ∷ [])) ∷ []) ∷ [];
      waits = Some 0 ∷ Some 0 ∷ Some 0 ∷ Some 10 ∷ Some 0 ∷ Some 0 ∷ Some 0 ∷ Some 0 ∷ Some 0 ∷ [];
      end = Returned Nothing;
    }

abbrev pub create_while_exiting_text : List ℕ
create_while_exiting_text =
    text
    (codes "def late()"
    ∷ codes "  print \"late\""
    ∷ codes "end"
    ∷ codes "def child(g)"
    ∷ codes "  yield"
    ∷ codes "  yield from create(g, late)"
    ∷ codes "  print \"made\""
    ∷ codes "end"
    ∷ codes "def main()"
    ∷ codes "  with group as g"
    ∷ codes "    yield from create(g, child, g)"
    ∷ codes "  end"
    ∷ codes "  try"
    ∷ codes "    yield from create(g, late)"
    ∷ codes "  except RuntimeError as e"
    ∷ codes "    print e"
    ∷ codes "  end"
    ∷ codes "end" ∷ [])

abbrev pub create_while_exiting_seen : Seen
create_while_exiting_seen =
    record {
      lines =
          prints 1 (Text (codes "made") ∷ [])
          ∷ prints 2 (Text (codes "late") ∷ [])
          ∷ prints 0 (Exception (exception_of kind.RuntimeError (codes "TaskGroup is finished")) ∷ []) ∷ [];
      waits = Some 0 ∷ Some 0 ∷ Some 0 ∷ Some 0 ∷ Some 0 ∷ Some 0 ∷ Some 0 ∷ [];
      end = Returned Nothing;
    }

abbrev pub second_cancel_while_aborting_text : List ℕ
second_cancel_while_aborting_text =
    text
    (codes "def slow()"
    ∷ codes "  try"
    ∷ codes "    yield from sleep(100)"
    ∷ codes "  except CancelledError"
    ∷ codes "    yield"
    ∷ codes "    yield"
    ∷ codes "    print \"slow\""
    ∷ codes "  end"
    ∷ codes "end"
    ∷ codes "def work()"
    ∷ codes "  with group as g"
    ∷ codes "    yield from create(g, slow)"
    ∷ codes "  end"
    ∷ codes "end"
    ∷ codes "def main()"
    ∷ codes "  w = yield from spawn(work)"
    ∷ codes "  yield"
    ∷ codes "  yield"
    ∷ codes "  yield from cancel(w)"
    ∷ codes "  yield"
    ∷ codes "  yield"
    ∷ codes "  yield from cancel(w)"
    ∷ codes "  try"
    ∷ codes "    yield from w"
    ∷ codes "  except CancelledError"
    ∷ codes "    n = yield from cancelling(w)"
    ∷ codes "    print \"cancelled\", n"
    ∷ codes "  end"
    ∷ codes "end" ∷ [])

abbrev pub second_cancel_while_aborting_seen : Seen
second_cancel_while_aborting_seen =
    record {
      lines =
          prints 2 (Text (codes "slow") ∷ [])
          ∷ prints 0 (Text (codes "cancelled") ∷ Int (pos 2) ∷ []) ∷ [];
      waits =
          Some 0 ∷ Some 0 ∷ Some 0 ∷ Some 0 ∷ Some 0 ∷ Some 0 ∷ Some 0 ∷ Some 0 ∷ Some 0 ∷ Some 0 ∷ Some 0 ∷ [];
      end = Returned Nothing;
    }

abbrev pub nested_text : List ℕ
nested_text =
    text
    (codes "def bad()"
    ∷ codes "  raise error(ValueError, \"a\")"
    ∷ codes "end"
    ∷ codes "def good()"
    ∷ codes "  try"
    ∷ codes "    yield from sleep(100)"
    ∷ codes "  finally"
    ∷ codes "    print \"good\""
    ∷ codes "  end"
    ∷ codes "end"
    ∷ codes "def main()"
    ∷ codes "  t = yield from current()"
    ∷ codes "  try"
    ∷ codes "    with group as g"
    ∷ codes "      yield from create(g, good)"
    ∷ codes "      with group as h"
    ∷ codes "        yield from create(h, bad)"
    ∷ codes "        yield from sleep(50)"
    ∷ codes "      end"
    ∷ codes "    end"
    ∷ codes "  except ExceptionGroup as e"
    ∷ codes "    n = yield from cancelling(t)"
    ∷ codes "    print e, n"
    ∷ codes "  end"
    ∷ codes "end" ∷ [])

abbrev pub nested_seen : Seen
nested_seen =
    record {
      lines =
          prints 1 (Text (codes "good") ∷ [])
          ∷ prints 0 (Exception (group_error (group_error (value_error (codes "a") ∷ []) ∷ [])) ∷ Int (pos 0) ∷ []) ∷ [];
      waits = Some 0 ∷ Some 0 ∷ Some 0 ∷ Some 0 ∷ Some 0 ∷ Some 0 ∷ Some 0 ∷ Some 0 ∷ [];
      end = Returned Nothing;
    }

abbrev pub uncancel_before_the_group_text : List ℕ
uncancel_before_the_group_text =
    text
    (codes "def bad()"
    ∷ codes "  raise error(ValueError, \"a\")"
    ∷ codes "end"
    ∷ codes "def main()"
    ∷ codes "  t = yield from current()"
    ∷ codes "  try"
    ∷ codes "    with group as g"
    ∷ codes "      yield from create(g, bad)"
    ∷ codes "      try"
    ∷ codes "        yield from sleep(50)"
    ∷ codes "      except CancelledError"
    ∷ codes "        n = yield from uncancel(t)"
    ∷ codes "        print n"
    ∷ codes "      end"
    ∷ codes "    end"
    ∷ codes "  except ExceptionGroup as e"
    ∷ codes "    n = yield from cancelling(t)"
    ∷ codes "    print e, n"
    ∷ codes "  end"
    ∷ codes "end" ∷ [])

abbrev pub uncancel_before_the_group_seen : Seen
uncancel_before_the_group_seen =
    record {
      lines =
          prints 0 (Int (pos 0) ∷ [])
          ∷ prints 0 (Exception (group_error (value_error (codes "a") ∷ [])) ∷ Int (pos 0) ∷ []) ∷ [];
      waits = Some 0 ∷ Some 0 ∷ Some 0 ∷ Some 0 ∷ Some 0 ∷ [];
      end = Returned Nothing;
    }
