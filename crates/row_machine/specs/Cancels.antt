-- Scripts that cancel tasks.
use Rattle.std.specs.Prelude.{ℕ, pos, true, List, [], ◌∷◌, Some, codes}
use Rattle.model_value.specs.declared.kind.Kind.TheVariants as kind
use Rattle.model_value.specs.Value.{Nothing, Truth, Int, Text, Exception, exception_of}
use Rattle.model_wire.specs.declared.event.End.TheVariants.{Cancelled, Returned}
use Rattle.row_machine.specs.Reading.{Seen, text, prints}

abbrev pub goes_down_the_chain_text : List ℕ
goes_down_the_chain_text =
    text
    (codes "def inner()"
    ∷ codes "  try"
    ∷ codes "    yield from sleep(1000)"
    ∷ codes "  finally"
    ∷ codes "    t = yield from current()"
    ∷ codes "    n = yield from cancelling(t)"
    ∷ codes "    print \"inner\", n"
    ∷ codes "  end"
    ∷ codes "end"
    ∷ codes "def outer()"
    ∷ codes "  try"
    ∷ codes "    t = yield from spawn(inner)"
    ∷ codes "    yield from t"
    ∷ codes "  finally"
    ∷ codes "    t = yield from current()"
    ∷ codes "    n = yield from cancelling(t)"
    ∷ codes "    print \"outer\", n"
    ∷ codes "  end"
    ∷ codes "end"
    ∷ codes "def main()"
    ∷ codes "  o = yield from spawn(outer)"
    ∷ codes "  yield from sleep(10)"
    ∷ codes "  r = yield from cancel(o)"
    ∷ codes "  print r"
    ∷ codes "  try"
    ∷ codes "    yield from o"
    ∷ codes "  except CancelledError"
    ∷ codes "    print \"gone\""
    ∷ codes "  end"
    ∷ codes "end" ∷ [])

abbrev pub goes_down_the_chain_seen : Seen
goes_down_the_chain_seen =
    record {
      lines =
          prints 0 (Truth true ∷ [])
          ∷ prints 2 (Text (codes "inner") ∷ Int (pos 1) ∷ [])
          ∷ prints 1 (Text (codes "outer") ∷ Int (pos 1) ∷ [])
          ∷ prints 0 (Text (codes "gone") ∷ []) ∷ [];
      waits = Some 0 ∷ Some 0 ∷ Some 0 ∷ Some 10 ∷ Some 0 ∷ Some 0 ∷ Some 0 ∷ Some 0 ∷ Some 0 ∷ [];
      end = Returned Nothing;
    }

abbrev pub taken_back_text : List ℕ
taken_back_text =
    text
    (codes "def main()"
    ∷ codes "  t = yield from current()"
    ∷ codes "  yield from cancel(t)"
    ∷ codes "  n = yield from uncancel(t)"
    ∷ codes "  print n"
    ∷ codes "  try"
    ∷ codes "    yield"
    ∷ codes "    print \"on\""
    ∷ codes "  except CancelledError"
    ∷ codes "    print \"thrown\""
    ∷ codes "  end"
    ∷ codes "end" ∷ [])

abbrev pub taken_back_seen : Seen
taken_back_seen =
    record {
      lines =
          prints 0 (Int (pos 0) ∷ [])
          ∷ prints 0 (Text (codes "thrown") ∷ []) ∷ [];
      waits = Some 0 ∷ Some 0 ∷ Some 0 ∷ [];
      end = Returned Nothing;
    }

abbrev pub two_before_one_step_text : List ℕ
two_before_one_step_text =
    text
    (codes "def w()"
    ∷ codes "  try"
    ∷ codes "    yield from sleep(50)"
    ∷ codes "  except CancelledError"
    ∷ codes "    t = yield from current()"
    ∷ codes "    n = yield from cancelling(t)"
    ∷ codes "    print n"
    ∷ codes "  end"
    ∷ codes "  yield"
    ∷ codes "  print \"after\""
    ∷ codes "end"
    ∷ codes "def main()"
    ∷ codes "  a = yield from spawn(w)"
    ∷ codes "  yield"
    ∷ codes "  yield from cancel(a)"
    ∷ codes "  yield from cancel(a)"
    ∷ codes "  yield from a"
    ∷ codes "end" ∷ [])

abbrev pub two_before_one_step_seen : Seen
two_before_one_step_seen =
    record {
      lines =
          prints 1 (Int (pos 2) ∷ [])
          ∷ prints 1 (Text (codes "after") ∷ []) ∷ [];
      waits = Some 0 ∷ Some 0 ∷ Some 0 ∷ Some 0 ∷ Some 0 ∷ Some 0 ∷ [];
      end = Returned Nothing;
    }

abbrev pub await_each_other_text : List ℕ
await_each_other_text =
    text
    (codes "def a(f)"
    ∷ codes "  u = yield from f"
    ∷ codes "  yield from u"
    ∷ codes "end"
    ∷ codes "def b(x)"
    ∷ codes "  yield from x"
    ∷ codes "end"
    ∷ codes "def main()"
    ∷ codes "  f = yield from future()"
    ∷ codes "  x = yield from spawn(a, f)"
    ∷ codes "  y = yield from spawn(b, x)"
    ∷ codes "  yield from set(f, y)"
    ∷ codes "  try"
    ∷ codes "    yield from x"
    ∷ codes "  except RuntimeError as e"
    ∷ codes "    print e"
    ∷ codes "  end"
    ∷ codes "end" ∷ [])

abbrev pub await_each_other_seen : Seen
await_each_other_seen =
    record {
      lines =
          prints 0 (Exception (exception_of kind.RuntimeError (codes "Task cannot await a task that waits for it")) ∷ []) ∷ [];
      waits = Some 0 ∷ Some 0 ∷ Some 0 ∷ Some 0 ∷ Some 0 ∷ Some 0 ∷ [];
      end = Returned Nothing;
    }

abbrev pub left_behind_text : List ℕ
left_behind_text =
    text
    (codes "def w()"
    ∷ codes "  try"
    ∷ codes "    yield from sleep(1000)"
    ∷ codes "  finally"
    ∷ codes "    print \"left\""
    ∷ codes "  end"
    ∷ codes "end"
    ∷ codes "def main()"
    ∷ codes "  yield from spawn(w)"
    ∷ codes "end" ∷ [])

abbrev pub left_behind_seen : Seen
left_behind_seen =
    record {
      lines =
          prints 1 (Text (codes "left") ∷ []) ∷ [];
      waits = Some 0 ∷ Some 0 ∷ Some 0 ∷ [];
      end = Returned Nothing;
    }

abbrev pub done_text : List ℕ
done_text =
    text
    (codes "def main()"
    ∷ codes "  t = yield from current()"
    ∷ codes "  yield from cancel(t)"
    ∷ codes "  f = yield from future()"
    ∷ codes "  yield from set(f, 1)"
    ∷ codes "  x = yield from f"
    ∷ codes "  print x"
    ∷ codes "  yield"
    ∷ codes "end" ∷ [])

abbrev pub done_seen : Seen
done_seen = record { lines = prints 0 (Int (pos 1) ∷ []) ∷ []; waits = Some 0 ∷ Some 0 ∷ Some 0 ∷ []; end = Cancelled }

abbrev pub returning_text : List ℕ
returning_text =
    text
    (codes "def main()"
    ∷ codes "  t = yield from current()"
    ∷ codes "  yield from cancel(t)"
    ∷ codes "  return 1"
    ∷ codes "end" ∷ [])

abbrev pub returning_seen : Seen
returning_seen = record { lines = []; waits = Some 0 ∷ Some 0 ∷ []; end = Cancelled }
