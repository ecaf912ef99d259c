-- Scripts with `with timeout`. Times are in milliseconds.
use Rattle.std.specs.Prelude.{ℕ, pos, true, List, [], ◌∷◌, Some, codes}
use Rattle.model_value.specs.declared.kind.Kind.TheVariants as kind
use Rattle.model_value.specs.Number.{most}
use Rattle.model_value.specs.Value.{Nothing, Truth, Int, Text, Exception, exception_of}
use Rattle.model_wire.specs.declared.event.End.TheVariants.{Returned}
use Rattle.row_machine.specs.Reading.{Seen, text, prints}

abbrev pub two_in_one_turn_text : List ℕ
two_in_one_turn_text =
    text
    (codes "def main()"
    ∷ codes "  try"
    ∷ codes "    with timeout(10) as a"
    ∷ codes "      try"
    ∷ codes "        with timeout(10) as b"
    ∷ codes "          yield from sleep(100)"
    ∷ codes "        end"
    ∷ codes "      except CancelledError as e"
    ∷ codes "        print \"inner passed\""
    ∷ codes "        raise e"
    ∷ codes "      end"
    ∷ codes "    end"
    ∷ codes "  except TimeoutError"
    ∷ codes "    x = yield from expired(b)"
    ∷ codes "    print \"outer\", x"
    ∷ codes "  end"
    ∷ codes "end" ∷ [])

abbrev pub two_in_one_turn_seen : Seen
two_in_one_turn_seen =
    record {
      lines =
          prints 0 (Text (codes "inner passed") ∷ [])
          ∷ prints 0 (Text (codes "outer") ∷ Truth true ∷ []) ∷ [];
      waits = Some 0 ∷ Some 10 ∷ Some 0 ∷ Some 0 ∷ [];
      end = Returned Nothing;
    }

abbrev pub greatest_deadline_text : List ℕ
greatest_deadline_text =
    text
    (codes "def main()"
    ∷ codes "  try"
    ∷ codes "    with timeout(9223372036854775807) as o"
    ∷ codes "      f = yield from future()"
    ∷ codes "      yield from f"
    ∷ codes "    end"
    ∷ codes "  except TimeoutError"
    ∷ codes "    t = yield from time()"
    ∷ codes "    print \"late\", t"
    ∷ codes "  end"
    ∷ codes "end" ∷ [])

abbrev pub greatest_deadline_seen : Seen
greatest_deadline_seen =
    record {
      lines =
          prints 0 (Text (codes "late") ∷ Int (pos most) ∷ []) ∷ [];
      waits = Some 0 ∷ Some 86400000 ∷ Some 0 ∷ Some 0 ∷ [];
      end = Returned Nothing;
    }

abbrev pub reschedule_finished_text : List ℕ
reschedule_finished_text =
    text
    (codes "def main()"
    ∷ codes "  with timeout(None) as t"
    ∷ codes "    pass"
    ∷ codes "  end"
    ∷ codes "  try"
    ∷ codes "    yield from reschedule(t, 5)"
    ∷ codes "  except RuntimeError as e"
    ∷ codes "    print e"
    ∷ codes "  end"
    ∷ codes "end" ∷ [])

abbrev pub reschedule_finished_seen : Seen
reschedule_finished_seen =
    record {
      lines =
          prints 0 (Exception (exception_of kind.RuntimeError (codes "Cannot change state of finished Timeout")) ∷ []) ∷ [];
      waits = Some 0 ∷ Some 0 ∷ [];
      end = Returned Nothing;
    }

abbrev pub reschedule_while_firing_is_pending_text : List ℕ
reschedule_while_firing_is_pending_text =
    text
    (codes "def s(o)"
    ∷ codes "  yield from sleep(9)"
    ∷ codes "  yield from reschedule(o, 50)"
    ∷ codes "  print \"later\""
    ∷ codes "end"
    ∷ codes "def main()"
    ∷ codes "  with timeout(10) as o"
    ∷ codes "    yield from spawn(s, o)"
    ∷ codes "    yield from sleep(20)"
    ∷ codes "    print \"slept\""
    ∷ codes "  end"
    ∷ codes "end" ∷ [])

abbrev pub reschedule_while_firing_is_pending_seen : Seen
reschedule_while_firing_is_pending_seen =
    record {
      lines =
          prints 1 (Text (codes "later") ∷ [])
          ∷ prints 0 (Text (codes "slept") ∷ []) ∷ [];
      waits = Some 0 ∷ Some 0 ∷ Some 9 ∷ Some 0 ∷ Some 10 ∷ Some 0 ∷ Some 0 ∷ [];
      end = Returned Nothing;
    }

abbrev pub swallowed_cancel_text : List ℕ
swallowed_cancel_text =
    text
    (codes "def main()"
    ∷ codes "  try"
    ∷ codes "    with timeout(10) as o"
    ∷ codes "      try"
    ∷ codes "        yield from sleep(100)"
    ∷ codes "      except CancelledError"
    ∷ codes "        print \"swallowed\""
    ∷ codes "      end"
    ∷ codes "    end"
    ∷ codes "    x = yield from expired(o)"
    ∷ codes "    t = yield from current()"
    ∷ codes "    n = yield from cancelling(t)"
    ∷ codes "    print x, n"
    ∷ codes "  except TimeoutError"
    ∷ codes "    print \"late\""
    ∷ codes "  end"
    ∷ codes "end" ∷ [])

abbrev pub swallowed_cancel_seen : Seen
swallowed_cancel_seen =
    record {
      lines =
          prints 0 (Text (codes "swallowed") ∷ [])
          ∷ prints 0 (Truth true ∷ Int (pos 0) ∷ []) ∷ [];
      waits = Some 0 ∷ Some 10 ∷ Some 0 ∷ Some 0 ∷ [];
      end = Returned Nothing;
    }
