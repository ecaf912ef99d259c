-- Scripts that show what a step does.
use Rattle.std.specs.Prelude.{ℕ, pos, true, false, List, [], ◌∷◌, ◌++◌, Some, codes}
use Rattle.std.specs.Fmt.{signed_decimal}
use Rattle.model_value.specs.declared.kind.Kind.TheVariants as kind
use Rattle.model_value.specs.Value.{Nothing, Truth, Int, Text, Fut, Exception, exception_of}
use Rattle.model_wire.specs.declared.event.End.TheVariants.{Returned, Raised, Runaway}
use Rattle.row_machine.specs.Reading.{Seen, text, prints}

abbrev pub frames_overflow_text : List ℕ
frames_overflow_text =
    text
    (codes "def f(n)"
    ∷ codes "  yield from f(n + 1)"
    ∷ codes "end"
    ∷ codes "def main()"
    ∷ codes "  try"
    ∷ codes "    yield from f(0)"
    ∷ codes "  except RecursionError as e"
    ∷ codes "    print e"
    ∷ codes "  end"
    ∷ codes "end" ∷ [])

abbrev pub frames_overflow_seen : Seen
frames_overflow_seen =
    record {
      lines =
          prints 0 (Exception (exception_of kind.RecursionError (codes "too many frames")) ∷ []) ∷ [];
      waits = Some 0 ∷ Some 0 ∷ [];
      end = Returned Nothing;
    }

abbrev pub finally_on_the_way_out_text : List ℕ
finally_on_the_way_out_text =
    text
    (codes "def f()"
    ∷ codes "  try"
    ∷ codes "    yield"
    ∷ codes "    raise error(ValueError, \"a\")"
    ∷ codes "  finally"
    ∷ codes "    print \"in\""
    ∷ codes "  end"
    ∷ codes "end"
    ∷ codes "def main()"
    ∷ codes "  try"
    ∷ codes "    yield from f()"
    ∷ codes "  except ValueError as e"
    ∷ codes "    print e"
    ∷ codes "  end"
    ∷ codes "end" ∷ [])

abbrev pub finally_on_the_way_out_seen : Seen
finally_on_the_way_out_seen =
    record {
      lines =
          prints 0 (Text (codes "in") ∷ [])
          ∷ prints 0 (Exception (exception_of kind.ValueError (codes "a")) ∷ []) ∷ [];
      waits = Some 0 ∷ Some 0 ∷ Some 0 ∷ [];
      end = Returned Nothing;
    }

abbrev pub extra_unknown_text : List ℕ
extra_unknown_text =
    text
    (codes "def main()"
    ∷ codes "  try"
    ∷ codes "    yield from extra(1, [])"
    ∷ codes "  except NameError as e"
    ∷ codes "    print e"
    ∷ codes "  end"
    ∷ codes "  try"
    ∷ codes "    yield from extra(1, 5)"
    ∷ codes "  except TypeError as e"
    ∷ codes "    print e"
    ∷ codes "  end"
    ∷ codes "end" ∷ [])

abbrev pub extra_unknown_seen : Seen
extra_unknown_seen =
    record {
      lines =
          prints 0 (Exception (exception_of kind.NameError (codes "extra " ++ signed_decimal (pos 1))) ∷ [])
          ∷ prints 0 (Exception (exception_of kind.TypeError (codes "bad argument")) ∷ []) ∷ [];
      waits = Some 0 ∷ Some 0 ∷ [];
      end = Returned Nothing;
    }

abbrev pub futures_text : List ℕ
futures_text =
    text
    (codes "def main()"
    ∷ codes "  f = yield from future()"
    ∷ codes "  try"
    ∷ codes "    yield from result(f)"
    ∷ codes "  except InvalidStateError as e"
    ∷ codes "    print e"
    ∷ codes "  end"
    ∷ codes "  try"
    ∷ codes "    yield from fail(f, error(CancelledError, \"x\"))"
    ∷ codes "  except TypeError as e"
    ∷ codes "    print e"
    ∷ codes "  end"
    ∷ codes "  yield from fail(f, error(ValueError, \"a\"))"
    ∷ codes "  try"
    ∷ codes "    yield from set(f, 1)"
    ∷ codes "  except InvalidStateError as e"
    ∷ codes "    print e"
    ∷ codes "  end"
    ∷ codes "  d = yield from done(f)"
    ∷ codes "  c = yield from cancelled(f)"
    ∷ codes "  print f, d, c"
    ∷ codes "  yield from f"
    ∷ codes "end" ∷ [])

abbrev pub futures_seen : Seen
futures_seen =
    record {
      lines =
          prints 0 (Exception (exception_of kind.InvalidStateError (codes "Result is not set.")) ∷ [])
          ∷ prints 0 (Exception (exception_of kind.TypeError (codes "bad argument")) ∷ [])
          ∷ prints 0 (Exception (exception_of kind.InvalidStateError (codes "invalid state")) ∷ [])
          ∷ prints 0 (Fut 0 ∷ Truth true ∷ Truth false ∷ []) ∷ [];
      waits = Some 0 ∷ Some 0 ∷ [];
      end = Raised (exception_of kind.ValueError (codes "a"));
    }

-- a loop of one turn, which begins 5 statements, and then these lines
abbrev pub counting : List (List ℕ) → List ℕ
counting lines =
    text
    (codes "def main()"
    ∷ codes "  i = 0"
    ∷ codes "  while i < 1"
    ∷ codes "    i = i + 1"
    ∷ codes "    pass"
    ∷ codes "  end"
    ∷ (lines ++ codes "end" ∷ []))

abbrev pub counted_to_the_limit : Seen
counted_to_the_limit =
    record { lines = prints 0 (Int (pos 1) ∷ []) ∷ []; waits = Some 0 ∷ Some 0 ∷ []; end = Returned Nothing }

abbrev pub ran_away : Seen
ran_away = record { lines = []; waits = Some 0 ∷ []; end = Runaway 0 }

-- three statements, which ask six times
abbrev pub three_blocks : List ℕ
three_blocks =
    text
    (codes "def main()"
    ∷ codes "  with group as g"
    ∷ codes "  end"
    ∷ codes "  with timeout(None) as o"
    ∷ codes "  end"
    ∷ codes "  with group as g"
    ∷ codes "  end"
    ∷ codes "end" ∷ [])

abbrev pub returned_at_once : Seen
returned_at_once = record { lines = []; waits = Some 0 ∷ Some 0 ∷ []; end = Returned Nothing }
