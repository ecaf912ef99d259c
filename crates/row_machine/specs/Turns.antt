-- Scripts whose runs show the order of handles.
use Rattle.std.specs.Prelude.{ℕ, pos, List, [], ◌∷◌, Option, Some, codes}
use Rattle.model_value.specs.Value.{Nothing, Int, Text}
use Rattle.model_wire.specs.Trace.{End}
use Rattle.model_wire.specs.declared.event.End.TheVariants.{Returned, Stalled}
use Rattle.row_machine.specs.Reading.{Seen, text, prints}

abbrev pub first_come_first_run_text : List ℕ
first_come_first_run_text =
    text
    (codes "def w(k)"
    ∷ codes "  i = 0"
    ∷ codes "  while i < 3"
    ∷ codes "    print k, i"
    ∷ codes "    yield"
    ∷ codes "    i = i + 1"
    ∷ codes "  end"
    ∷ codes "end"
    ∷ codes "def main()"
    ∷ codes "  a = yield from spawn(w, 1)"
    ∷ codes "  b = yield from spawn(w, 2)"
    ∷ codes "  yield from a"
    ∷ codes "  yield from b"
    ∷ codes "end" ∷ [])

abbrev pub first_come_first_run_seen : Seen
first_come_first_run_seen =
    record {
      lines =
          prints 1 (Int (pos 1) ∷ Int (pos 0) ∷ [])
          ∷ prints 2 (Int (pos 2) ∷ Int (pos 0) ∷ [])
          ∷ prints 1 (Int (pos 1) ∷ Int (pos 1) ∷ [])
          ∷ prints 2 (Int (pos 2) ∷ Int (pos 1) ∷ [])
          ∷ prints 1 (Int (pos 1) ∷ Int (pos 2) ∷ [])
          ∷ prints 2 (Int (pos 2) ∷ Int (pos 2) ∷ []) ∷ [];
      waits = Some 0 ∷ Some 0 ∷ Some 0 ∷ Some 0 ∷ Some 0 ∷ Some 0 ∷ Some 0 ∷ [];
      end = Returned Nothing;
    }

abbrev pub equal_deadlines_text : List ℕ
equal_deadlines_text =
    text
    (codes "def s(d)"
    ∷ codes "  yield from sleep(d)"
    ∷ codes "  print d"
    ∷ codes "end"
    ∷ codes "def main()"
    ∷ codes "  a = yield from spawn(s, 20)"
    ∷ codes "  b = yield from spawn(s, 10)"
    ∷ codes "  c = yield from spawn(s, 10)"
    ∷ codes "  yield from a"
    ∷ codes "  yield from b"
    ∷ codes "  yield from c"
    ∷ codes "end" ∷ [])

abbrev pub equal_deadlines_seen : Seen
equal_deadlines_seen =
    record {
      lines =
          prints 2 (Int (pos 10) ∷ [])
          ∷ prints 3 (Int (pos 10) ∷ [])
          ∷ prints 1 (Int (pos 20) ∷ []) ∷ [];
      waits = Some 0 ∷ Some 0 ∷ Some 10 ∷ Some 0 ∷ Some 0 ∷ Some 0 ∷ Some 0 ∷ [];
      end = Returned Nothing;
    }

abbrev pub stalled_text : List ℕ
stalled_text =
    text
    (codes "def main()"
    ∷ codes "  f = yield from future()"
    ∷ codes "  yield from f"
    ∷ codes "end" ∷ [])

abbrev pub stalled_seen : Seen
stalled_seen =
    record {
      lines = [];
      waits = Some 0 ∷ [];
      end = Stalled;
    }

abbrev pub hello_text : List ℕ
hello_text = text (codes "def main()" ∷ codes "  print \"hi\"" ∷ codes "end" ∷ [])

abbrev pub hello_until : End → List (Option ℕ) → Seen
hello_until end waits = record { lines = prints 0 (Text (codes "hi") ∷ []) ∷ []; waits = waits; end = end }
