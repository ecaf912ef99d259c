-- Lines with the entries that they are, worked out by hand.
use Rattle.std.specs.Prelude.{pos, negsuc, List, [], ◌∷◌, codes}
use Rattle.model_value.specs.declared.action.ChildItem.TheVariants as news
use Rattle.model_wire.specs.declared.item.Item.TheVariants as item
use Rattle.model_wire.specs.declared.item.Readiness.TheVariants as ready
use Rattle.model_wire.specs.declared.answer.Answer.TheVariants as answer
use Rattle.row_wire.specs.Rows.{EntryRow, says, turns, bad_form, wide}

-- each form of an entry, and spaces
abbrev pub right : List EntryRow
right =
    says "ok" answer.Done
    ∷ says "refused" answer.Refused
    ∷ says "conn" answer.Conn
    ∷ says "again" answer.Again
    ∷ says "broken" answer.Broken
    ∷ says "data b\"a\"" (answer.Data (codes "a"))
    ∷ says "data b\"\"" (answer.Data [])
    ∷ says "eof" answer.Eof
    ∷ says "took 5" (answer.Took 5)
    ∷ says "child" answer.Child
    ∷ says "extra b\"x y\"" (answer.Extra (codes "x y"))
    ∷ turns "turn 0" 0 []
    ∷ turns "  turn   0  " 0 []
    ∷ turns "turn 007" 7 []
    ∷ turns "turn 1 L0 r" 1 (item.ReadableServer 0 ∷ [])
    ∷ turns "turn 1 C0 r C01 w C2 rw" 1 (item.Ready 0 ready.Read ∷ item.Ready 1 ready.Write ∷ item.Ready 2 ready.Both ∷ [])
    ∷ turns "turn 1 C3 up C4 down" 1 (item.Up 3 ∷ item.Down 4 ∷ [])
    ∷ turns "turn 1 P0 w P0 broken" 1 (item.WritableChild 0 ∷ item.Child 0 news.Broken ∷ [])
    ∷ turns "turn 1 P0 out b\"o\" P1 outend" 1 (item.Child 0 (news.Out (codes "o")) ∷ item.Child 1 news.OutEnd ∷ [])
    ∷ turns "turn 1 P0 err b\"e\" P1 errend" 1 (item.Child 0 (news.Errs (codes "e")) ∷ item.Child 1 news.ErrsEnd ∷ [])
    ∷ turns "turn 1 P0 exit 0 P1 exit -9" 1 (item.Child 0 (news.Exit (pos 0)) ∷ item.Child 1 (news.Exit (negsuc 8)) ∷ [])
    ∷ turns "turn 1 X 4 b\"x\" X -4 b\"\"" 1 (item.Extra (pos 4) (codes "x") ∷ item.Extra (negsuc 3) [] ∷ [])
    ∷ turns "turn 2 C0  r   L0 r" 2 (item.Ready 0 ready.Read ∷ item.ReadableServer 0 ∷ [])
    ∷ []

-- lines that are no entry
abbrev pub wrong : List EntryRow
wrong =
    bad_form ""
    ∷ bad_form "   "
    ∷ bad_form "turm 0"
    ∷ bad_form "Turn 0"
    ∷ bad_form "turn"
    ∷ bad_form "turn -1"
    ∷ bad_form "turn -0"
    ∷ bad_form "turn 0 0"
    ∷ bad_form "turn0"
    ∷ bad_form "turn\t0"
    ∷ bad_form "turn 0\r"
    ∷ bad_form "turn 0 # late"
    ∷ bad_form "ok ok"
    ∷ bad_form "took"
    ∷ bad_form "took -1"
    ∷ bad_form "took - 1"
    ∷ bad_form "data"
    ∷ bad_form "data \"a\""
    ∷ bad_form "datab\"a\""
    ∷ bad_form "data b \"a\""
    ∷ bad_form "data b\"a\"b\"c\""
    ∷ bad_form "data b\"a\"c"
    ∷ bad_form "data b\"a"
    ∷ bad_form "turn 0 L0"
    ∷ bad_form "turn 0 L0 w"
    ∷ bad_form "turn 0 L0r"
    ∷ bad_form "turn 0 L r"
    ∷ bad_form "turn 0 L-1 r"
    ∷ bad_form "turn 0 C0 wr"
    ∷ bad_form "turn 0 C0 out b\"x\""
    ∷ bad_form "turn 0 P0 r"
    ∷ bad_form "turn 0 P0 out"
    ∷ bad_form "turn 0 P0 out P1 w"
    ∷ bad_form "turn 0 P0 exit"
    ∷ bad_form "turn 0 P0 exit b\"\""
    ∷ bad_form "turn 0 X b\"\""
    ∷ bad_form "turn 0 X 1"
    ∷ bad_form "turn 0 X0 1 b\"\""
    ∷ bad_form "turn 0 T0 r"
    ∷ bad_form "turn 0 c0 r"
    ∷ []

-- numbers at their bounds
abbrev pub numbers : List EntryRow
numbers =
    turns "turn 9223372036854775807" 9223372036854775807 []
    ∷ wide "turn 9223372036854775808"
    ∷ wide "turn 0009223372036854775808"
    ∷ wide "turm 9223372036854775808"
    ∷ wide "turn 0 C0 r 9223372036854775808 C0"
    ∷ bad_form "turn 9223372036854775808x"
    ∷ says "data b\"9223372036854775808 \"" (answer.Data (codes "9223372036854775808 "))
    ∷ says "took 9223372036854775807" (answer.Took 9223372036854775807)
    ∷ wide "took 9223372036854775808"
    ∷ bad_form "took -9223372036854775808"
    ∷ wide "took -9223372036854775809"
    ∷ turns "turn 0 C4294967295 r" 0 (item.Ready 4294967295 ready.Read ∷ [])
    ∷ bad_form "turn 0 C4294967296 r"
    ∷ bad_form "turn 0 C9223372036854775808 r"
    ∷ turns "turn 0 P0 exit 255 P1 exit -128" 0 (item.Child 0 (news.Exit (pos 255)) ∷ item.Child 1 (news.Exit (negsuc 127)) ∷ [])
    ∷ wide "turn 0 P0 exit 256"
    ∷ wide "turn 0 P0 exit -129"
    ∷ bad_form "turn 0 P0 exit 256 C0"
    ∷ turns "turn 0 X 9223372036854775807 b\"\" X -9223372036854775808 b\"\"" 0
    (item.Extra (pos 9223372036854775807) [] ∷ item.Extra (negsuc 9223372036854775807) [] ∷ [])
    ∷ wide "turn 0 X 9223372036854775808 b\"\""
    ∷ wide "turn 0 X -9223372036854775809 b\"\""
    ∷ turns "turn 0 X -0 b\"\"" 0 (item.Extra (pos 0) [] ∷ [])
    ∷ []

-- literals with every escape, and with spaces, which part nothing there
abbrev pub literals : List EntryRow
literals =
    says "data b\"\\n\\r\\t\\\\\\\"\"" (answer.Data (10 ∷ 13 ∷ 9 ∷ 92 ∷ 34 ∷ []))
    ∷ says "data b\"\\x00\\xff\\xAb\\x7F\"" (answer.Data (0 ∷ 255 ∷ 171 ∷ 127 ∷ []))
    ∷ says "data b\" a  b \"" (answer.Data (codes " a  b "))
    ∷ says "data b\"\\\\\"" (answer.Data (92 ∷ []))
    ∷ says "data b\"#\"" (answer.Data (codes "#"))
    ∷ bad_form "data b\"\\q\""
    ∷ bad_form "data b\"\\x0\""
    ∷ bad_form "data b\"\\x0g\""
    ∷ bad_form "data b\"\t\""
    ∷ bad_form "data b\"\\\""
    ∷ bad_form "data b\"a\" \""
    ∷ bad_form "data b\"é\""
    ∷ []
