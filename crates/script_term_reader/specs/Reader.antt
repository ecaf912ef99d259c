-- What a reader of an expression knows behind some lexemes, seen as plain data. The code has the innermost bracket last.
-- Source: the definition of a reader (algorithm_reading, specs/Reader.antt).
use Rattle.std.specs.Prelude.{map, option_map}
use Rattle.std.specs.Rc.{rc_str_bytes}
use Rattle.algorithm_reading.specs.Reader as plain
use Rattle.script_term.specs.Operand.{plain_operand}
use Rattle.script_term_reader.specs.declared.reader.Bracket.{Bracket}
use Rattle.script_term_reader.specs.declared.reader.Bracket.TheVariants.{Group, Item, Items, Arguments}
use Rattle.script_term_reader.specs.declared.reader.Position.{Position}
use Rattle.script_term_reader.specs.declared.reader.Position.TheVariants.{Start, AtNot, AtOperand, BehindName, BehindOperand, AtKind, BehindKind}

abbrev pub plain_bracket : Bracket → plain.Bracket
plain_bracket Group = plain.Group
plain_bracket (Item sequence) = plain.Item (plain_operand sequence)
plain_bracket (Items items) = plain.Items (map plain_operand items.items)
plain_bracket (Arguments name bare arguments) =
    plain.Arguments (rc_str_bytes name) (option_map rc_str_bytes bare) (map plain_operand arguments.items)

abbrev pub plain_progress : Position → plain.TermProgress
plain_progress Start = plain.Start
plain_progress (AtNot loose) = plain.AtNot loose
plain_progress (AtOperand loose tight) = plain.AtOperand loose tight
plain_progress (BehindName loose tight name) = plain.BehindName loose tight (rc_str_bytes name)
plain_progress (BehindOperand loose tight operand) = plain.BehindOperand loose tight (plain_operand operand)
plain_progress AtKind = plain.AtKind
plain_progress (BehindKind kind) = plain.BehindKind (rc_str_bytes kind)
