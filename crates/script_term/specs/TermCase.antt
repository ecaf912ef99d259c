-- The expression that a case, with the parts that it lends, stands for.
-- Source: the definition of expressions whose names are not looked up (model_text, specs/Terms.antt).
use Rattle.std.specs.Prelude.{option_map}
use Rattle.std.specs.Rc.{rc_str_bytes}
use Rattle.model_text.specs.Terms.{Term, Or, And, Not, Compare, Calculate, Negate, Index, Constantly, Variable, ListOf, Called, terms}
use Rattle.aio_syntax.specs.Constant.{constant_of}
use Rattle.script_term.specs.declared.term.TermCase.{TermCase}
use Rattle.script_term.specs.declared.term.TermCase.TheVariants as case

abbrev pub term_of_case : TermCase → Term
term_of_case (case.Or left right) = Or left.now right.now
term_of_case (case.And left right) = And left.now right.now
term_of_case (case.Not operand) = Not operand.now
term_of_case (case.Compare comparison left right) = Compare comparison left.now right.now
term_of_case (case.Calculate operator left right) = Calculate operator left.now right.now
term_of_case (case.Negate operand) = Negate operand.now
term_of_case (case.Index sequence index) = Index sequence.now index.now
term_of_case (case.Constantly constant) = Constantly (constant_of constant.now)
term_of_case (case.Variable name) = Variable (rc_str_bytes name.now)
term_of_case (case.List items) = ListOf (terms items.now)
term_of_case (case.Called name before bare after) = Called (rc_str_bytes name.now) (terms before.now) (option_map rc_str_bytes bare.now) (terms after.now)
