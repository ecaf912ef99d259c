-- How an expression of the code is seen as plain data.
-- Source: the definition of expressions whose names are not looked up (model_text, specs/Terms.antt).
use Rattle.std.specs.Prelude.{option_map}
use Rattle.std.specs.Rc.{rc_str_bytes}
use Rattle.model_text.specs.Terms.{Term, Or, And, Not, Compare, Calculate, Negate, Index, Constantly, Variable, ListOf, Called, terms}
use Rattle.aio_syntax.specs.Constant.{constant_of}
use Rattle.script_term.specs.declared.term.TermNode.{TermNode}
use Rattle.script_term.specs.declared.term.TermNode.TheVariants as node

abbrev pub plain_term : TermNode → Term
plain_term (node.Or left right) = Or left.value right.value
plain_term (node.And left right) = And left.value right.value
plain_term (node.Not operand) = Not operand.value
plain_term (node.Compare comparison left right) = Compare comparison left.value right.value
plain_term (node.Calculate operator left right) = Calculate operator left.value right.value
plain_term (node.Negate operand) = Negate operand.value
plain_term (node.Index sequence index) = Index sequence.value index.value
plain_term (node.Constantly constant) = Constantly (constant_of constant)
plain_term (node.Variable name) = Variable (rc_str_bytes name)
plain_term (node.List items) = ListOf (terms items)
plain_term (node.Called name before bare after) = Called (rc_str_bytes name) (terms before) (option_map rc_str_bytes bare) (terms after)
