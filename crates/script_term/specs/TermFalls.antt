-- The parts of an expression are smaller than it, and each expression of a list is smaller than the list.
-- Source: the definition of expressions whose names are not looked up (model_text, specs/Terms.antt).
use Rattle.std.specs.Prelude.{◌+◌, ◌≤◌, max, List, [], ◌∷◌}
use Rattle.std.proofs.Common.{arith}
use denote.Param.Weighed.{most}
use Rattle.model_text.specs.Terms.{Term}
use Rattle.script_term.specs.TermSize.{term_size, term_list_size}
use Rattle.script_term.specs.declared.term.TermNode.{TermNode}
use Rattle.script_term.specs.declared.term.TermNode.TheVariants as node
use Rattle.script_term.specs.declared.term.Term.TheDeep.{deep-TermNode}
use Rattle.script_term.specs.Term.{plain_term}

pub node_falls : (c : TermNode) → max (deep-TermNode c) 0 ≤ term_size (plain_term c)
node_falls (node.List items) = omega arith
node_falls (node.Called name before bare after) = omega arith
node_falls _ = omega arith

pub items_fall : (ts : List Term) → max (most (λ t. term_size t + 1) ts) 0 ≤ term_list_size ts
items_fall [] = omega arith
items_fall (t ∷ ts) = omega (arith, items_fall ts)
