-- How many expressions stand inside an expression: what falls in each recursion over expressions.
-- Source: the definition of expressions whose names are not looked up (model_text, specs/Terms.antt).
use Rattle.std.specs.Prelude.{ℕ, ◌+◌, List}
use Rattle.model_text.specs.Terms.{Term, Or, And, Not, Compare, Calculate, Negate, Index, ListOf, Called, Terms, no_terms, term_then, terms}

abbrev mutual
  pub term_size : Term → ℕ
  term_size (Or left right) = 1 + term_size left + term_size right
  term_size (And left right) = 1 + term_size left + term_size right
  term_size (Not operand) = 1 + term_size operand
  term_size (Compare comparison left right) = 1 + term_size left + term_size right
  term_size (Calculate operator left right) = 1 + term_size left + term_size right
  term_size (Negate operand) = 1 + term_size operand
  term_size (Index sequence index) = 1 + term_size sequence + term_size index
  term_size (ListOf items) = 1 + terms_size items
  term_size (Called name before bare after) = 1 + terms_size before + terms_size after
  term_size _ = 0

  pub terms_size : Terms → ℕ
  terms_size no_terms = 0
  terms_size (term_then first others) = 1 + term_size first + terms_size others

-- a list is larger than each of its expressions
abbrev pub term_list_size : List Term → ℕ
term_list_size items = terms_size (terms items)
