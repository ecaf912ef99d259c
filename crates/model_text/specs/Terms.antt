-- What tokens spell before any name is looked up: an expression in which calls have any name and any number of arguments.
-- Source: the Python language reference, "Expressions".
use Rattle.std.specs.Prelude.{ℕ, suc, max, List, [], ◌∷◌, Option}
use Rattle.model_tree.specs.declared.operator.Operator.{Operator}
use Rattle.model_tree.specs.declared.operator.Comparison.{Comparison}
use Rattle.model_tree.specs.Syntax.{Name, Constant}

mutual
  pub data Term : Type 0 where
    Or : (left right : Term) → Term
    And : (left right : Term) → Term
    Not : (operand : Term) → Term
    Compare : (comparison : Comparison) (left right : Term) → Term
    Calculate : (operator : Operator) (left right : Term) → Term
    Negate : (operand : Term) → Term
    Index : (sequence index : Term) → Term
    Constantly : (constant : Constant) → Term
    Variable : (name : Name) → Term
    ListOf : (items : Terms) → Term
    -- A call by name: the arguments, of which one may be a bare name where a kind or a coroutine is wanted.
    Called : (name : Name) (before : Terms) (bare : Option Name) (after : Terms) → Term

  -- terms in order
  pub data Terms : Type 0 where
    no_terms : Terms
    term_then : (first : Term) (others : Terms) → Terms

abbrev pub terms : List Term → Terms
terms [] = no_terms
terms (first ∷ others) = term_then first (terms others)

-- How high the tree of an expression is. One without parts has height 1, and parentheses add nothing.
abbrev mutual
  pub height : Term → ℕ
  height (Or left right) = suc (max (height left) (height right))
  height (And left right) = suc (max (height left) (height right))
  height (Not operand) = suc (height operand)
  height (Compare comparison left right) = suc (max (height left) (height right))
  height (Calculate operator left right) = suc (max (height left) (height right))
  height (Negate operand) = suc (height operand)
  height (Index sequence index) = suc (max (height sequence) (height index))
  height (Constantly constant) = 1
  height (Variable name) = 1
  height (ListOf items) = suc (height_of_all items)
  height (Called name before bare after) = suc (max (height_of_all before) (height_of_all after))

  -- the greatest height among terms, 0 where there are none
  pub height_of_all : Terms → ℕ
  height_of_all no_terms = 0
  height_of_all (term_then first others) = max (height first) (height_of_all others)
