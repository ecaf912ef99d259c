-- Operators of an expression that still want their right operand, at most one at each level, and what they make of it.
-- Source: the Python language reference, "Operator precedence"; operator-precedence parsing, with a place for each level.
use Rattle.std.specs.Prelude.{ℕ, zero, suc, Option, Some, None}
use Rattle.model_tree.specs.declared.operator.Operator.{Operator}
use Rattle.model_tree.specs.declared.operator.Comparison.{Comparison}
use Rattle.model_text.specs.Terms.{Or, And, Not, Compare, Calculate, Negate}
use Rattle.algorithm_reading.specs.Operands.{Operand, of_one, of_two}

-- the loose operators: what stands left of `or`, what stands left of `and` behind it, and how many `not` stand behind that
pub record Loose : Type 0 where
  pub or_left : Option Operand
  pub and_left : Option Operand
  pub nots : ℕ

-- the tight ones: what stands left of a comparison, of `+` or `-`, of `*`, `//` or `%`, each behind the one before; and how
-- many unary `-` stand behind that
pub record Tight : Type 0 where
  pub compare_left : Option (Comparison × Operand)
  pub sum_left : Option (Operator × Operand)
  pub product_left : Option (Operator × Operand)
  pub minuses : ℕ

abbrev pub no_loose : Loose
no_loose = record { or_left = None; and_left = None; nots = 0 }

abbrev pub no_tight : Tight
no_tight = record { compare_left = None; sum_left = None; product_left = None; minuses = 0 }

-- ---- what one level makes of its right operand
abbrev pub with_minuses : ℕ → Operand → Operand
with_minuses zero operand = operand
with_minuses (suc count) operand = with_minuses count (of_one Negate operand)

abbrev pub with_nots : ℕ → Operand → Operand
with_nots zero operand = operand
with_nots (suc count) operand = with_nots count (of_one Not operand)

abbrev pub calculated : Option (Operator × Operand) → Operand → Operand
calculated None right = right
calculated (Some left) right = of_two (Calculate left.0) left.1 right

abbrev pub compared : Option (Comparison × Operand) → Operand → Operand
compared None right = right
compared (Some left) right = of_two (Compare left.0) left.1 right

abbrev pub and_of : Option Operand → Operand → Operand
and_of None right = right
and_of (Some left) right = of_two And left right

abbrev pub or_of : Option Operand → Operand → Operand
or_of None right = right
or_of (Some left) right = of_two Or left right

-- ---- what the levels make of an operand, each with the tighter ones before it
abbrev pub product_of : Tight → Operand → Operand
product_of tight operand = calculated tight.product_left (with_minuses tight.minuses operand)

abbrev pub sum_of : Tight → Operand → Operand
sum_of tight operand = calculated tight.sum_left (product_of tight operand)

abbrev pub comparison_of : Tight → Operand → Operand
comparison_of tight operand = compared tight.compare_left (sum_of tight operand)

abbrev pub conjunction_of : Loose → Tight → Operand → Operand
conjunction_of loose tight operand = and_of loose.and_left (with_nots loose.nots (comparison_of tight operand))

abbrev pub disjunction_of : Loose → Tight → Operand → Operand
disjunction_of loose tight operand = or_of loose.or_left (conjunction_of loose tight operand)

-- ---- what is pending behind an operator that stands behind an operand
abbrev pub behind_product : Tight → Operator → Operand → Tight
behind_product tight operator operand =
    record tight { product_left = Some (operator, product_of tight operand); minuses = 0 }

abbrev pub behind_sum : Tight → Operator → Operand → Tight
behind_sum tight operator operand =
    record no_tight { compare_left = tight.compare_left; sum_left = Some (operator, sum_of tight operand) }

abbrev pub behind_comparison : Tight → Comparison → Operand → Tight
behind_comparison tight comparison operand = record no_tight { compare_left = Some (comparison, sum_of tight operand) }

abbrev pub behind_and : Loose → Tight → Operand → Loose
behind_and loose tight operand =
    record no_loose { or_left = loose.or_left; and_left = Some (conjunction_of loose tight operand) }

abbrev pub behind_or : Loose → Tight → Operand → Loose
behind_or loose tight operand = record no_loose { or_left = Some (disjunction_of loose tight operand) }
