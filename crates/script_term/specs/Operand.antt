-- What was read, seen as plain data, and what operators between operands build.
-- Source: the definition of what is kept of an expression (algorithm_reading, specs/Operands.antt).
use Rattle.std.specs.Prelude.{List, [], ◌∷◌, ◌++◌, Option, option_map, option_and_then}
use Rattle.model_text.specs.Terms.{Term, Or, And, Compare, Calculate, Index}
use Rattle.algorithm_reading.specs.Operands as plain
use Rattle.script_term.specs.declared.operand.Operand.{Operand}
use Rattle.script_term.specs.declared.operand.Operand.TheVariants.{Fits, TooHigh}
use Rattle.script_term.specs.declared.operand.Join.{Join}
use Rattle.script_term.specs.declared.operand.Join.TheVariants as join

abbrev pub plain_operand : Operand → plain.Operand
plain_operand (Fits term) = plain.Fits term
plain_operand TooHigh = plain.TooHigh

abbrev pub build_of : Join → Term → Term → Term
build_of join.Or left right = Or left right
build_of join.And left right = And left right
build_of (join.Compare comparison) left right = Compare comparison left right
build_of (join.Calculate operator) left right = Calculate operator left right
build_of join.Index left right = Index left right

-- all of the values with one more behind them, if both are there
abbrev pub with_last : {A : Type 0} → Option (List A) → Option A → Option (List A)
with_last all last = option_and_then (λ xs. option_map (λ x. xs ++ x ∷ []) last) all
