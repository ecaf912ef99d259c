-- What is pending as plain values that have codes. By it types of code may be seen as what is pending.
-- Source: the definition of what is pending (algorithm_reading, specs/Pending.antt).
use denote.Enum.Declared.{tag_of}
use Rattle.std.specs.Prelude.{◌≡◌, ℕ, [], ◌∷◌, Option, Some, None, slice_index_or, refl}
use Rattle.std.specs.Coded.{Coded, code_by, coded_ℕ, coded×, coded_option}
use Rattle.model_tree.specs.contracts.operator.Operator.{the_type as operator_type}
use Rattle.model_tree.specs.declared.operator.Operator.{Operator}
use Rattle.model_tree.specs.declared.operator.Operator.TheVariants.{Add, Subtract, Multiply, FloorDivide, Remainder}
use Rattle.model_tree.specs.contracts.operator.Comparison.{the_type as comparison_type}
use Rattle.model_tree.specs.declared.operator.Comparison.{Comparison}
use Rattle.model_tree.specs.declared.operator.Comparison.TheVariants as comparison
use Rattle.model_text.specs.Terms.{Term}
use Rattle.algorithm_reading.specs.Operands.{Operand, Fits, TooHigh, that_fits}
use Rattle.algorithm_reading.specs.Pending.{Loose, Tight}
use Rattle.script_term.specs.TermCode.{coded_term}

abbrev operator_from : ℕ → Operator
operator_from tag = slice_index_or (Add ∷ Subtract ∷ Multiply ∷ FloorDivide ∷ Remainder ∷ []) tag Add

pub operator_again : (operator : Operator) → operator_from (tag_of operator_type operator) ≡ operator
operator_again Add = refl
operator_again _ = refl

abbrev coded_operator : Coded Operator
coded_operator = code_by ℕ coded_ℕ (λ operator. tag_of operator_type operator) operator_from operator_again

abbrev comparison_from : ℕ → Comparison
comparison_from tag =
    slice_index_or
    (comparison.Equal ∷ comparison.NotEqual ∷ comparison.Less ∷ comparison.LessOrEqual ∷ comparison.Greater ∷ comparison.GreaterOrEqual
    ∷ []) tag comparison.Equal

pub comparison_again : (c : Comparison) → comparison_from (tag_of comparison_type c) ≡ c
comparison_again comparison.Equal = refl
comparison_again _ = refl

abbrev coded_comparison : Coded Comparison
coded_comparison = code_by ℕ coded_ℕ (λ c. tag_of comparison_type c) comparison_from comparison_again

abbrev operand_from : Option Term → Operand
operand_from (Some term) = Fits term
operand_from None = TooHigh

pub operand_again : (operand : Operand) → operand_from (that_fits operand) ≡ operand
operand_again (Fits term) = refl
operand_again TooHigh = refl

abbrev pub coded_operand : Coded Operand
coded_operand = code_by (Option Term) (coded_option coded_term) that_fits operand_from operand_again

abbrev coded_operator_left : Coded (Option (Operator × Operand))
coded_operator_left = coded_option (coded× coded_operator coded_operand)

abbrev coded_comparison_left : Coded (Option (Comparison × Operand))
coded_comparison_left = coded_option (coded× coded_comparison coded_operand)

abbrev pub coded_loose : Coded Loose
coded_loose =
    code_by (Option Operand × (Option Operand × ℕ)) (coded× (coded_option coded_operand) (coded× (coded_option coded_operand) coded_ℕ))
    (λ loose. (loose.or_left, (loose.and_left, loose.nots)))
    (λ parts. record { or_left = parts.0; and_left = parts.1.0; nots = parts.1.1 })
    (λ _. refl)

abbrev pub coded_tight : Coded Tight
coded_tight =
    code_by (Option (Comparison × Operand) × (Option (Operator × Operand) × (Option (Operator × Operand) × ℕ)))
    (coded× coded_comparison_left (coded× coded_operator_left (coded× coded_operator_left coded_ℕ)))
    (λ tight. (tight.compare_left, (tight.sum_left, (tight.product_left, tight.minuses))))
    (λ parts. record { compare_left = parts.0; sum_left = parts.1.0; product_left = parts.1.1.0; minuses = parts.1.1.1 })
    (λ _. refl)
