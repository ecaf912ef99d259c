-- When comparisons order values.
use Rattle.std.specs.Prelude.{◌≡◌, ◌⊎◌, true, Ok}
use Rattle.model_value.specs.Value.{Value, Truth}
use Rattle.model_tree.specs.declared.operator.Comparison.TheVariants as comparison
use Rattle.model_says.specs.Expressions.{of_one}
use Rattle.model_says.specs.Operations.{compared, negation}

-- `v < w` is True
abbrev pub IsBelow : Value → Value → Type 0
IsBelow v w = compared comparison.Less v w ≡ Ok (Truth true)

-- `<` is a total order of the values that are made so, and the other comparisons say the same
pub record IsOrdered {A : Type 0} (make : A → Value) : Type 0 where
  pub not_below_itself : (a : A) → ¬ IsBelow (make a) (make a)
  pub transitive : (a b c : A) → IsBelow (make a) (make b) → IsBelow (make b) (make c) → IsBelow (make a) (make c)
  pub one_of_three : (a b : A) → IsBelow (make a) (make b) ⊎ (IsBelow (make b) (make a) ⊎ (a ≡ b))
  pub above : (a b : A) → compared comparison.Greater (make a) (make b) ≡ compared comparison.Less (make b) (make a)
  pub at_most : (a b : A) → compared comparison.LessOrEqual (make a) (make b) ≡ of_one negation (compared comparison.Less (make b) (make a))
  pub at_least : (a b : A) → compared comparison.GreaterOrEqual (make a) (make b) ≡ of_one negation (compared comparison.Less (make a) (make b))
