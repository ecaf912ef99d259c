-- An expression as a tree of numbers, by that of its variables. By it proofs tell expressions apart, and types of code may be
-- seen as expressions.
use base.Stored.{Gv, gnil, gnum, gcons, num, Coded}
use denote.Enum.Declared.{tag_of}
use Rattle.std.specs.Prelude.{◌≡◌, ℕ, zero, suc, pos, negsuc, true, false, List, [], ◌∷◌, slice_index_or}
use Rattle.std.proofs.Common.{sym, refl, ap, ◌∙◌, arith}
use Rattle.model_value.specs.contracts.kind.Kind.{the_type as kind_type}
use Rattle.model_value.specs.declared.kind.Kind.{Kind}
use Rattle.model_value.specs.declared.kind.Kind.TheVariants.{BaseException}
use Rattle.model_value.specs.Kinds.{kinds}
use Rattle.model_tree.specs.contracts.operator.Operator.{the_type as operator_type}
use Rattle.model_tree.specs.declared.operator.Operator.{Operator}
use Rattle.model_tree.specs.declared.operator.Operator.TheVariants.{Add, Subtract, Multiply, FloorDivide, Remainder}
use Rattle.model_tree.specs.contracts.operator.Comparison.{the_type as comparison_type}
use Rattle.model_tree.specs.declared.operator.Comparison.{Comparison}
use Rattle.model_tree.specs.declared.operator.Comparison.TheVariants as comparison
use Rattle.model_tree.specs.contracts.function.Function.{the_type as function_type}
use Rattle.model_tree.specs.declared.function.Function.{Function}
use Rattle.model_tree.specs.declared.function.Function.TheVariants as function
use Rattle.model_tree.specs.Syntax.{Constant, NoneConstant, TruthConstant, IntConstant, TextConstant, BytesConstant, ExprOver, Or, And, Not, Compare, Calculate}
use Rattle.model_tree.specs.Syntax.{Negate, Index, Literal, Variable, ListOf, Apply, MakeError, ExprsOver, no_exprs, expr_then}

-- ---- what stands in an expression beside its parts
abbrev bytes_code : List ℕ → Gv
bytes_code [] = gnil
bytes_code (b ∷ bs) = gcons (gnum b) (bytes_code bs)

abbrev bytes_from : Gv → List ℕ
bytes_from (gcons b bs) = num b ∷ bytes_from bs
bytes_from _ = []

bytes_again : (bytes : List ℕ) → bytes_from (bytes_code bytes) ≡ bytes
bytes_again [] = refl
bytes_again (b ∷ bs) = ap (λ r. b ∷ r) (bytes_again bs)

abbrev constant_code : Constant → Gv
constant_code NoneConstant = gnil
constant_code (TruthConstant false) = gnum 0
constant_code (TruthConstant true) = gnum 1
constant_code (IntConstant (pos n)) = gcons (gnum 0) (gnum n)
constant_code (IntConstant (negsuc n)) = gcons (gnum 1) (gnum n)
constant_code (TextConstant bytes) = gcons (gnum 2) (bytes_code bytes)
constant_code (BytesConstant bytes) = gcons (gnum 3) (bytes_code bytes)

abbrev constant_of : ℕ → Gv → Constant
constant_of number content =
    slice_index_or
    (IntConstant (pos (num content)) ∷ IntConstant (negsuc (num content)) ∷ TextConstant (bytes_from content) ∷ BytesConstant (bytes_from content)
    ∷ []) number NoneConstant

abbrev constant_from : Gv → Constant
constant_from gnil = NoneConstant
constant_from (gnum zero) = TruthConstant false
constant_from (gnum (suc n)) = TruthConstant true
constant_from (gcons number content) = constant_of (num number) content

constant_again : (constant : Constant) → constant_from (constant_code constant) ≡ constant
constant_again NoneConstant = refl
constant_again (TruthConstant false) = refl
constant_again (TruthConstant true) = refl
constant_again (IntConstant (pos n)) = refl
constant_again (IntConstant (negsuc n)) = refl
constant_again (TextConstant bytes) = ap TextConstant (bytes_again bytes)
constant_again (BytesConstant bytes) = ap BytesConstant (bytes_again bytes)

constant_same : (c d : Constant) → constant_code c ≡ constant_code d → c ≡ d
constant_same c d p = sym (constant_again c) ∙ ap constant_from p ∙ constant_again d

abbrev operator_from : Gv → Operator
operator_from tag = slice_index_or (Add ∷ Subtract ∷ Multiply ∷ FloorDivide ∷ Remainder ∷ []) (num tag) Add

operator_again : (operator : Operator) → operator_from (gnum (tag_of operator_type operator)) ≡ operator
operator_again Add = refl
operator_again _ = refl

operator_same : (c d : Operator) → gnum (tag_of operator_type c) ≡ gnum (tag_of operator_type d) → c ≡ d
operator_same c d p = sym (operator_again c) ∙ ap operator_from p ∙ operator_again d

abbrev comparison_from : Gv → Comparison
comparison_from tag =
    slice_index_or (comparison.Equal ∷ comparison.NotEqual ∷ comparison.Less ∷ comparison.LessOrEqual ∷ comparison.Greater ∷ comparison.GreaterOrEqual ∷ [])
    (num tag) comparison.Equal

comparison_again : (c : Comparison) → comparison_from (gnum (tag_of comparison_type c)) ≡ c
comparison_again comparison.Equal = refl
comparison_again _ = refl

comparison_same : (c d : Comparison) → gnum (tag_of comparison_type c) ≡ gnum (tag_of comparison_type d) → c ≡ d
comparison_same c d p = sym (comparison_again c) ∙ ap comparison_from p ∙ comparison_again d

abbrev function_from : Gv → Function
function_from tag =
    slice_index_or (function.Len ∷ function.Str ∷ function.Bytes ∷ function.Text ∷ function.Kind ∷ function.Message ∷ function.Partial ∷ function.Members ∷ [])
    (num tag) function.Len

function_again : (f : Function) → function_from (gnum (tag_of function_type f)) ≡ f
function_again function.Len = refl
function_again _ = refl

function_same : (c d : Function) → gnum (tag_of function_type c) ≡ gnum (tag_of function_type d) → c ≡ d
function_same c d p = sym (function_again c) ∙ ap function_from p ∙ function_again d

abbrev kind_from : Gv → Kind
kind_from tag = slice_index_or kinds (num tag) BaseException

kind_again : (kind : Kind) → kind_from (gnum (tag_of kind_type kind)) ≡ kind
kind_again BaseException = refl
kind_again _ = refl

kind_same : (c d : Kind) → gnum (tag_of kind_type c) ≡ gnum (tag_of kind_type d) → c ≡ d
kind_same c d p = sym (kind_again c) ∙ ap kind_from p ∙ kind_again d

-- ---- expressions: the number of the case, what stands beside the parts, and the parts
abbrev node : ℕ → Gv → Gv → Gv → Gv
node number beside first second = gcons (gnum number) (gcons beside (gcons first second))

abbrev head : Gv → Gv
head (gcons first others) = first
head _ = gnil

abbrev tail : Gv → Gv
tail (gcons first others) = others
tail _ = gnil

abbrev case_of : Gv → ℕ
case_of g = num (head g)

abbrev beside_of : Gv → Gv
beside_of g = head (tail g)

abbrev first_of : Gv → Gv
first_of g = head (tail (tail g))

abbrev second_of : Gv → Gv
second_of g = tail (tail (tail g))

module _ {V : Type 0} (variable : Coded V) where
  abbrev mutual
    pub expr_code : ExprOver V → Gv
    expr_code (Or left right) = node 1 gnil (expr_code left) (expr_code right)
    expr_code (And left right) = node 2 gnil (expr_code left) (expr_code right)
    expr_code (Not operand) = node 3 gnil (expr_code operand) gnil
    expr_code (Compare comparison left right) = node 4 (gnum (tag_of comparison_type comparison)) (expr_code left) (expr_code right)
    expr_code (Calculate operator left right) = node 5 (gnum (tag_of operator_type operator)) (expr_code left) (expr_code right)
    expr_code (Negate operand) = node 6 gnil (expr_code operand) gnil
    expr_code (Index sequence index) = node 7 gnil (expr_code sequence) (expr_code index)
    expr_code (Literal constant) = node 8 (constant_code constant) gnil gnil
    expr_code (Variable name) = node 9 (variable.code name) gnil gnil
    expr_code (ListOf items) = node 10 gnil (exprs_code items) gnil
    expr_code (Apply function argument) = node 11 (gnum (tag_of function_type function)) (expr_code argument) gnil
    expr_code (MakeError kind message) = node 12 (gnum (tag_of kind_type kind)) (expr_code message) gnil

    exprs_code : ExprsOver V → Gv
    exprs_code no_exprs = gnum 1
    exprs_code (expr_then first others) = gcons (expr_code first) (exprs_code others)

  mutual
    pub expr_same : (e f : ExprOver V) → expr_code e ≡ expr_code f → e ≡ f
    expr_same (Or l r) (Or m s) p = λ i. Or (expr_same l m (ap first_of p) i) (expr_same r s (ap second_of p) i)
    expr_same (And l r) (And m s) p = λ i. And (expr_same l m (ap first_of p) i) (expr_same r s (ap second_of p) i)
    expr_same (Not l) (Not m) p = ap Not (expr_same l m (ap first_of p))
    expr_same (Compare c l r) (Compare d m s) p =
        λ i. Compare (comparison_same c d (ap beside_of p) i) (expr_same l m (ap first_of p) i) (expr_same r s (ap second_of p) i)
    expr_same (Calculate c l r) (Calculate d m s) p =
        λ i. Calculate (operator_same c d (ap beside_of p) i) (expr_same l m (ap first_of p) i) (expr_same r s (ap second_of p) i)
    expr_same (Negate l) (Negate m) p = ap Negate (expr_same l m (ap first_of p))
    expr_same (Index l r) (Index m s) p = λ i. Index (expr_same l m (ap first_of p) i) (expr_same r s (ap second_of p) i)
    expr_same (Literal c) (Literal d) p = ap Literal (constant_same c d (ap beside_of p))
    expr_same (Variable c) (Variable d) p = ap Variable (variable.inj c d (ap beside_of p))
    expr_same (ListOf l) (ListOf m) p = ap ListOf (exprs_same l m (ap first_of p))
    expr_same (Apply c l) (Apply d m) p = λ i. Apply (function_same c d (ap beside_of p) i) (expr_same l m (ap first_of p) i)
    expr_same (MakeError c l) (MakeError d m) p = λ i. MakeError (kind_same c d (ap beside_of p) i) (expr_same l m (ap first_of p) i)
    expr_same (Or l r) _ p = absurd (omega (arith, ap case_of p))
    expr_same (And l r) _ p = absurd (omega (arith, ap case_of p))
    expr_same (Not l) _ p = absurd (omega (arith, ap case_of p))
    expr_same (Compare c l r) _ p = absurd (omega (arith, ap case_of p))
    expr_same (Calculate c l r) _ p = absurd (omega (arith, ap case_of p))
    expr_same (Negate l) _ p = absurd (omega (arith, ap case_of p))
    expr_same (Index l r) _ p = absurd (omega (arith, ap case_of p))
    expr_same (Literal c) _ p = absurd (omega (arith, ap case_of p))
    expr_same (Variable c) _ p = absurd (omega (arith, ap case_of p))
    expr_same (ListOf l) _ p = absurd (omega (arith, ap case_of p))
    expr_same (Apply c l) _ p = absurd (omega (arith, ap case_of p))
    expr_same (MakeError c l) _ p = absurd (omega (arith, ap case_of p))

    exprs_same : (es fs : ExprsOver V) → exprs_code es ≡ exprs_code fs → es ≡ fs
    exprs_same no_exprs no_exprs p = refl
    exprs_same (expr_then e es) (expr_then f fs) p = λ i. expr_then (expr_same e f (ap head p) i) (exprs_same es fs (ap tail p) i)
    exprs_same no_exprs (expr_then f fs) p = absurd (omega (arith, ap num p))
    exprs_same (expr_then e es) no_exprs p = absurd (omega (arith, ap num p))

  abbrev pub coded_expr : Coded (ExprOver V)
  coded_expr = record { code = expr_code; inj = expr_same }
