-- What the names of an expression mean gives the expression back.
use Rattle.std.proofs.Common.{◌≡◌, Bool, List, [], ◌∷◌, Some, None, Ok, Err, refl, ap, ◌∙◌}
use Rattle.std.specs.Prelude.{if◌then◌else◌}
use Rattle.model_value.specs.declared.kind.Kind.{Kind}
use Rattle.model_value.specs.declared.kind.Kind.TheVariants as kind
use Rattle.model_value.specs.Kinds.{kind_name}
use Rattle.model_tree.specs.declared.function.Function.{Function}
use Rattle.model_tree.specs.declared.function.Function.TheVariants as function
use Rattle.model_tree.specs.Syntax.{Expr, Or, And, Not, Compare, Calculate, Negate, Index, Literal, Variable, ListOf, Apply, MakeError, Exprs, no_exprs}
use Rattle.model_tree.specs.Syntax.{expr_then, exprs, exprs_of}
use Rattle.model_tree.specs.Known.{function_text, function_of, kind_of_name}
use Rattle.model_text.specs.declared.cause.Cause.TheVariants as cause
use Rattle.model_text.specs.Naming.{Scope, Meant, both, meant_map, meaning_of, meanings_of, function_call, one_argument, error_of}
use Rattle.law_lines.specs.Lexemes.{term_from, terms_from}
use Rattle.law_lines.specs.Known.{Known, AllKnown}

function-named : (f : Function) → function_of (function_text f) ≡ Some f
function-named function.Len = refl
function-named function.Str = refl
function-named function.Bytes = refl
function-named function.Text = refl
function-named function.Kind = refl
function-named function.Message = refl
function-named function.Partial = refl
function-named function.Members = refl

kind-named : (k : Kind) → kind_of_name (kind_name k) ≡ Some k
kind-named kind.BaseException = refl
kind-named kind.CancelledError = refl
kind-named kind.Exception = refl
kind-named kind.ArithmeticError = refl
kind-named kind.LookupError = refl
kind-named kind.OSError = refl
kind-named kind.RuntimeError = refl
kind-named kind.TypeError = refl
kind-named kind.ValueError = refl
kind-named kind.NameError = refl
kind-named kind.EOFError = refl
kind-named kind.LimitOverrunError = refl
kind-named kind.InvalidStateError = refl
kind-named kind.ExceptionGroup = refl
kind-named kind.OverflowError = refl
kind-named kind.ZeroDivisionError = refl
kind-named kind.IndexError = refl
kind-named kind.RecursionError = refl
kind-named kind.IncompleteReadError = refl
kind-named kind.TimeoutError = refl
kind-named kind.ConnectionError = refl
kind-named kind.ConnectionResetError = refl
kind-named kind.ConnectionRefusedError = refl
kind-named kind.BrokenPipeError = refl

exprs-row : (row : Exprs) → exprs (exprs_of row) ≡ row
exprs-row no_exprs = refl
exprs-row (expr_then first others) = ap (expr_then first) (exprs-row others)

two-meant : {A B C : Type 0} (f : A → B → C) (x : Meant A) (y : Meant B) (a : A) (b : B) → x ≡ Ok a → y ≡ Ok b → both f x y ≡ Ok (f a b)
two-meant f x y a b e g = ap (λ m. both f m y) e ∙ ap (both f (Ok a)) g

-- the row of one argument
abbrev alone : Meant Expr → Meant (List Expr)
alone m = both (λ (x : Expr) (xs : List Expr). x ∷ xs) m (Ok [])

module _ (scope : Scope) where
  mutual
    pub meant : (e : Expr) → Known scope e → meaning_of scope (term_from e) ≡ Ok e
    meant (Or left right) k = two-meant Or _ _ left right (meant left k.0) (meant right k.1)
    meant (And left right) k = two-meant And _ _ left right (meant left k.0) (meant right k.1)
    meant (Not operand) k = ap (meant_map Not) (meant operand k)
    meant (Compare c left right) k = two-meant (Compare c) _ _ left right (meant left k.0) (meant right k.1)
    meant (Calculate c left right) k = two-meant (Calculate c) _ _ left right (meant left k.0) (meant right k.1)
    meant (Negate operand) k = ap (meant_map Negate) (meant operand k)
    meant (Index sequence index) k = two-meant Index _ _ sequence index (meant sequence k.0) (meant index k.1)
    meant (Literal constant) k = refl
    meant (Variable name) k = ap (λ (known : Bool). let m : Meant Expr = if known then Ok (Variable name) else Err cause.Name in m) k
    meant (ListOf row) k =
        ap (meant_map (λ (all : List Expr). ListOf (exprs all))) (all-meant row k)
        ∙ ap (λ (items : Exprs). let m : Meant Expr = Ok (ListOf items) in m) (exprs-row row)
    meant (Apply f argument) k =
        ap (λ found. function_call (function_text f) found (alone (meaning_of scope (term_from argument))) None (Ok [])) (function-named f)
        ∙ ap (λ m. one_argument (Apply f) (alone m)) (meant argument k)
    meant (MakeError kind message) k =
        let made-of : Meant Expr → Meant Expr = λ m. one_argument (MakeError kind) (alone m) in
        let inside : Meant Expr = meaning_of scope (term_from message) in
        ap (λ found. error_of found (alone inside)) (kind-named kind)
        ∙ (ap (λ (made : Bool). let m : Meant Expr = if made then made-of inside else Err cause.Name in m) k.0
        ∙ ap made-of (meant message k.1))

    all-meant : (row : Exprs) → AllKnown scope row → meanings_of scope (terms_from row) ≡ Ok (exprs_of row)
    all-meant no_exprs k = refl
    all-meant (expr_then first others) k =
        two-meant (λ (x : Expr) (xs : List Expr). x ∷ xs) _ _ first (exprs_of others) (meant first k.0) (all-meant others k.1)
