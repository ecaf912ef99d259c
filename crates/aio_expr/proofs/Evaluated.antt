-- Where an expression fails, what it stands in fails likewise; values of expressions in order.
use Rattle.std.proofs.Common.{◌≡◌, ℕ, zero, suc, ◌<◌, List, [], ◌∷◌, ◌++◌, length, take, slice_index_or, Option, Some, None, Result, Ok, Err, IsErrAnd, IfErr}
use Rattle.std.proofs.Common.{refl, ap, ap₂, sym, ◌∙◌, subst, arith}
use Rattle.std.specs.Result.{result_unwrap_or}
use Rattle.model_value.specs.Value.{Value, Truth, Exc}
use Rattle.model_tree.specs.Syntax.{Expr, Or, And, exprs}
use Rattle.model_says.specs.Operations.{ValueOrException, truth}
use Rattle.model_says.specs.Expressions.{value_of, values_of, of_one, either, both, in_order}
use Rattle.model_says.specs.Variables.{Env}
use Rattle.aio_expr.specs.declared.operation_fault.OperationFault.{OperationFault}
use Rattle.aio_expr.specs.Gives.{raised_for, IsRaised, Fails, AllFail, Gives}

-- what raises one exception makes another thing raise it
pub raised-along : {A B : Type 0} (answer : Result A Exc) (other : Result B Exc) (fault : Option Exc) → ((f : Exc) → answer ≡ Err f → other ≡ Err f)
    → IsRaised answer fault → IsRaised other fault
raised-along answer other (Some f) along raised = along f raised
raised-along answer other None along raised = tt

pub gives-err : (answer : ValueOrException) (result : Result Value OperationFault) (cause : OperationFault) → IsErrAnd result (λ e. e ≡ cause)
    → Fails answer cause
    → Gives answer result
gives-err answer (Ok value) cause is fails = absurd is
gives-err answer (Err e) cause is fails = subst (Fails answer) (sym is) fails

pub if-err : {T : Type 0} (result : Result T OperationFault) (cause : OperationFault) (P : OperationFault → Type 0) → IsErrAnd result (λ e. e ≡ cause) → P cause
    → IfErr result P
if-err (Ok value) cause P is holds = tt
if-err (Err e) cause P is holds = subst P (sym is) holds

ok-err : {A B : Type 0} (a : A) (f : Exc) → Ok a ≡ Err f → B
ok-err a f e = absurd cc

either-err : (left right : ValueOrException) (f : Exc) → of_one truth left ≡ Err f → either left right ≡ Err f
either-err (Err g) right f e = e
either-err (Ok (Truth t)) right f e = ok-err (Truth t) f e
either-err (Ok _) right f e = e

both-err : (left right : ValueOrException) (f : Exc) → of_one truth left ≡ Err f → both left right ≡ Err f
both-err (Err g) right f e = e
both-err (Ok (Truth t)) right f e = ok-err (Truth t) f e
both-err (Ok _) right f e = e

pub or-fails : (e left right : Expr) (env : Env) (cause : OperationFault) → Or left right ≡ e → Fails (of_one truth (value_of left env)) cause
    → Fails (value_of e env) cause
or-fails e left right env cause is fails =
    subst (λ x. Fails (value_of x env) cause) is
    (raised-along (of_one truth (value_of left env)) (value_of (Or left right) env) (raised_for cause)
    (either-err (value_of left env) (value_of right env)) fails)

pub and-fails : (e left right : Expr) (env : Env) (cause : OperationFault) → And left right ≡ e → Fails (of_one truth (value_of left env)) cause
    → Fails (value_of e env) cause
and-fails e left right env cause is fails =
    subst (λ x. Fails (value_of x env) cause) is
    (raised-along (of_one truth (value_of left env)) (value_of (And left right) env) (raised_for cause)
    (both-err (value_of left env) (value_of right env)) fails)

-- ---- values in order
-- where values in order are found, the first is one and the others are others
parts : (first : ValueOrException) (others : Result (List Value) Exc) (found : List Value) → in_order first others ≡ Ok found
    → (v : Value) × (vs : List Value) × (first ≡ Ok v) × (others ≡ Ok vs) × (v ∷ vs ≡ found)
parts (Ok v) (Ok vs) found e = (v, vs, refl, refl, ap (λ r. result_unwrap_or r []) e)
parts (Ok v) (Err f) found e = ok-err found f (sym e)
parts (Err f) others found e = ok-err found f (sym e)

pub values_of-push : (items : List Expr) (item : Expr) (env : Env) (found : List Value) (value : Value) → values_of (exprs items) env ≡ Ok found
    → value_of item env ≡ Ok value → values_of (exprs (items ++ item ∷ [])) env ≡ Ok (found ++ value ∷ [])
values_of-push [] item env found value is last =
    ap (λ a. in_order a (Ok [])) last ∙ ap (λ l. Ok (l ++ value ∷ [])) (ap (λ r. result_unwrap_or r []) is)
values_of-push (first ∷ items) item env found value is last =
    let found_parts = parts (value_of first env) (values_of (exprs items) env) found is in
    ap₂ in_order found_parts.2 (values_of-push items item env found_parts.1 value found_parts.3 last) ∙ ap (λ l. Ok (l ++ value ∷ [])) found_parts.4

pub all-fail : (items : List Expr) (at : ℕ) (item : Expr) (env : Env) (found : List Value) (cause : OperationFault) → at < length items → item
    ≡ slice_index_or items at item → values_of (exprs (take at items)) env ≡ Ok found → Fails (value_of item env) cause
    → AllFail (values_of (exprs items) env) cause
all-fail [] at item env found cause inside is front fails = absurd (omega (arith, inside))
all-fail (first ∷ items) zero item env found cause inside is front fails =
    raised-along (value_of item env) (values_of (exprs (first ∷ items)) env) (raised_for cause)
    (λ f e. ap (λ a. in_order a (values_of (exprs items) env)) (ap (λ x. value_of x env) (sym is) ∙ e)) fails
all-fail (first ∷ items) (suc at) item env found cause inside is front fails =
    let front_parts = parts (value_of first env) (values_of (exprs (take at items)) env) found front in
    raised-along (values_of (exprs items) env) (values_of (exprs (first ∷ items)) env) (raised_for cause)
    (λ f e. ap₂ in_order front_parts.2 e)
    (all-fail items at item env front_parts.1 cause (omega (arith, inside)) is front_parts.3 fails)
