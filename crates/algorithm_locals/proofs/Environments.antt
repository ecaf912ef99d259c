-- What variables hold, by their names and by their numbers; the values of expressions over both.
use Rattle.std.proofs.Common.{◌≡◌, ℕ, suc, ◌+◌, ◌≢◌, Bool, true, false, if◌then◌else◌, List, [], ◌∷◌, map, slice_index_or, length, Ok, refl, sym, ◌∙◌, ap, ap₂}
use Rattle.std.proofs.Common.{zero-add, arith}
use Rattle.std.specs.Str.{bytes_eq}
use Rattle.std.proofs.lemmas.Slice.Eq.{bytes_eq-Decides}
use Rattle.model_value.specs.Value.{Value, Nothing}
use Rattle.model_tree.specs.Syntax.{Name, Expr, Or, And, Not, Compare, Calculate, Negate, Index, Literal, Variable, ListOf, Apply, MakeError, Exprs, no_exprs}
use Rattle.model_tree.specs.Syntax.{expr_then}
use Rattle.model_says.specs.Variables.{Binding, Env, held, assigned, bound}
use Rattle.model_says.specs.Operations.{negation, calculated, negative, compared, indexed, applied, error_made}
use Rattle.model_says.specs.Expressions.{value_of, values_of, of_one, of_two, either, both, in_order, list_made}
use Rattle.algorithm_locals.specs.Numbered.{local, locals, holding, number_of, numbered_name, numbered_expr, numbered_exprs}

abbrev pub names_in : Env → List Name
names_in env = map (λ (binding : Binding). binding.name) env

abbrev pub values_in : Env → List Value
values_in env = map (λ (binding : Binding). binding.value) env

-- ---- tests
pub is_false : (test : Bool) → (test ≡ true → ⊥) → test ≡ false
is_false true never = absurd (never refl)
is_false false never = refl

pub chosen-same : {A : Type 0} (test answer : Bool) (x y : A) → test ≡ answer → (if test then x else y) ≡ (if answer then x else y)
chosen-same test answer x y is = ap (λ b. if b then x else y) is

number-in : (a b : ℕ) → local a ≡ local b → a ≡ b
number-in a b is = ap (λ (name : Name). slice_index_or name 0 0) is

pub same-local : (a b : ℕ) → a ≡ b → bytes_eq (local a) (local b) ≡ true
same-local a b is = (bytes_eq-Decides (local a) (local b)).1 (ap local is)

pub other-local : (a b : ℕ) → a ≢ b → bytes_eq (local a) (local b) ≡ false
other-local a b other =
    is_false (bytes_eq (local a) (local b)) (λ is. other (number-in a b ((bytes_eq-Decides (local a) (local b)).0 is)))

-- ---- what a variable holds, and an assignment
held-same : (env : Env) (name : Name) (from : ℕ) →
    held (holding from (values_in env)) (local (from + number_of (names_in env) name)) ≡ held env name
held-same [] name from = refl
held-same (binding ∷ env) name from = by_name (held-same env name (suc from)) (bytes_eq binding.name name)
  where
    by_name : held (holding (suc from) (values_in env)) (local (suc from + number_of (names_in env) name)) ≡ held env name → (here : Bool) →
        held (holding from (binding.value ∷ values_in env)) (local (from + (if here then 0 else suc (number_of (names_in env) name))))
        ≡ (if here then binding.value else held env name)
    by_name later true = chosen-same (bytes_eq (local from) (local (from + 0))) true _ _ (same-local from (from + 0) (omega arith))
    by_name later false =
        let number = number_of (names_in env) name in
        let next : from + suc number ≡ suc from + number = omega arith in
        chosen-same (bytes_eq (local from) (local (from + suc number))) false _ _
        (other-local from (from + suc number) (λ is. omega (arith, is)))
        ∙ ap (λ n. held (holding (suc from) (values_in env)) (local n)) next
        ∙ later

assigned-same : (env : Env) (name : Name) (value : Value) (from : ℕ) →
    assigned (local (from + number_of (names_in env) name)) value (holding from (values_in env))
    ≡ holding from (values_in (assigned name value env))
assigned-same [] name value from = refl
assigned-same (binding ∷ env) name value from = by_name (assigned-same env name value (suc from)) (bytes_eq binding.name name)
  where
    first : Binding
    first = record { name = local from; value = binding.value }

    by_name : assigned (local (suc from + number_of (names_in env) name)) value (holding (suc from) (values_in env))
        ≡ holding (suc from) (values_in (assigned name value env)) → (here : Bool) →
        assigned (local (from + (if here then 0 else suc (number_of (names_in env) name)))) value (holding from (binding.value ∷ values_in env))
        ≡ holding from (values_in (if here then record binding { value = value } ∷ env else binding ∷ assigned name value env))
    by_name later true = chosen-same (bytes_eq (local from) (local (from + 0))) true _ _ (same-local from (from + 0) (omega arith))
    by_name later false =
        let number = number_of (names_in env) name in
        let next : from + suc number ≡ suc from + number = omega arith in
        chosen-same (bytes_eq (local from) (local (from + suc number))) false _ _
        (other-local from (from + suc number) (λ is. omega (arith, is)))
        ∙ ap (λ n. first ∷ assigned (local n) value (holding (suc from) (values_in env))) next
        ∙ ap (λ others. first ∷ others) later

pub names-assigned : (env : Env) (name : Name) (value : Value) → names_in (assigned name value env) ≡ names_in env
names-assigned [] name value = refl
names-assigned (binding ∷ env) name value = by_name (names-assigned env name value) (bytes_eq binding.name name)
  where
    by_name : names_in (assigned name value env) ≡ names_in env → (here : Bool) →
        names_in (if here then record binding { value = value } ∷ env else binding ∷ assigned name value env) ≡ binding.name ∷ names_in env
    by_name later true = refl
    by_name later false = ap (λ names. binding.name ∷ names) later

pub held-first : (env : Env) (name : Name) → held (holding 0 (values_in env)) (numbered_name (names_in env) name) ≡ held env name
held-first env name =
    ap (λ n. held (holding 0 (values_in env)) (local n)) (sym (zero-add (number_of (names_in env) name))) ∙ held-same env name 0

pub assigned-first : (env : Env) (name : Name) (value : Value) →
    assigned (numbered_name (names_in env) name) value (holding 0 (values_in env)) ≡ holding 0 (values_in (assigned name value env))
assigned-first env name value =
    ap (λ n. assigned (local n) value (holding 0 (values_in env))) (sym (zero-add (number_of (names_in env) name)))
    ∙ assigned-same env name value 0

-- ---- variables as a call begins
pub bound-same : (names : List Name) (values : List Value) (from : ℕ) →
    bound (locals from (length names)) values ≡ holding from (values_in (bound names values))
bound-same [] values from = refl
bound-same (name ∷ names) [] from =
    ap (λ (env : Env). record { name = local from; value = Nothing } ∷ env) (bound-same names [] (suc from))
bound-same (name ∷ names) (value ∷ values) from =
    ap (λ (env : Env). record { name = local from; value = value } ∷ env) (bound-same names values (suc from))

pub names-bound : (names : List Name) (values : List Value) → names_in (bound names values) ≡ names
names-bound [] values = refl
names-bound (name ∷ names) [] = ap (λ others. name ∷ others) (names-bound names [])
names-bound (name ∷ names) (value ∷ values) = ap (λ others. name ∷ others) (names-bound names values)

-- ---- expressions
module _ (env : Env) where
  abbrev coded : Expr → Expr
  coded expr = numbered_expr (names_in env) expr

  abbrev there : Env
  there = holding 0 (values_in env)

  mutual
    pub value-same : (expr : Expr) → value_of (coded expr) there ≡ value_of expr env
    value-same (Or left right) = ap₂ either (value-same left) (value-same right)
    value-same (And left right) = ap₂ both (value-same left) (value-same right)
    value-same (Not operand) = ap (of_one negation) (value-same operand)
    value-same (Compare comparison left right) = ap₂ (of_two (compared comparison)) (value-same left) (value-same right)
    value-same (Calculate operator left right) = ap₂ (of_two (calculated operator)) (value-same left) (value-same right)
    value-same (Negate operand) = ap (of_one negative) (value-same operand)
    value-same (Index sequence index) = ap₂ (of_two indexed) (value-same sequence) (value-same index)
    value-same (Literal constant) = refl
    value-same (Variable name) = ap Ok (held-first env name)
    value-same (ListOf items) = ap list_made (values-same items)
    value-same (Apply function argument) = ap (of_one (applied function)) (value-same argument)
    value-same (MakeError kind message) = ap (of_one (error_made kind)) (value-same message)

    pub values-same : (items : Exprs) → values_of (numbered_exprs (names_in env) items) there ≡ values_of items env
    values-same no_exprs = refl
    values-same (expr_then first others) = ap₂ in_order (value-same first) (values-same others)
