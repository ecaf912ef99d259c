-- Values of expressions in order, where one of them raises; variables and their values, one more at a time.
use Rattle.std.proofs.Common.{◌≡◌, ℕ, zero, suc, ◌+◌, ◌<◌, List, [], ◌∷◌, ◌++◌, length, take, slice_index_or, Result, Ok, Err, refl, ap, ap₂, sym, ◌∙◌, arith}
use Rattle.model_value.specs.Value.{Value, Nothing, Exc}
use Rattle.model_tree.specs.Syntax.{Name, Expr, exprs}
use Rattle.model_says.specs.Operations.{ValueOrException}
use Rattle.model_says.specs.Expressions.{value_of, values_of, in_order}
use Rattle.model_says.specs.Variables.{Env, bound}
use Rattle.algorithm_locals.specs.Numbered.{local, holding}
use Rattle.aio_gen.specs.Plain.{value_at}

ok-err : {A B : Type 0} (a : A) (f : Exc) → Ok a ≡ Err f → B
ok-err a f e = absurd cc

-- where values in order are found, the first is one and the others are others
parts : (first : ValueOrException) (others : Result (List Value) Exc) (found : List Value) → in_order first others ≡ Ok found →
    (v : Value) × (vs : List Value) × (first ≡ Ok v) × (others ≡ Ok vs)
parts (Ok v) (Ok vs) found e = (v, vs, refl, refl)
parts (Ok v) (Err f) found e = ok-err found f (sym e)
parts (Err f) others found e = ok-err found f (sym e)

pub values-fail : (items : List Expr) (at : ℕ) (item : Expr) (env : Env) (found : List Value) (fault : Exc) → at < length items →
    item ≡ slice_index_or items at item → values_of (exprs (take at items)) env ≡ Ok found → value_of item env ≡ Err fault →
    values_of (exprs items) env ≡ Err fault
values-fail [] at item env found fault inside is front fails = absurd (omega (arith, inside))
values-fail (first ∷ items) zero item env found fault inside is front fails =
    ap (λ a. in_order a (values_of (exprs items) env)) (ap (λ x. value_of x env) (sym is) ∙ fails)
values-fail (first ∷ items) (suc at) item env found fault inside is front fails =
    let both = parts (value_of first env) (values_of (exprs (take at items)) env) found front in
    ap₂ in_order both.2 (values-fail items at item env both.1 fault (omega (arith, inside)) is both.3 fails)

-- one variable more
pub bound-push : (names : List Name) (values : List Value) (name : Name) →
    bound (names ++ name ∷ []) values ≡ bound names values ++ record { name = name; value = value_at values (length names) } ∷ []
bound-push [] [] name = refl
bound-push [] (value ∷ values) name = refl
bound-push (first ∷ names) [] name =
    ap (λ (env : Env). record { name = first; value = Nothing } ∷ env) (bound-push names [] name ∙ none)
  where
    none : bound names [] ++ record { name = name; value = value_at [] (length names) } ∷ []
        ≡ bound names [] ++ record { name = name; value = Nothing } ∷ []
    none = refl
bound-push (first ∷ names) (value ∷ values) name =
    ap (λ (env : Env). record { name = first; value = value } ∷ env) (bound-push names values name)

pub holding-push : (from : ℕ) (values : List Value) (value : Value) →
    holding from (values ++ value ∷ []) ≡ holding from values ++ record { name = local (from + length values); value = value } ∷ []
holding-push from [] value = ap (λ n. record { name = local n; value = value } ∷ []) (omega arith)
holding-push from (first ∷ values) value =
    let next : suc from + length values ≡ from + suc (length values) = omega arith in
    ap (λ (env : Env). record { name = local from; value = first } ∷ env)
    (holding-push (suc from) values value
    ∙ ap (λ n. holding (suc from) values ++ record { name = local n; value = value } ∷ []) next)
