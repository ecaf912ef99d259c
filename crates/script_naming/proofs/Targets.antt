-- What a `yield from` hands over to, by what code finds of its parts.
use Rattle.std.proofs.Common.{◌≡◌, ℕ, Bool, true, false, if◌then◌else◌, List, length, Option, Some, None, Result, Ok, Err, IfOk, IfErr, nat_eq, refl, ap, sym}
use Rattle.std.proofs.Common.{◌∙◌, subst}
use Rattle.std.specs.Str.{bytes_eq}
use Rattle.model_tree.specs.Syntax.{Name, Expr, Exprs, exprs, Target, Call}
use Rattle.model_tree.specs.Known.{spawn_text, create_text, listen_text}
use Rattle.model_text.specs.Naming.{Callee, Meant, Scope, meant_map, both, if_arity, one_argument, counted, callee_of, passed, called_target}
use Rattle.script_fault.specs.declared.line_fault.LineFault.{LineFault}
use Rattle.script_naming.specs.Gives.{Fails, Gives, both_found}
use Rattle.script_naming.specs.Scope.{with_arity}
use Rattle.script_naming.proofs.Meanings.{gives-both, fails-along}

pub callee-known : (scope : Scope) (spelled name : Name) (parameters : ℕ) → callee_of scope spelled ≡ Some (with_arity spelled parameters) → spelled ≡ name
    → callee_of scope name ≡ Some (with_arity name parameters)
callee-known scope spelled name parameters is named =
    subst (λ n. callee_of scope n ≡ Some (with_arity n parameters)) named is

gives-argument : (meant : Meant (List Expr)) (found : Result Expr LineFault)
    → IfOk found (λ argument. (call : Expr → Expr) → one_argument call meant ≡ Ok (call argument))
    → IfErr found (λ fault. (call : Expr → Expr) → Fails (one_argument call meant) fault) → Gives (λ e. e) (one_argument (λ e. e) meant) found
gives-argument meant (Ok argument) is fails = is (λ e. e)
gives-argument meant (Err fault) is fails = fails (λ e. e)

counted-map : {A : Type 0} (count : ℕ) (make : List Expr → A) (meant : Meant (List Expr)) → meant_map make (counted count (λ all. all) meant)
    ≡ counted count make meant
counted-map count make (Err c) = refl
counted-map {A} count make (Ok all) = by_test (nat_eq (length all) count)
  where
    by_test : (b : Bool) → meant_map make (if_arity b all) ≡ if_arity b (make all)
    by_test true = refl
    by_test false = refl

pub passed-fails : (scope : Scope) (name : Name) (parameters : ℕ) (meant : Meant (List Expr)) (fault : LineFault) (target : Exprs → Target)
    → callee_of scope name ≡ Some (with_arity name parameters) → Fails (counted parameters (λ all. all) meant) fault
    → Fails (passed scope (callee_of scope name) target meant) fault
passed-fails scope name parameters meant fault target is fails =
    subst (λ callee. Fails (passed scope callee target meant) fault) (sym is)
    (fails-along (counted parameters (λ all. all) meant) (counted parameters (λ all. target (exprs all)) meant) fault
    (λ c e. sym (counted-map parameters (λ all. target (exprs all)) meant) ∙ ap (λ m. meant_map (λ all. target (exprs all)) m) e) fails)

-- what is found of the expression before a coroutine's name, and of what stands after it, is what both mean
pub handed-gives : {A B : Type 0} (join : Expr → B → Target) (view : A → B) (scope : Scope) (spelled name : Name) (parameters : ℕ)
    (by : Option Callee → Meant Target) (before : Meant (List Expr)) (after : Meant B) (first : Result Expr LineFault) (second : Result A LineFault)
    → callee_of scope spelled ≡ Some (with_arity spelled parameters) → spelled ≡ name
    → by (Some (with_arity name parameters)) ≡ both join (one_argument (λ e. e) before) after
    → IfOk first (λ argument. (call : Expr → Expr) → one_argument call before ≡ Ok (call argument))
    → IfErr first (λ fault. (call : Expr → Expr) → Fails (one_argument call before) fault) → Gives view after second
    → Gives (λ (pair : Expr × A). join pair.0 (view pair.1)) (by (callee_of scope name)) (both_found first second)
handed-gives {A} join view scope spelled name parameters by before after first second found named same is fails second_is =
    subst (λ meant. Gives (λ (pair : Expr × A). join pair.0 (view pair.1)) meant (both_found first second))
    (sym (ap by (callee-known scope spelled name parameters found named) ∙ same))
    (gives-both join (λ e. e) view (one_argument (λ e. e) before) after first second (gives-argument before first is fails) second_is)

otherwise : {A : Type 0} (b : Bool) (x y : A) → b ≡ false → (if b then x else y) ≡ y
otherwise b x y e = ap (λ t. if t then x else y) e

pub called-other : (scope : Scope) (name : Name) (before : Meant (List Expr)) (bare : Option Name) (after : Meant (List Expr)) → bytes_eq name spawn_text
    ≡ false → bytes_eq name create_text ≡ false → bytes_eq name listen_text ≡ false → called_target scope name None before bare after
    ≡ passed scope (callee_of scope name) (Call name) before
called-other scope name before bare after spawn create listen =
    otherwise (bytes_eq name spawn_text) _ _ spawn ∙ otherwise (bytes_eq name create_text) _ _ create ∙ otherwise (bytes_eq name listen_text) _ _ listen
