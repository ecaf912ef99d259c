-- Both meanings of a line; expressions in order.
use Rattle.std.proofs.Common.{◌≡◌, ◌≢◌, true, if◌then◌else◌, ℕ, zero, suc, ◌+◌, ◌<◌, List, [], ◌∷◌, ◌++◌, length, take, slice_index_or, Option, Some, Result}
use Rattle.std.proofs.Common.{Ok, Err, IsErrAnd, IfErr, refl, ap, ap₂, sym, ◌∙◌, subst, arith}
use Rattle.std.proofs.lemmas.List.{take_more, length-append}
use Rattle.std.specs.Prelude.{option_map}
use Rattle.std.specs.declared.rc.RcStr.{RcStr}
use Rattle.std.specs.Rc.{rc_str_bytes}
use Rattle.std.proofs.Common.{Global}
use Rattle.model_value.specs.declared.kind.Kind.{Kind}
use Rattle.model_tree.specs.declared.function.Function.{Function}
use Rattle.model_tree.specs.Syntax.{Name, Expr, MakeError, Apply, ListOf, exprs}
use Rattle.model_tree.specs.Known.{is_made_by_error, function_of, kind_of_name}
use Rattle.model_text.specs.declared.cause.Cause.{Cause}
use Rattle.model_text.specs.declared.cause.Cause.TheVariants as cause
use Rattle.model_text.specs.Terms as term
use Rattle.model_text.specs.Terms.{Term, Called, terms}
use Rattle.model_text.specs.Naming.{Meant, Scope, lesser, both, meaning_of, meanings_of, all_meant, one_argument, error_of, error_call, function_call}
use Rattle.model_text.specs.Naming.{meant_map}
use Rattle.script_term.specs.TermSize.{term_size, term_list_size}
use Rattle.script_fault.specs.declared.line_fault.LineFault.{LineFault}
use Rattle.script_fault.specs.declared.line_fault.LineFault.TheVariants.{Refused, Memory}
use Rattle.script_naming.specs.Gives.{Fails, Gives, both_found}

-- what is found of two meanings is their joint meaning
pub gives-both : {A B C D E : Type 0} (join : C → D → E) (view : A → C) (other_view : B → D) (meant : Meant C) (other : Meant D) (found : Result A LineFault)
    (other_found : Result B LineFault) → Gives view meant found → Gives other_view other other_found
    → Gives (λ (pair : A × B). join (view pair.0) (other_view pair.1)) (both join meant other) (both_found found other_found)
gives-both join view other_view meant other (Ok a) (Ok b) is other_is = ap₂ (both join) is other_is
gives-both join view other_view meant other (Ok a) (Err (Refused c)) is other_is = ap₂ (both join) is other_is
gives-both join view other_view meant other (Ok a) (Err Memory) is other_is = tt
gives-both join view other_view meant other (Err (Refused c)) (Ok b) is other_is = ap₂ (both join) is other_is
gives-both join view other_view meant other (Err Memory) (Ok b) is other_is = tt
gives-both join view other_view meant other (Err (Refused c)) (Err (Refused d)) is other_is = ap₂ (both join) is other_is
gives-both join view other_view meant other (Err (Refused c)) (Err Memory) is other_is = tt
gives-both join view other_view meant other (Err Memory) (Err d) is other_is = tt

lesser-lesser : (a b c : Cause) → lesser a (lesser b c) ≡ lesser (lesser a b) c
lesser-lesser cause.Name b c = refl
lesser-lesser _ b c = refl

abbrev in_front : Expr → List Expr → List Expr
in_front x xs = x ∷ xs

abbrev behind : List Expr → Expr → List Expr
behind xs x = xs ++ x ∷ []

one-more : (meant : Meant Expr) → both in_front meant (Ok []) ≡ both behind (Ok []) meant
one-more (Ok x) = refl
one-more (Err c) = refl

both-both : (first : Meant Expr) (middle : Meant (List Expr)) (last : Meant Expr) → both in_front first (both behind middle last)
    ≡ both behind (both in_front first middle) last
both-both (Ok x) (Ok xs) (Ok y) = refl
both-both (Ok x) (Ok xs) (Err c) = refl
both-both (Ok x) (Err b) (Ok y) = refl
both-both (Ok x) (Err b) (Err c) = refl
both-both (Err a) (Ok xs) (Ok y) = refl
both-both (Err a) (Ok xs) (Err c) = refl
both-both (Err a) (Err b) (Ok y) = refl
both-both (Err a) (Err b) (Err c) = ap Err (lesser-lesser a b c)

pub all_meant-push : (scope : Scope) (items : List Term) (item : Term) → all_meant scope (items ++ item ∷ [])
    ≡ both (λ xs x. xs ++ x ∷ []) (all_meant scope items) (meaning_of scope item)
all_meant-push scope [] item = one-more (meaning_of scope item)
all_meant-push scope (first ∷ items) item =
    ap (λ meant. both in_front (meaning_of scope first) meant) (all_meant-push scope items item)
    ∙ both-both (meaning_of scope first) (all_meant scope items) (meaning_of scope item)

pub all_meant-more : (scope : Scope) (items : List Term) (at : ℕ) (item : Term) → at < length items → item ≡ slice_index_or items at item
    → both (λ xs x. xs ++ x ∷ []) (all_meant scope (take at items)) (meaning_of scope item) ≡ all_meant scope (take (at + 1) items)
all_meant-more scope items at item inside is =
    sym (all_meant-push scope (take at items) item)
    ∙ ap (λ items. all_meant scope items) (ap (λ x. take at items ++ x ∷ []) is ∙ sym (take_more items at item inside))

pub meanings_of-terms : (scope : Scope) (items : List Term) → meanings_of scope (terms items) ≡ all_meant scope items
meanings_of-terms scope [] = refl
meanings_of-terms scope (item ∷ items) =
    ap (λ meant. both in_front (meaning_of scope item) meant) (meanings_of-terms scope items)

pub term_size-item : (items : List Term) (at : ℕ) (item : Term) → at < length items → item ≡ slice_index_or items at item
    → term_size item < term_list_size items
term_size-item [] at item inside is = absurd (omega arith)
term_size-item (first ∷ items) zero item inside is = omega (arith, ap term_size is)
term_size-item (first ∷ items) (suc at) item inside is = omega (arith, term_size-item items at item (omega arith) is)

-- ---- where a call fails
pub gives-err : {A B : Type 0} (view : A → B) (meant : Meant B) (found : Result A LineFault) (fault : LineFault) → IsErrAnd found (λ e. e ≡ fault)
    → Fails meant fault → Gives view meant found
gives-err view meant (Ok a) fault is fails = absurd is
gives-err view meant (Err e) fault is fails = subst (Fails meant) (sym is) fails

pub if-err : {T : Type 0} (found : Result T LineFault) (fault : LineFault) (P : LineFault → Type 0) → IsErrAnd found (λ e. e ≡ fault) → P fault
    → IfErr found P
if-err (Ok value) fault P is holds = tt
if-err (Err e) fault P is holds = subst P (sym is) holds

-- what fails makes another meaning fail
pub fails-along : {A B : Type 0} (meant : Meant A) (other : Meant B) (fault : LineFault) → ((c : Cause) → meant ≡ Err c → other ≡ Err c) → Fails meant fault
    → Fails other fault
fails-along meant other (Refused c) along fails = along c fails
fails-along meant other Memory along fails = tt

pub one-argument-arity : (all : List Expr) (call : Expr → Expr) → length all ≢ 1 → one_argument call (Ok all) ≡ Err cause.Arity
one-argument-arity [] call other = refl
one-argument-arity (x ∷ []) call other = absurd (other refl)
one-argument-arity (x ∷ y ∷ xs) call other = refl

pub one-argument-is : (all front : List Expr) (last : Expr) (call : Expr → Expr) → all ≡ front ++ last ∷ [] → length all ≡ 1 → one_argument call (Ok all)
    ≡ Ok (call last)
one-argument-is all [] last call is one = ap (λ xs. one_argument call (Ok xs)) is
one-argument-is all (x ∷ front) last call is one =
    absurd (omega (arith, one, ap length is, length-append front (last ∷ [])))

pub error-fails : (found : Option Kind) (kind : Kind) (meant : Meant (List Expr)) (fault : LineFault) → Some kind ≡ found → is_made_by_error kind ≡ true
    → ((call : Expr → Expr) → Fails (one_argument call meant) fault) → Fails (error_of found meant) fault
error-fails found kind meant fault is made fails =
    let wrong : Meant Expr = Err cause.Name in
    subst (λ k. Fails (error_of k meant) fault) is
    (subst (λ b. Fails (if b then one_argument (MakeError kind) meant else wrong) fault) (sym made) (fails (MakeError kind)))

-- ---- calls and lists, by what code finds of their parts
pub gives-error_call : (bare : Option (RcStr Global)) (kind : RcStr Global) (name : Name) (meant : Meant (List Expr)) (found : Result Expr LineFault) → bare
    ≡ Some kind → name ≡ rc_str_bytes kind → Gives (λ e. e) (error_of (kind_of_name name) meant) found
    → Gives (λ e. e) (error_call (option_map rc_str_bytes bare) meant) found
gives-error_call bare kind name meant found is named gives =
    subst (λ b. Gives (λ e. e) (error_call (option_map rc_str_bytes b) meant) found) (sym is)
    (subst (λ n. Gives (λ e. e) (error_of (kind_of_name n) meant) found) named gives)

pub function-fails : (name : Name) (found : Option Function) (function : Function) (before : Meant (List Expr)) (bare : Option Name) (after : Meant (List Expr))
    (fault : LineFault) → Some function ≡ found → ((call : Expr → Expr) → Fails (one_argument call before) fault)
    → Fails (function_call name found before bare after) fault
function-fails name found function before bare after fault is fails =
    subst (λ f. Fails (function_call name f before bare after) fault) is (fails (Apply function))

list-meant : (scope : Scope) (items passed : List Term) → passed ≡ items → meant_map (λ all. ListOf (exprs all)) (all_meant scope passed)
    ≡ meaning_of scope (term.ListOf (terms items))
list-meant scope items passed is =
    ap (λ meant. meant_map (λ all. ListOf (exprs all)) meant) (ap (λ l. all_meant scope l) is ∙ sym (meanings_of-terms scope items))

pub list-fails : (scope : Scope) (t : Term) (items passed : List Term) (fault : LineFault) → term.ListOf (terms items) ≡ t → passed ≡ items
    → Fails (all_meant scope passed) fault → Fails (meaning_of scope t) fault
list-fails scope t items passed fault is passed_is fails =
    subst (λ t. Fails (meaning_of scope t) fault) is
    (fails-along (all_meant scope passed) (meaning_of scope (term.ListOf (terms items))) fault
    (λ c e. sym (list-meant scope items passed passed_is) ∙ ap (λ meant. meant_map (λ all. ListOf (exprs all)) meant) e) fails)

pub list-is : (scope : Scope) (t : Term) (items passed : List Term) (all : List Expr) → term.ListOf (terms items) ≡ t → passed ≡ items → all_meant scope passed
    ≡ Ok all → meaning_of scope t ≡ Ok (ListOf (exprs all))
list-is scope t items passed all is passed_is meant =
    ap (λ t. meaning_of scope t) (sym is)
    ∙ sym (list-meant scope items passed passed_is)
    ∙ ap (λ meant. meant_map (λ all. ListOf (exprs all)) meant) meant

pub gives-call : (scope : Scope) (t : Term) (name passed_name : Name) (before passed_before : List Term) (bare : Option Name) (after passed_after : List Term)
    (found : Result Expr LineFault) → Called name (terms before) bare (terms after) ≡ t → passed_name ≡ name → passed_before ≡ before → passed_after ≡ after
    → Gives (λ e. e) (function_call passed_name (function_of passed_name) (all_meant scope passed_before) bare (all_meant scope passed_after)) found
    → Gives (λ e. e) (meaning_of scope t) found
gives-call scope t name passed_name before passed_before bare after passed_after found is named before_is after_is gives =
    let before_meant = ap (λ l. all_meant scope l) before_is ∙ sym (meanings_of-terms scope before) in
    let after_meant = ap (λ l. all_meant scope l) after_is ∙ sym (meanings_of-terms scope after) in
    subst (λ t. Gives (λ e. e) (meaning_of scope t) found) is
    (subst (λ meant. Gives (λ e. e) meant found)
    (λ i. function_call (named i) (function_of (named i)) (before_meant i) bare (after_meant i)) gives)
