-- What a good term means spells the term again, and a text can spell it.
use Rattle.std.proofs.Common.{◌≡◌, Bool, true, false, List, [], ◌∷◌, map, find, Option, Some, None, Ok, Err, refl, sym, ap, subst}
use Rattle.std.specs.Prelude.{if◌then◌else◌}
use Rattle.std.specs.Str.{bytes_eq}
use Rattle.std.proofs.lemmas.Slice.Eq.{bytes_eq-Decides}
use Rattle.model_value.specs.declared.kind.Kind.{Kind}
use Rattle.model_value.specs.Kinds.{kinds, kind_name}
use Rattle.model_tree.specs.declared.function.Function.{Function}
use Rattle.model_tree.specs.declared.function.Function.TheVariants as function
use Rattle.model_tree.specs.Syntax as plain
use Rattle.model_tree.specs.Syntax.{Name, Expr, exprs}
use Rattle.model_tree.specs.Known.{functions, function_text, function_of, error_text, kind_of_name, is_made_by_error}
use Rattle.model_text.specs.declared.cause.Cause.TheVariants as cause
use Rattle.model_text.specs.Terms.{Term, Or, And, Not, Compare, Calculate, Negate, Index, Constantly, Variable, ListOf, Called, Terms, no_terms, term_then}
use Rattle.model_text.specs.Naming.{Scope, Meant, both, meant_map, if_known, is_variable, one_argument, error_of, error_call, function_call, meaning_of}
use Rattle.model_text.specs.Naming.{meanings_of, all_meant}
use Rattle.law_lines.specs.Lexemes.{term_from, terms_from}
use Rattle.law_lines.specs.WellWritten.{WellWrittenExpr, WellWrittenExprs}
use Rattle.law_lines.proofs.Goods.{CalledAs, GoodTerm, GoodTerms, AllGoodTerms}

-- ---- what meanings came from
pub both-ok : {A B C : Type 0} (f : A → B → C) (x : Meant A) (y : Meant B) (c : C) → both f x y ≡ Ok c
    → (a : A) × (b : B) × (x ≡ Ok a) × (y ≡ Ok b) × (f a b ≡ c)
both-ok f (Ok a) (Ok b) c e = (a, b, refl, refl, cc)
both-ok f (Ok a) (Err fault) c e = cc
both-ok f (Err fault) (Ok b) c e = cc
both-ok f (Err fault) (Err other) c e = cc

pub map-ok : {A B : Type 0} (f : A → B) (x : Meant A) (b : B) → meant_map f x ≡ Ok b → (a : A) × (x ≡ Ok a) × (f a ≡ b)
map-ok f (Ok a) b e = (a, refl, cc)
map-ok f (Err fault) b e = cc

pub known-ok : {A : Type 0} (test : Bool) (meaning a : A) → if_known test meaning ≡ Ok a → (test ≡ true) × (meaning ≡ a)
known-ok true meaning a e = (refl, cc)
known-ok false meaning a e = cc

pub one-ok : (call : Expr → Expr) (all : Meant (List Expr)) (e : Expr) → one_argument call all ≡ Ok e
    → (argument : Expr) × (all ≡ Ok (argument ∷ [])) × (call argument ≡ e)
one-ok call (Ok (argument ∷ [])) e h = (argument, refl, cc)
one-ok call (Ok []) e h = cc
one-ok call (Ok (first ∷ next ∷ others)) e h = cc
one-ok call (Err fault) e h = cc

-- ---- names that were found
found-by : {A : Type 0} (test : A → Bool) (x : A) (others : Option A) (a : A) (passes : Bool) → test x ≡ passes → (if passes then Some x else others) ≡ Some a
    → (others ≡ Some a → test a ≡ true) → test a ≡ true
found-by test x others a true e h behind = let same : x ≡ a = cc in subst (λ y. test y ≡ true) same e
found-by test x others a false e h behind = behind h

found-passes : {A : Type 0} (test : A → Bool) (all : List A) (a : A) → find test all ≡ Some a → test a ≡ true
found-passes test [] a h = cc
found-passes test (x ∷ all) a h = found-by test x (find test all) a (test x) refl h (λ behind. found-passes test all a behind)

pub named-so : {A : Type 0} (text : A → Name) (all : List A) (name : Name) (a : A) → find (λ x. bytes_eq (text x) name) all ≡ Some a → text a ≡ name
named-so text all name a h = (bytes_eq-Decides (text a) name).0 (found-passes (λ x. bytes_eq (text x) name) all a h)

-- ---- expressions
abbrev Back : Term → Expr → Type 0
Back t e = (term_from e ≡ t) × WellWrittenExpr e

abbrev RowBack : Terms → List Expr → Type 0
RowBack ts all = (terms_from (exprs all) ≡ ts) × WellWrittenExprs (exprs all)

no-function : (f : Function) → bytes_eq (function_text f) error_text ≡ false
no-function function.Len = refl
no-function _ = refl

module _ (scope : Scope) (name : Name) (before after : Terms) (gb : (all : List Expr) → meanings_of scope before ≡ Ok all → RowBack before all)
    (ga : (all : List Expr) → meanings_of scope after ≡ Ok all → RowBack after all) where
  apply-back : (bare : Option Name) (f : Function) (e : Expr) → function_text f ≡ name → CalledAs (bytes_eq name error_text) before bare after
      → one_argument (plain.Apply f) (meanings_of scope before) ≡ Ok e → Back (Called name before bare after) e
  apply-back bare f e n g h =
      let o = one-ok (plain.Apply f) (meanings_of scope before) e h in
      let b = gb (o.0 ∷ []) o.1 in
      let other = subst (λ l. bytes_eq l error_text ≡ false) n (no-function f) in
      let c : CalledAs false before bare after = subst (λ test. CalledAs test before bare after) other g in
      subst (Back (Called name before bare after)) o.2 ((λ i. Called (n i) (b.0 i) (sym c.0 i) (sym c.1 i)), b.1.0)

  kind-back : (kind : Name) (made : Bool) (k : Kind) (e : Expr) → kind_name k ≡ kind → error_text ≡ name → before ≡ no_terms
      → (if made then one_argument (plain.MakeError k) (meanings_of scope after) else Err cause.Name) ≡ Ok e → Back (Called name before (Some kind) after) e
  kind-back kind true k e n same none h =
      let o = one-ok (plain.MakeError k) (meanings_of scope after) e h in
      let b = ga (o.0 ∷ []) o.1 in
      subst (Back (Called name before (Some kind) after)) o.2 ((λ i. Called (same i) (sym none i) (Some (n i)) (b.0 i)), b.1.0)
  kind-back kind false k e n same none h = cc

  error-of-back : (kind : Name) (found : Option Kind) (e : Expr) → kind_of_name kind ≡ found → error_text ≡ name → before ≡ no_terms
      → error_of found (meanings_of scope after) ≡ Ok e → Back (Called name before (Some kind) after) e
  error-of-back kind None e f same none h = cc
  error-of-back kind (Some k) e f same none h =
      kind-back kind (is_made_by_error k) k e (named-so kind_name kinds kind k f) same none h

  error-back : (bare : Option Name) (e : Expr) → error_text ≡ name → before ≡ no_terms → error_call bare (meanings_of scope after) ≡ Ok e
      → Back (Called name before bare after) e
  error-back None e same none h = cc
  error-back (Some kind) e same none h = error-of-back kind (kind_of_name kind) e refl same none h

  other-back : (bare : Option Name) (test : Bool) (e : Expr) → bytes_eq name error_text ≡ test → CalledAs test before bare after
      → (if test then error_call bare (meanings_of scope after) else Err cause.Name) ≡ Ok e → Back (Called name before bare after) e
  other-back bare true e n g h = error-back bare e (sym ((bytes_eq-Decides name error_text).0 n)) g h
  other-back bare false e n g h = cc

  called-back : (bare : Option Name) (found : Option Function) (e : Expr) → function_of name ≡ found → CalledAs (bytes_eq name error_text) before bare after
      → function_call name found (meanings_of scope before) bare (meanings_of scope after) ≡ Ok e → Back (Called name before bare after) e
  called-back bare (Some f) e n g h = apply-back bare f e (named-so function_text functions name f n) g h
  called-back bare None e n g h = other-back bare (bytes_eq name error_text) e refl g h

module _ (scope : Scope) where
  mutual
    pub term-back : (t : Term) (e : Expr) → GoodTerm t → meaning_of scope t ≡ Ok e → (term_from e ≡ t) × WellWrittenExpr e
    term-back (Or left right) e g h =
        let b = both-ok plain.Or (meaning_of scope left) (meaning_of scope right) e h in
        let l = term-back left b.0 g.0 b.2 in
        let r = term-back right b.1 g.1 b.3 in
        subst (Back (Or left right)) b.4 ((λ i. Or (l.0 i) (r.0 i)), (l.1, r.1))
    term-back (And left right) e g h =
        let b = both-ok plain.And (meaning_of scope left) (meaning_of scope right) e h in
        let l = term-back left b.0 g.0 b.2 in
        let r = term-back right b.1 g.1 b.3 in
        subst (Back (And left right)) b.4 ((λ i. And (l.0 i) (r.0 i)), (l.1, r.1))
    term-back (Not operand) e g h =
        let m = map-ok plain.Not (meaning_of scope operand) e h in
        let o = term-back operand m.0 g m.1 in
        subst (Back (Not operand)) m.2 (ap Not o.0, o.1)
    term-back (Compare c left right) e g h =
        let b = both-ok (plain.Compare c) (meaning_of scope left) (meaning_of scope right) e h in
        let l = term-back left b.0 g.0 b.2 in
        let r = term-back right b.1 g.1 b.3 in
        subst (Back (Compare c left right)) b.4 ((λ i. Compare c (l.0 i) (r.0 i)), (l.1, r.1))
    term-back (Calculate c left right) e g h =
        let b = both-ok (plain.Calculate c) (meaning_of scope left) (meaning_of scope right) e h in
        let l = term-back left b.0 g.0 b.2 in
        let r = term-back right b.1 g.1 b.3 in
        subst (Back (Calculate c left right)) b.4 ((λ i. Calculate c (l.0 i) (r.0 i)), (l.1, r.1))
    term-back (Negate operand) e g h =
        let m = map-ok plain.Negate (meaning_of scope operand) e h in
        let o = term-back operand m.0 g m.1 in
        subst (Back (Negate operand)) m.2 (ap Negate o.0, o.1)
    term-back (Index sequence index) e g h =
        let b = both-ok plain.Index (meaning_of scope sequence) (meaning_of scope index) e h in
        let l = term-back sequence b.0 g.0 b.2 in
        let r = term-back index b.1 g.1 b.3 in
        subst (Back (Index sequence index)) b.4 ((λ i. Index (l.0 i) (r.0 i)), (l.1, r.1))
    term-back (Constantly constant) e g h =
        let same : plain.Literal constant ≡ e = cc in subst (Back (Constantly constant)) same (refl, g)
    term-back (Variable name) e g h =
        let k = known-ok (is_variable scope name) (plain.Variable name) e h in
        subst (Back (Variable name)) k.1 (refl, g)
    term-back (ListOf items) e g h =
        let m = map-ok (λ all. plain.ListOf (exprs all)) (meanings_of scope items) e h in
        let r = terms-back items m.0 g m.1 in
        subst (Back (ListOf items)) m.2 (ap ListOf r.0, r.1)
    term-back (Called name before bare after) e g h =
        called-back scope name before after (λ all m. terms-back before all g.1 m) (λ all m. terms-back after all g.2 m) bare (function_of name) e refl g.0 h

    pub terms-back : (ts : Terms) (all : List Expr) → GoodTerms ts → meanings_of scope ts ≡ Ok all
        → (terms_from (exprs all) ≡ ts) × WellWrittenExprs (exprs all)
    terms-back no_terms all g h = let none : [] ≡ all = cc in subst (RowBack no_terms) none (refl, tt)
    terms-back (term_then first others) all g h =
        let b = both-ok (λ (x : Expr) (xs : List Expr). x ∷ xs) (meaning_of scope first) (meanings_of scope others) all h in
        let f = term-back first b.0 g.0 b.2 in
        let r = terms-back others b.1 g.1 b.3 in
        subst (RowBack (term_then first others)) b.4 ((λ i. term_then (f.0 i) (r.0 i)), (f.1, r.1))

  pub all-back : (ts : List Term) (all : List Expr) → AllGoodTerms ts → all_meant scope ts ≡ Ok all → (map term_from all ≡ ts) × WellWrittenExprs (exprs all)
  all-back [] all g h =
      let P : List Expr → Type 0 = λ l. (map term_from l ≡ []) × WellWrittenExprs (exprs l) in
      let none : [] ≡ all = cc in
      subst P none (refl, tt)
  all-back (first ∷ others) all g h =
      let P : List Expr → Type 0 = λ l. (map term_from l ≡ first ∷ others) × WellWrittenExprs (exprs l) in
      let b = both-ok (λ (x : Expr) (xs : List Expr). x ∷ xs) (meaning_of scope first) (all_meant scope others) all h in
      let f = term-back first b.0 g.0 b.2 in
      let r = all-back others b.1 g.1 b.3 in
      subst P b.4 ((λ i. f.0 i ∷ r.0 i), (f.1, r.1))
