-- What the line of an accepted text means spells the line's form again, and a text can spell it.
use Rattle.std.proofs.Common.{◌≡◌, ℕ, Bool, true, false, List, [], ◌∷◌, length, map, Option, Some, None, Result, Ok, Err, refl, sym, ap, subst, ◌∙◌, arith}
use Rattle.std.proofs.Common.{nat_eq}
use Rattle.std.specs.Prelude.{option_map, not, if◌then◌else◌}
use Rattle.std.specs.Str.{bytes_eq}
use Rattle.std.proofs.lemmas.Bool.{eqb-true}
use Rattle.std.proofs.lemmas.Slice.Eq.{bytes_eq-Decides}
use Rattle.model_value.specs.declared.kind.Kind.{Kind}
use Rattle.model_value.specs.Kinds.{kinds, kind_name}
use Rattle.model_tree.specs.declared.request_name.RequestName.{RequestName}
use Rattle.model_tree.specs.Syntax as plain
use Rattle.model_tree.specs.Syntax.{Name, Expr, exprs, Target}
use Rattle.model_tree.specs.Known.{requests, request_text, request_of, request_arity, spawn_text, create_text, listen_text, kind_of_name, is_taken}
use Rattle.model_text.specs.declared.cause.Cause.{Cause}
use Rattle.model_text.specs.Terms.{Term}
use Rattle.model_text.specs.Faults.{TokenFault}
use Rattle.model_text.specs.Tokens.{Token, tokens_of}
use Rattle.model_text.specs.Words.{Lexeme, lexemes_of}
use Rattle.model_text.specs.Forms.{Profile, Def, Assign, Yield, YieldFrom, Print, Raise, Return, Pass, If, Else, While, Try, Except, Finally, WithGroup}
use Rattle.model_text.specs.Forms.{WithTimeout, End, Goal, Awaited, Asked, Spelled, coroutine_place, form_of}
use Rattle.model_text.specs.Naming.{Callee, Scope, Meant, both, if_arity, is_variable, one_argument, counted, missing, meaning_of, all_meant, callee_of, passed}
use Rattle.model_text.specs.Naming.{request_target, spawn_target, create_by, create_target, listen_by, listen_target, called_target, target_of}
use Rattle.model_text.specs.Places.{Role, cause_behind}
use Rattle.model_text.specs.FirstPass.{placed, form_behind_lines, lexemes_behind, tokens_behind, line_behind}
use Rattle.model_text.specs.SecondPass.{Line, free, free_or_none, kind_meant, value_meant, line_meant}
use Rattle.law_lines.specs.Lexemes.{term_from}
use Rattle.law_lines.specs.LineTexts.{row_from, arguments_from, goal_from, spelled}
use Rattle.law_lines.specs.WellWritten.{WellNamed, PerhapsNamed, WellWrittenExpr, WellWrittenExprs, WellWrittenTarget, WellWrittenItems, PerhapsWritten}
use Rattle.law_lines.specs.WellWritten.{WellWritten}
use Rattle.law_lines.proofs.Arguments.{request-place}
use Rattle.law_lines.proofs.FormReads.{row-back}
use Rattle.law_lines.proofs.Goods.{AllGoodTerms, good-tokens}
use Rattle.law_lines.proofs.GoodTerms.{ShapedAs}
use Rattle.law_lines.proofs.GoodForms.{GoodGoal, GoodItems, PerhapsGood, GoodForm, form-good}
use Rattle.law_lines.proofs.MeantTerms.{both-ok, map-ok, known-ok, one-ok, named-so, term-back, all-back}

-- ---- numbers of arguments
arity-ok : {A : Type 0} (test : Bool) (meaning a : A) → if_arity test meaning ≡ Ok a → (test ≡ true) × (meaning ≡ a)
arity-ok true meaning a e = (refl, cc)
arity-ok false meaning a e = cc

counted-ok : {A : Type 0} (count : ℕ) (meaning : List Expr → A) (all : Meant (List Expr)) (a : A) → counted count meaning all ≡ Ok a
    → (es : List Expr) × (all ≡ Ok es) × (nat_eq (length es) count ≡ true) × (meaning es ≡ a)
counted-ok count meaning (Ok es) a e =
    let k = arity-ok (nat_eq (length es) count) (meaning es) a e in
    (es, refl, k.0, k.1)
counted-ok count meaning (Err fault) a e = cc

none-counted : (es : List Expr) → nat_eq (length es) 0 ≡ true → es ≡ []
none-counted [] e = refl
none-counted (first ∷ others) e =
    let same = eqb-true (length (first ∷ others)) 0 e in absurd (omega (arith, same))

never-missing : {A : Type 0} (all : Meant (List Expr)) (a : A) → missing all ≡ Ok a → ⊥
never-missing (Ok es) a e = cc
never-missing (Err fault) a e = cc

-- ---- targets
abbrev GoalBack : Goal → Target → Type 0
GoalBack goal target = (goal_from target ≡ goal) × WellWrittenTarget target

module _ (scope : Scope) (name : Name) (before after : List Term) (gb : AllGoodTerms before) (ga : AllGoodTerms after) where
  rows-before : (es : List Expr) → all_meant scope before ≡ Ok es → (row_from (exprs es) ≡ before) × WellWrittenExprs (exprs es)
  rows-before es h = let b = all-back scope before es gb h in (row-back es ∙ b.0, b.1)

  rows-after : (es : List Expr) → all_meant scope after ≡ Ok es → (row_from (exprs es) ≡ after) × WellWrittenExprs (exprs es)
  rows-after es h = let b = all-back scope after es ga h in (row-back es ∙ b.0, b.1)

  -- one argument alone
  one-before : (e : Expr) → one_argument (λ argument. argument) (all_meant scope before) ≡ Ok e → (term_from e ∷ [] ≡ before) × WellWrittenExpr e
  one-before e h =
      let P : Expr → Type 0 = λ x. (term_from x ∷ [] ≡ before) × WellWrittenExpr x in
      let o = one-ok (λ argument. argument) (all_meant scope before) e h in
      let b = all-back scope before (o.0 ∷ []) gb o.1 in
      subst P o.2 (b.0, b.1.0)

  request-back : (bare : Option Name) (r : RequestName) (t : Target) → request_text r ≡ name
      → ShapedAs (coroutine_place name) (arguments_from before bare after) → request_target scope r (all_meant scope before) ≡ Ok t
      → GoalBack (Asked name (arguments_from before bare after)) t
  request-back bare r t n s h =
      let c = counted-ok (request_arity r) (λ all. plain.Ask r (exprs all)) (all_meant scope before) t h in
      let b = rows-before c.0 c.1 in
      let place : coroutine_place name ≡ None = ap coroutine_place (sym n) ∙ request-place r in
      let a : ShapedAs None (arguments_from before bare after) = subst (λ p. ShapedAs p (arguments_from before bare after)) place s in
      subst (GoalBack (Asked name (arguments_from before bare after))) c.3 ((λ i. Asked (n i) (arguments_from (b.0 i) (sym a.0 i) (sym a.1 i))), b.1)

  spawn-passed : (n : Name) (found : Option Callee) (t : Target) → WellNamed n → spawn_text ≡ name → before ≡ []
      → passed scope found (plain.SpawnTask n) (all_meant scope after) ≡ Ok t → GoalBack (Asked name (arguments_from before (Some n) after)) t
  spawn-passed n None t w same none h = cc
  spawn-passed n (Some callee) t w same none h =
      let c = counted-ok callee.parameters (λ all. plain.SpawnTask n (exprs all)) (all_meant scope after) t h in
      let b = rows-after c.0 c.1 in
      subst (GoalBack (Asked name (arguments_from before (Some n) after))) c.3 ((λ i. Asked (same i) (arguments_from (sym none i) (Some n) (b.0 i))), (w, b.1))

  spawn-back : (bare : Option Name) (t : Target) → PerhapsNamed bare → spawn_text ≡ name → before ≡ [] → spawn_target scope bare (all_meant scope after) ≡ Ok t
      → GoalBack (Asked name (arguments_from before bare after)) t
  spawn-back None t w same none h = cc
  spawn-back (Some n) t w same none h = spawn-passed n (callee_of scope n) t w same none h

  create-by : (n : Name) (found : Option Callee) (t : Target) → WellNamed n → create_text ≡ name
      → create_by scope found n (all_meant scope before) (all_meant scope after) ≡ Ok t → GoalBack (Asked name (arguments_from before (Some n) after)) t
  create-by n None t w same h = cc
  create-by n (Some callee) t w same h =
      let b =
      both-ok (λ group arguments. plain.CreateTask group n (exprs arguments))
      (one_argument (λ group. group) (all_meant scope before))
      (counted callee.parameters (λ all. all) (all_meant scope after)) t h in
      let g = one-before b.0 b.2 in
      let c = counted-ok callee.parameters (λ all. all) (all_meant scope after) b.1 b.3 in
      let a = rows-after b.1 (c.1 ∙ ap Ok c.3) in
      subst (GoalBack (Asked name (arguments_from before (Some n) after))) b.4 ((λ i. Asked (same i) (arguments_from (g.0 i) (Some n) (a.0 i))), (g.1, w, a.1))

  create-back : (bare : Option Name) (t : Target) → PerhapsNamed bare → create_text ≡ name
      → create_target scope (all_meant scope before) bare (all_meant scope after) ≡ Ok t → GoalBack (Asked name (arguments_from before bare after)) t
  create-back None t w same h = absurd (never-missing (all_meant scope before) t h)
  create-back (Some n) t w same h = create-by n (callee_of scope n) t w same h

  listen-by : (n : Name) (found : Option Callee) (t : Target) → WellNamed n → listen_text ≡ name
      → listen_by scope found n (all_meant scope before) (all_meant scope after) ≡ Ok t → GoalBack (Asked name (arguments_from before (Some n) after)) t
  listen-by n None t w same h = cc
  listen-by n (Some callee) t w same h =
      let no-arguments = counted 0 (λ all. all) (all_meant scope after) in
      let named = if_arity (nat_eq callee.parameters 1) n in
      let handler = both {A = List Expr} (λ none handler. handler) no-arguments named in
      let b = both-ok plain.ListenAt (one_argument (λ port. port) (all_meant scope before)) handler t h in
      let p = one-before b.0 b.2 in
      let k = both-ok {A = List Expr} (λ none handler. handler) no-arguments named b.1 b.3 in
      let c = counted-ok 0 (λ all. all) (all_meant scope after) k.0 k.2 in
      let none : [] ≡ after = ap (map term_from) (sym (none-counted c.0 c.2)) ∙ (all-back scope after c.0 ga c.1).0 in
      let kept : n ≡ b.1 = (arity-ok (nat_eq callee.parameters 1) n k.1 k.3).1 ∙ k.4 in
      subst (GoalBack (Asked name (arguments_from before (Some n) after))) b.4
      ((λ i. Asked (same i) (arguments_from (p.0 i) (Some (sym kept i)) (none i))), (p.1, subst WellNamed kept w))

  listen-back : (bare : Option Name) (t : Target) → PerhapsNamed bare → listen_text ≡ name
      → listen_target scope (all_meant scope before) bare (all_meant scope after) ≡ Ok t → GoalBack (Asked name (arguments_from before bare after)) t
  listen-back None t w same h = absurd (never-missing (all_meant scope before) t h)
  listen-back (Some n) t w same h = listen-by n (callee_of scope n) t w same h

  call-passed : (bare : Option Name) (found : Option Callee) (t : Target) → WellNamed name → is_taken name ≡ false
      → ShapedAs None (arguments_from before bare after) → passed scope found (plain.Call name) (all_meant scope before) ≡ Ok t
      → GoalBack (Asked name (arguments_from before bare after)) t
  call-passed bare None t w free a h = cc
  call-passed bare (Some callee) t w free a h =
      let c = counted-ok callee.parameters (λ all. plain.Call name (exprs all)) (all_meant scope before) t h in
      let b = rows-before c.0 c.1 in
      subst (GoalBack (Asked name (arguments_from before bare after))) c.3 ((λ i. Asked name (arguments_from (b.0 i) (sym a.0 i) (sym a.1 i))), (w, free, b.1))

  call-back : (bare : Option Name) (taken : Bool) (found : Option Callee) (t : Target) → WellNamed name → is_taken name ≡ taken
      → ShapedAs None (arguments_from before bare after) → passed scope (if taken then None else found) (plain.Call name) (all_meant scope before) ≡ Ok t
      → GoalBack (Asked name (arguments_from before bare after)) t
  call-back bare true found t w e a h = cc
  call-back bare false found t w e a h = call-passed bare found t w e a h

  -- where the name is none of the language's requests
  by-listen : (bare : Option Name) (listens : Bool) (t : Target) → PerhapsNamed bare → WellNamed name → bytes_eq name spawn_text ≡ false
      → bytes_eq name create_text ≡ false → bytes_eq name listen_text ≡ listens → ShapedAs (coroutine_place name) (arguments_from before bare after)
      → (if listens then listen_target scope (all_meant scope before) bare (all_meant scope after) else passed scope (callee_of scope name)
      (plain.Call name) (all_meant scope before)) ≡ Ok t → GoalBack (Asked name (arguments_from before bare after)) t
  by-listen bare true t n w s c l a h = listen-back bare t n (sym ((bytes_eq-Decides name listen_text).0 l)) h
  by-listen bare false t n w s c l a h =
      let place : coroutine_place name ≡ None = rw (s, c, l) refl in
      call-back bare (is_taken name) _ t w refl (subst (λ p. ShapedAs p (arguments_from before bare after)) place a) h

  by-create : (bare : Option Name) (creates : Bool) (t : Target) → PerhapsNamed bare → WellNamed name → bytes_eq name spawn_text ≡ false
      → bytes_eq name create_text ≡ creates → ShapedAs (coroutine_place name) (arguments_from before bare after)
      → (if creates then create_target scope (all_meant scope before) bare (all_meant scope after) else
      (if bytes_eq name listen_text then listen_target scope (all_meant scope before) bare (all_meant scope after) else passed scope
      (callee_of scope name) (plain.Call name) (all_meant scope before))) ≡ Ok t → GoalBack (Asked name (arguments_from before bare after)) t
  by-create bare true t n w s c a h = create-back bare t n (sym ((bytes_eq-Decides name create_text).0 c)) h
  by-create bare false t n w s c a h = by-listen bare (bytes_eq name listen_text) t n w s c refl a h

  by-spawn : (bare : Option Name) (spawns : Bool) (t : Target) → PerhapsNamed bare → WellNamed name → bytes_eq name spawn_text ≡ spawns
      → ShapedAs (coroutine_place name) (arguments_from before bare after)
      → (if spawns then spawn_target scope bare (all_meant scope after) else
      (if bytes_eq name create_text then create_target scope (all_meant scope before) bare (all_meant scope after) else
      (if bytes_eq name listen_text then listen_target scope (all_meant scope before) bare (all_meant scope after) else passed scope
      (callee_of scope name) (plain.Call name) (all_meant scope before)))) ≡ Ok t → GoalBack (Asked name (arguments_from before bare after)) t
  by-spawn bare true t n w s a h =
      let same : spawn_text ≡ name = sym ((bytes_eq-Decides name spawn_text).0 s) in
      let none : before ≡ [] = subst (λ p. ShapedAs p (arguments_from before bare after)) (ap coroutine_place (sym same)) a in
      spawn-back bare t n same none h
  by-spawn bare false t n w s a h = by-create bare (bytes_eq name create_text) t n w s refl a h

  called-back : (bare : Option Name) (found : Option RequestName) (t : Target) → request_of name ≡ found → PerhapsNamed bare → WellNamed name
      → ShapedAs (coroutine_place name) (arguments_from before bare after)
      → called_target scope name found (all_meant scope before) bare (all_meant scope after) ≡ Ok t
      → GoalBack (Asked name (arguments_from before bare after)) t
  called-back bare (Some r) t f n w a h = request-back bare r t (named-so request_text requests name r f) a h
  called-back bare None t f n w a h = by-spawn bare (bytes_eq name spawn_text) t n w refl a h

goal-back : (scope : Scope) (goal : Goal) (t : Target) → GoodGoal goal → target_of scope goal ≡ Ok t → GoalBack goal t
goal-back scope (Awaited name) t g h =
    let k = known-ok (is_variable scope name) (plain.Await name) t h in subst (GoalBack (Awaited name)) k.1 (refl, g)
goal-back scope (Asked name a) t g h =
    called-back scope name a.before a.after g.1.1 g.1.3 a.bare (request_of name) t refl g.1.2 g.0 g.1.0 h

-- ---- lines
abbrev LineBack : Spelled → Line → Type 0
LineBack form line = (spelled line ≡ form) × WellWritten line

free-ok : (name found : Name) → free name ≡ Ok found → name ≡ found
free-ok name found h = (known-ok (not (is_taken name)) name found h).1

abbrev IntoBack : Option Name → Option Name → Type 0
IntoBack name found = (found ≡ name) × PerhapsNamed found

perhaps-free : (name found : Option Name) → PerhapsNamed name → free_or_none name ≡ Ok found → IntoBack name found
perhaps-free None found n h = let same : None ≡ found = cc in subst (IntoBack None) same (refl, tt)
perhaps-free (Some name) found n h =
    let m = map-ok Some (free name) found h in
    let same = free-ok name m.0 m.1 in
    subst (IntoBack (Some name)) m.2 (subst (λ l. IntoBack (Some name) (Some l)) same (refl, n))

kind-ok : (name : Name) (found : Option Kind) (k : Kind) → kind_of_name name ≡ found → kind_meant found ≡ Ok k → kind_name k ≡ name
kind-ok name None k e h = cc
kind-ok name (Some other) k e h =
    let same : other ≡ k = cc in subst (λ l. kind_name l ≡ name) same (named-so kind_name kinds name other e)

abbrev ValueBack : Option Term → Option Expr → Type 0
ValueBack value found = (option_map term_from found ≡ value) × PerhapsWritten found

value-back : (scope : Scope) (value : Option Term) (found : Option Expr) → PerhapsGood value → value_meant scope value ≡ Ok found → ValueBack value found
value-back scope None found g h = let same : None ≡ found = cc in subst (ValueBack None) same (refl, tt)
value-back scope (Some value) found g h =
    let m = map-ok Some (meaning_of scope value) found h in
    let b = term-back scope value m.0 g m.1 in
    subst (ValueBack (Some value)) m.2 (ap Some b.0, b.1)

-- something is printed
items-back : (scope : Scope) (items : List Term) (all : List Expr) → GoodItems items → all_meant scope items ≡ Ok all
    → (map term_from all ≡ items) × WellWrittenItems all
items-back scope [] all g h = absurd g
items-back scope (first ∷ others) [] g h = let b = all-back scope (first ∷ others) [] g h in let wrong = b.0 in cc
items-back scope (first ∷ others) (x ∷ xs) g h = all-back scope (first ∷ others) (x ∷ xs) g h

pub line-back : (scope : Scope) (form : Spelled) (line : Line) → GoodForm form → line_meant scope form ≡ Ok line → (spelled line ≡ form) × WellWritten line
line-back scope (Profile number) line g h =
    let same : Profile number ≡ line = cc in subst (LineBack (Profile number)) same (refl, g)
line-back scope (Def name parameters) line g h =
    let same : Def name parameters ≡ line = cc in subst (LineBack (Def name parameters)) same (refl, g)
line-back scope (Assign name value) line g h =
    let b = both-ok (λ n e. let l : Line = Assign n e in l) (free name) (meaning_of scope value) line h in
    let n = free-ok name b.0 b.2 in
    let v = term-back scope value b.1 g.1 b.3 in
    subst (LineBack (Assign name value)) b.4 ((λ i. Assign (sym n i) (v.0 i)), (subst WellNamed n g.0, v.1))
line-back scope Yield line g h = let same : Yield ≡ line = cc in subst (LineBack Yield) same (refl, tt)
line-back scope (YieldFrom into target) line g h =
    let b = both-ok (λ n t. let l : Line = YieldFrom n t in l) (free_or_none into) (target_of scope target) line h in
    let n = perhaps-free into b.0 g.0 b.2 in
    let t = goal-back scope target b.1 g.1 b.3 in
    subst (LineBack (YieldFrom into target)) b.4 ((λ i. YieldFrom (n.0 i) (t.0 i)), (n.1, t.1))
line-back scope (Print items) line g h =
    let m = map-ok (λ all. let l : Line = Print all in l) (all_meant scope items) line h in
    let b = items-back scope items m.0 g m.1 in
    subst (LineBack (Print items)) m.2 ((λ i. Print (b.0 i)), b.1)
line-back scope (Raise fault) line g h =
    let m = map-ok (λ e. let l : Line = Raise e in l) (meaning_of scope fault) line h in
    let b = term-back scope fault m.0 g m.1 in
    subst (LineBack (Raise fault)) m.2 ((λ i. Raise (b.0 i)), b.1)
line-back scope (Return value) line g h =
    let m = map-ok (λ e. let l : Line = Return e in l) (value_meant scope value) line h in
    let b = value-back scope value m.0 g m.1 in
    subst (LineBack (Return value)) m.2 ((λ i. Return (b.0 i)), b.1)
line-back scope Pass line g h = let same : Pass ≡ line = cc in subst (LineBack Pass) same (refl, tt)
line-back scope (If test) line g h =
    let m = map-ok (λ e. let l : Line = If e in l) (meaning_of scope test) line h in
    let b = term-back scope test m.0 g m.1 in
    subst (LineBack (If test)) m.2 ((λ i. If (b.0 i)), b.1)
line-back scope Else line g h = let same : Else ≡ line = cc in subst (LineBack Else) same (refl, tt)
line-back scope (While test) line g h =
    let m = map-ok (λ e. let l : Line = While e in l) (meaning_of scope test) line h in
    let b = term-back scope test m.0 g m.1 in
    subst (LineBack (While test)) m.2 ((λ i. While (b.0 i)), b.1)
line-back scope Try line g h = let same : Try ≡ line = cc in subst (LineBack Try) same (refl, tt)
line-back scope (Except kind name) line g h =
    let b = both-ok (λ k n. let l : Line = Except k n in l) (kind_meant (kind_of_name kind)) (free_or_none name) line h in
    let k = kind-ok kind (kind_of_name kind) b.0 refl b.2 in
    let n = perhaps-free name b.1 g b.3 in
    subst (LineBack (Except kind name)) b.4 ((λ i. Except (k i) (n.0 i)), n.1)
line-back scope Finally line g h = let same : Finally ≡ line = cc in subst (LineBack Finally) same (refl, tt)
line-back scope (WithGroup name) line g h =
    let m = map-ok (λ n. let l : Line = WithGroup n in l) (free name) line h in
    let n = free-ok name m.0 m.1 in
    subst (LineBack (WithGroup name)) m.2 ((λ i. WithGroup (sym n i)), subst WellNamed n g)
line-back scope (WithTimeout delay name) line g h =
    let b = both-ok (λ e n. let l : Line = WithTimeout e n in l) (meaning_of scope delay) (free name) line h in
    let v = term-back scope delay b.0 g.0 b.2 in
    let n = free-ok name b.1 b.3 in
    subst (LineBack (WithTimeout delay name)) b.4 ((λ i. WithTimeout (v.0 i) (sym n i)), (v.1, subst WellNamed n g.1))
line-back scope End line g h = let same : End ≡ line = cc in subst (LineBack End) same (refl, tt)

-- ---- the line of a text
pub accepted-back : (scope : Scope) (text : List ℕ) (tokens : List Token) (form : Spelled) (line : Line) → tokens_of text ≡ Ok tokens
    → form_of (lexemes_of tokens) ≡ Some form → line_meant scope form ≡ Ok line → (spelled line ≡ form) × WellWritten line
accepted-back scope text tokens form line t f m =
    line-back scope form line (form-good (lexemes_of tokens) form (good-tokens text tokens t) f) m

placed-so : (found : Option Cause) (f form : Spelled) → placed found f ≡ Ok (Some form) → f ≡ form
placed-so None f form e = cc
placed-so (Some cause) f form e = cc

formed-so : (before : List Role) (found : Option Spelled) (form : Spelled) → form_behind_lines before found ≡ Ok (Some form) → found ≡ Some form
formed-so before None form e = cc
formed-so before (Some f) form e = ap Some (placed-so (cause_behind before f) f form e)

lexemes-so : (before : List Role) (lexemes : List Lexeme) (form : Spelled) → lexemes_behind before lexemes ≡ Ok (Some form) → form_of lexemes ≡ Some form
lexemes-so before [] form e = cc
lexemes-so before (lexeme ∷ lexemes) form e = formed-so before (form_of (lexeme ∷ lexemes)) form e

taken-so : (before : List Role) (text : List ℕ) (found : Result (List Token) TokenFault) (form : Spelled) → tokens_of text ≡ found → tokens_behind before found
    ≡ Ok (Some form) → (tokens : List Token) × (tokens_of text ≡ Ok tokens) × (form_of (lexemes_of tokens) ≡ Some form)
taken-so before text (Err fault) form t e = cc
taken-so before text (Ok tokens) form t e = (tokens, t, lexemes-so before (lexemes_of tokens) form e)

-- the line of a text that the first pass took
pub taken-back : (scope : Scope) (before : List Role) (text : List ℕ) (form : Spelled) (line : Line) → line_behind before text ≡ Ok (Some form)
    → line_meant scope form ≡ Ok line → (spelled line ≡ form) × WellWritten line
taken-back scope before text form line e m =
    let t = taken-so before text (tokens_of text) form refl e in accepted-back scope text t.0 form line t.1 t.2 m
