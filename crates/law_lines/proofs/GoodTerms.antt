-- What good tokens spell is a good term.
use Rattle.std.proofs.Common.{◌≡◌, ℕ, zero, suc, Bool, true, false, List, [], ◌∷◌, map, Option, Some, None, refl, sym, ap, subst, ◌∙◌, arith}
use Rattle.std.specs.Prelude.{option_and_then, option_map, length, take, drop, if◌then◌else◌}
use Rattle.std.specs.List.{AllByRecursion}
use Rattle.std.specs.Str.{bytes_eq}
use Rattle.model_tree.specs.declared.operator.Comparison.{Comparison}
use Rattle.model_tree.specs.Syntax.{Name, NoneConstant, TruthConstant, IntConstant, TextConstant, BytesConstant}
use Rattle.model_tree.specs.Known.{error_text}
use Rattle.model_text.specs.declared.symbol.Symbol.{Symbol as AnySymbol}
use Rattle.model_text.specs.declared.symbol.Symbol.TheVariants as symbol
use Rattle.model_text.specs.declared.reserved_word.ReservedWord.TheVariants as word
use Rattle.model_text.specs.Words.{Lexeme, Reserved, Named, Number, Texts, Octets, Sign, is_sign}
use Rattle.model_text.specs.Cutting.{Pieces, Cutter, with_front, cut_outside, depth_behind, ends_operand, pieces_from, pieces, parts, before_last}
use Rattle.model_text.specs.Terms.{Term, Or, And, Not, Compare, Calculate, Negate, Index, Constantly, Variable, ListOf, Called, terms}
use Rattle.model_text.specs.Levels.{Parser, all_of, at_word, at_comparison, at_sum, at_product, at_index, joined, level, bare_name, Arguments, with_bare}
use Rattle.model_text.specs.Levels.{from_bare, arguments_of, kind_place, atom, items, called, bracketed, primary, item_index, indexed, negated, product, sum_of}
use Rattle.model_text.specs.Levels.{compared, comparison_level, is_not, denied, conjunction, disjunction, term_within, term_of}
use Rattle.law_lines.specs.WellWritten.{WellNamed, PerhapsNamed}
use Rattle.law_lines.proofs.Goods.{GoodLexeme, AllGood, CalledAs, GoodTerm, AllGoodTerms, good-row, then-some, map-some, all-some}

abbrev pub ReadsGood : Parser Term → Type 0
ReadsGood reading = (lexemes : List Lexeme) (t : Term) → AllGood lexemes → reading lexemes ≡ Some t → GoodTerm t

-- ---- pieces of good tokens
abbrev GoodPieces : {A : Type 0} → Pieces A → Type 0
GoodPieces cut = AllGood cut.first × AllByRecursion (λ other. AllGood other.1) cut.others

front-good : {A : Type 0} (found : Option A) (x : Lexeme) (cut : Pieces A) → GoodLexeme x → GoodPieces cut → GoodPieces (with_front found x cut)
front-good (Some at) x cut g p = (tt, (p.0, p.1))
front-good None x cut g p = ((g, p.0), p.1)

pieces-good : {A : Type 0} (cutter : Cutter A) (depth : ℕ) (behind : Bool) (lexemes : List Lexeme) → AllGood lexemes
    → GoodPieces (pieces_from cutter depth behind lexemes)
pieces-good cutter depth behind [] g = (tt, tt)
pieces-good cutter depth behind (x ∷ lexemes) g =
    front-good (cut_outside depth cutter behind x) x (pieces_from cutter (depth_behind depth x) (ends_operand x) lexemes) g.0
    (pieces-good cutter (depth_behind depth x) (ends_operand x) lexemes g.1)

others-good : {A : Type 0} (others : List (A × List Lexeme)) → AllByRecursion (λ other. AllGood other.1) others
    → AllByRecursion AllGood (map (λ other. other.1) others)
others-good [] g = tt
others-good (other ∷ others) g = (g.0, others-good others g.1)

pub parts-good : (lexemes : List Lexeme) → AllGood lexemes → AllByRecursion AllGood (parts lexemes)
parts-good [] g = tt
parts-good (x ∷ lexemes) g =
    let cutter : Cutter Lexeme = λ behind at. if is_sign symbol.Comma at then Some at else None in
    let p = pieces-good cutter 0 false (x ∷ lexemes) g in
    (p.0, others-good (pieces cutter (x ∷ lexemes)).others p.1)

last-alone : (test : Bool) (inner : List Lexeme) → (let found : Option (List Lexeme) = if test then Some [] else None in found) ≡ Some inner → AllGood inner
last-alone true inner e = let none : inner ≡ [] = cc in subst AllGood (sym none) tt
last-alone false inner e = cc

pub before-last-good : (s : AnySymbol) (lexemes inner : List Lexeme) → AllGood lexemes → before_last s lexemes ≡ Some inner → AllGood inner
before-last-good s [] inner g e = cc
before-last-good s (x ∷ []) inner g e = last-alone (is_sign s x) inner e
before-last-good s (x ∷ y ∷ lexemes) inner g e =
    let m = map-some (λ inner. x ∷ inner) (before_last s (y ∷ lexemes)) inner e in
    subst AllGood m.2 (g.0, before-last-good s (y ∷ lexemes) m.0 g.1 m.1)

-- ---- levels
joined-good : {A : Type 0} (build : A → Term → Term → Term) (operand : Parser Term) → ReadsGood operand
    → ((a : A) (l r : Term) → GoodTerm l → GoodTerm r → GoodTerm (build a l r)) → (others : List (A × List Lexeme)) (left t : Term) → GoodTerm left
    → AllByRecursion (λ other. AllGood other.1) others → joined build operand left others ≡ Some t → GoodTerm t
joined-good build operand reads builds [] left t l g e = let same : left ≡ t = cc in subst GoodTerm same l
joined-good build operand reads builds (other ∷ others) left t l g e =
    let r = then-some (λ right. joined build operand (build other.0 left right) others) (operand other.1) t e in
    joined-good build operand reads builds others (build other.0 left r.0) t (builds other.0 left r.0 l (reads other.1 r.0 g.0 r.1)) g.1 r.2

level-good : {A : Type 0} (cutter : Cutter A) (build : A → Term → Term → Term) (operand : Parser Term) → ReadsGood operand
    → ((a : A) (l r : Term) → GoodTerm l → GoodTerm r → GoodTerm (build a l r)) → ReadsGood (level cutter build operand)
level-good cutter build operand reads builds lexemes t g e =
    let p = pieces-good cutter 0 false lexemes g in
    let cut = pieces cutter lexemes in
    let l = then-some (λ left. joined build operand left cut.others) (operand cut.first) t e in
    joined-good build operand reads builds cut.others l.0 t (reads cut.first l.0 p.0 l.1) p.1 l.2

-- ---- arguments
take-good : (count : ℕ) (slots : List (List Lexeme)) → AllByRecursion AllGood slots → AllByRecursion AllGood (take count slots)
take-good zero slots g = tt
take-good (suc count) [] g = tt
take-good (suc count) (slot ∷ slots) g = (g.0, take-good count slots g.1)

drop-good : (count : ℕ) (slots : List (List Lexeme)) → AllByRecursion AllGood slots → AllByRecursion AllGood (drop count slots)
drop-good zero slots g = g
drop-good (suc count) [] g = tt
drop-good (suc count) (slot ∷ slots) g = drop-good count slots g.1

pub bare-good : (lexemes : List Lexeme) (name : Name) → AllGood lexemes → bare_name lexemes ≡ Some name → WellNamed name
bare-good (Named other ∷ []) name g e = let same : other ≡ name = cc in subst WellNamed same g.0
bare-good _ name g e = cc

-- what stands before and behind a bare name, by its place
abbrev pub ShapedAs : Option ℕ → Arguments → Type 0
ShapedAs None arguments = (arguments.bare ≡ None) × (arguments.after ≡ [])
ShapedAs (Some zero) arguments = arguments.before ≡ []
ShapedAs (Some (suc place)) arguments = Unit {0}

abbrev pub GoodArguments : Option ℕ → Arguments → Type 0
GoodArguments place arguments =
    ShapedAs place arguments × AllGoodTerms arguments.before × PerhapsNamed arguments.bare × AllGoodTerms arguments.after

abbrev GoodBehind : List Term → Arguments → Type 0
GoodBehind before arguments = (arguments.before ≡ before) × PerhapsNamed arguments.bare × AllGoodTerms arguments.after

by_place : (place : ℕ) (before : List Term) (arguments : Arguments) → (place ≡ 0 → before ≡ []) → AllGoodTerms before → GoodBehind before arguments
    → GoodArguments (Some place) arguments
by_place zero before arguments none b g = (g.0 ∙ none refl, subst AllGoodTerms (sym g.0) b, g.1, g.2)
by_place (suc place) before arguments none b g = (tt, subst AllGoodTerms (sym g.0) b, g.1, g.2)

-- the kind of `error` has the first place
pub called-as : (test : Bool) (arguments : Arguments) → ShapedAs (if test then Some 0 else None) arguments
    → CalledAs test (terms arguments.before) arguments.bare (terms arguments.after)
called-as true arguments s = ap terms s
called-as false arguments s = (s.0, ap terms s.1)

atom-good : (x : Lexeme) (t : Term) → GoodLexeme x → atom x ≡ Some t → GoodTerm t
atom-good (Reserved word.TrueValue) t g e = let same : Constantly (TruthConstant true) ≡ t = cc in subst GoodTerm same tt
atom-good (Reserved word.FalseValue) t g e =
    let same : Constantly (TruthConstant false) ≡ t = cc in subst GoodTerm same tt
atom-good (Reserved word.NoneValue) t g e = let same : Constantly NoneConstant ≡ t = cc in subst GoodTerm same tt
atom-good (Reserved _) t g e = cc
atom-good (Named name) t g e = let same : Variable name ≡ t = cc in subst GoodTerm same g
atom-good (Number number) t g e = let same : Constantly (IntConstant number) ≡ t = cc in subst GoodTerm same g
atom-good (Texts text) t g e = let same : Constantly (TextConstant text) ≡ t = cc in subst GoodTerm same g
atom-good (Octets bytes) t g e = let same : Constantly (BytesConstant bytes) ≡ t = cc in subst GoodTerm same g
atom-good (Sign symbol) t g e = cc

module _ (inside : Parser Term) (reads : ReadsGood inside) where
  pub slots-good : (slots : List (List Lexeme)) (ts : List Term) → AllByRecursion AllGood slots → all_of inside slots ≡ Some ts → AllGoodTerms ts
  slots-good slots ts g e = all-some AllGood GoodTerm inside reads slots ts g e

  items-good : (lexemes : List Lexeme) (ts : List Term) → AllGood lexemes → items inside lexemes ≡ Some ts → AllGoodTerms ts
  items-good lexemes ts g e = slots-good (parts lexemes) ts (parts-good lexemes g) e

  empty-front : (place : ℕ) (slots : List (List Lexeme)) (before : List Term) → all_of inside (take place slots) ≡ Some before → place ≡ 0 → before ≡ []
  empty-front zero slots before e p = cc
  empty-front (suc place) slots before e p = absurd (omega (arith, p))

  from-bare-good : (before : List Term) (slots : List (List Lexeme)) (arguments : Arguments) → AllByRecursion AllGood slots → from_bare inside before slots
      ≡ Some arguments → GoodBehind before arguments
  from-bare-good before [] arguments g e =
      let none : Arguments = record { before = before; bare = None; after = [] } in
      let same : none ≡ arguments = cc in
      subst (GoodBehind before) same (refl, tt, tt)
  from-bare-good before (slot ∷ slots) arguments g e =
      let n = then-some (λ name. option_map (with_bare before name) (all_of inside slots)) (bare_name slot) arguments e in
      let a = map-some (with_bare before n.0) (all_of inside slots) arguments n.2 in
      subst (GoodBehind before) a.2 (refl, bare-good slot n.0 g.0 n.1, slots-good slots a.0 g.1 a.1)

  pub arguments-good : (place : Option ℕ) (slots : List (List Lexeme)) (arguments : Arguments) → AllByRecursion AllGood slots → arguments_of inside place slots
      ≡ Some arguments → GoodArguments place arguments
  arguments-good None slots arguments g e =
      let a = map-some (λ all. let found : Arguments = record { before = all; bare = None; after = [] } in found) (all_of inside slots) arguments e in
      subst (GoodArguments None) a.2 ((refl, refl), slots-good slots a.0 g a.1, tt, tt)
  arguments-good (Some place) slots arguments g e =
      let b = then-some (λ before. from_bare inside before (drop place slots)) (all_of inside (take place slots)) arguments e in
      by_place place b.0 arguments (empty-front place slots b.0 b.1) (slots-good (take place slots) b.0 (take-good place slots g) b.1)
      (from-bare-good b.0 (drop place slots) arguments (drop-good place slots g) b.2)

  -- ---- operands
  called-good : (name : Name) (lexemes : List Lexeme) (t : Term) → AllGood lexemes → called inside name lexemes ≡ Some t → GoodTerm t
  called-good name lexemes t g e =
      let a = map-some (λ (arguments : Arguments). Called name (terms arguments.before) arguments.bare (terms arguments.after))
      (arguments_of inside (kind_place name) (parts lexemes)) t e in
      let p = arguments-good (kind_place name) (parts lexemes) a.0 (parts-good lexemes g) a.1 in
      subst GoodTerm a.2 (called-as (bytes_eq name error_text) a.0 p.0, good-row a.0.before p.1, good-row a.0.after p.3)

  bracketed-good : (s : AnySymbol) (lexemes : List Lexeme) (t : Term) → AllGood lexemes → bracketed inside s lexemes ≡ Some t → GoodTerm t
  bracketed-good symbol.LeftParenthesis lexemes t g e =
      let i = then-some inside (before_last symbol.RightParenthesis lexemes) t e in
      reads i.0 t (before-last-good symbol.RightParenthesis lexemes i.0 g i.1) i.2
  bracketed-good symbol.LeftBracket lexemes t g e =
      let i = then-some (λ inner. option_map (λ all. ListOf (terms all)) (items inside inner)) (before_last symbol.RightBracket lexemes) t e in
      let a = map-some (λ all. ListOf (terms all)) (items inside i.0) t i.2 in
      subst GoodTerm a.2 (good-row a.0 (items-good i.0 a.0 (before-last-good symbol.RightBracket lexemes i.0 g i.1) a.1))
  bracketed-good _ lexemes t g e = cc

  call-good : (test : Bool) (name : Name) (lexemes : List Lexeme) (t : Term) → AllGood lexemes
      → (if test then option_and_then (called inside name) (before_last symbol.RightParenthesis lexemes) else None) ≡ Some t → GoodTerm t
  call-good true name lexemes t g e =
      let i = then-some (called inside name) (before_last symbol.RightParenthesis lexemes) t e in
      called-good name i.0 t (before-last-good symbol.RightParenthesis lexemes i.0 g i.1) i.2
  call-good false name lexemes t g e = cc

  primary-good : ReadsGood (primary inside)
  primary-good [] t g e = cc
  primary-good (x ∷ []) t g e = atom-good x t g.0 e
  primary-good (Named name ∷ next ∷ lexemes) t g e =
      call-good (is_sign symbol.LeftParenthesis next) name lexemes t g.1.1 e
  primary-good (Sign s ∷ next ∷ lexemes) t g e = bracketed-good s (next ∷ lexemes) t g.1 e
  primary-good _ t g e = cc

  item-good : ReadsGood (item_index inside)
  item-good lexemes t g e =
      let i = then-some inside (before_last symbol.RightBracket lexemes) t e in
      reads i.0 t (before-last-good symbol.RightBracket lexemes i.0 g i.1) i.2

  indexed-good : ReadsGood (indexed inside)
  indexed-good lexemes t g e =
      let p = pieces-good at_index 0 false lexemes g in
      let cut = pieces at_index lexemes in
      let l = then-some (λ sequence. joined (λ bracket. Index) (item_index inside) sequence cut.others) (primary inside cut.first) t e in
      joined-good (λ bracket. Index) (item_index inside) item-good (λ a l r gl gr. (gl, gr)) cut.others l.0 t (primary-good cut.first l.0 p.0 l.1) p.1 l.2

  negated-by : (test : Bool) (x : Lexeme) (lexemes : List Lexeme) (t : Term) → AllGood (x ∷ lexemes)
      → ((s : Term) → negated inside lexemes ≡ Some s → GoodTerm s)
      → (if test then option_map Negate (negated inside lexemes) else indexed inside (x ∷ lexemes)) ≡ Some t → GoodTerm t
  negated-by true x lexemes t g h e =
      let m = map-some Negate (negated inside lexemes) t e in subst GoodTerm m.2 (h m.0 m.1)
  negated-by false x lexemes t g h e = indexed-good (x ∷ lexemes) t g e

  negated-good : ReadsGood (negated inside)
  negated-good [] t g e = cc
  negated-good (x ∷ lexemes) t g e =
      negated-by (is_sign symbol.Minus x) x lexemes t g (λ s h. negated-good lexemes s g.1 h) e

  product-good : ReadsGood (product inside)
  product-good lexemes t g e =
      level-good at_product Calculate (negated inside) negated-good (λ a l r gl gr. (gl, gr)) lexemes t g e

  sum-good : ReadsGood (sum_of inside)
  sum-good lexemes t g e =
      level-good at_sum Calculate (product inside) product-good (λ a l r gl gr. (gl, gr)) lexemes t g e

  compared-good : (others : List (Comparison × List Lexeme)) (left t : Term) → GoodTerm left → AllByRecursion (λ other. AllGood other.1) others
      → compared inside others left ≡ Some t → GoodTerm t
  compared-good [] left t l g e = let same : left ≡ t = cc in subst GoodTerm same l
  compared-good (other ∷ []) left t l g e =
      let m = map-some (Compare other.0 left) (sum_of inside other.1) t e in
      subst GoodTerm m.2 (l, sum-good other.1 m.0 g.0 m.1)
  compared-good (other ∷ next ∷ others) left t l g e = cc

  comparison-good : ReadsGood (comparison_level inside)
  comparison-good lexemes t g e =
      let p = pieces-good at_comparison 0 false lexemes g in
      let cut = pieces at_comparison lexemes in
      let l = then-some (compared inside cut.others) (sum_of inside cut.first) t e in
      compared-good cut.others l.0 t (sum-good cut.first l.0 p.0 l.1) p.1 l.2

  denied-by : (test : Bool) (x : Lexeme) (lexemes : List Lexeme) (t : Term) → AllGood (x ∷ lexemes) → ((s : Term) → denied inside lexemes ≡ Some s → GoodTerm s)
      → (if test then option_map Not (denied inside lexemes) else comparison_level inside (x ∷ lexemes)) ≡ Some t → GoodTerm t
  denied-by true x lexemes t g h e = let m = map-some Not (denied inside lexemes) t e in subst GoodTerm m.2 (h m.0 m.1)
  denied-by false x lexemes t g h e = comparison-good (x ∷ lexemes) t g e

  denied-good : ReadsGood (denied inside)
  denied-good [] t g e = cc
  denied-good (x ∷ lexemes) t g e = denied-by (is_not inside x) x lexemes t g (λ s h. denied-good lexemes s g.1 h) e

  conjunction-good : ReadsGood (conjunction inside)
  conjunction-good lexemes t g e =
      level-good (at_word word.And) (λ reserved. And) (denied inside) denied-good (λ a l r gl gr. (gl, gr)) lexemes t g e

  disjunction-good : ReadsGood (disjunction inside)
  disjunction-good lexemes t g e =
      level-good (at_word word.Or) (λ reserved. Or) (conjunction inside) conjunction-good (λ a l r gl gr. (gl, gr)) lexemes t g e

within-good : (brackets : ℕ) → ReadsGood (term_within brackets)
within-good zero lexemes t g e = cc
within-good (suc brackets) lexemes t g e = disjunction-good (term_within brackets) (within-good brackets) lexemes t g e

pub term-good : ReadsGood term_of
unfolding term_of
term-good lexemes t g e = within-good (suc (length lexemes)) lexemes t g e
