-- What good tokens spell is a good form of a line.
use Rattle.std.proofs.Common.{◌≡◌, ◌^◌, ◌<◌, Bool, true, false, List, [], ◌∷◌, Option, Some, None, sym, subst}
use Rattle.std.specs.Prelude.{option_and_then, option_map, nat_abs, if◌then◌else◌}
use Rattle.model_tree.specs.Syntax.{Name}
use Rattle.model_text.specs.declared.symbol.Symbol.TheVariants as symbol
use Rattle.model_text.specs.declared.reserved_word.ReservedWord.{ReservedWord}
use Rattle.model_text.specs.declared.reserved_word.ReservedWord.TheVariants as word
use Rattle.model_text.specs.Words.{Lexeme, Reserved, Named, Number, Sign, is_sign}
use Rattle.model_text.specs.Cutting.{parts, before_last}
use Rattle.model_text.specs.Terms.{Term}
use Rattle.model_text.specs.Levels.{all_of, bare_name, arguments_of, term_of}
use Rattle.model_text.specs.Forms.{Profile, Def, Assign, Yield, YieldFrom, Print, Raise, Return, Pass, If, Else, While, Try, Except, Finally, WithGroup}
use Rattle.model_text.specs.Forms.{WithTimeout, End, Goal, Awaited, Asked, Spelled, coroutine_place, goal_of, alone, with_term, profile_form, def_form}
use Rattle.model_text.specs.Forms.{yield_from, yield_form, assigned_form, name_form, print_form, return_form, except_form, closed_as, before_as, with_form}
use Rattle.model_text.specs.Forms.{form_behind, form_of}
use Rattle.law_lines.specs.WellWritten.{WellNamed, AllNamed, PerhapsNamed}
use Rattle.law_lines.proofs.Goods.{GoodLexeme, AllGood, GoodTerm, AllGoodTerms, then-some, map-some, all-some}
use Rattle.law_lines.proofs.GoodTerms.{parts-good, before-last-good, bare-good, GoodArguments, slots-good, arguments-good, term-good}

abbrev pub GoodGoal : Goal → Type 0
GoodGoal (Awaited name) = WellNamed name
GoodGoal (Asked name arguments) = WellNamed name × GoodArguments (coroutine_place name) arguments

abbrev pub GoodItems : List Term → Type 0
GoodItems [] = ⊥
GoodItems (first ∷ others) = AllGoodTerms (first ∷ others)

abbrev pub PerhapsGood : Option Term → Type 0
PerhapsGood None = Unit {0}
PerhapsGood (Some value) = GoodTerm value

abbrev pub GoodForm : Spelled → Type 0
GoodForm (Profile number) = number < 2 ^ 63
GoodForm (Def name parameters) = WellNamed name × AllNamed parameters
GoodForm (Assign name value) = WellNamed name × GoodTerm value
GoodForm (YieldFrom into target) = PerhapsNamed into × GoodGoal target
GoodForm (Print items) = GoodItems items
GoodForm (Raise fault) = GoodTerm fault
GoodForm (Return value) = PerhapsGood value
GoodForm (If test) = GoodTerm test
GoodForm (While test) = GoodTerm test
GoodForm (Except kind name) = PerhapsNamed name
GoodForm (WithGroup name) = WellNamed name
GoodForm (WithTimeout delay name) = GoodTerm delay × WellNamed name
GoodForm _ = Unit {0}

given : (f form : Spelled) → GoodForm f → (let found : Option Spelled = Some f in found) ≡ Some form → GoodForm form
given f form g e = let same : f ≡ form = cc in subst GoodForm same g

-- ---- targets
call-good : (test : Bool) (name : Name) (lexemes : List Lexeme) (goal : Goal) → WellNamed name → AllGood lexemes
    → (if test then option_and_then (λ inner. option_map (Asked name) (arguments_of term_of (coroutine_place name) (parts inner)))
    (before_last symbol.RightParenthesis lexemes) else None) ≡ Some goal → GoodGoal goal
call-good true name lexemes goal n g e =
    let i = then-some (λ inner. option_map (Asked name) (arguments_of term_of (coroutine_place name) (parts inner)))
    (before_last symbol.RightParenthesis lexemes) goal e in
    let a = map-some (Asked name) (arguments_of term_of (coroutine_place name) (parts i.0)) goal i.2 in
    subst GoodGoal a.2 (
      n,
      arguments-good term_of term-good (coroutine_place name) (parts i.0) a.0
          (parts-good i.0 (before-last-good symbol.RightParenthesis lexemes i.0 g i.1)) a.1,
    )
call-good false name lexemes goal n g e = cc

goal-good : (lexemes : List Lexeme) (goal : Goal) → AllGood lexemes → goal_of lexemes ≡ Some goal → GoodGoal goal
goal-good (Named name ∷ []) goal g e = let same : Awaited name ≡ goal = cc in subst GoodGoal same g.0
goal-good (Named name ∷ next ∷ lexemes) goal g e =
    call-good (is_sign symbol.LeftParenthesis next) name lexemes goal g.0 g.1.1 e
goal-good _ goal g e = cc

-- ---- what stands behind the first word
abbrev ReadsForm : (List Lexeme → Option Spelled) → Type 0
ReadsForm reading = (lexemes : List Lexeme) (form : Spelled) → AllGood lexemes → reading lexemes ≡ Some form → GoodForm form

alone-good : (f : Spelled) → GoodForm f → ReadsForm (alone f)
alone-good f h [] form g e = given f form h e
alone-good f h (x ∷ lexemes) form g e = cc

with-term-good : (build : Term → Spelled) → ((t : Term) → GoodTerm t → GoodForm (build t)) → ReadsForm (with_term build)
with-term-good build builds lexemes form g e =
    let t = map-some build (term_of lexemes) form e in subst GoodForm t.2 (builds t.0 (term-good lexemes t.0 g t.1))

profile-good : ReadsForm profile_form
profile-good (Number number ∷ []) form g e =
    given (Profile (nat_abs number)) form (subst (λ z. nat_abs z < 2 ^ 63) (sym g.0.1) g.0.2) e
profile-good _ form g e = cc

parameters-good : (test : Bool) (name : Name) (lexemes : List Lexeme) (form : Spelled) → WellNamed name → AllGood lexemes
    → (let found : Option Spelled = if test then option_and_then (λ inner. option_map (Def name) (all_of bare_name (parts inner)))
    (before_last symbol.RightParenthesis lexemes) else None in found) ≡ Some form → GoodForm form
parameters-good true name lexemes form n g e =
    let i = then-some (λ inner. let found : Option Spelled = option_map (Def name) (all_of bare_name (parts inner)) in found)
    (before_last symbol.RightParenthesis lexemes) form e in
    let p = map-some (λ names. let f : Spelled = Def name names in f) (all_of bare_name (parts i.0)) form i.2 in
    subst GoodForm p.2
    (n, all-some AllGood WellNamed bare_name bare-good (parts i.0) p.0 (parts-good i.0 (before-last-good symbol.RightParenthesis lexemes i.0 g i.1)) p.1)
parameters-good false name lexemes form n g e = cc

def-good : ReadsForm def_form
def-good (Named name ∷ next ∷ lexemes) form g e =
    parameters-good (is_sign symbol.LeftParenthesis next) name lexemes form g.0 g.1.1 e
def-good _ form g e = cc

from-good : (into : Option Name) → PerhapsNamed into → ReadsForm (yield_from into)
from-good into n (Reserved word.From ∷ lexemes) form g e =
    let t = map-some (λ goal. let f : Spelled = YieldFrom into goal in f) (goal_of lexemes) form e in
    subst GoodForm t.2 (n, goal-good lexemes t.0 g.1 t.1)
from-good into n _ form g e = cc

yield-good : ReadsForm yield_form
yield-good [] form g e = given Yield form tt e
yield-good (x ∷ lexemes) form g e = from-good None tt (x ∷ lexemes) form g e

assigned-good : (name : Name) → WellNamed name → ReadsForm (assigned_form name)
assigned-good name n (Reserved word.Yield ∷ lexemes) form g e = from-good (Some name) n lexemes form g.1 e
assigned-good name n lexemes form g e = with-term-good (Assign name) (λ t h. (n, h)) lexemes form g e

assign-good : (test : Bool) (name : Name) → WellNamed name → (lexemes : List Lexeme) (form : Spelled) → AllGood lexemes
    → (if test then assigned_form name lexemes else None) ≡ Some form → GoodForm form
assign-good true name n lexemes form g e = assigned-good name n lexemes form g e
assign-good false name n lexemes form g e = cc

name-good : (name : Name) → WellNamed name → ReadsForm (name_form name)
name-good name n [] form g e = cc
name-good name n (next ∷ lexemes) form g e = assign-good (is_sign symbol.Assign next) name n lexemes form g.1 e

-- something is printed
some-items : (slot : List Lexeme) (slots : List (List Lexeme)) (ts : List Term) → AllGoodTerms ts → all_of term_of (slot ∷ slots) ≡ Some ts → GoodItems ts
some-items slot slots [] g e =
    let t = then-some (λ y. option_map (λ ys. y ∷ ys) (all_of term_of slots)) (term_of slot) [] e in
    let m = map-some (λ ys. t.0 ∷ ys) (all_of term_of slots) [] t.2 in
    let wrong = m.2 in cc
some-items slot slots (first ∷ others) g e = g

print-good : ReadsForm print_form
print-good [] form g e = cc
print-good (x ∷ lexemes) form g e =
    let p = map-some (λ items. let f : Spelled = Print items in f) (all_of term_of (parts (x ∷ lexemes))) form e in
    subst GoodForm p.2 (some-items _ _ p.0 (slots-good term_of term-good (parts (x ∷ lexemes)) p.0 (parts-good (x ∷ lexemes) g) p.1) p.1)

return-good : ReadsForm return_form
return-good [] form g e = given (Return None) form tt e
return-good (x ∷ lexemes) form g e =
    with-term-good (λ value. Return (Some value)) (λ t h. h) (x ∷ lexemes) form g e

except-good : ReadsForm except_form
except-good (Named kind ∷ []) form g e = given (Except kind None) form tt e
except-good (Named kind ∷ Reserved word.As ∷ Named name ∷ []) form g e =
    given (Except kind (Some name)) form g.1.1.0 e
except-good _ form g e = cc

-- ---- `with`
abbrev GoodPair : List Lexeme × Name → Type 0
GoodPair pair = AllGood pair.0 × WellNamed pair.1

closed-good : (x : Lexeme) (lexemes : List Lexeme) (found : Option (List Lexeme × Name)) (pair : List Lexeme × Name) → GoodLexeme x → AllGood lexemes
    → ((inner : List Lexeme × Name) → found ≡ Some inner → GoodPair inner) → closed_as x lexemes found ≡ Some pair → GoodPair pair
closed-good (Sign symbol.RightParenthesis) (Reserved word.As ∷ Named name ∷ []) found pair x g h e =
    let whole : List Lexeme × Name = ([], name) in
    let same : whole ≡ pair = cc in
    subst GoodPair same (tt, g.1.0)
closed-good x lexemes found pair gx g h e =
    let m = map-some (λ (inner : List Lexeme × Name). let longer : List Lexeme × Name = (x ∷ inner.0, inner.1) in longer) found pair e in
    let p = h m.0 m.1 in
    subst GoodPair m.2 ((gx, p.0), p.1)

as-good : (lexemes : List Lexeme) (pair : List Lexeme × Name) → AllGood lexemes → before_as lexemes ≡ Some pair → GoodPair pair
as-good [] pair g e = cc
as-good (x ∷ lexemes) pair g e =
    closed-good x lexemes (before_as lexemes) pair g.0 g.1 (λ inner h. as-good lexemes inner g.1 h) e

with-good : ReadsForm with_form
with-good (Reserved word.Group ∷ Reserved word.As ∷ Named name ∷ []) form g e = given (WithGroup name) form g.1.1.0 e
with-good (Reserved word.Timeout ∷ Sign symbol.LeftParenthesis ∷ lexemes) form g e =
    let p = then-some (λ (pair : List Lexeme × Name). let found : Option Spelled = option_map (λ delay. WithTimeout delay pair.1) (term_of pair.0) in found)
    (before_as lexemes) form e in
    let t = map-some (λ delay. let f : Spelled = WithTimeout delay p.0.1 in f) (term_of p.0.0) form p.2 in
    let a = as-good lexemes p.0 g.1.1 p.1 in
    subst GoodForm t.2 (term-good p.0.0 t.0 a.0 t.1, a.1)
with-good _ form g e = cc

behind-good : (reserved : ReservedWord) → ReadsForm (form_behind reserved)
behind-good word.Profile lexemes form g e = profile-good lexemes form g e
behind-good word.Def lexemes form g e = def-good lexemes form g e
behind-good word.End lexemes form g e = alone-good End tt lexemes form g e
behind-good word.Yield lexemes form g e = yield-good lexemes form g e
behind-good word.Print lexemes form g e = print-good lexemes form g e
behind-good word.Raise lexemes form g e = with-term-good Raise (λ t h. h) lexemes form g e
behind-good word.Return lexemes form g e = return-good lexemes form g e
behind-good word.Pass lexemes form g e = alone-good Pass tt lexemes form g e
behind-good word.If lexemes form g e = with-term-good If (λ t h. h) lexemes form g e
behind-good word.Else lexemes form g e = alone-good Else tt lexemes form g e
behind-good word.While lexemes form g e = with-term-good While (λ t h. h) lexemes form g e
behind-good word.Try lexemes form g e = alone-good Try tt lexemes form g e
behind-good word.Except lexemes form g e = except-good lexemes form g e
behind-good word.Finally lexemes form g e = alone-good Finally tt lexemes form g e
behind-good word.With lexemes form g e = with-good lexemes form g e
behind-good _ lexemes form g e = cc

pub form-good : (lexemes : List Lexeme) (form : Spelled) → AllGood lexemes → form_of lexemes ≡ Some form → GoodForm form
unfolding form_of
form-good (Reserved reserved ∷ lexemes) form g e = behind-good reserved lexemes form g.1 e
form-good (Named name ∷ lexemes) form g e = name-good name g.0 lexemes form g.1 e
form-good _ form g e = cc
