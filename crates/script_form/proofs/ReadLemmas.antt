-- Forms that were read, of which only what isn't too high is kept.
use Rattle.std.proofs.Common.{◌≡◌, ℕ, ◌==◌, Bool, true, false, cond, List, [], ◌∷◌, Option, Some, None, option_map, option_and_then, length, map, nat_le, refl}
use Rattle.std.proofs.Common.{sym, ap, ◌∙◌, arith}
use Rattle.std.proofs.lemmas.Bool.{false≢true}
use Rattle.model_tree.specs.Syntax.{Name}
use Rattle.model_text.specs.declared.reserved_word.ReservedWord.TheVariants as word
use Rattle.model_text.specs.declared.symbol.Symbol.TheVariants as symbol
use Rattle.model_text.specs.Words.{Lexeme}
use Rattle.model_text.specs.Terms.{Term, height}
use Rattle.model_text.specs.Levels.{term_of}
use Rattle.model_text.specs.Forms.{Spelled, Goal, YieldFrom, Return, Assign, with_term, yield_from, name_form, assigned_form, return_form, goal_of}
use Rattle.model_text.specs.Places.{most_height, height_of_goal, height_of_form}
use Rattle.script_term.specs.declared.lexeme.Lexeme as code
use Rattle.script_term.specs.Lexeme.{plain_lexeme}
use Rattle.script_form.specs.declared.form_place.FormPlace.TheVariants as standing
use Rattle.script_form.specs.Fitting.{fitting}
use Rattle.script_form.specs.Fronts.{behind_word, behind_sign}
use Rattle.script_form.specs.Unplaced.{unplaced_of}
use Rattle.script_form.proofs.FormLemmas.{yield_from-by, name_form-by, assigned-yield, assigned-term}

-- what is built of something, and is as high
fitting-build : {A B : Type 0} (height_a : A → ℕ) (height_b : B → ℕ) (build : A → B) (a : A) → height_b (build a) ≡ height_a a
    → option_map build (fitting height_a a) ≡ fitting height_b (build a)
fitting-build {A} {B} height_a height_b build a same =
    by_test (nat_le (height_a a) most_height) ∙ ap (λ n. cond (nat_le n most_height) (Some (build a)) None) (sym same)
  where
    by_test : (b : Bool) → option_map build (cond b (Some a) None) ≡ cond b (Some (build a)) None
    by_test true = refl
    by_test false = refl

-- `from TARGET`
pub yield_from-read : (into : Option Name) (lexemes rest : List Lexeme) (goal : Option Goal) (form : Option Spelled) → Some rest ≡ behind_word word.From lexemes
    → Some goal ≡ option_map (fitting height_of_goal) (goal_of rest) → form ≡ option_map (YieldFrom into) goal → Some (form, standing.Inside)
    ≡ option_map unplaced_of (yield_from into lexemes)
yield_from-read into lexemes rest goal form behind read is =
    by_goal (goal_of rest) read
    ∙ sym (ap (option_map unplaced_of) (yield_from-by into lexemes ∙ ap (option_and_then (λ rest. option_map (YieldFrom into) (goal_of rest))) (sym behind)))
  where
    by_goal : (o : Option Goal) → Some goal ≡ option_map (fitting height_of_goal) o → Some (form, standing.Inside)
        ≡ option_map unplaced_of (option_map (YieldFrom into) o)
    by_goal None e = cc
    by_goal (Some g) e =
        let same : goal ≡ fitting height_of_goal g = cc in
        ap (λ f. Some (f, standing.Inside)) (is ∙ ap (option_map (YieldFrom into)) same ∙ fitting-build height_of_goal height_of_form (YieldFrom into) g refl)

-- `return EXPR`
pub return-read : (lexemes : List code.Lexeme) (value : Option Term) (form : Option Spelled) → (length lexemes == 0) ≡ false → Some value
    ≡ option_map (fitting height) (term_of (map plain_lexeme lexemes)) → form ≡ option_map (λ v. Return (Some v)) value → Some (form, standing.OutsideFinally)
    ≡ option_map unplaced_of (return_form (map plain_lexeme lexemes))
return-read [] value form some read is = absurd (false≢true (sym some))
return-read (lexeme ∷ lexemes) value form some read is = by_term (term_of (map plain_lexeme (lexeme ∷ lexemes))) read
  where
    by_term : (o : Option Term) → Some value ≡ option_map (fitting height) o → Some (form, standing.OutsideFinally)
        ≡ option_map unplaced_of (option_map (λ v. Return (Some v)) o)
    by_term None e = cc
    by_term (Some t) e =
        let same : value ≡ fitting height t = cc in
        ap (λ f. Some (f, standing.OutsideFinally))
        (is ∙ ap (option_map (λ v. Return (Some v))) same ∙ fitting-build height height_of_form (λ v. Return (Some v)) t (omega arith))

-- `NAME = yield ..`
pub name-yields : (name : Name) (lexemes rest behind : List Lexeme) → Some rest ≡ behind_sign symbol.Assign lexemes → Some behind ≡ behind_word word.Yield rest
    → name_form name lexemes ≡ yield_from (Some name) behind
name-yields name lexemes rest behind sign yields =
    name_form-by name lexemes ∙ ap (option_and_then (assigned_form name)) (sym sign) ∙ assigned-yield name rest behind yields

-- `NAME = EXPR`
pub name-assigns : (name : Name) (lexemes rest : List Lexeme) → Some rest ≡ behind_sign symbol.Assign lexemes → None ≡ behind_word word.Yield rest
    → name_form name lexemes ≡ with_term (Assign name) rest
name-assigns name lexemes rest sign other =
    name_form-by name lexemes ∙ ap (option_and_then (assigned_form name)) (sym sign) ∙ assigned-term name rest other
