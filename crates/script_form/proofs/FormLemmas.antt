-- The definitions of forms, by what their lexemes begin with.
use Rattle.std.proofs.Common.{◌≡◌, List, [], ◌∷◌, Option, Some, None, option_map, option_and_then, refl, ap, ◌∙◌}
use Rattle.model_tree.specs.Syntax.{Name}
use Rattle.model_text.specs.declared.symbol.Symbol.TheVariants as symbol
use Rattle.model_text.specs.declared.reserved_word.ReservedWord.TheVariants as word
use Rattle.model_text.specs.Words.{Lexeme, Reserved, Named, Sign}
use Rattle.model_text.specs.Forms.{Assign, YieldFrom, WithGroup, with_term, yield_from, goal_of, assigned_form, name_form, with_form}
use Rattle.script_form.specs.Fronts.{behind_sign, behind_word, as_name, timeout_form}

-- `from TARGET`
pub yield_from-by : (into : Option Name) (lexemes : List Lexeme) → yield_from into lexemes
    ≡ option_and_then (λ rest. option_map (YieldFrom into) (goal_of rest)) (behind_word word.From lexemes)
yield_from-by into [] = refl
yield_from-by into (Reserved word.From ∷ lexemes) = refl
yield_from-by into (lexeme ∷ lexemes) = refl

-- `= yield ..`
pub assigned-yield : (name : Name) (lexemes rest : List Lexeme) → Some rest ≡ behind_word word.Yield lexemes → assigned_form name lexemes
    ≡ yield_from (Some name) rest
assigned-yield name [] rest e = cc
assigned-yield name (Reserved word.Yield ∷ lexemes) rest e = let same : lexemes ≡ rest = cc in ap (yield_from (Some name)) same
assigned-yield name (lexeme ∷ lexemes) rest e = cc

-- `= EXPR`
pub assigned-term : (name : Name) (lexemes : List Lexeme) → None ≡ behind_word word.Yield lexemes → assigned_form name lexemes ≡ with_term (Assign name) lexemes
assigned-term name [] e = refl
assigned-term name (Reserved word.Yield ∷ lexemes) e = cc
assigned-term name (lexeme ∷ lexemes) e = refl

-- what stands behind a name
pub name_form-by : (name : Name) (lexemes : List Lexeme) → name_form name lexemes ≡ option_and_then (assigned_form name) (behind_sign symbol.Assign lexemes)
name_form-by name [] = refl
name_form-by name (Sign symbol.Assign ∷ lexemes) = refl
name_form-by name (lexeme ∷ lexemes) = refl

group_behind : (lexemes : List Lexeme) → with_form (Reserved word.Group ∷ lexemes) ≡ option_map WithGroup (as_name lexemes)
group_behind [] = refl
group_behind (Reserved word.As ∷ []) = refl
group_behind (Reserved word.As ∷ Named name ∷ []) = refl
group_behind (Reserved word.As ∷ Named name ∷ next ∷ lexemes) = refl
group_behind (Reserved word.As ∷ lexeme ∷ lexemes) = refl
group_behind (lexeme ∷ lexemes) = refl

-- `group as NAME`
pub with-group : (lexemes rest : List Lexeme) → Some rest ≡ behind_word word.Group lexemes → with_form lexemes ≡ option_map WithGroup (as_name rest)
with-group [] rest e = cc
with-group (Reserved word.Group ∷ lexemes) rest e =
    let same : lexemes ≡ rest = cc in group_behind lexemes ∙ ap (λ all. option_map WithGroup (as_name all)) same
with-group (lexeme ∷ lexemes) rest e = cc

-- `timeout(EXPR) as NAME`
pub with-timeout : (lexemes : List Lexeme) → None ≡ behind_word word.Group lexemes → with_form lexemes ≡ timeout_form lexemes
with-timeout [] e = refl
with-timeout (Reserved word.Group ∷ lexemes) e = cc
with-timeout (Reserved word.Timeout ∷ []) e = refl
with-timeout (Reserved word.Timeout ∷ Sign symbol.LeftParenthesis ∷ lexemes) e = refl
with-timeout (Reserved word.Timeout ∷ lexeme ∷ lexemes) e = refl
with-timeout (lexeme ∷ lexemes) e = refl
