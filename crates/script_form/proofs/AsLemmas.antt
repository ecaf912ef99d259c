-- What stands before `) as NAME` at the end.
use Rattle.std.proofs.Common.{◌≡◌, ℕ, ◌+◌, ◌≤◌, ◌<◌, List, [], ◌∷◌, ◌++◌, Option, Some, None, option_map, length, map, take, drop, refl, sym, ap, ◌∙◌, arith}
use Rattle.std.proofs.lemmas.List.{take-append-drop, length-drop, length-map, map-append}
use Rattle.model_tree.specs.Syntax.{Name}
use Rattle.model_text.specs.declared.symbol.Symbol.TheVariants as symbol
use Rattle.model_text.specs.declared.reserved_word.ReservedWord.TheVariants as word
use Rattle.model_text.specs.Words.{Lexeme, Reserved, Named, Sign}
use Rattle.model_text.specs.Forms.{before_as, closed_as}
use Rattle.script_term.specs.declared.lexeme.Lexeme as code
use Rattle.script_term.specs.Lexeme.{plain_lexeme}
use Rattle.script_form.specs.Fronts.{closing_name}

abbrev put_before : Lexeme → Option (List Lexeme × Name) → Option (List Lexeme × Name)
put_before lexeme found = option_map (λ pair. (lexeme ∷ pair.0, pair.1)) found

one_is_none : (lexeme : Lexeme) → before_as (lexeme ∷ []) ≡ None
one_is_none (Sign symbol.RightParenthesis) = refl
one_is_none lexeme = refl

two_are_none : (first second : Lexeme) → before_as (first ∷ second ∷ []) ≡ None
two_are_none first second = ap (closed_as first (second ∷ [])) (one_is_none second) ∙ none first second
  where
    none : (first second : Lexeme) → closed_as first (second ∷ []) None ≡ None
    none (Sign symbol.RightParenthesis) (Reserved word.As) = refl
    none (Sign symbol.RightParenthesis) second = refl
    none first second = refl

three_close : (first second third : Lexeme) → before_as (first ∷ second ∷ third ∷ [])
    ≡ option_map (λ name. ([], name)) (closing_name (first ∷ second ∷ third ∷ []))
three_close first second third =
    ap (closed_as first (second ∷ third ∷ [])) (two_are_none second third) ∙ by_cases first second third
  where
    by_cases : (first second third : Lexeme) → closed_as first (second ∷ third ∷ []) None
        ≡ option_map (λ name. ([], name)) (closing_name (first ∷ second ∷ third ∷ []))
    by_cases (Sign symbol.RightParenthesis) (Reserved word.As) (Named name) = refl
    by_cases (Sign symbol.RightParenthesis) (Reserved word.As) third = refl
    by_cases (Sign symbol.RightParenthesis) second third = refl
    by_cases first second third = refl

-- with more than two behind it, a lexeme closes nothing
goes_on : (first second third fourth : Lexeme) (others : List Lexeme) (found : Option (List Lexeme × Name))
    → closed_as first (second ∷ third ∷ fourth ∷ others) found ≡ put_before first found
goes_on (Sign symbol.RightParenthesis) (Reserved word.As) (Named name) fourth others found = refl
goes_on (Sign symbol.RightParenthesis) (Reserved word.As) third fourth others found = refl
goes_on (Sign symbol.RightParenthesis) second third fourth others found = refl
goes_on first second third fourth others found = refl

put_before-closing : (lexeme : Lexeme) (inner : List Lexeme) (name : Option Name) → put_before lexeme (option_map (λ n. (inner, n)) name)
    ≡ option_map (λ n. (lexeme ∷ inner, n)) name
put_before-closing lexeme inner None = refl
put_before-closing lexeme inner (Some name) = refl

before_as-append : (inner : List Lexeme) (first second third : Lexeme) → before_as (inner ++ first ∷ second ∷ third ∷ [])
    ≡ option_map (λ name. (inner, name)) (closing_name (first ∷ second ∷ third ∷ []))
before_as-append [] first second third = three_close first second third
before_as-append (lexeme ∷ []) first second third =
    goes_on lexeme first second third [] (before_as (first ∷ second ∷ third ∷ []))
    ∙ ap (put_before lexeme) (before_as-append [] first second third)
    ∙ put_before-closing lexeme [] (closing_name (first ∷ second ∷ third ∷ []))
before_as-append (lexeme ∷ a ∷ []) first second third =
    goes_on lexeme a first second (third ∷ []) (before_as (a ∷ first ∷ second ∷ third ∷ []))
    ∙ ap (put_before lexeme) (before_as-append (a ∷ []) first second third)
    ∙ put_before-closing lexeme (a ∷ []) (closing_name (first ∷ second ∷ third ∷ []))
before_as-append (lexeme ∷ a ∷ b ∷ []) first second third =
    goes_on lexeme a b first (second ∷ third ∷ []) (before_as (a ∷ b ∷ first ∷ second ∷ third ∷ []))
    ∙ ap (put_before lexeme) (before_as-append (a ∷ b ∷ []) first second third)
    ∙ put_before-closing lexeme (a ∷ b ∷ []) (closing_name (first ∷ second ∷ third ∷ []))
before_as-append (lexeme ∷ a ∷ b ∷ c ∷ inner) first second third =
    goes_on lexeme a b c (inner ++ first ∷ second ∷ third ∷ []) (before_as (a ∷ b ∷ c ∷ inner ++ first ∷ second ∷ third ∷ []))
    ∙ ap (put_before lexeme) (before_as-append (a ∷ b ∷ c ∷ inner) first second third)
    ∙ put_before-closing lexeme (a ∷ b ∷ c ∷ inner) (closing_name (first ∷ second ∷ third ∷ []))

-- lexemes that end with three
pub before_as-split : (inner end : List Lexeme) → length end ≡ 3 → before_as (inner ++ end) ≡ option_map (λ name. (inner, name)) (closing_name end)
before_as-split inner (first ∷ second ∷ third ∷ []) e = before_as-append inner first second third
before_as-split inner [] e = absurd (omega arith)
before_as-split inner (a ∷ []) e = absurd (omega arith)
before_as-split inner (a ∷ b ∷ []) e = absurd (omega arith)
before_as-split inner (a ∷ b ∷ c ∷ d ∷ end) e = absurd (omega arith)

-- fewer than three lexemes
pub before_as-short : (lexemes : List Lexeme) → length lexemes < 3 → before_as lexemes ≡ None
before_as-short [] e = refl
before_as-short (a ∷ []) e = one_is_none a
before_as-short (a ∷ b ∷ []) e = two_are_none a b
before_as-short (a ∷ b ∷ c ∷ lexemes) e = absurd (omega arith)

-- the same of the code's lexemes
pub before_as-at : (lexemes inner end : List code.Lexeme) (place : ℕ) (name : Option Name) → place + 3 ≡ length lexemes → inner ≡ take place lexemes → end
    ≡ drop place lexemes → name ≡ closing_name (map plain_lexeme end) → option_map (λ n. (map plain_lexeme inner, n)) name
    ≡ before_as (map plain_lexeme lexemes)
before_as-at lexemes inner end place name three is_inner is_end is_name =
    let all : lexemes ≡ inner ++ end = sym (take-append-drop place lexemes) ∙ (λ i. sym is_inner i ++ sym is_end i) in
    let length_end : length end ≡ 3 = ap length is_end ∙ length-drop place lexemes ∙ omega arith in
    ap (option_map (λ n. (map plain_lexeme inner, n))) is_name
    ∙ sym (before_as-split (map plain_lexeme inner) (map plain_lexeme end) (length-map end plain_lexeme ∙ length_end))
    ∙ ap before_as (sym (map-append plain_lexeme inner end) ∙ ap (map plain_lexeme) (sym all))

pub before_as-few : (lexemes : List code.Lexeme) → (3 ≤ length lexemes → ⊥) → before_as (map plain_lexeme lexemes) ≡ None
before_as-few lexemes few =
    before_as-short (map plain_lexeme lexemes) (omega (arith, length-map lexemes plain_lexeme))
