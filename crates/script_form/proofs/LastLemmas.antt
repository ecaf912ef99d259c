-- What stands before the last lexeme.
use Rattle.std.proofs.Common.{◌≡◌, Bool, true, false, List, [], ◌∷◌, ◌++◌, Some, None, option_map, cond, map, refl, sym, ap, ◌∙◌}
use Rattle.std.proofs.lemmas.List.{map-append}
use Rattle.model_text.specs.declared.symbol.Symbol.{Symbol}
use Rattle.model_text.specs.Words as plain
use Rattle.model_text.specs.Words.{is_sign}
use Rattle.model_text.specs.Cutting.{before_last}
use Rattle.script_term.specs.declared.lexeme.Lexeme.{Lexeme}
use Rattle.script_term.specs.Lexeme.{plain_lexeme}

before_last-append : (symbol : Symbol) (inner : List plain.Lexeme) (last : plain.Lexeme) → before_last symbol (inner ++ last ∷ [])
    ≡ cond (is_sign symbol last) (Some inner) None
before_last-append symbol [] last = refl
before_last-append symbol (first ∷ []) last = by_test (is_sign symbol last)
  where
    by_test : (b : Bool) → option_map (λ (rest : List plain.Lexeme). first ∷ rest) (cond b (Some []) None) ≡ cond b (Some (first ∷ [])) None
    by_test true = refl
    by_test false = refl
before_last-append symbol (first ∷ next ∷ inner) last =
    ap (option_map (λ rest. first ∷ rest)) (before_last-append symbol (next ∷ inner) last) ∙ by_test (is_sign symbol last)
  where
    by_test : (b : Bool) → option_map (λ (rest : List plain.Lexeme). first ∷ rest) (cond b (Some (next ∷ inner)) None)
        ≡ cond b (Some (first ∷ next ∷ inner)) None
    by_test true = refl
    by_test false = refl

-- the same of the code's lexemes, by the test of the last
pub before_last-split : (symbol : Symbol) (lexemes inner : List Lexeme) (last : Lexeme) (test : Bool) → lexemes ≡ inner ++ last ∷ [] → test
    ≡ is_sign symbol (plain_lexeme last) → before_last symbol (map plain_lexeme lexemes) ≡ cond test (Some (map plain_lexeme inner)) None
before_last-split symbol lexemes inner last test split is =
    ap (λ all. before_last symbol (map plain_lexeme all)) split
    ∙ ap (before_last symbol) (map-append plain_lexeme inner (last ∷ []))
    ∙ before_last-append symbol (map plain_lexeme inner) (plain_lexeme last)
    ∙ ap (λ b. cond b (Some (map plain_lexeme inner)) None) (sym is)
