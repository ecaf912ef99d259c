-- Lexemes are read one by one, and what has failed stays so.
use Rattle.std.proofs.Common.{◌≡◌, ℕ, ◌+◌, ◌<◌, ◌≤◌, List, [], ◌∷◌, None, option_map, length, map, take, drop, get_or, fold, refl, sym, ap, ◌∙◌}
use Rattle.std.proofs.lemmas.List.{map-append, take-append-drop, take_all, map_more}
use Rattle.std.proofs.lemmas.List.Sums.{fold-append}
use Rattle.model_text.specs.Words as plain
use Rattle.model_text.specs.Levels.{term_of}
use Rattle.algorithm_reading.specs.Operands.{capped}
use Rattle.algorithm_reading.specs.Reader.{Open, TermProgress, ReaderState, reading, start}
use Rattle.algorithm_reading.specs.Feeding.{fed, feed, finished, finish}
use Rattle.algorithm_reading.proofs.Read.{read-is}
use Rattle.script_term.specs.declared.lexeme.Lexeme.{Lexeme}
use Rattle.script_term.specs.Lexeme.{plain_lexeme}

abbrev pub state_behind : ℕ → List Lexeme → ReaderState
state_behind count xs = fold feed start (map plain_lexeme (take count xs))

-- one lexeme more
pub fed-more : (xs : List Lexeme) (i : ℕ) (x : Lexeme) (p : TermProgress) (opened : List Open) → i < length xs → reading p opened ≡ state_behind i xs
    → fed (record { progress = p; opened = opened }) (plain_lexeme (get_or xs i x)) ≡ state_behind (i + 1) xs
fed-more xs i x p opened below so =
    ap (λ state. feed state (plain_lexeme (get_or xs i x))) so
    ∙ sym (fold-append feed start (map plain_lexeme (take i xs)) (plain_lexeme (get_or xs i x) ∷ []))
    ∙ ap (λ all. fold feed start all) (sym (map_more plain_lexeme xs i x below))

dead : (xs : List plain.Lexeme) → fold feed None xs ≡ None
dead [] = refl
dead (x ∷ xs) = dead xs

-- no expression
pub failed : (xs : List Lexeme) (n : ℕ) → None ≡ state_behind n xs → None ≡ option_map capped (term_of (map plain_lexeme xs))
failed xs n so =
    ap finish (sym (dead (map plain_lexeme (drop n xs))))
    ∙ ap (λ state. finish (fold feed state (map plain_lexeme (drop n xs)))) so
    ∙ ap finish (sym (fold-append feed start (map plain_lexeme (take n xs)) (map plain_lexeme (drop n xs))))
    ∙ ap (λ all. finish (fold feed start all)) (sym (map-append plain_lexeme (take n xs) (drop n xs)))
    ∙ ap (λ all. finish (fold feed start (map plain_lexeme all))) (take-append-drop n xs)
    ∙ read-is (map plain_lexeme xs)

-- the end
pub ended-read : (xs : List Lexeme) (n : ℕ) (p : TermProgress) (opened : List Open) → length xs ≤ n → reading p opened ≡ state_behind n xs → finished p opened
    ≡ option_map capped (term_of (map plain_lexeme xs))
ended-read xs n p opened all so =
    ap finish so
    ∙ ap (λ lexemes. finish (fold feed start (map plain_lexeme lexemes))) (take_all n xs all)
    ∙ read-is (map plain_lexeme xs)
