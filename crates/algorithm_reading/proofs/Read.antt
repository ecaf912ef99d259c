-- An expression is read from left to right as the levels read it.
use Rattle.std.proofs.Common.{◌≡◌, ℕ, zero, suc, ◌≤◌, Bool, List, [], ◌∷◌, length, Some, None, refl, ◌∙◌, sym, arith, fold}
use Rattle.std.specs.Prelude.{option_map}
use Rattle.model_text.specs.Words.{Lexeme}
use Rattle.model_text.specs.Levels.{Parser, term_within, term_of}
use Rattle.algorithm_reading.specs.Operands.{Operand, capped}
use Rattle.algorithm_reading.specs.Reader.{Open, TermProgress, ReaderState, start}
use Rattle.algorithm_reading.specs.Feeding.{fed, feed, finished, finish, read}
use Rattle.algorithm_reading.proofs.Meaning.{contents, around, unwound, meaning_within, meaning}
use Rattle.algorithm_reading.proofs.Dead.{expression-ended}
use Rattle.algorithm_reading.proofs.Within.{Step}
use Rattle.algorithm_reading.proofs.Steps.{fed-step}

-- with a bracket open, nothing has ended
unwound-nothing : (opened : List Open) (k d : ℕ) (b : Bool) (f : Parser Operand) → f [] ≡ None → unwound k d b opened f [] ≡ None
unwound-nothing [] k d b f e = e
unwound-nothing (o ∷ os) k d b f e =
    unwound-nothing os (suc k) (suc d) b (around (term_within (suc k)) o (suc d) b (contents (term_within k) o.bracket d b f)) refl

finished-within : (k : ℕ) (p : TermProgress) (opened : List Open) → meaning_within k p opened [] ≡ finished p opened
finished-within k p [] = expression-ended (term_within k) p
finished-within k p (o ∷ os) = unwound-nothing os (suc k) 1 _ (around (term_within (suc k)) o 1 _ _) refl

meaning-read : (lexemes : List Lexeme) (k : ℕ) → length lexemes ≤ k → (state : ReaderState) → meaning k state lexemes ≡ finish (fold feed state lexemes)
meaning-read [] k h None = refl
meaning-read [] k h (Some reader) = finished-within k reader.progress reader.opened
meaning-read (x ∷ lexemes) k h None = meaning-read lexemes k (omega arith) None
meaning-read (x ∷ lexemes) zero h (Some reader) = absurd (omega arith)
meaning-read (x ∷ lexemes) (suc k) h (Some reader) =
    let step : Step k x reader.progress reader.opened (fed reader x) = fed-step k reader x in
    step.moves.at lexemes ∙ meaning-read lexemes step.fuel (omega (arith, step.enough)) (fed reader x)

-- with enough brackets
pub read-within : (n : ℕ) (lexemes : List Lexeme) → length lexemes ≤ n → read lexemes ≡ option_map capped (term_within (suc n) lexemes)
read-within n lexemes h = sym (meaning-read lexemes n h start)

pub read-is : (lexemes : List Lexeme) → read lexemes ≡ option_map capped (term_of lexemes)
unfolding term_of
read-is lexemes = read-within (length lexemes) lexemes (omega arith)
