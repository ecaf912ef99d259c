-- A bracket closes.
use Rattle.std.proofs.Common.{◌≡◌, ℕ, suc, Bool, true, false, List, [], ◌∷◌, Option, Some, None, refl, ap, ◌∙◌, subst, arith}
use Rattle.std.proofs.Math.Path.{fun_ext}
use Rattle.std.specs.Prelude.{option_and_then, if◌then◌else◌}
use Rattle.model_text.specs.declared.symbol.Symbol.TheVariants as symbol
use Rattle.model_text.specs.Words.{Lexeme, is_sign}
use Rattle.model_text.specs.Cutting.{depth_behind, ends_operand, before_last}
use Rattle.model_text.specs.Terms.{Term}
use Rattle.model_text.specs.Levels.{Parser, bare_name, term_within}
use Rattle.algorithm_reading.specs.Operands.{Operand}
use Rattle.algorithm_reading.specs.Reader.{Bracket, Group, Item, Items, Arguments, Open, TermProgress, Start, AtNot, AtOperand, BehindName, BehindOperand}
use Rattle.algorithm_reading.specs.Reader.{AtKind}
use Rattle.algorithm_reading.specs.Reader.{BehindKind, reading}
use Rattle.algorithm_reading.specs.Ends.{closing, whole, at_closing}
use Rattle.algorithm_reading.proofs.Options.{and_then-map, map-none}
use Rattle.algorithm_reading.proofs.Levels.{primary_level}
use Rattle.algorithm_reading.proofs.Passes.{MovesPast, uncut-inside, primary-moves}
use Rattle.algorithm_reading.proofs.Meaning.{ends, is_behind, expression, contents, contents_at, closed, around, unwound, meaning_within, meaning}
use Rattle.algorithm_reading.proofs.Rows.{at-kind-other, behind-other}
use Rattle.algorithm_reading.proofs.Lift.{contents-moves, contents-none, lift, unwound-none}
use Rattle.algorithm_reading.proofs.Dead.{Dead, dead-at, contents-whole}
use Rattle.algorithm_reading.proofs.Within.{Step, goes_on-behind}

-- a lexeme that closes brackets
pub record Closer (x : Lexeme) : Type 1 where
  pub dead : (inside : Parser Term) → Dead inside x
  pub no_name : (rest : List Lexeme) → bare_name (x ∷ rest) ≡ None
  pub no_comma : is_sign symbol.Comma x ≡ false
  pub depth : depth_behind 1 x ≡ 0
  pub behind : ends_operand x ≡ true

module _ (x : Lexeme) (c : Closer x) where
  module _ (inside : Parser Term) where
    nothing-behind : (bracket : Bracket) (b : Bool) (p : TermProgress) → MovesPast x (contents inside bracket 0 b (expression inside p)) (λ rest. None)
    nothing-behind bracket b p =
        subst (MovesPast x (contents inside bracket 0 b (expression inside p))) (contents-none inside bracket (depth_behind 0 x) (ends_operand x))
        (contents-moves inside bracket 0 b x (expression inside p) (λ rest. None) (ap (λ test. if test then Some x else None) c.no_comma)
        (dead-at inside x (c.dead inside) p))

    -- nothing in the bracket stands behind its end
    over : (bracket : Bracket) (p : TermProgress) → MovesPast x (contents_at inside bracket p) (λ rest. None)
    over bracket Start = record { at = (nothing-behind bracket false Start).at }
    over bracket (AtNot loose) = nothing-behind bracket false (AtNot loose)
    over bracket (AtOperand loose tight) = nothing-behind bracket false (AtOperand loose tight)
    over bracket (BehindName loose tight name) = nothing-behind bracket true (BehindName loose tight name)
    over bracket (BehindOperand loose tight operand) = nothing-behind bracket true (BehindOperand loose tight operand)
    over Group AtKind = record { at = λ rest. refl }
    over (Item sequence) AtKind = record { at = λ rest. refl }
    over (Items items) AtKind = record { at = λ rest. refl }
    over (Arguments name bare arguments) AtKind = at-kind-other inside name bare arguments x c.no_name
    over Group (BehindKind kind) = record { at = λ rest. refl }
    over (Item sequence) (BehindKind kind) = record { at = λ rest. refl }
    over (Items items) (BehindKind kind) = record { at = λ rest. refl }
    over (Arguments name bare arguments) (BehindKind kind) = behind-other inside name bare arguments kind x c.no_comma

  last-at : (f : Parser Operand) (found : Option Operand) → f [] ≡ found → (test : Bool) → option_and_then f (if test then Some [] else None)
      ≡ (if test then found else None)
  last-at f found e true = e
  last-at f found e false = refl

  closes : (bracket : Bracket) (f : Parser Operand) (found : Option Operand) → f [] ≡ found → MovesPast x f (λ rest. None) → (rest : List Lexeme)
      → closed bracket f (x ∷ rest) ≡ ends (if is_sign (closing bracket) x then found else None) rest
  closes bracket f found e m [] = last-at f found e (is_sign (closing bracket) x)
  closes bracket f found e m (y ∷ ys) =
      and_then-map (λ inner. x ∷ inner) f (before_last (closing bracket) (y ∷ ys))
      ∙ map-none (λ inner. f (x ∷ inner)) (before_last (closing bracket) (y ∷ ys)) m.at

  ends-none : ends None ≡ (λ rest. None)
  ends-none = fun_ext go
    where
      go : (rest : List Lexeme) → ends None rest ≡ None
      go [] = refl
      go (y ∷ ys) = refl

  module _ (k : ℕ) (p : TermProgress) (o : Open) (os : List Open) where
    abbrev outside : ℕ → Bool → Option Operand → Parser Operand
    outside d b found = unwound (suc (suc k)) d b os (primary_level (term_within (suc (suc k))) o.loose o.tight d b (ends found))

    abbrev content : Parser Operand
    content = contents_at (term_within (suc k)) o.bracket p

    outer : (found : Option Operand) → MovesPast x (closed o.bracket content) (ends found)
        → MovesPast x (meaning_within (suc k) p (o ∷ os)) (outside 0 true found)
    outer found m =
        let b : Bool = is_behind p in
        let first : Parser Operand = around (term_within (suc (suc k))) o 1 b content in
        let next : Parser Operand = primary_level (term_within (suc (suc k))) o.loose o.tight (depth_behind 1 x) (ends_operand x) (ends found) in
        let step : MovesPast x first next =
        primary-moves 1 b x (term_within (suc (suc k))) (uncut-inside 0 b x) o.loose o.tight
        (closed o.bracket content) (ends found) refl m in
        subst (MovesPast x (unwound (suc (suc k)) 1 b os first))
        (ap (λ d. outside d (ends_operand x) found) c.depth ∙ ap (λ behind. outside 0 behind found) c.behind)
        (lift x os (suc (suc k)) 0 b first next refl step)

    next : (found : Option Operand) → outside 0 true found
        ≡ meaning (suc (suc k)) (option_and_then (λ operand. reading (BehindOperand o.loose o.tight operand) os) found)
    next (Some operand) = goes_on-behind o.loose o.tight operand (suc (suc k)) os
    next None =
        ap (λ f. unwound (suc (suc k)) 0 true os (primary_level (term_within (suc (suc k))) o.loose o.tight 0 true f)) ends-none
        ∙ unwound-none os (suc (suc k)) 0 true

    same : (test : Bool) (found : Option Operand)
        → option_and_then (λ operand. reading (BehindOperand o.loose o.tight operand) os) (if test then found else None)
        ≡ (if test then option_and_then (λ operand. reading (BehindOperand o.loose o.tight operand) os) found else None)
    same true found = refl
    same false found = refl

    around-step : Step k x p (o ∷ os) (at_closing x p (o ∷ os))
    around-step =
        let test : Bool = is_sign (closing o.bracket) x in
        let found : Option Operand = if test then whole o.bracket p else None in
        let whole-is : content [] ≡ whole o.bracket p = contents-whole (term_within (suc k)) o.bracket p in
        let closed-is : MovesPast x (closed o.bracket content) (ends found) = record {
          at = closes o.bracket content (whole o.bracket p) whole-is (over (term_within (suc k)) o.bracket p);
        } in
        record {
          fuel = suc (suc k);
          enough = omega arith;
          moves = subst (MovesPast x (meaning_within (suc k) p (o ∷ os))) (next found ∙ ap (meaning (suc (suc k))) (same test (whole o.bracket p)))
              (outer found closed-is);
        }

  pub closing-step : (k : ℕ) (p : TermProgress) (opened : List Open) → Step k x p opened (at_closing x p opened)
  closing-step k p [] = record { fuel = k; enough = omega arith; moves = record { at = (dead-at (term_within (suc k)) x (c.dead (term_within (suc k))) p).at } }
  closing-step k p (o ∷ os) = around-step k p o os
