-- One lexeme more in the innermost of the open brackets.
use Rattle.std.proofs.Common.{◌≡◌, ℕ, suc, ◌≤◌, Bool, true, false, List, [], ◌∷◌, Some, None, refl, ap, ◌∙◌, sym, subst, arith}
use Rattle.std.specs.Prelude.{if◌then◌else◌}
use Rattle.model_tree.specs.Syntax.{Name}
use Rattle.model_text.specs.declared.symbol.Symbol.TheVariants as symbol
use Rattle.model_text.specs.Words.{Lexeme, is_sign}
use Rattle.model_text.specs.Cutting.{cut_outside, depth_behind, ends_operand}
use Rattle.model_text.specs.Terms.{Term}
use Rattle.model_text.specs.Levels.{Parser, term_within}
use Rattle.algorithm_reading.specs.Operands.{Operand}
use Rattle.algorithm_reading.specs.Reader.{Bracket, Group, Item, Items, Arguments, Open, TermProgress, Start, AtNot, AtOperand, BehindName, BehindOperand}
use Rattle.algorithm_reading.specs.Reader.{ReaderState, reading}
use Rattle.algorithm_reading.specs.Ends.{closing}
use Rattle.algorithm_reading.specs.Pending.{Loose, Tight}
use Rattle.algorithm_reading.proofs.Levels.{comma}
use Rattle.algorithm_reading.proofs.Passes.{MovesPast}
use Rattle.algorithm_reading.proofs.Meaning.{is_behind, expression, contents, contents_at, around, unwound, meaning_within, meaning}
use Rattle.algorithm_reading.proofs.Lift.{contents-moves, closed-other, around-moves, lift, unwound-none}

-- what a lexeme makes of what a reader knows, where so many brackets and one more may stand
pub record Step (k : ℕ) (x : Lexeme) (p : TermProgress) (opened : List Open) (state : ReaderState) : Type 0 where
  pub fuel : ℕ
  pub enough : k ≤ fuel
  pub moves : MovesPast x (meaning_within (suc k) p opened) (meaning fuel state)

-- a lexeme that neither parts nor closes a bracket
pub record Inner (x : Lexeme) : Type 0 where
  pub no_comma : is_sign symbol.Comma x ≡ false
  pub no_parenthesis : is_sign symbol.RightParenthesis x ≡ false
  pub no_bracket : is_sign symbol.RightBracket x ≡ false
  pub deeper : depth_behind 1 x ≡ suc (depth_behind 0 x)

not_closing : (x : Lexeme) → Inner x → (bracket : Bracket) → is_sign (closing bracket) x ≡ false
not_closing x i Group = i.no_parenthesis
not_closing x i (Item sequence) = i.no_bracket
not_closing x i (Items items) = i.no_bracket
not_closing x i (Arguments name bare arguments) = i.no_parenthesis

pub content-step : (x : Lexeme) (i : Inner x) (p : TermProgress) (k : ℕ) (o : Open) (os : List Open) (g : Parser Operand)
    → MovesPast x (contents_at (term_within k) o.bracket p) g
    → MovesPast x (meaning_within k p (o ∷ os))
    (unwound (suc k) (depth_behind 1 x) (ends_operand x) os (around (term_within (suc k)) o (depth_behind 1 x) (ends_operand x) g))
content-step x i p k o os g m =
    let b : Bool = is_behind p in
    let first : Parser Operand = contents_at (term_within k) o.bracket p in
    let inner : Parser Operand = around (term_within (suc k)) o 1 b first in
    let behind : Parser Operand = around (term_within (suc k)) o (depth_behind 1 x) (ends_operand x) g in
    let step : MovesPast x inner behind =
    around-moves (term_within (suc k)) o 0 b x first g (closed-other x first g o.bracket (not_closing x i o.bracket) m) in
    lift x os (suc k) 0 b inner behind refl step

-- an expression stands in the bracket, and no bare name
pub record Regular (p : TermProgress) : Type 0 where
  pub contains : (inside : Parser Term) (bracket : Bracket) (x : Lexeme) (rest : List Lexeme) → contents_at inside bracket p (x ∷ rest)
      ≡ contents inside bracket 0 (is_behind p) (expression inside p) (x ∷ rest)

pub regular-start : Regular Start
regular-start = record { contains = λ inside bracket x rest. refl }

module _ (x : Lexeme) (i : Inner x) (p : TermProgress) (r : Regular p) where
  uncut : (b : Bool) → cut_outside 0 comma b x ≡ None
  uncut b = ap (λ test. if test then Some x else None) i.no_comma

  pub inner-moves : (k : ℕ) (opened : List Open) (g : Parser Operand) → MovesPast x (expression (term_within k) p) g
      → MovesPast x (meaning_within k p opened) (unwound k (depth_behind 0 x) (ends_operand x) opened g)
  inner-moves k [] g m = m
  inner-moves k (o ∷ os) g m =
      let b : Bool = is_behind p in
      let first : Parser Operand = contents_at (term_within k) o.bracket p in
      let next : Parser Operand = contents (term_within k) o.bracket (depth_behind 0 x) (ends_operand x) g in
      let moved : MovesPast x first next = record {
        at = λ rest.
            r.contains (term_within k) o.bracket x rest
            ∙ (contents-moves (term_within k) o.bracket 0 b x (expression (term_within k) p) g (uncut b) m).at rest;
      } in
      subst (λ n. MovesPast x (unwound (suc k) 1 b os (around (term_within (suc k)) o 1 b first))
      (unwound (suc k) n (ends_operand x) os (around (term_within (suc k)) o n (ends_operand x) next))) i.deeper (content-step x i p k o os next moved)

  -- ---- nothing can be read any more
  pub none-step : (k : ℕ) (opened : List Open) → MovesPast x (expression (term_within (suc k)) p) (λ rest. None) → Step k x p opened None
  none-step k opened m = record {
    fuel = k;
    enough = omega arith;
    moves = subst (MovesPast x (meaning_within (suc k) p opened)) (unwound-none opened (suc k) (depth_behind 0 x) (ends_operand x))
        (inner-moves (suc k) opened (λ rest. None) m);
  }

  -- ---- the same bracket goes on
  pub same-step : (k : ℕ) (opened : List Open) (q : TermProgress)
      → ((n : ℕ) (os : List Open) → unwound n 0 (is_behind q) os (expression (term_within n) q) ≡ meaning_within n q os) → depth_behind 0 x ≡ 0 → ends_operand x
      ≡ is_behind q → MovesPast x (expression (term_within (suc k)) p) (expression (term_within (suc k)) q) → Step k x p opened (reading q opened)
  same-step k opened q goes_on d b m = record {
    fuel = suc k;
    enough = omega arith;
    moves = subst (MovesPast x (meaning_within (suc k) p opened))
        (ap (λ n. unwound (suc k) n (ends_operand x) opened (expression (term_within (suc k)) q)) d
        ∙ (ap (λ n. unwound (suc k) 0 n opened (expression (term_within (suc k)) q)) b ∙ goes_on (suc k) opened))
        (inner-moves (suc k) opened (expression (term_within (suc k)) q) m);
  }

  -- ---- a bracket opens
  pub open-step : (k : ℕ) (opened : List Open) (o : Open) (q : TermProgress) → is_behind q ≡ false → depth_behind 0 x ≡ 1 → ends_operand x ≡ false
      → MovesPast x (expression (term_within (suc k)) p) (around (term_within (suc k)) o 1 false (contents_at (term_within k) o.bracket q))
      → Step k x p opened (reading q (o ∷ opened))
  open-step k opened o q e d b m =
      let content : Parser Operand = contents_at (term_within k) o.bracket q in
      let found : Parser Operand = around (term_within (suc k)) o 1 false content in
      record {
        fuel = k;
        enough = omega arith;
        moves = subst (MovesPast x (meaning_within (suc k) p opened))
            (ap (λ n. unwound (suc k) n (ends_operand x) opened found) d
            ∙ (ap (λ n. unwound (suc k) 1 n opened found) b ∙ ap (λ n. unwound (suc k) 1 n opened (around (term_within (suc k)) o 1 n content)) (sym e)))
            (inner-moves (suc k) opened found m);
      }

module _ (loose : Loose) where
  pub regular-not : Regular (AtNot loose)
  regular-not = record { contains = λ inside bracket x rest. refl }

  pub goes_on-not : (n : ℕ) (os : List Open) → unwound n 0 false os (expression (term_within n) (AtNot loose)) ≡ meaning_within n (AtNot loose) os
  goes_on-not n [] = refl
  goes_on-not n (o ∷ os) = refl

module _ (loose : Loose) (tight : Tight) where
  pub regular-operand : Regular (AtOperand loose tight)
  regular-operand = record { contains = λ inside bracket x rest. refl }

  pub goes_on-operand : (n : ℕ) (os : List Open) → unwound n 0 false os (expression (term_within n) (AtOperand loose tight))
      ≡ meaning_within n (AtOperand loose tight) os
  goes_on-operand n [] = refl
  goes_on-operand n (o ∷ os) = refl

  pub regular-name : (name : Name) → Regular (BehindName loose tight name)
  regular-name name = record { contains = λ inside bracket x rest. refl }

  pub goes_on-name : (name : Name) (n : ℕ) (os : List Open) → unwound n 0 true os (expression (term_within n) (BehindName loose tight name))
      ≡ meaning_within n (BehindName loose tight name) os
  goes_on-name name n [] = refl
  goes_on-name name n (o ∷ os) = refl

  pub regular-behind : (operand : Operand) → Regular (BehindOperand loose tight operand)
  regular-behind operand = record { contains = λ inside bracket x rest. refl }

  pub goes_on-behind : (operand : Operand) (n : ℕ) (os : List Open) → unwound n 0 true os (expression (term_within n) (BehindOperand loose tight operand))
      ≡ meaning_within n (BehindOperand loose tight operand) os
  goes_on-behind operand n [] = refl
  goes_on-behind operand n (o ∷ os) = refl
