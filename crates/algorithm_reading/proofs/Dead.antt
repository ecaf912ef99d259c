-- Commas and closing brackets stand in no expression.
use Rattle.std.proofs.Common.{◌≡◌, Bool, true, false, List, [], ◌∷◌, Option, Some, None, refl, ap}
use Rattle.std.specs.Prelude.{option_and_then, option_map}
use Rattle.model_text.specs.declared.symbol.Symbol.TheVariants as symbol
use Rattle.model_text.specs.Words.{Lexeme, Sign, is_sign}
use Rattle.model_text.specs.Terms.{Term, Index, Variable}
use Rattle.model_text.specs.Levels.{Parser, primary, at_index, is_not}
use Rattle.algorithm_reading.specs.Operands.{Operand, Fits, of_two}
use Rattle.algorithm_reading.specs.Pending.{no_loose, no_tight}
use Rattle.algorithm_reading.specs.Reader.{Bracket, Group, Item, Items, Arguments, TermProgress, Start, AtNot, AtOperand, BehindName, BehindOperand, AtKind}
use Rattle.algorithm_reading.specs.Reader.{BehindKind}
use Rattle.algorithm_reading.specs.Ends.{ended, filled, whole}
use Rattle.algorithm_reading.proofs.Levels.{keeping}
use Rattle.algorithm_reading.proofs.Passes.{MovesPast, Uncut}
use Rattle.algorithm_reading.proofs.Meaning.{expression, contents, contents_at}
use Rattle.algorithm_reading.proofs.Beginnings.{at-start, at-not-other, at-none, behind-name}
use Rattle.algorithm_reading.proofs.Operators.{at-other}

-- a lexeme that neither begins nor goes on with anything
pub record Dead (inside : Parser Term) (x : Lexeme) : Type 0 where
  pub no_not : is_not inside x ≡ false
  pub no_minus : is_sign symbol.Minus x ≡ false
  pub no_call : is_sign symbol.LeftParenthesis x ≡ false
  pub begins_none : MovesPast x (keeping (primary inside)) (λ rest. None)
  pub uncut : Uncut 0 true x
  pub no_item : at_index true x ≡ None

module _ (inside : Parser Term) where
  comma-begins : (rest : List Lexeme) → keeping (primary inside) (Sign symbol.Comma ∷ rest) ≡ None
  comma-begins [] = refl
  comma-begins (y ∷ ys) = refl

  pub dead-comma : Dead inside (Sign symbol.Comma)
  dead-comma = record {
    no_not = refl;
    no_minus = refl;
    no_call = refl;
    begins_none = record { at = comma-begins };
    uncut = record { at_or = refl; at_and = refl; compares = refl; adds = refl; multiplies = refl };
    no_item = refl;
  }

  parenthesis-begins : (rest : List Lexeme) → keeping (primary inside) (Sign symbol.RightParenthesis ∷ rest) ≡ None
  parenthesis-begins [] = refl
  parenthesis-begins (y ∷ ys) = refl

  pub dead-parenthesis : Dead inside (Sign symbol.RightParenthesis)
  dead-parenthesis = record {
    no_not = refl;
    no_minus = refl;
    no_call = refl;
    begins_none = record { at = parenthesis-begins };
    uncut = record { at_or = refl; at_and = refl; compares = refl; adds = refl; multiplies = refl };
    no_item = refl;
  }

  bracket-begins : (rest : List Lexeme) → keeping (primary inside) (Sign symbol.RightBracket ∷ rest) ≡ None
  bracket-begins [] = refl
  bracket-begins (y ∷ ys) = refl

  pub dead-bracket : Dead inside (Sign symbol.RightBracket)
  dead-bracket = record {
    no_not = refl;
    no_minus = refl;
    no_call = refl;
    begins_none = record { at = bracket-begins };
    uncut = record { at_or = refl; at_and = refl; compares = refl; adds = refl; multiplies = refl };
    no_item = refl;
  }

  module _ (x : Lexeme) (dead : Dead inside x) where
    pub dead-at : (p : TermProgress) → MovesPast x (expression inside p) (λ rest. None)
    dead-at Start =
        at-start inside no_loose x (λ rest. None)
        (at-not-other inside no_loose x (λ rest. None) dead.no_not (at-none inside no_loose no_tight x dead.no_minus dead.begins_none))
    dead-at (AtNot loose) =
        at-not-other inside loose x (λ rest. None) dead.no_not (at-none inside loose no_tight x dead.no_minus dead.begins_none)
    dead-at (AtOperand loose tight) = at-none inside loose tight x dead.no_minus dead.begins_none
    dead-at (BehindName loose tight name) =
        behind-name inside loose tight name x (λ rest. None) dead.no_call (at-other inside loose tight (Fits (Variable name)) x dead.uncut dead.no_item)
    dead-at (BehindOperand loose tight operand) = at-other inside loose tight operand x dead.uncut dead.no_item
    dead-at AtKind = record { at = λ rest. refl }
    dead-at (BehindKind kind) = record { at = λ rest. refl }

  -- ---- where an expression ends
  pub expression-ended : (p : TermProgress) → expression inside p [] ≡ ended p
  expression-ended Start = refl
  expression-ended (AtNot loose) = refl
  expression-ended (AtOperand loose tight) = refl
  expression-ended (BehindName loose tight name) = refl
  expression-ended (BehindOperand loose tight operand) = refl
  expression-ended AtKind = refl
  expression-ended (BehindKind kind) = refl

  filled-at : (bracket : Bracket) (b : Bool) (f : Parser Operand) (found : Option Operand) → f [] ≡ found → contents inside bracket 0 b f []
      ≡ option_map (filled bracket) found
  filled-at Group b f None e = e
  filled-at Group b f (Some operand) e = e
  filled-at (Item sequence) b f found e = ap (option_map (of_two Index sequence)) e
  filled-at (Items items) b f None e = ap (option_and_then _) e
  filled-at (Items items) b f (Some operand) e = ap (option_and_then _) e
  filled-at (Arguments name bare arguments) b f None e = ap (option_and_then _) e
  filled-at (Arguments name bare arguments) b f (Some operand) e = ap (option_and_then _) e

  pub contents-whole : (bracket : Bracket) (p : TermProgress) → contents_at inside bracket p [] ≡ whole bracket p
  contents-whole bracket Start = refl
  contents-whole bracket (AtNot loose) = filled-at bracket false (expression inside (AtNot loose)) None refl
  contents-whole bracket (AtOperand loose tight) =
      filled-at bracket false (expression inside (AtOperand loose tight)) None refl
  contents-whole bracket (BehindName loose tight name) =
      filled-at bracket true (expression inside (BehindName loose tight name)) (ended (BehindName loose tight name)) refl
  contents-whole bracket (BehindOperand loose tight operand) =
      filled-at bracket true (expression inside (BehindOperand loose tight operand)) (ended (BehindOperand loose tight operand)) refl
  contents-whole Group AtKind = refl
  contents-whole (Item sequence) AtKind = refl
  contents-whole (Items items) AtKind = refl
  contents-whole (Arguments name bare arguments) AtKind = refl
  contents-whole Group (BehindKind kind) = refl
  contents-whole (Item sequence) (BehindKind kind) = refl
  contents-whole (Items items) (BehindKind kind) = refl
  contents-whole (Arguments name bare arguments) (BehindKind kind) = refl
