-- A comma.
use Rattle.std.proofs.Common.{◌≡◌, ℕ, suc, Bool, true, false, List, [], ◌∷◌, ◌++◌, Option, Some, None, refl, ap, ◌∙◌, sym, subst, arith}
use Rattle.std.specs.Prelude.{option_and_then, option_map}
use Rattle.model_tree.specs.Syntax.{Name}
use Rattle.model_text.specs.declared.symbol.Symbol.TheVariants as symbol
use Rattle.model_text.specs.Words.{Lexeme, Sign, is_sign}
use Rattle.model_text.specs.Terms.{Term, Index}
use Rattle.model_text.specs.Levels.{Parser, disjunction, term_within}
use Rattle.model_text.specs.Cutting.{before_last}
use Rattle.algorithm_reading.specs.Operands.{Operand, of_two, list_of, call_of}
use Rattle.algorithm_reading.specs.Pending.{no_loose}
use Rattle.algorithm_reading.specs.Reader.{Bracket, Group, Item, Items, Arguments, Open, TermProgress, Start, AtNot, AtOperand, BehindName, BehindOperand}
use Rattle.algorithm_reading.specs.Reader.{AtKind}
use Rattle.algorithm_reading.specs.Reader.{BehindKind, reading}
use Rattle.algorithm_reading.specs.Ends.{ended, parted, closing, at_comma}
use Rattle.algorithm_reading.proofs.Levels.{keeping, row_from, primary_level}
use Rattle.algorithm_reading.proofs.Fresh.{fresh-loose}
use Rattle.algorithm_reading.proofs.Passes.{MovesPast}
use Rattle.algorithm_reading.proofs.Meaning.{is_behind, expression, contents, contents_at, around, unwound, meaning_within, meaning}
use Rattle.algorithm_reading.proofs.Rows.{comma-ends, comma-goes_on, at-kind-other, behind-comma}
use Rattle.algorithm_reading.proofs.Lift.{closed-other, around-moves, around-none, lift, unwound-none}
use Rattle.algorithm_reading.proofs.Dead.{dead-comma, dead-at, expression-ended}
use Rattle.algorithm_reading.proofs.Within.{Step}

abbrev at : Lexeme
at = Sign symbol.Comma

-- what stands in the bracket behind the comma
abbrev behind : Parser Term → Option Bracket → Parser Operand
behind inside None = λ rest. None
behind inside (Some bracket) = contents inside bracket 0 false (expression inside (AtNot no_loose))

-- what stands in a row behind it
abbrev row_behind : Parser Term → (List Operand → Operand) → List Operand → Option Operand → Parser Operand
row_behind inside kept items None = λ rest. None
row_behind inside kept items (Some item) =
    row_from kept (items ++ item ∷ []) (keeping (disjunction inside)) 0 false (expression inside (AtNot no_loose))

-- the bracket behind an expression that ends at the comma
abbrev commaed : Bracket → Option Operand → Option Bracket
commaed Group found = None
commaed (Item sequence) found = None
commaed (Items items) found = option_map (λ item. Items (items ++ item ∷ [])) found
commaed (Arguments name bare arguments) found =
    option_map (λ argument. Arguments name bare (arguments ++ argument ∷ [])) found

module _ (inside : Parser Term) where
  row-at : (kept : List Operand → Operand) (items : List Operand) (p : TermProgress) (b : Bool) (found : Option Operand) → ended p ≡ found
      → MovesPast at (row_from kept items (keeping (disjunction inside)) 0 b (expression inside p)) (row_behind inside kept items found)
  row-at kept items p b None e =
      comma-ends kept items (keeping (disjunction inside)) (expression inside p) b (expression-ended inside p ∙ e)
  row-at kept items p b (Some item) e =
      subst (λ f. MovesPast at (row_from kept items (keeping (disjunction inside)) 0 b (expression inside p))
      (row_from kept (items ++ item ∷ []) (keeping (disjunction inside)) 0 false f)) (fresh-loose inside)
      (comma-goes_on kept items (keeping (disjunction inside)) (expression inside p) b item (expression-ended inside p ∙ e))

  items-behind : (items : List Operand) (found : Option Operand) → row_behind inside list_of items found ≡ behind inside (commaed (Items items) found)
  items-behind items None = refl
  items-behind items (Some item) = refl

  arguments-behind : (name : Name) (bare : Option Name) (arguments : List Operand) (found : Option Operand)
      → row_behind inside (call_of name bare) arguments found ≡ behind inside (commaed (Arguments name bare arguments) found)
  arguments-behind name bare arguments None = refl
  arguments-behind name bare arguments (Some argument) = refl

  regular-at : (bracket : Bracket) (p : TermProgress) (b : Bool)
      → MovesPast at (contents inside bracket 0 b (expression inside p)) (behind inside (commaed bracket (ended p)))
  regular-at Group p b = dead-at inside at (dead-comma inside) p
  regular-at (Item sequence) p b = record { at = λ rest. ap (option_map (of_two Index sequence)) ((dead-at inside at (dead-comma inside) p).at rest) }
  regular-at (Items items) p b =
      subst (MovesPast at (contents inside (Items items) 0 b (expression inside p))) (items-behind items (ended p)) (row-at list_of items p b (ended p) refl)
  regular-at (Arguments name bare arguments) p b =
      subst (MovesPast at (contents inside (Arguments name bare arguments) 0 b (expression inside p))) (arguments-behind name bare arguments (ended p))
      (row-at (call_of name bare) arguments p b (ended p) refl)

  parts-at : (bracket : Bracket) (p : TermProgress) → MovesPast at (contents_at inside bracket p) (behind inside (parted bracket p))
  parts-at Group Start = record { at = (regular-at Group Start false).at }
  parts-at Group (AtNot loose) = regular-at Group (AtNot loose) false
  parts-at Group (AtOperand loose tight) = regular-at Group (AtOperand loose tight) false
  parts-at Group (BehindName loose tight last) = regular-at Group (BehindName loose tight last) true
  parts-at Group (BehindOperand loose tight operand) = regular-at Group (BehindOperand loose tight operand) true
  parts-at Group AtKind = record { at = λ rest. refl }
  parts-at Group (BehindKind kind) = record { at = λ rest. refl }
  parts-at (Item sequence) Start = record { at = (regular-at (Item sequence) Start false).at }
  parts-at (Item sequence) (AtNot loose) = regular-at (Item sequence) (AtNot loose) false
  parts-at (Item sequence) (AtOperand loose tight) = regular-at (Item sequence) (AtOperand loose tight) false
  parts-at (Item sequence) (BehindName loose tight last) = regular-at (Item sequence) (BehindName loose tight last) true
  parts-at (Item sequence) (BehindOperand loose tight operand) = regular-at (Item sequence) (BehindOperand loose tight operand) true
  parts-at (Item sequence) AtKind = record { at = λ rest. refl }
  parts-at (Item sequence) (BehindKind kind) = record { at = λ rest. refl }
  parts-at (Items items) Start = record { at = (regular-at (Items items) Start false).at }
  parts-at (Items items) (AtNot loose) = regular-at (Items items) (AtNot loose) false
  parts-at (Items items) (AtOperand loose tight) = regular-at (Items items) (AtOperand loose tight) false
  parts-at (Items items) (BehindName loose tight last) = regular-at (Items items) (BehindName loose tight last) true
  parts-at (Items items) (BehindOperand loose tight operand) = regular-at (Items items) (BehindOperand loose tight operand) true
  parts-at (Items items) AtKind = record { at = λ rest. refl }
  parts-at (Items items) (BehindKind kind) = record { at = λ rest. refl }
  parts-at (Arguments name bare arguments) Start = record { at = (regular-at (Arguments name bare arguments) Start false).at }
  parts-at (Arguments name bare arguments) (AtNot loose) = regular-at (Arguments name bare arguments) (AtNot loose) false
  parts-at (Arguments name bare arguments) (AtOperand loose tight) = regular-at (Arguments name bare arguments) (AtOperand loose tight) false
  parts-at (Arguments name bare arguments) (BehindName loose tight last) = regular-at (Arguments name bare arguments) (BehindName loose tight last) true
  parts-at (Arguments name bare arguments) (BehindOperand loose tight operand) = regular-at (Arguments name bare arguments)
      (BehindOperand loose tight operand) true
  parts-at (Arguments name bare arguments) AtKind = at-kind-other inside name bare arguments at (λ rest. refl)
  parts-at (Arguments name bare arguments) (BehindKind kind) = behind-comma inside name bare arguments kind

-- the bracket stays what it is
abbrev Closes : Bracket → Option Bracket → Type 0
Closes bracket None = Unit
Closes bracket (Some next) = closing next ≡ closing bracket

closes-items : (items : List Operand) (found : Option Operand) → Closes (Items items) (commaed (Items items) found)
closes-items items None = tt
closes-items items (Some item) = refl

closes-arguments : (name : Name) (bare : Option Name) (arguments : List Operand) (found : Option Operand)
    → Closes (Arguments name bare arguments) (commaed (Arguments name bare arguments) found)
closes-arguments name bare arguments None = tt
closes-arguments name bare arguments (Some argument) = refl

closes-parted : (bracket : Bracket) (p : TermProgress) → Closes bracket (parted bracket p)
closes-parted Group p = tt
closes-parted (Item sequence) p = tt
closes-parted (Items items) p = closes-items items (ended p)
closes-parted (Arguments name bare arguments) (BehindKind kind) = refl
closes-parted (Arguments name bare arguments) Start = closes-arguments name bare arguments (ended Start)
closes-parted (Arguments name bare arguments) (AtNot loose) = closes-arguments name bare arguments (ended (AtNot loose))
closes-parted (Arguments name bare arguments) (AtOperand loose tight) = closes-arguments name bare arguments (ended (AtOperand loose tight))
closes-parted (Arguments name bare arguments) (BehindName loose tight last) = closes-arguments name bare arguments (ended (BehindName loose tight last))
closes-parted (Arguments name bare arguments) (BehindOperand loose tight operand) = closes-arguments name bare arguments
    (ended (BehindOperand loose tight operand))
closes-parted (Arguments name bare arguments) AtKind = closes-arguments name bare arguments (ended AtKind)

no_closing : (bracket : Bracket) → is_sign (closing bracket) at ≡ false
no_closing Group = refl
no_closing (Item sequence) = refl
no_closing (Items items) = refl
no_closing (Arguments name bare arguments) = refl

module _ (k : ℕ) (p : TermProgress) (o : Open) (os : List Open) where
  outer : (g : Parser Operand) → MovesPast at (contents_at (term_within (suc k)) o.bracket p) g
      → MovesPast at (meaning_within (suc k) p (o ∷ os)) (unwound (suc (suc k)) 1 false os (around (term_within (suc (suc k))) o 1 false g))
  outer g m =
      let b : Bool = is_behind p in
      let content : Parser Operand = contents_at (term_within (suc k)) o.bracket p in
      lift at os (suc (suc k)) 0 b (around (term_within (suc (suc k))) o 1 b content) (around (term_within (suc (suc k))) o 1 false g) refl
      (around-moves (term_within (suc (suc k))) o 0 b at content g (closed-other at content g o.bracket (no_closing o.bracket) m))

  next : (found : Option Bracket) → Closes o.bracket found → MovesPast at (contents_at (term_within (suc k)) o.bracket p) (behind (term_within (suc k)) found)
      → MovesPast at (meaning_within (suc k) p (o ∷ os))
      (meaning (suc k) (option_and_then (λ bracket. reading (AtNot no_loose) (record o { bracket = bracket } ∷ os)) found))
  next None c m =
      subst (MovesPast at (meaning_within (suc k) p (o ∷ os)))
      (ap (unwound (suc (suc k)) 1 false os) (around-none (term_within (suc (suc k))) o 1 false) ∙ unwound-none os (suc (suc k)) 1 false)
      (outer (λ rest. None) m)
  next (Some bracket) c m =
      let g : Parser Operand = behind (term_within (suc k)) (Some bracket) in
      subst (λ s. MovesPast at (meaning_within (suc k) p (o ∷ os))
      (unwound (suc (suc k)) 1 false os
      (primary_level (term_within (suc (suc k))) o.loose o.tight 1 false (λ rest. option_and_then g (before_last s rest))))) (sym c) (outer g m)

  around-step : Step k at p (o ∷ os) (at_comma p (o ∷ os))
  around-step = record {
    fuel = suc k;
    enough = omega arith;
    moves = next (parted o.bracket p) (closes-parted o.bracket p) (parts-at (term_within (suc k)) o.bracket p);
  }

pub comma-step : (k : ℕ) (p : TermProgress) (opened : List Open) → Step k (Sign symbol.Comma) p opened (at_comma p opened)
comma-step k p [] = record {
  fuel = k;
  enough = omega arith;
  moves = record { at = (dead-at (term_within (suc k)) at (dead-comma (term_within (suc k))) p).at };
}
comma-step k p (o ∷ os) = around-step k p o os
