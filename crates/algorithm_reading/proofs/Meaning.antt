-- What the lexemes still to come make of what a reader knows, as the levels read them.
use Rattle.std.proofs.Common.{ℕ, suc, Bool, true, false, List, [], ◌∷◌, Option, Some, None, map}
use Rattle.std.specs.Prelude.{option_and_then, option_map}
use Rattle.model_tree.specs.Syntax.{Name}
use Rattle.model_text.specs.Words.{Lexeme, Named}
use Rattle.model_text.specs.Cutting.{Pieces, pieces_from, parts, before_last}
use Rattle.model_text.specs.Terms.{Term, Index, Called, terms}
use Rattle.model_text.specs.Levels.{Parser, Arguments as Slots, all_of, arguments_of, primary, negated, denied, disjunction, term_within}
use Rattle.algorithm_reading.specs.Operands.{Operand, of_two, list_of, call_of}
use Rattle.algorithm_reading.specs.Reader.{Bracket, Group, Item, Items, Arguments, Open, TermProgress, Start, AtNot, AtOperand, BehindName, BehindOperand}
use Rattle.algorithm_reading.specs.Reader.{AtKind}
use Rattle.algorithm_reading.specs.Reader.{BehindKind, ReaderState}
use Rattle.algorithm_reading.specs.Ends.{empty, closing}
use Rattle.algorithm_reading.proofs.Levels.{keeping, loose_level, operand_level, primary_level, comma, row_from}

-- nothing more stands
abbrev pub ends : Option Operand → Parser Operand
ends found [] = found
ends found (lexeme ∷ lexemes) = None

-- nothing stands, or something does
abbrev pub or_nothing : Option Operand → Parser Operand → Parser Operand
or_nothing nothing first [] = nothing
or_nothing nothing first (lexeme ∷ lexemes) = first (lexeme ∷ lexemes)

-- an operand ends here
abbrev pub is_behind : TermProgress → Bool
is_behind (BehindName loose tight name) = true
is_behind (BehindOperand loose tight operand) = true
is_behind (BehindKind kind) = true
is_behind _ = false

-- ---- in an expression in whose brackets something stands
module _ (inside : Parser Term) where
  abbrev pub expression : TermProgress → Parser Operand
  expression Start = keeping (disjunction inside)
  expression (AtNot loose) = loose_level inside loose 0 false (keeping (denied inside))
  expression (AtOperand loose tight) = operand_level inside loose tight 0 false (keeping (negated inside))
  expression (BehindName loose tight name) =
      primary_level inside loose tight 0 true (λ rest. keeping (primary inside) (Named name ∷ rest))
  expression (BehindOperand loose tight operand) = primary_level inside loose tight 0 true (ends (Some operand))
  expression AtKind = λ rest. None
  expression (BehindKind kind) = λ rest. None

  -- what stands in a bracket, where so many brackets are open in it
  abbrev pub contents : Bracket → ℕ → Bool → Parser Operand → Parser Operand
  contents Group depth behind first = first
  contents (Item sequence) depth behind first = λ rest. option_map (of_two Index sequence) (first rest)
  contents (Items items) depth behind first =
      row_from list_of items (keeping (disjunction inside)) depth behind first
  contents (Arguments name bare arguments) depth behind first =
      row_from (call_of name bare) arguments (keeping (disjunction inside)) depth behind first

  -- a bare name may stand, and arguments behind it
  abbrev pub slots_term : Name → Slots → Term
  slots_term name slots = Called name (terms slots.before) slots.bare (terms slots.after)

  abbrev pub kind_contents : Bracket → Parser Operand
  kind_contents (Arguments name bare arguments) =
      keeping (λ rest. option_map (slots_term name) (arguments_of (disjunction inside) (Some 0) (parts rest)))
  kind_contents _ = λ rest. None

  -- behind a bare name
  abbrev pub behind_kind : (List Operand → Operand) → List Lexeme → List (Lexeme × List Lexeme) → Option Operand
  behind_kind build [] others =
      option_map build (all_of (keeping (disjunction inside)) (map (λ other. other.1) others))
  behind_kind build (lexeme ∷ lexemes) others = None

  abbrev pub kind_pieces : (List Operand → Operand) → Pieces Lexeme → Option Operand
  kind_pieces build cut = behind_kind build cut.first cut.others

  abbrev pub behind_kind_contents : Name → Bracket → Parser Operand
  behind_kind_contents kind (Arguments name bare arguments) =
      λ rest. kind_pieces (call_of name (Some kind)) (pieces_from comma 0 true rest)
  behind_kind_contents kind _ = λ rest. None

  -- what stands in the innermost bracket
  abbrev pub contents_at : Bracket → TermProgress → Parser Operand
  contents_at bracket Start = or_nothing (empty bracket) (contents bracket 0 false (expression Start))
  contents_at bracket AtKind = kind_contents bracket
  contents_at bracket (BehindKind kind) = behind_kind_contents kind bracket
  contents_at bracket progress = contents bracket 0 (is_behind progress) (expression progress)

-- the bracket closes at the end
abbrev pub closed : Bracket → Parser Operand → Parser Operand
closed bracket content lexemes = option_and_then content (before_last (closing bracket) lexemes)

-- an expression with an open bracket in it, where so many brackets are open
abbrev pub around : Parser Term → Open → ℕ → Bool → Parser Operand → Parser Operand
around inside opened depth behind content =
    primary_level inside opened.loose opened.tight depth behind (closed opened.bracket content)

-- An expression in open brackets, the innermost first; in it so many brackets are open, and so many more may stand.
abbrev pub unwound : ℕ → ℕ → Bool → List Open → Parser Operand → Parser Operand
unwound brackets depth behind [] first = first
unwound brackets depth behind (bracket ∷ opened) first =
    unwound (suc brackets) (suc depth) behind opened
    (around (term_within (suc brackets)) bracket (suc depth) behind (contents (term_within brackets) bracket.bracket depth behind first))

abbrev pub meaning_within : ℕ → TermProgress → List Open → Parser Operand
meaning_within brackets progress [] = expression (term_within brackets) progress
meaning_within brackets progress (bracket ∷ opened) =
    unwound (suc brackets) 1 (is_behind progress) opened
    (around (term_within (suc brackets)) bracket 1 (is_behind progress) (contents_at (term_within brackets) bracket.bracket progress))

abbrev pub meaning : ℕ → ReaderState → Parser Operand
meaning brackets None = λ rest. None
meaning brackets (Some reader) = meaning_within brackets reader.progress reader.opened
