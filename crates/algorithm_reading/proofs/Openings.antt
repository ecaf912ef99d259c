-- A bracket opens.
use Rattle.std.proofs.Common.{◌≡◌, Bool, true, false, List, [], ◌∷◌, Option, Some, None, refl, ap, ◌∙◌, sym}
use Rattle.std.specs.Prelude.{option_and_then, option_map, if◌then◌else◌}
use Rattle.std.specs.Str.{bytes_eq}
use Rattle.model_tree.specs.Known.{error_text}
use Rattle.model_tree.specs.Syntax.{Name}
use Rattle.model_text.specs.declared.symbol.Symbol.{Symbol as AnySymbol}
use Rattle.model_text.specs.declared.symbol.Symbol.TheVariants as symbol
use Rattle.model_text.specs.Words.{Lexeme, Named, Sign}
use Rattle.model_text.specs.Cutting.{Pieces, pieces_from, parts, before_last}
use Rattle.model_text.specs.Terms.{Term, Index, ListOf, terms}
use Rattle.model_text.specs.Levels.{Parser, all_of, arguments_of, at_index, item_index, primary, called, disjunction}
use Rattle.algorithm_reading.specs.Operands.{Operand, capped, of_two, list_of, call, call_of}
use Rattle.algorithm_reading.specs.Pending.{Loose, Tight}
use Rattle.algorithm_reading.specs.Reader.{Group, Item, Items, Arguments, Start, AtOperand, BehindName, BehindOperand, AtKind}
use Rattle.algorithm_reading.specs.Feeding.{first_argument}
use Rattle.algorithm_reading.proofs.Options.{map-map, map-and_then, and_then-map, and_then-ap}
use Rattle.algorithm_reading.proofs.Capping.{list-capped, call-capped}
use Rattle.algorithm_reading.proofs.Levels.{keeping, joined_operands, index_level}
use Rattle.algorithm_reading.proofs.Passes.{MovesPast, operand-moves, primary-moves}
use Rattle.algorithm_reading.proofs.Meaning.{ends, expression, contents_at, slots_term, closed, around}
use Rattle.algorithm_reading.proofs.Beginnings.{at-primary}
use Rattle.algorithm_reading.proofs.Rows.{parts-kept}

-- a reading of what stands in a bracket that is closed by the last lexeme
closed-kept : (s : AnySymbol) (reading : Parser Term) (content : Parser Operand) (lexemes : List Lexeme)
    → ((inner : List Lexeme) → keeping reading inner ≡ content inner) → option_map capped (option_and_then reading (before_last s lexemes))
    ≡ option_and_then content (before_last s lexemes)
closed-kept s reading content lexemes e =
    map-and_then capped reading (before_last s lexemes) ∙ and_then-ap (keeping reading) content (before_last s lexemes) e

module _ (within : Parser Term) where
  -- ---- `(`
  group-content : (inner : List Lexeme) → keeping (disjunction within) inner ≡ contents_at within Group Start inner
  group-content [] = refl
  group-content (x ∷ inner) = refl

  group-opens : (rest : List Lexeme) → keeping (primary (disjunction within)) (Sign symbol.LeftParenthesis ∷ rest)
      ≡ closed Group (contents_at within Group Start) rest
  group-opens [] = refl
  group-opens (y ∷ ys) =
      closed-kept symbol.RightParenthesis (disjunction within) (contents_at within Group Start) (y ∷ ys) group-content

  -- ---- `[`
  list-content : (inner : List Lexeme) → option_map capped (option_map (λ all. ListOf (terms all)) (all_of (disjunction within) (parts inner)))
      ≡ contents_at within (Items []) Start inner
  list-content inner = parts-kept (λ all. ListOf (terms all)) list_of list-capped (disjunction within) inner

  list-opens : (rest : List Lexeme) → keeping (primary (disjunction within)) (Sign symbol.LeftBracket ∷ rest)
      ≡ closed (Items []) (contents_at within (Items []) Start) rest
  list-opens [] = refl
  list-opens (y ∷ ys) =
      closed-kept symbol.RightBracket (λ inner. option_map (λ all. ListOf (terms all)) (all_of (disjunction within) (parts inner)))
      (contents_at within (Items []) Start) (y ∷ ys) list-content

  -- ---- `NAME(`
  argument-content : (name : Name) (test : Bool) (inner : List Lexeme)
      → option_map capped (option_map (slots_term within name) (arguments_of (disjunction within) (if test then Some 0 else None) (parts inner)))
      ≡ contents_at within (Arguments name None []) (if test then AtKind else Start) inner
  argument-content name true inner = refl
  argument-content name false inner =
      ap (option_map capped) (map-map _ (slots_term within name) (all_of (disjunction within) (parts inner)))
      ∙ parts-kept (call name None) (call_of name None) (call-capped name None) (disjunction within) inner

  call-opens : (name : Name) (rest : List Lexeme) → keeping (primary (disjunction within)) (Named name ∷ Sign symbol.LeftParenthesis ∷ rest)
      ≡ closed (Arguments name None []) (contents_at within (Arguments name None []) (first_argument name)) rest
  call-opens name rest =
      closed-kept symbol.RightParenthesis (called (disjunction within) name) (contents_at within (Arguments name None []) (first_argument name)) rest
      (argument-content name (bytes_eq name error_text))

  -- ---- `x[`
  item-content : (t : Operand) (inner : List Lexeme) → option_map (of_two Index t) (keeping (disjunction within) inner)
      ≡ contents_at within (Item t) Start inner
  item-content t [] = refl
  item-content t (x ∷ inner) = refl

  item-closed : (t : Operand) (lexemes : List Lexeme) → option_map (of_two Index t) (keeping (item_index (disjunction within)) lexemes)
      ≡ closed (Item t) (contents_at within (Item t) Start) lexemes
  item-closed t lexemes =
      ap (option_map (of_two Index t)) (map-and_then capped (disjunction within) (before_last symbol.RightBracket lexemes))
      ∙ (map-and_then (of_two Index t) (keeping (disjunction within)) (before_last symbol.RightBracket lexemes)
      ∙ and_then-ap _ (contents_at within (Item t) Start) (before_last symbol.RightBracket lexemes) (item-content t))

  item-opens : (t : Operand)
      → MovesPast (Sign symbol.LeftBracket) (index_level (disjunction within) 0 true (ends (Some t)))
      (index_level (disjunction within) 1 false (closed (Item t) (contents_at within (Item t) Start)))
  item-opens t = record {
    at = λ rest.
        let cut : Pieces AnySymbol = pieces_from at_index 1 false rest in
        let others : Operand → Option Operand = λ item. joined_operands (λ bracket. of_two Index) (keeping (item_index (disjunction within))) item cut.others in
        sym (and_then-map (of_two Index t) others (keeping (item_index (disjunction within)) cut.first))
        ∙ ap (option_and_then others) (item-closed t cut.first);
  }

-- ---- in an expression
module _ (within : Parser Term) (loose : Loose) (tight : Tight) where
  pub opens-group : MovesPast (Sign symbol.LeftParenthesis) (expression (disjunction within) (AtOperand loose tight))
      (around (disjunction within) (record { bracket = Group; loose = loose; tight = tight }) 1 false (contents_at within Group Start))
  opens-group =
      at-primary (disjunction within) loose tight (Sign symbol.LeftParenthesis) (closed Group (contents_at within Group Start)) refl
      (record { at_or = refl; at_and = refl; compares = refl; adds = refl; multiplies = refl }) refl (record { at = group-opens within })

  pub opens-list : MovesPast (Sign symbol.LeftBracket) (expression (disjunction within) (AtOperand loose tight))
      (around (disjunction within) (record { bracket = Items []; loose = loose; tight = tight }) 1 false (contents_at within (Items []) Start))
  opens-list =
      at-primary (disjunction within) loose tight (Sign symbol.LeftBracket) (closed (Items []) (contents_at within (Items []) Start)) refl
      (record { at_or = refl; at_and = refl; compares = refl; adds = refl; multiplies = refl }) refl (record { at = list-opens within })

  pub opens-call : (name : Name)
      → MovesPast (Sign symbol.LeftParenthesis) (expression (disjunction within) (BehindName loose tight name))
      (around (disjunction within) (record { bracket = Arguments name None []; loose = loose; tight = tight }) 1 false
      (contents_at within (Arguments name None []) (first_argument name)))
  opens-call name =
      primary-moves 0 true (Sign symbol.LeftParenthesis) (disjunction within)
      (record { at_or = refl; at_and = refl; compares = refl; adds = refl; multiplies = refl }) loose tight
      (λ rest. keeping (primary (disjunction within)) (Named name ∷ rest))
      (closed (Arguments name None []) (contents_at within (Arguments name None []) (first_argument name))) refl
      (record { at = call-opens within name })

  pub opens-item : (t : Operand)
      → MovesPast (Sign symbol.LeftBracket) (expression (disjunction within) (BehindOperand loose tight t))
      (around (disjunction within) (record { bracket = Item t; loose = loose; tight = tight }) 1 false (contents_at within (Item t) Start))
  opens-item t =
      operand-moves 0 true (Sign symbol.LeftBracket) (disjunction within)
      (record { at_or = refl; at_and = refl; compares = refl; adds = refl; multiplies = refl }) loose tight _ _ (item-opens within t)
