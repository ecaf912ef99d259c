-- What one level makes of the lexemes still to come, from what is pending in it.
use Rattle.std.proofs.Common.{ℕ, Bool, List, [], ◌∷◌, ◌++◌, Option, Some, None, map}
use Rattle.std.specs.Prelude.{option_and_then, option_map, if◌then◌else◌}
use Rattle.model_tree.specs.declared.operator.Operator.{Operator}
use Rattle.model_tree.specs.declared.operator.Comparison.{Comparison}
use Rattle.model_text.specs.declared.symbol.Symbol.TheVariants as symbol
use Rattle.model_text.specs.declared.reserved_word.ReservedWord.TheVariants as word
use Rattle.model_text.specs.Words.{Lexeme, is_sign}
use Rattle.model_text.specs.Cutting.{Pieces, Cutter, pieces_from}
use Rattle.model_text.specs.Terms.{Term, Or, And, Compare, Calculate, Index}
use Rattle.model_text.specs.Levels.{Parser, all_of, at_word, at_comparison, at_sum, at_product, at_index, item_index, negated, product, sum_of, denied}
use Rattle.model_text.specs.Levels.{conjunction}
use Rattle.algorithm_reading.specs.Operands.{Operand, capped, of_two}
use Rattle.algorithm_reading.specs.Pending.{Loose, Tight, with_minuses, with_nots, calculated, compared, and_of, or_of}

-- a reading whose expressions are kept if they aren't too high
abbrev pub keeping : Parser Term → Parser Operand
keeping reading lexemes = option_map capped (reading lexemes)

-- ---- a level whose operators group from the left
abbrev pub joined_operands : {A : Type 0} → (A → Operand → Operand → Operand) → Parser Operand → Operand → List (A × List Lexeme) → Option Operand
joined_operands build later left [] = Some left
joined_operands build later left (other ∷ others) =
    option_and_then (λ right. joined_operands build later (build other.0 left right) others) (later other.1)

abbrev pub joined_pieces : {A : Type 0} → (A → Operand → Operand → Operand) → Parser Operand → (Operand → Operand) → Parser Operand → Pieces A → Option Operand
joined_pieces build later pending first cut =
    option_and_then (λ right. joined_operands build later (pending right) cut.others) (first cut.first)

abbrev pub level_from : {A : Type 0} → Cutter A → (A → Operand → Operand → Operand) → Parser Operand → (Operand → Operand) → ℕ → Bool → Parser Operand
    → Parser Operand
level_from cutter build later pending depth behind first lexemes =
    joined_pieces build later pending first (pieces_from cutter depth behind lexemes)

-- ---- the level of comparisons
abbrev pub compared_other : Parser Operand → Option (Comparison × Operand) → Comparison × List Lexeme → List (Comparison × List Lexeme) → Operand
    → Option Operand
compared_other later None other [] left = option_map (of_two (Compare other.0) left) (later other.1)
compared_other later None other (another ∷ others) left = None
compared_other later (Some pending) other others left = None

abbrev pub compared_others : Parser Operand → Option (Comparison × Operand) → List (Comparison × List Lexeme) → Operand → Option Operand
compared_others later pending [] right = Some (compared pending right)
compared_others later pending (other ∷ others) left = compared_other later pending other others left

abbrev pub compared_pieces : Parser Operand → Option (Comparison × Operand) → Parser Operand → Pieces Comparison → Option Operand
compared_pieces later pending first cut =
    option_and_then (compared_others later pending cut.others) (first cut.first)

-- ---- the levels of an expression in whose brackets something stands
module _ (inside : Parser Term) where
  abbrev pub index_level : ℕ → Bool → Parser Operand → Parser Operand
  index_level depth behind first lexemes =
      level_from at_index (λ bracket. of_two Index) (keeping (item_index inside)) (λ sequence. sequence) depth behind first lexemes

  abbrev pub product_level : Option (Operator × Operand) → ℕ → Bool → Parser Operand → Parser Operand
  product_level left depth behind first lexemes =
      level_from at_product (λ operator. of_two (Calculate operator)) (keeping (negated inside)) (calculated left) depth behind first lexemes

  abbrev pub sum_level : Option (Operator × Operand) → ℕ → Bool → Parser Operand → Parser Operand
  sum_level left depth behind first lexemes =
      level_from at_sum (λ operator. of_two (Calculate operator)) (keeping (product inside)) (calculated left) depth behind first lexemes

  abbrev pub compared_level : Option (Comparison × Operand) → ℕ → Bool → Parser Operand → Parser Operand
  compared_level left depth behind first lexemes =
      compared_pieces (keeping (sum_of inside)) left first (pieces_from at_comparison depth behind lexemes)

  abbrev pub and_level : Option Operand → ℕ → Bool → Parser Operand → Parser Operand
  and_level left depth behind first lexemes =
      level_from (at_word word.And) (λ reserved. of_two And) (keeping (denied inside)) (and_of left) depth behind first lexemes

  abbrev pub or_level : Option Operand → ℕ → Bool → Parser Operand → Parser Operand
  or_level left depth behind first lexemes =
      level_from (at_word word.Or) (λ reserved. of_two Or) (keeping (conjunction inside)) (or_of left) depth behind first lexemes

  -- behind the tight operators: the rest is that of their last operand
  abbrev pub tight_level : Tight → ℕ → Bool → Parser Operand → Parser Operand
  tight_level tight depth behind first =
      compared_level tight.compare_left depth behind
      (sum_level tight.sum_left depth behind (product_level tight.product_left depth behind (λ rest. option_map (with_minuses tight.minuses) (first rest))))

  -- behind the loose ones
  abbrev pub loose_level : Loose → ℕ → Bool → Parser Operand → Parser Operand
  loose_level loose depth behind first =
      or_level loose.or_left depth behind (and_level loose.and_left depth behind (λ rest. option_map (with_nots loose.nots) (first rest)))

  -- behind all of them
  abbrev pub operand_level : Loose → Tight → ℕ → Bool → Parser Operand → Parser Operand
  operand_level loose tight depth behind first =
      loose_level loose depth behind (tight_level tight depth behind first)

  -- behind the beginning of a primary
  abbrev pub primary_level : Loose → Tight → ℕ → Bool → Parser Operand → Parser Operand
  primary_level loose tight depth behind first =
      operand_level loose tight depth behind (index_level depth behind first)

-- ---- expressions between commas
abbrev pub comma : Cutter Lexeme
comma behind at = if is_sign symbol.Comma at then Some at else None

abbrev pub row_pieces : (List Operand → Operand) → List Operand → Parser Operand → Parser Operand → Pieces Lexeme → Option Operand
row_pieces build items later first cut =
    option_and_then (λ item. option_map (λ others. build (items ++ item ∷ others)) (all_of later (map (λ other. other.1) cut.others))) (first cut.first)

abbrev pub row_from : (List Operand → Operand) → List Operand → Parser Operand → ℕ → Bool → Parser Operand → Parser Operand
row_from build items later depth behind first lexemes =
    row_pieces build items later first (pieces_from comma depth behind lexemes)
