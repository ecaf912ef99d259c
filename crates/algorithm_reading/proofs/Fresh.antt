-- Where nothing is pending, the levels are those of the definition, with what is too high left out.
use Rattle.std.proofs.Common.{◌≡◌, false, List, [], ◌∷◌, Option, Some, None, refl, ap, ◌∙◌, sym}
use Rattle.std.proofs.Math.Path.{fun_ext}
use Rattle.std.specs.Prelude.{option_and_then, option_map}
use Rattle.model_tree.specs.declared.operator.Comparison.{Comparison}
use Rattle.model_text.specs.Words.{Lexeme}
use Rattle.model_text.specs.Cutting.{Pieces, pieces}
use Rattle.model_text.specs.Terms.{Term, Or, And, Compare, Calculate, Index}
use Rattle.model_text.specs.Levels.{Parser, joined, compared, at_word, at_comparison, at_sum, at_product, at_index, item_index, primary, indexed, negated}
use Rattle.model_text.specs.Levels.{product, sum_of, comparison_level, denied, conjunction, disjunction}
use Rattle.model_text.specs.declared.reserved_word.ReservedWord.TheVariants as word
use Rattle.algorithm_reading.specs.Operands.{Operand, capped, of_two}
use Rattle.algorithm_reading.specs.Pending.{no_loose, no_tight}
use Rattle.algorithm_reading.proofs.Options.{map-same}
use Rattle.algorithm_reading.proofs.Capping.{or-capped, and-capped, index-capped, calculate-capped, compare-capped}
use Rattle.algorithm_reading.proofs.Levels.{keeping, joined_operands, joined_pieces, compared_others, index_level, product_level, sum_level, compared_level}
use Rattle.algorithm_reading.proofs.Levels.{and_level, or_level, tight_level, loose_level}

-- ---- levels whose operators group from the left
module _ {A : Type 0} (build : A → Term → Term → Term) (kept : A → Operand → Operand → Operand)
    (same : (a : A) (l r : Term) → capped (build a l r) ≡ kept a (capped l) (capped r)) (operand : Parser Term) where
  joined-kept : (left : Term) (others : List (A × List Lexeme)) → option_map capped (joined build operand left others)
      ≡ joined_operands kept (keeping operand) (capped left) others
  joined-kept left [] = refl
  joined-kept left (other ∷ others) = next (operand other.1) (λ right. joined-kept (build other.0 left right) others)
    where
      next : (found : Option Term)
          → ((right : Term) → option_map capped (joined build operand (build other.0 left right) others)
          ≡ joined_operands kept (keeping operand) (capped (build other.0 left right)) others)
          → option_map capped (option_and_then (λ right. joined build operand (build other.0 left right) others) found)
          ≡ option_and_then (λ right. joined_operands kept (keeping operand) (kept other.0 (capped left) right) others) (option_map capped found)
      next None further = refl
      next (Some right) further =
          further right ∙ ap (λ t. joined_operands kept (keeping operand) t others) (same other.0 left right)

  pieces-at : (found : Option Term) (others : List (A × List Lexeme)) → option_map capped (option_and_then (λ left. joined build operand left others) found)
      ≡ option_and_then (λ left. joined_operands kept (keeping operand) left others) (option_map capped found)
  pieces-at None others = refl
  pieces-at (Some left) others = joined-kept left others

  pieces-kept : (first : Parser Term) (cut : Pieces A) → option_map capped (option_and_then (λ left. joined build operand left cut.others) (first cut.first))
      ≡ joined_pieces kept (keeping operand) (λ left. left) (keeping first) cut
  pieces-kept first cut = pieces-at (first cut.first) cut.others

-- ---- comparisons
other-kept : (comparison : Comparison) (left : Term) (found : Option Term) → option_map capped (option_map (Compare comparison left) found)
    ≡ option_map (of_two (Compare comparison) (capped left)) (option_map capped found)
other-kept comparison left None = refl
other-kept comparison left (Some right) = ap Some (compare-capped comparison left right)

module _ (inside : Parser Term) where
  compared-kept : (others : List (Comparison × List Lexeme)) (left : Term) → option_map capped (compared inside others left)
      ≡ compared_others (keeping (sum_of inside)) None others (capped left)
  compared-kept [] left = refl
  compared-kept (other ∷ []) left = other-kept other.0 left (sum_of inside other.1)
  compared-kept (other ∷ another ∷ others) left = refl

  comparisons-at : (found : Option Term) (others : List (Comparison × List Lexeme)) → option_map capped (option_and_then (compared inside others) found)
      ≡ option_and_then (compared_others (keeping (sum_of inside)) None others) (option_map capped found)
  comparisons-at None others = refl
  comparisons-at (Some left) others = compared-kept others left

  pub fresh-compared : keeping (comparison_level inside) ≡ compared_level inside None 0 false (keeping (sum_of inside))
  fresh-compared = fun_ext λ lexemes. comparisons-at (sum_of inside (pieces at_comparison lexemes).first) (pieces at_comparison lexemes).others

  pub fresh-index : keeping (indexed inside) ≡ index_level inside 0 false (keeping (primary inside))
  fresh-index = fun_ext λ lexemes. pieces-kept (λ bracket. Index) (λ bracket. of_two Index) (λ bracket. index-capped) (item_index inside) (primary inside)
      (pieces at_index lexemes)

  pub fresh-product : keeping (product inside) ≡ product_level inside None 0 false (keeping (negated inside))
  fresh-product = fun_ext λ lexemes. pieces-kept Calculate (λ operator. of_two (Calculate operator)) calculate-capped (negated inside) (negated inside)
      (pieces at_product lexemes)

  pub fresh-sum : keeping (sum_of inside) ≡ sum_level inside None 0 false (keeping (product inside))
  fresh-sum = fun_ext λ lexemes. pieces-kept Calculate (λ operator. of_two (Calculate operator)) calculate-capped (product inside) (product inside)
      (pieces at_sum lexemes)

  pub fresh-and : keeping (conjunction inside) ≡ and_level inside None 0 false (keeping (denied inside))
  fresh-and = fun_ext λ lexemes. pieces-kept (λ reserved. And) (λ reserved. of_two And) (λ reserved. and-capped) (denied inside) (denied inside)
      (pieces (at_word word.And) lexemes)

  pub fresh-or : keeping (disjunction inside) ≡ or_level inside None 0 false (keeping (conjunction inside))
  fresh-or = fun_ext λ lexemes. pieces-kept (λ reserved. Or) (λ reserved. of_two Or) (λ reserved. or-capped) (conjunction inside) (conjunction inside)
      (pieces (at_word word.Or) lexemes)

  pub unchanged : (first : Parser Operand) → first ≡ (λ lexemes. option_map (λ operand. operand) (first lexemes))
  unchanged first = fun_ext λ lexemes. sym (map-same (first lexemes))

  pub fresh-minus : keeping (product inside) ≡ product_level inside None 0 false (λ rest. option_map (λ operand. operand) (keeping (negated inside) rest))
  fresh-minus = fresh-product ∙ ap (product_level inside None 0 false) (unchanged (keeping (negated inside)))

  pub fresh-product-behind : keeping (sum_of inside)
      ≡ sum_level inside None 0 false (product_level inside None 0 false (λ rest. option_map (λ operand. operand) (keeping (negated inside) rest)))
  fresh-product-behind = fresh-sum ∙ ap (sum_level inside None 0 false) fresh-minus

  pub fresh-tight : keeping (comparison_level inside) ≡ tight_level inside no_tight 0 false (keeping (negated inside))
  fresh-tight = fresh-compared ∙ ap (compared_level inside None 0 false) fresh-product-behind

  pub fresh-not : keeping (conjunction inside) ≡ and_level inside None 0 false (λ rest. option_map (λ operand. operand) (keeping (denied inside) rest))
  fresh-not = fresh-and ∙ ap (and_level inside None 0 false) (unchanged (keeping (denied inside)))

  pub fresh-loose : keeping (disjunction inside) ≡ loose_level inside no_loose 0 false (keeping (denied inside))
  fresh-loose = fresh-or ∙ ap (or_level inside None 0 false) fresh-not
