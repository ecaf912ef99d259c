-- Behind an operand: operators, and what else may not stand there.
use Rattle.std.proofs.Common.{◌≡◌, ℕ, Bool, true, false, List, [], ◌∷◌, Option, Some, None, refl, ap, ◌∙◌, sym, subst}
use Rattle.std.specs.Prelude.{option_and_then, option_map}
use Rattle.model_tree.specs.declared.operator.Operator.{Operator}
use Rattle.model_tree.specs.declared.operator.Comparison.{Comparison}
use Rattle.model_text.specs.declared.reserved_word.ReservedWord.TheVariants as word
use Rattle.model_text.specs.Words.{Lexeme, Reserved}
use Rattle.model_text.specs.Cutting.{Pieces, Cutter, pieces_from, with_front, depth_behind, ends_operand}
use Rattle.model_text.specs.Terms.{Term, Or, And, Compare, Calculate}
use Rattle.model_text.specs.Levels as levels
use Rattle.model_text.specs.Levels.{Parser, at_word, at_comparison, at_sum, at_product, at_index, negated, product, denied, conjunction}
use Rattle.algorithm_reading.specs.Operands.{Operand, of_two}
use Rattle.algorithm_reading.specs.Pending.{Loose, Tight, with_minuses, with_nots, calculated, and_of, or_of, behind_and, behind_or, product_of, comparison_of}
use Rattle.algorithm_reading.specs.Pending.{sum_of, conjunction_of, disjunction_of}
use Rattle.algorithm_reading.specs.Reader.{AtNot, AtOperand, BehindOperand}
use Rattle.algorithm_reading.proofs.Options.{map-none}
use Rattle.algorithm_reading.proofs.Levels.{keeping, joined_operands, joined_pieces, level_from, compared_other, compared_others, compared_pieces, index_level}
use Rattle.algorithm_reading.proofs.Levels.{product_level, sum_level, compared_level, and_level, or_level, tight_level, loose_level}
use Rattle.algorithm_reading.proofs.Fresh.{unchanged, fresh-minus, fresh-product-behind, fresh-not}
use Rattle.algorithm_reading.proofs.Passes.{MovesPast, Uncut, level-moves, sum-moves, compared-moves, loose-moves, primary-moves}
use Rattle.algorithm_reading.specs.Feeding.{Compares, Adds, Multiplies, behind_infix, behind_compared}
use Rattle.algorithm_reading.proofs.Meaning.{ends, expression}

-- a level that is cut at the lexeme goes on with its next operand
level-cuts : {A : Type 0} (cutter : Cutter A) (build : A → Operand → Operand → Operand) (later : Parser Operand) (before : Operand → Operand) (b : Bool)
    (x : Lexeme) (f : Parser Operand) (a : A) (t : Operand) → cutter b x ≡ Some a → f [] ≡ Some t
    → MovesPast x (level_from cutter build later before 0 b f)
    (level_from cutter build later (build a (before t)) (depth_behind 0 x) (ends_operand x) later)
level-cuts {A} cutter build later before b x f a t e first = record {
  at = λ rest.
      let cut : Pieces A = pieces_from cutter (depth_behind 0 x) (ends_operand x) rest in
      ap (λ found. joined_pieces build later before f (with_front found x cut)) e
      ∙ ap (option_and_then (λ right. joined_operands build later (before right) ((a, cut.first) ∷ cut.others))) first;
}

module _ (later : Parser Operand) (c : Comparison) (left : Operand) where
  compared-next : (others : List (Comparison × List Lexeme)) (q : List Lexeme) (found : Option Operand) → later q ≡ found
      → compared_other later None (c, q) others left ≡ option_and_then (compared_others later (Some (c, left)) others) (later q)
  compared-next [] q None e = ap (option_map (of_two (Compare c) left)) e ∙ sym (ap (option_and_then (compared_others later (Some (c, left)) [])) e)
  compared-next [] q (Some right) e = ap (option_map (of_two (Compare c) left)) e ∙ sym (ap (option_and_then (compared_others later (Some (c, left)) [])) e)
  compared-next (other ∷ others) q found e =
      sym (map-none (compared_others later (Some (c, left)) (other ∷ others)) (later q) (λ right. refl))

comparison-cuts : (inside : Parser Term) (b : Bool) (x : Lexeme) (f : Parser Operand) (c : Comparison) (t : Operand) → at_comparison b x ≡ Some c → f []
    ≡ Some t
    → MovesPast x (compared_level inside None 0 b f)
    (compared_level inside (Some (c, t)) (depth_behind 0 x) (ends_operand x) (keeping (levels.sum_of inside)))
comparison-cuts inside b x f c t e first = record {
  at = λ rest.
      let cut : Pieces Comparison = pieces_from at_comparison (depth_behind 0 x) (ends_operand x) rest in
      ap (λ found. compared_pieces (keeping (levels.sum_of inside)) None f (with_front found x cut)) e
      ∙ (ap (option_and_then (compared_others (keeping (levels.sum_of inside)) None ((c, cut.first) ∷ cut.others))) first
      ∙ compared-next (keeping (levels.sum_of inside)) c t cut.others cut.first (keeping (levels.sum_of inside) cut.first) refl);
}

-- a second comparison
comparison-ends : (inside : Parser Term) (b : Bool) (x : Lexeme) (f : Parser Operand) (c : Comparison) (left : Comparison × Operand) → at_comparison b x
    ≡ Some c → MovesPast x (compared_level inside (Some left) 0 b f) (λ rest. None)
comparison-ends inside b x f c left e = record {
  at = λ rest.
      let cut : Pieces Comparison = pieces_from at_comparison (depth_behind 0 x) (ends_operand x) rest in
      ap (λ found. compared_pieces (keeping (levels.sum_of inside)) (Some left) f (with_front found x cut)) e
      ∙ map-none (compared_others (keeping (levels.sum_of inside)) (Some left) ((c, cut.first) ∷ cut.others)) (f []) (λ right. refl);
}

-- behind an operator no bracket more is open, and no operand ends
pub record Infixed (x : Lexeme) : Type 0 where
  pub depth : depth_behind 0 x ≡ 0
  pub behind : ends_operand x ≡ false

settled : (x : Lexeme) (f : Parser Operand) (g : ℕ → Bool → Parser Operand) → Infixed x → MovesPast x f (g (depth_behind 0 x) (ends_operand x))
    → MovesPast x f (g 0 false)
settled x f g i m =
    subst (λ b. MovesPast x f (g 0 b)) i.behind (subst (λ d. MovesPast x f (g d (ends_operand x))) i.depth m)

module _ (inside : Parser Term) (loose : Loose) (tight : Tight) (t : Operand) where
  -- what stands behind an operator
  abbrev pub after : Option Tight → Parser Operand
  after None = λ rest. None
  after (Some pending) = expression inside (AtOperand loose pending)

  pub at-or : MovesPast (Reserved word.Or) (expression inside (BehindOperand loose tight t)) (expression inside (AtNot (behind_or loose tight t)))
  at-or = record {
    at = λ rest. (level-cuts (at_word word.Or) (λ reserved. of_two Or) (keeping (conjunction inside)) (or_of loose.or_left) true (Reserved word.Or)
        (and_level inside loose.and_left 0 true
        (λ q. option_map (with_nots loose.nots) (tight_level inside tight 0 true (index_level inside 0 true (ends (Some t))) q))) word.Or
        (conjunction_of loose tight t) refl refl).at rest
        ∙ ap (λ f. or_level inside (Some (disjunction_of loose tight t)) 0 false f rest) (fresh-not inside);
  }

  and-cuts : MovesPast (Reserved word.And)
      (and_level inside loose.and_left 0 true
      (λ q. option_map (with_nots loose.nots) (tight_level inside tight 0 true (index_level inside 0 true (ends (Some t))) q)))
      (and_level inside (Some (conjunction_of loose tight t)) 0 false (λ q. option_map (λ operand. operand) (keeping (denied inside) q)))
  and-cuts = record {
    at = λ rest. (level-cuts (at_word word.And) (λ reserved. of_two And) (keeping (denied inside)) (and_of loose.and_left) true (Reserved word.And)
        (λ q. option_map (with_nots loose.nots) (tight_level inside tight 0 true (index_level inside 0 true (ends (Some t))) q)) word.And
        (with_nots loose.nots (comparison_of tight t)) refl refl).at rest
        ∙ ap (λ f. and_level inside (Some (conjunction_of loose tight t)) 0 false f rest) (unchanged inside (keeping (denied inside)));
  }

  pub at-and : MovesPast (Reserved word.And) (expression inside (BehindOperand loose tight t)) (expression inside (AtNot (behind_and loose tight t)))
  at-and =
      level-moves 0 true (Reserved word.And) (at_word word.Or) (λ reserved. of_two Or) (keeping (conjunction inside)) (or_of loose.or_left) _ _ refl and-cuts

  -- what stands behind the operators that are tighter
  abbrev factors : Parser Operand
  factors rest = option_map (with_minuses tight.minuses) (index_level inside 0 true (ends (Some t)) rest)

  abbrev products : Parser Operand
  products = product_level inside tight.product_left 0 true factors

  abbrev sums : Parser Operand
  sums = sum_level inside tight.sum_left 0 true products

  module _ (x : Lexeme) (i : Infixed x) (or : at_word word.Or true x ≡ None) (and : at_word word.And true x ≡ None) where
    compares-at : (c : Comparison) (left : Option (Comparison × Operand)) → at_comparison true x ≡ Some c
        → MovesPast x (loose_level inside loose 0 true (compared_level inside left 0 true sums)) (after (behind_compared left tight c t))
    compares-at c None e =
        subst (λ f. MovesPast x (loose_level inside loose 0 true (compared_level inside None 0 true sums))
        (loose_level inside loose 0 false (compared_level inside (Some (c, sum_of tight t)) 0 false f))) (fresh-product-behind inside)
        (settled x _ (λ d b. loose_level inside loose d b (compared_level inside (Some (c, sum_of tight t)) d b (keeping (levels.sum_of inside)))) i
        (loose-moves 0 true x inside loose _ _ or and (comparison-cuts inside true x sums c (sum_of tight t) e refl)))
    compares-at c (Some left) e =
        record { at = (loose-moves 0 true x inside loose _ _ or and (comparison-ends inside true x sums c left e)).at }

    pub at-compares : (c : Comparison) → at_comparison true x ≡ Some c
        → MovesPast x (expression inside (BehindOperand loose tight t)) (after (behind_infix tight t (Compares c)))
    at-compares c e = compares-at c tight.compare_left e

    module _ (compares : at_comparison true x ≡ None) where
      pub at-adds : (o : Operator) → at_sum true x ≡ Some o
          → MovesPast x (expression inside (BehindOperand loose tight t)) (after (behind_infix tight t (Adds o)))
      at-adds o e =
          subst (λ f. MovesPast x (expression inside (BehindOperand loose tight t))
          (loose_level inside loose 0 false (compared_level inside tight.compare_left 0 false (sum_level inside (Some (o, sum_of tight t)) 0 false f))))
          (fresh-minus inside)
          (settled x _
          (λ d b. loose_level inside loose d b
          (compared_level inside tight.compare_left d b (sum_level inside (Some (o, sum_of tight t)) d b (keeping (product inside))))) i
          (loose-moves 0 true x inside loose _ _ or and
          (compared-moves 0 true x inside tight.compare_left _ _ compares
          (level-cuts at_sum (λ operator. of_two (Calculate operator)) (keeping (product inside))
          (calculated tight.sum_left) true x products o (product_of tight t) e refl))))

      pub at-multiplies : (o : Operator) → at_sum true x ≡ None → at_product true x ≡ Some o
          → MovesPast x (expression inside (BehindOperand loose tight t)) (after (behind_infix tight t (Multiplies o)))
      at-multiplies o adds e =
          subst (λ f. MovesPast x (expression inside (BehindOperand loose tight t))
          (loose_level inside loose 0 false
          (compared_level inside tight.compare_left 0 false
          (sum_level inside tight.sum_left 0 false (product_level inside (Some (o, product_of tight t)) 0 false f)))))
          (unchanged inside (keeping (negated inside)))
          (settled x _
          (λ d b. loose_level inside loose d b
          (compared_level inside tight.compare_left d b
          (sum_level inside tight.sum_left d b
          (product_level inside (Some (o, product_of tight t)) d b (keeping (negated inside)))))) i
          (loose-moves 0 true x inside loose _ _ or and
          (compared-moves 0 true x inside tight.compare_left _ _ compares
          (sum-moves 0 true x inside tight.sum_left _ _ adds
          (level-cuts at_product (λ operator. of_two (Calculate operator)) (keeping (negated inside))
          (calculated tight.product_left) true x factors o (with_minuses tight.minuses t) e refl)))))

  -- anything that is no operator
  pub at-other : (x : Lexeme) → Uncut 0 true x → at_index true x ≡ None → MovesPast x (expression inside (BehindOperand loose tight t)) (λ rest. None)
  at-other x uncut e = record {
    at = (primary-moves 0 true x inside uncut loose tight (ends (Some t)) (λ rest. None) e (record { at = λ rest. refl })).at;
  }
