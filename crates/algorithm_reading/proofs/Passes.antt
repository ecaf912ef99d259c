-- A lexeme at which no level is cut: what stands behind the levels takes it.
use Rattle.std.proofs.Common.{◌≡◌, ℕ, suc, Bool, List, ◌∷◌, Option, None, refl, ap, ◌∙◌}
use Rattle.std.specs.Prelude.{option_and_then, option_map}
use Rattle.model_tree.specs.declared.operator.Operator.{Operator}
use Rattle.model_tree.specs.declared.operator.Comparison.{Comparison}
use Rattle.model_text.specs.declared.reserved_word.ReservedWord.TheVariants as word
use Rattle.model_text.specs.Words.{Lexeme}
use Rattle.model_text.specs.Cutting.{Cutter, pieces_from, with_front, cut_outside, depth_behind, ends_operand}
use Rattle.model_text.specs.Terms.{Term}
use Rattle.model_text.specs.Levels.{Parser, at_word, at_comparison, at_sum, at_product, at_index, sum_of}
use Rattle.algorithm_reading.specs.Operands.{Operand}
use Rattle.algorithm_reading.specs.Pending.{Loose, Tight, with_minuses, with_nots}
use Rattle.algorithm_reading.proofs.Levels.{keeping, joined_pieces, level_from, compared_pieces, index_level, product_level, sum_level, tight_level}
use Rattle.algorithm_reading.proofs.Levels.{loose_level}
use Rattle.algorithm_reading.proofs.Levels.{operand_level, primary_level, compared_level, comma, row_pieces, row_from}

-- no level of operators is cut at the lexeme
pub record Uncut (depth : ℕ) (behind : Bool) (x : Lexeme) : Type 0 where
  pub at_or : cut_outside depth (at_word word.Or) behind x ≡ None
  pub at_and : cut_outside depth (at_word word.And) behind x ≡ None
  pub compares : cut_outside depth at_comparison behind x ≡ None
  pub adds : cut_outside depth at_sum behind x ≡ None
  pub multiplies : cut_outside depth at_product behind x ≡ None

pub uncut-inside : (depth : ℕ) (behind : Bool) (x : Lexeme) → Uncut (suc depth) behind x
uncut-inside depth behind x = record { at_or = refl; at_and = refl; compares = refl; adds = refl; multiplies = refl }

-- behind the lexeme the first reading is the other
pub record MovesPast (x : Lexeme) (f g : Parser Operand) : Type 0 where
  pub at : (rest : List Lexeme) → f (x ∷ rest) ≡ g rest

module _ (d : ℕ) (b : Bool) (x : Lexeme) where
  pub pieces-pass : {A : Type 0} (cutter : Cutter A) (rest : List Lexeme) → cut_outside d cutter b x ≡ None → pieces_from cutter d b (x ∷ rest)
      ≡ with_front None x (pieces_from cutter (depth_behind d x) (ends_operand x) rest)
  pieces-pass cutter rest e =
      ap (λ found. with_front found x (pieces_from cutter (depth_behind d x) (ends_operand x) rest)) e

  pub after-moves : (h : Operand → Operand) (f g : Parser Operand) → MovesPast x f g
      → MovesPast x (λ rest. option_map h (f rest)) (λ rest. option_map h (g rest))
  after-moves h f g m = record { at = λ rest. ap (option_map h) (m.at rest) }

  pub level-moves : {A : Type 0} (cutter : Cutter A) (build : A → Operand → Operand → Operand) (later : Parser Operand) (pending : Operand → Operand)
      (f g : Parser Operand) → cut_outside d cutter b x ≡ None → MovesPast x f g
      → MovesPast x (level_from cutter build later pending d b f) (level_from cutter build later pending (depth_behind d x) (ends_operand x) g)
  level-moves cutter build later pending f g e m = record {
    at = λ rest. ap (joined_pieces build later pending f) (pieces-pass cutter rest e)
        ∙ ap (option_and_then _) (m.at (pieces_from cutter (depth_behind d x) (ends_operand x) rest).first);
  }

  pub compared-moves : (inside : Parser Term) (left : Option (Comparison × Operand)) (f g : Parser Operand) → cut_outside d at_comparison b x ≡ None
      → MovesPast x f g → MovesPast x (compared_level inside left d b f) (compared_level inside left (depth_behind d x) (ends_operand x) g)
  compared-moves inside left f g e m = record {
    at = λ rest. ap (compared_pieces (keeping (sum_of inside)) left f) (pieces-pass at_comparison rest e)
        ∙ ap (option_and_then _) (m.at (pieces_from at_comparison (depth_behind d x) (ends_operand x) rest).first);
  }

  pub row-moves : (build : List Operand → Operand) (items : List Operand) (later : Parser Operand) (f g : Parser Operand) → cut_outside d comma b x ≡ None
      → MovesPast x f g → MovesPast x (row_from build items later d b f) (row_from build items later (depth_behind d x) (ends_operand x) g)
  row-moves build items later f g e m = record {
    at = λ rest. ap (row_pieces build items later f) (pieces-pass comma rest e)
        ∙ ap (option_and_then _) (m.at (pieces_from comma (depth_behind d x) (ends_operand x) rest).first);
  }

  module _ (inside : Parser Term) where
    pub index-moves : (f g : Parser Operand) → cut_outside d at_index b x ≡ None → MovesPast x f g
        → MovesPast x (index_level inside d b f) (index_level inside (depth_behind d x) (ends_operand x) g)
    index-moves f g e m = level-moves at_index _ _ _ f g e m

    pub product-moves : (left : Option (Operator × Operand)) (f g : Parser Operand) → cut_outside d at_product b x ≡ None → MovesPast x f g
        → MovesPast x (product_level inside left d b f) (product_level inside left (depth_behind d x) (ends_operand x) g)
    product-moves left f g e m = level-moves at_product _ _ _ f g e m

    pub sum-moves : (left : Option (Operator × Operand)) (f g : Parser Operand) → cut_outside d at_sum b x ≡ None → MovesPast x f g
        → MovesPast x (sum_level inside left d b f) (sum_level inside left (depth_behind d x) (ends_operand x) g)
    sum-moves left f g e m = level-moves at_sum _ _ _ f g e m

    pub loose-moves : (loose : Loose) (f g : Parser Operand) → cut_outside d (at_word word.Or) b x ≡ None → cut_outside d (at_word word.And) b x ≡ None
        → MovesPast x f g → MovesPast x (loose_level inside loose d b f) (loose_level inside loose (depth_behind d x) (ends_operand x) g)
    loose-moves loose f g e e' m =
        level-moves (at_word word.Or) _ _ _ _ _ e (level-moves (at_word word.And) _ _ _ _ _ e' (after-moves (with_nots loose.nots) f g m))

  module _ (inside : Parser Term) (uncut : Uncut d b x) where
    tight-moves : (tight : Tight) (f g : Parser Operand) → MovesPast x f g
        → MovesPast x (tight_level inside tight d b f) (tight_level inside tight (depth_behind d x) (ends_operand x) g)
    tight-moves tight f g m =
        compared-moves inside tight.compare_left _ _ uncut.compares
        (sum-moves inside tight.sum_left _ _ uncut.adds
        (product-moves inside tight.product_left _ _ uncut.multiplies (after-moves (with_minuses tight.minuses) f g m)))

    pub operand-moves : (loose : Loose) (tight : Tight) (f g : Parser Operand) → MovesPast x f g
        → MovesPast x (operand_level inside loose tight d b f) (operand_level inside loose tight (depth_behind d x) (ends_operand x) g)
    operand-moves loose tight f g m =
        loose-moves inside loose _ _ uncut.at_or uncut.at_and (tight-moves tight f g m)

    pub primary-moves : (loose : Loose) (tight : Tight) (f g : Parser Operand) → cut_outside d at_index b x ≡ None → MovesPast x f g
        → MovesPast x (primary_level inside loose tight d b f) (primary_level inside loose tight (depth_behind d x) (ends_operand x) g)
    primary-moves loose tight f g e m = operand-moves loose tight _ _ (index-moves inside f g e m)
