-- A lexeme goes through the levels: what it is for what stands behind them, it is for all.
use Rattle.std.proofs.Common.{◌≡◌, Bool, List, [], ◌∷◌, Option, Some, None, ap}
use Rattle.std.specs.Prelude.{option_and_then, option_map}
use Rattle.model_tree.specs.declared.operator.Comparison.{Comparison}
use Rattle.model_text.specs.declared.reserved_word.ReservedWord.TheVariants as word
use Rattle.model_text.specs.Words.{Lexeme}
use Rattle.model_text.specs.Cutting.{Pieces, Cutter, pieces_from, with_front, depth_behind, ends_operand}
use Rattle.model_text.specs.Terms.{Term}
use Rattle.model_text.specs.Levels.{Parser, at_word, at_comparison, at_sum, at_product, at_index, sum_of}
use Rattle.algorithm_reading.specs.Operands.{Operand}
use Rattle.algorithm_reading.specs.Pending.{Loose, Tight, with_minuses, with_nots}
use Rattle.algorithm_reading.proofs.Levels.{keeping, joined_operands, level_from, compared_others, index_level, compared_level, tight_level, loose_level}
use Rattle.algorithm_reading.proofs.Levels.{operand_level, primary_level}

-- ---- two readings that agree on nothing and on what begins with the lexeme
pub record Agree (x : Lexeme) (f g : Parser Operand) : Type 0 where
  pub nothing : f [] ≡ g []
  pub something : (rest : List Lexeme) → f (x ∷ rest) ≡ g (x ∷ rest)

module _ (x : Lexeme) where
  after-agree : (h : Operand → Operand) (f g : Parser Operand) → Agree x f g → Agree x (λ rest. option_map h (f rest)) (λ rest. option_map h (g rest))
  after-agree h f g a = record {
    nothing = ap (option_map h) a.nothing;
    something = λ rest. ap (option_map h) (a.something rest);
  }

  module _ {A : Type 0} (next : List (A × List Lexeme) → Operand → Option Operand) (f g : Parser Operand) (a : Agree x f g) where
    front-agree : (found : Option A) (cut : Pieces A) → option_and_then (next (with_front found x cut).others) (f (with_front found x cut).first)
        ≡ option_and_then (next (with_front found x cut).others) (g (with_front found x cut).first)
    front-agree None cut = ap (option_and_then (next cut.others)) (a.something cut.first)
    front-agree (Some c) cut = ap (option_and_then (next ((c, cut.first) ∷ cut.others))) a.nothing

  level-agree : {A : Type 0} (cutter : Cutter A) (build : A → Operand → Operand → Operand) (later : Parser Operand) (pending : Operand → Operand) (b : Bool)
      (f g : Parser Operand) → Agree x f g → Agree x (level_from cutter build later pending 0 b f) (level_from cutter build later pending 0 b g)
  level-agree cutter build later pending b f g a = record {
    nothing = ap (option_and_then (λ right. joined_operands build later (pending right) [])) a.nothing;
    something = λ rest. front-agree (λ others right. joined_operands build later (pending right) others) f g a (cutter b x)
        (pieces_from cutter (depth_behind 0 x) (ends_operand x) rest);
  }

  compared-agree : (inside : Parser Term) (left : Option (Comparison × Operand)) (b : Bool) (f g : Parser Operand) → Agree x f g
      → Agree x (compared_level inside left 0 b f) (compared_level inside left 0 b g)
  compared-agree inside left b f g a = record {
    nothing = ap (option_and_then (compared_others (keeping (sum_of inside)) left [])) a.nothing;
    something = λ rest. front-agree (compared_others (keeping (sum_of inside)) left) f g a (at_comparison b x)
        (pieces_from at_comparison (depth_behind 0 x) (ends_operand x) rest);
  }

  module _ (inside : Parser Term) (b : Bool) where
    pub index-agree : (f g : Parser Operand) → Agree x f g → Agree x (index_level inside 0 b f) (index_level inside 0 b g)
    index-agree f g a = level-agree at_index _ _ _ b f g a

    pub tight-agree : (tight : Tight) (f g : Parser Operand) → Agree x f g → Agree x (tight_level inside tight 0 b f) (tight_level inside tight 0 b g)
    tight-agree tight f g a =
        compared-agree inside tight.compare_left b _ _
        (level-agree at_sum _ _ _ b _ _ (level-agree at_product _ _ _ b _ _ (after-agree (with_minuses tight.minuses) f g a)))

    pub loose-agree : (loose : Loose) (f g : Parser Operand) → Agree x f g → Agree x (loose_level inside loose 0 b f) (loose_level inside loose 0 b g)
    loose-agree loose f g a =
        level-agree (at_word word.Or) _ _ _ b _ _ (level-agree (at_word word.And) _ _ _ b _ _ (after-agree (with_nots loose.nots) f g a))

    pub operand-agree : (loose : Loose) (tight : Tight) (f g : Parser Operand) → Agree x f g
        → Agree x (operand_level inside loose tight 0 b f) (operand_level inside loose tight 0 b g)
    operand-agree loose tight f g a = loose-agree loose _ _ (tight-agree tight f g a)

    pub primary-agree : (loose : Loose) (tight : Tight) (f g : Parser Operand) → Agree x f g
        → Agree x (primary_level inside loose tight 0 b f) (primary_level inside loose tight 0 b g)
    primary-agree loose tight f g a = operand-agree loose tight _ _ (index-agree f g a)
