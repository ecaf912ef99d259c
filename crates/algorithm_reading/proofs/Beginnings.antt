-- Where an operand may stand: `not`, unary `-`, and what a primary begins with.
use Rattle.std.proofs.Common.{◌≡◌, suc, true, false, ◌∷◌, Option, Some, None, refl, ap, ◌∙◌, sym, subst}
use Rattle.std.proofs.Math.Path.{fun_ext}
use Rattle.std.specs.Prelude.{option_and_then, option_map, if◌then◌else◌}
use Rattle.model_tree.specs.Syntax.{Name}
use Rattle.model_text.specs.declared.symbol.Symbol.TheVariants as symbol
use Rattle.model_text.specs.declared.reserved_word.ReservedWord.TheVariants as word
use Rattle.model_text.specs.Words.{Lexeme, Reserved, Named, Sign, is_sign}
use Rattle.model_text.specs.Cutting.{depth_behind, ends_operand, before_last}
use Rattle.model_text.specs.Terms.{Term, Not, Negate, Variable}
use Rattle.model_text.specs.Levels.{Parser, at_index, primary, indexed, negated, comparison_level, is_not, denied, called}
use Rattle.algorithm_reading.specs.Operands.{Operand, Fits, capped, of_one}
use Rattle.algorithm_reading.specs.Pending.{Loose, Tight, no_loose, no_tight, with_minuses, with_nots}
use Rattle.algorithm_reading.specs.Reader.{Start, AtNot, AtOperand, BehindName, BehindOperand}
use Rattle.algorithm_reading.proofs.Options.{map-map}
use Rattle.algorithm_reading.proofs.Capping.{not-capped, negate-capped}
use Rattle.algorithm_reading.proofs.Levels.{keeping, index_level, product_level, sum_level, compared_level, and_level, or_level, tight_level, loose_level}
use Rattle.algorithm_reading.proofs.Levels.{primary_level}
use Rattle.algorithm_reading.proofs.Fresh.{fresh-index, fresh-tight, fresh-loose}
use Rattle.algorithm_reading.proofs.Moves.{Agree, loose-agree, operand-agree, primary-agree}
use Rattle.algorithm_reading.proofs.Passes.{MovesPast, Uncut, loose-moves, operand-moves, primary-moves}
use Rattle.algorithm_reading.proofs.Meaning.{ends, expression}

not-kept : (found : Option Term) → option_map capped (option_map Not found) ≡ option_map (of_one Not) (option_map capped found)
not-kept None = refl
not-kept (Some t) = ap Some (not-capped t)

negate-kept : (found : Option Term) → option_map capped (option_map Negate found) ≡ option_map (of_one Negate) (option_map capped found)
negate-kept None = refl
negate-kept (Some t) = ap Some (negate-capped t)

-- what agrees with a reading that goes on, goes on so
pub agree-moves : (x : Lexeme) (f g h : Parser Operand) → Agree x f g → MovesPast x g h → MovesPast x f h
agree-moves x f g h a m = record { at = λ rest. a.something rest ∙ m.at rest }

module _ (inside : Parser Term) (loose : Loose) where
  pub at-start : (x : Lexeme) (g : Parser Operand) → MovesPast x (expression inside (AtNot no_loose)) g → MovesPast x (expression inside Start) g
  at-start x g m = subst (λ f. MovesPast x f g) (sym (fresh-loose inside)) m

  -- ---- `not`
  pub at-not : MovesPast (Reserved word.Not) (expression inside (AtNot loose)) (expression inside (AtNot (record loose { nots = suc loose.nots })))
  at-not = record {
    at = λ rest. (loose-moves 0 false (Reserved word.Not) inside loose (keeping (denied inside))
        (λ q. option_map (of_one Not) (keeping (denied inside) q)) refl refl (record { at = λ q. not-kept (denied inside q) })).at rest
        ∙ ap (λ h. or_level inside loose.or_left 0 false (and_level inside loose.and_left 0 false h) rest)
        (fun_ext λ q. map-map (of_one Not) (with_nots loose.nots) (keeping (denied inside) q));
  }

  -- another lexeme begins a comparison
  comparison-begins : (x : Lexeme) → is_not inside x ≡ false
      → Agree x (keeping (denied inside)) (tight_level inside no_tight 0 false (keeping (negated inside)))
  comparison-begins x e = record {
    nothing = refl;
    something = λ rest. ap (λ test. option_map capped (if test then option_map Not (denied inside rest) else comparison_level inside (x ∷ rest))) e
        ∙ ap (λ f. f (x ∷ rest)) (fresh-tight inside);
  }

  pub at-not-other : (x : Lexeme) (g : Parser Operand) → is_not inside x ≡ false → MovesPast x (expression inside (AtOperand loose no_tight)) g
      → MovesPast x (expression inside (AtNot loose)) g
  at-not-other x g e m =
      agree-moves x _ _ g (loose-agree x inside false loose _ _ (comparison-begins x e)) m

module _ (inside : Parser Term) (loose : Loose) (tight : Tight) where
  -- ---- unary `-`
  pub at-minus : MovesPast (Sign symbol.Minus) (expression inside (AtOperand loose tight))
      (expression inside (AtOperand loose (record tight { minuses = suc tight.minuses })))
  at-minus = record {
    at = λ rest. (operand-moves 0 false (Sign symbol.Minus) inside
        (record { at_or = refl; at_and = refl; compares = refl; adds = refl; multiplies = refl }) loose tight (keeping (negated inside))
        (λ q. option_map (of_one Negate) (keeping (negated inside) q)) (record { at = λ q. negate-kept (negated inside q) })).at rest
        ∙ ap (λ h. loose_level inside loose 0 false
        (compared_level inside tight.compare_left 0 false
        (sum_level inside tight.sum_left 0 false (product_level inside tight.product_left 0 false h))) rest)
        (fun_ext λ q. map-map (of_one Negate) (with_minuses tight.minuses) (keeping (negated inside) q));
  }

  -- another lexeme begins a primary
  primary-begins : (x : Lexeme) → is_sign symbol.Minus x ≡ false → Agree x (keeping (negated inside)) (index_level inside 0 false (keeping (primary inside)))
  primary-begins x e = record {
    nothing = refl;
    something = λ rest. ap (λ test. option_map capped (if test then option_map Negate (negated inside rest) else indexed inside (x ∷ rest))) e
        ∙ ap (λ f. f (x ∷ rest)) (fresh-index inside);
  }

  begins : (x : Lexeme) → is_sign symbol.Minus x ≡ false
      → Agree x (expression inside (AtOperand loose tight)) (primary_level inside loose tight 0 false (keeping (primary inside)))
  begins x e = operand-agree x inside false loose tight _ _ (primary-begins x e)

  pub at-primary : (x : Lexeme) (g : Parser Operand) → is_sign symbol.Minus x ≡ false → Uncut 0 false x → at_index false x ≡ None
      → MovesPast x (keeping (primary inside)) g
      → MovesPast x (expression inside (AtOperand loose tight)) (primary_level inside loose tight (depth_behind 0 x) (ends_operand x) g)
  at-primary x g e uncut e' m =
      agree-moves x _ _ _ (begins x e) (primary-moves 0 false x inside uncut loose tight (keeping (primary inside)) g e' m)

  -- what begins no primary
  pub at-none : (x : Lexeme) → is_sign symbol.Minus x ≡ false → MovesPast x (keeping (primary inside)) (λ rest. None)
      → MovesPast x (expression inside (AtOperand loose tight)) (λ rest. None)
  at-none x e m = record {
    at = λ rest. (begins x e).something rest
        ∙ (primary-agree x inside false loose tight (keeping (primary inside)) (λ q. None) (record { nothing = refl; something = m.at })).something rest;
  }

  -- ---- behind a name anything but `(` stands as behind any operand
  name-ends : (name : Name) (x : Lexeme) → is_sign symbol.LeftParenthesis x ≡ false
      → Agree x (λ rest. keeping (primary inside) (Named name ∷ rest)) (ends (Some (Fits (Variable name))))
  name-ends name x e = record {
    nothing = refl;
    something = λ rest. ap
        (λ test. option_map capped (if test then option_and_then (called inside name) (before_last symbol.RightParenthesis rest) else None)) e;
  }

  pub behind-name : (name : Name) (x : Lexeme) (g : Parser Operand) → is_sign symbol.LeftParenthesis x ≡ false
      → MovesPast x (expression inside (BehindOperand loose tight (Fits (Variable name)))) g → MovesPast x (expression inside (BehindName loose tight name)) g
  behind-name name x g e m =
      agree-moves x _ _ g (primary-agree x inside true loose tight _ _ (name-ends name x e)) m
