-- Where a bare name may stand, and behind it.
use Rattle.std.proofs.Common.{◌≡◌, ℕ, suc, List, [], ◌∷◌, None, refl, ap, ◌∙◌, subst, arith}
use Rattle.model_tree.specs.Syntax.{Name}
use Rattle.model_text.specs.Words.{Lexeme, Named}
use Rattle.model_text.specs.Cutting.{depth_behind, ends_operand}
use Rattle.model_text.specs.Terms.{Term}
use Rattle.model_text.specs.Levels.{Parser, bare_name, term_within}
use Rattle.algorithm_reading.specs.Reader.{Bracket, Group, Item, Items, Arguments, Open, TermProgress, AtKind, BehindKind, reading}
use Rattle.algorithm_reading.specs.Feeding.{at_kind}
use Rattle.algorithm_reading.proofs.Passes.{MovesPast}
use Rattle.algorithm_reading.proofs.Meaning.{contents_at, unwound, meaning_within}
use Rattle.algorithm_reading.proofs.Rows.{at-kind, at-kind-other, behind-other}
use Rattle.algorithm_reading.proofs.Lift.{around-none, unwound-none}
use Rattle.algorithm_reading.proofs.Within.{Step, Inner, content-step}

-- ---- nothing can be read any more in the bracket
none-within : (x : Lexeme) → Inner x → (p : TermProgress) (k : ℕ) (o : Open) (os : List Open)
    → MovesPast x (contents_at (term_within (suc k)) o.bracket p) (λ rest. None) → Step k x p (o ∷ os) None
none-within x i p k o os m = record {
  fuel = k;
  enough = omega arith;
  moves = subst (MovesPast x (meaning_within (suc k) p (o ∷ os)))
      (ap (unwound (suc (suc k)) (depth_behind 1 x) (ends_operand x) os) (around-none (term_within (suc (suc k))) o (depth_behind 1 x) (ends_operand x))
      ∙ unwound-none os (suc (suc k)) (depth_behind 1 x) (ends_operand x)) (content-step x i p (suc k) o os (λ rest. None) m);
}

module _ (inside : Parser Term) where
  kind-at : (bracket : Bracket) (kind : Name) → MovesPast (Named kind) (contents_at inside bracket AtKind) (contents_at inside bracket (BehindKind kind))
  kind-at Group kind = record { at = λ rest. refl }
  kind-at (Item sequence) kind = record { at = λ rest. refl }
  kind-at (Items items) kind = record { at = λ rest. refl }
  kind-at (Arguments name bare arguments) kind = at-kind inside name bare arguments kind

  no-kind : (bracket : Bracket) (x : Lexeme) → ((q : List Lexeme) → bare_name (x ∷ q) ≡ None) → MovesPast x (contents_at inside bracket AtKind) (λ rest. None)
  no-kind Group x e = record { at = λ rest. refl }
  no-kind (Item sequence) x e = record { at = λ rest. refl }
  no-kind (Items items) x e = record { at = λ rest. refl }
  no-kind (Arguments name bare arguments) x e = at-kind-other inside name bare arguments x e

  no-more : (bracket : Bracket) (kind : Name) (x : Lexeme) → Inner x → MovesPast x (contents_at inside bracket (BehindKind kind)) (λ rest. None)
  no-more Group kind x i = record { at = λ rest. refl }
  no-more (Item sequence) kind x i = record { at = λ rest. refl }
  no-more (Items items) kind x i = record { at = λ rest. refl }
  no-more (Arguments name bare arguments) kind x i = behind-other inside name bare arguments kind x i.no_comma

module _ (k : ℕ) where
  no-kind-step : (opened : List Open) (x : Lexeme) → Inner x → ((q : List Lexeme) → bare_name (x ∷ q) ≡ None) → Step k x AtKind opened None
  no-kind-step [] x i e = record { fuel = k; enough = omega arith; moves = record { at = λ rest. refl } }
  no-kind-step (o ∷ os) x i e = none-within x i AtKind k o os (no-kind (term_within (suc k)) o.bracket x e)

  named-step : (opened : List Open) (kind : Name) → Inner (Named kind) → Step k (Named kind) AtKind opened (reading (BehindKind kind) opened)
  named-step [] kind i = record { fuel = k; enough = omega arith; moves = record { at = λ rest. refl } }
  named-step (o ∷ os) kind i = record {
    fuel = suc k;
    enough = omega arith;
    moves = content-step (Named kind) i AtKind (suc k) o os (contents_at (term_within (suc k)) o.bracket (BehindKind kind))
        (kind-at (term_within (suc k)) o.bracket kind);
  }

  pub kind-step : (opened : List Open) (x : Lexeme) → Inner x → Step k x AtKind opened (at_kind opened x)
  kind-step opened (Named kind) i = named-step opened kind i
  kind-step opened x i = no-kind-step opened x i (λ q. refl)

  pub behind-kind-step : (opened : List Open) (kind : Name) (x : Lexeme) → Inner x → Step k x (BehindKind kind) opened None
  behind-kind-step [] kind x i = record { fuel = k; enough = omega arith; moves = record { at = λ rest. refl } }
  behind-kind-step (o ∷ os) kind x i = none-within x i (BehindKind kind) k o os (no-more (term_within (suc k)) o.bracket kind x i)
