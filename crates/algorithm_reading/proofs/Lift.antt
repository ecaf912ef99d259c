-- A lexeme goes through the open brackets: what it is for what stands in the innermost, it is for all.
use Rattle.std.proofs.Common.{◌≡◌, ℕ, suc, Bool, true, false, List, [], ◌∷◌, Some, None, refl, ap, ◌∙◌, subst}
use Rattle.std.proofs.Math.Path.{fun_ext}
use Rattle.std.specs.Prelude.{option_and_then, option_map, if◌then◌else◌}
use Rattle.model_text.specs.declared.symbol.Symbol.{Symbol as AnySymbol}
use Rattle.model_text.specs.declared.symbol.Symbol.TheVariants as symbol
use Rattle.model_text.specs.Words.{Lexeme, Sign, is_sign}
use Rattle.model_text.specs.Cutting.{cut_outside, depth_behind, ends_operand, before_last}
use Rattle.model_text.specs.Terms.{Term, Index}
use Rattle.model_text.specs.Levels.{Parser, disjunction, term_within}
use Rattle.algorithm_reading.specs.Operands.{Operand, of_two, list_of, call_of}
use Rattle.algorithm_reading.specs.Reader.{Bracket, Group, Item, Items, Arguments, Open}
use Rattle.algorithm_reading.specs.Ends.{closing}
use Rattle.algorithm_reading.proofs.Options.{and_then-map, and_then-ap, map-none}
use Rattle.algorithm_reading.proofs.Levels.{keeping, primary_level, comma}
use Rattle.algorithm_reading.proofs.Passes.{MovesPast, uncut-inside, primary-moves, row-moves}
use Rattle.algorithm_reading.proofs.Meaning.{contents, closed, around, unwound}

-- ---- one bracket more before a lexeme is one bracket more behind it, where it closes none of the outermost
deeper-symbol : (d : ℕ) (s : AnySymbol) → depth_behind (suc (suc d)) (Sign s) ≡ suc (depth_behind (suc d) (Sign s))
deeper-symbol d symbol.LeftParenthesis = refl
deeper-symbol d symbol.LeftBracket = refl
deeper-symbol d symbol.RightParenthesis = refl
deeper-symbol d symbol.RightBracket = refl
deeper-symbol d _ = refl

deeper : (d : ℕ) (x : Lexeme) → depth_behind (suc (suc d)) x ≡ suc (depth_behind (suc d) x)
deeper d (Sign s) = deeper-symbol d s
deeper d _ = refl

-- ---- what a closed bracket makes of the lexeme
module _ (x : Lexeme) (f g : Parser Operand) where
  last-at : (last : Bool) → f [] ≡ None → option_and_then f (if last then Some [] else None) ≡ None
  last-at true e = e
  last-at false e = refl

  pub before-moves : (s : AnySymbol) (rest : List Lexeme) → option_and_then f (if is_sign s x then Some [] else None) ≡ None → MovesPast x f g
      → option_and_then f (before_last s (x ∷ rest)) ≡ option_and_then g (before_last s rest)
  before-moves s [] e m = e
  before-moves s (y ∷ ys) e m =
      and_then-map (λ inner. x ∷ inner) f (before_last s (y ∷ ys)) ∙ and_then-ap (λ inner. f (x ∷ inner)) g (before_last s (y ∷ ys)) m.at

  -- with a bracket open in it, a bracket doesn't end
  pub closed-inside : (bracket : Bracket) → f [] ≡ None → MovesPast x f g → MovesPast x (closed bracket f) (closed bracket g)
  closed-inside bracket e m = record {
    at = λ rest. before-moves (closing bracket) rest (last-at (is_sign (closing bracket) x) e) m;
  }

  pub closed-other : (bracket : Bracket) → is_sign (closing bracket) x ≡ false → MovesPast x f g → MovesPast x (closed bracket f) (closed bracket g)
  closed-other bracket e m = record {
    at = λ rest. before-moves (closing bracket) rest (ap (λ last. option_and_then f (if last then Some [] else None)) e) m;
  }

-- ---- what stands in a bracket
module _ (inside : Parser Term) where
  pub contents-moves : (bracket : Bracket) (d : ℕ) (b : Bool) (x : Lexeme) (f g : Parser Operand) → cut_outside d comma b x ≡ None → MovesPast x f g
      → MovesPast x (contents inside bracket d b f) (contents inside bracket (depth_behind d x) (ends_operand x) g)
  contents-moves Group d b x f g e m = m
  contents-moves (Item sequence) d b x f g e m = record { at = λ rest. ap (option_map (of_two Index sequence)) (m.at rest) }
  contents-moves (Items items) d b x f g e m = row-moves d b x list_of items (keeping (disjunction inside)) f g e m
  contents-moves (Arguments name bare arguments) d b x f g e m =
      row-moves d b x (call_of name bare) arguments (keeping (disjunction inside)) f g e m

  pub contents-nothing : (bracket : Bracket) (d : ℕ) (b : Bool) (f : Parser Operand) → f [] ≡ None → contents inside bracket d b f [] ≡ None
  contents-nothing Group d b f e = e
  contents-nothing (Item sequence) d b f e = ap (option_map (of_two Index sequence)) e
  contents-nothing (Items items) d b f e = ap (option_and_then _) e
  contents-nothing (Arguments name bare arguments) d b f e = ap (option_and_then _) e

  pub contents-none : (bracket : Bracket) (d : ℕ) (b : Bool) → contents inside bracket d b (λ rest. None) ≡ (λ rest. None)
  contents-none Group d b = refl
  contents-none (Item sequence) d b = refl
  contents-none (Items items) d b = refl
  contents-none (Arguments name bare arguments) d b = refl

  pub around-moves : (opened : Open) (d : ℕ) (b : Bool) (x : Lexeme) (f g : Parser Operand) → MovesPast x (closed opened.bracket f) (closed opened.bracket g)
      → MovesPast x (around inside opened (suc d) b f) (around inside opened (depth_behind (suc d) x) (ends_operand x) g)
  around-moves opened d b x f g m =
      primary-moves (suc d) b x inside (uncut-inside d b x) opened.loose opened.tight (closed opened.bracket f) (closed opened.bracket g) refl m

  pub around-none : (opened : Open) (d : ℕ) (b : Bool) → around inside opened d b (λ rest. None) ≡ (λ rest. None)
  around-none opened d b =
      ap (primary_level inside opened.loose opened.tight d b)
      (fun_ext λ rest. map-none (λ inner. None) (before_last (closing opened.bracket) rest) (λ inner. refl))

-- ---- in all open brackets
pub lift : (x : Lexeme) (opened : List Open) (k d : ℕ) (b : Bool) (f g : Parser Operand) → f [] ≡ None → MovesPast x f g
    → MovesPast x (unwound k (suc d) b opened f) (unwound k (depth_behind (suc d) x) (ends_operand x) opened g)
lift x [] k d b f g e m = m
lift x (o ∷ os) k d b f g e m =
    let inner : Parser Operand = contents (term_within k) o.bracket (suc d) b f in
    let behind : Parser Operand = contents (term_within k) o.bracket (depth_behind (suc d) x) (ends_operand x) g in
    let moved : MovesPast x inner behind = contents-moves (term_within k) o.bracket (suc d) b x f g refl m in
    let first : Parser Operand = around (term_within (suc k)) o (suc (suc d)) b inner in
    let next : Parser Operand = around (term_within (suc k)) o (depth_behind (suc (suc d)) x) (ends_operand x) behind in
    let step : MovesPast x first next =
    around-moves (term_within (suc k)) o (suc d) b x inner behind
    (closed-inside x inner behind o.bracket (contents-nothing (term_within k) o.bracket (suc d) b f e) moved) in
    subst (λ n. MovesPast x (unwound (suc k) (suc (suc d)) b os first)
    (unwound (suc k) n (ends_operand x) os (around (term_within (suc k)) o n (ends_operand x) behind))) (deeper d x)
    (lift x os (suc k) (suc d) b first next refl step)

pub unwound-none : (opened : List Open) (k d : ℕ) (b : Bool) → unwound k d b opened (λ rest. None) ≡ (λ rest. None)
unwound-none [] k d b = refl
unwound-none (o ∷ os) k d b =
    ap (λ f. unwound (suc k) (suc d) b os (around (term_within (suc k)) o (suc d) b f)) (contents-none (term_within k) o.bracket d b)
    ∙ (ap (unwound (suc k) (suc d) b os) (around-none (term_within (suc k)) o (suc d) b) ∙ unwound-none os (suc k) (suc d) b)
