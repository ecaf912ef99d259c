-- Lexemes that are passed without a cut.
use Rattle.std.proofs.Common.{◌≡◌, ℕ, suc, Bool, true, false, List, [], ◌∷◌, ◌++◌, Option, Some, None, refl, sym, ap, ◌∙◌, append_assoc, append-nil}
use Rattle.std.proofs.lemmas.Bool.{false≢true}
use Rattle.std.specs.Prelude.{option_and_then, option_map, if◌then◌else◌}
use Rattle.model_tree.specs.declared.operator.Comparison.{Comparison}
use Rattle.model_text.specs.declared.symbol.Symbol.{Symbol}
use Rattle.model_text.specs.declared.symbol.Symbol.TheVariants as symbol
use Rattle.model_text.specs.Words.{Lexeme, Reserved, Sign, is_sign}
use Rattle.model_text.specs.Cutting.{Pieces, Cutter, pieces, pieces_from, with_front, ends_operand, depth_behind, is_value_word}
use Rattle.model_text.specs.declared.reserved_word.ReservedWord.TheVariants as word
use Rattle.model_text.specs.Terms.{Term}
use Rattle.model_text.specs.Terms as term
use Rattle.model_text.specs.Levels.{Parser, level, joined, at_word, at_comparison, at_sum, at_product, at_index, indexed, negated, product, sum_of}
use Rattle.model_text.specs.Levels.{comparison_of, product_operator, sum_operator}
use Rattle.model_text.specs.Levels.{comparison_level, compared, denied, is_not, conjunction, disjunction}
use Rattle.law_lines.specs.Lexemes.{within_parentheses}

module _ {A : Type 0} where
  abbrev pub in_front : List Lexeme → Pieces A → Pieces A
  in_front lexemes cut = record cut { first = lexemes ++ cut.first }

  joined_front : (first others : List Lexeme) (cut : Pieces A) → in_front (first ++ others) cut ≡ in_front first (in_front others cut)
  joined_front first others cut =
      ap (λ (l : List Lexeme). let p : Pieces A = record { first = l; others = cut.others } in p) (append_assoc first others cut.first)

-- From one depth to another nothing is cut.
abbrev pub Passes : {A : Type 0} → Cutter A → ℕ → Bool → ℕ → Bool → List Lexeme → Type 0
Passes {A} cutter depth behind depth' behind' lexemes =
    (rest : List Lexeme) → pieces_from cutter depth behind (lexemes ++ rest) ≡ in_front lexemes (pieces_from cutter depth' behind' rest)

pub passes-append : {A : Type 0} (cutter : Cutter A) (d : ℕ) (a : Bool) (e : ℕ) (b : Bool) (f : ℕ) (c : Bool) (first others : List Lexeme)
    → Passes cutter d a e b first → Passes cutter e b f c others → Passes cutter d a f c (first ++ others)
passes-append cutter d a e b f c first others p q rest =
    ap (pieces_from cutter d a) (append_assoc first others rest)
    ∙ (p (others ++ rest) ∙ (ap (in_front first) (q rest) ∙ sym (joined_front first others (pieces_from cutter f c rest))))

-- one lexeme inside brackets, and what stands behind it
pub inside-next : {A : Type 0} (cutter : Cutter A) (d : ℕ) (a : Bool) (x : Lexeme) (f : ℕ) (c : Bool) (others : List Lexeme)
    → Passes cutter (depth_behind (suc d) x) (ends_operand x) f c others → Passes cutter (suc d) a f c (x ∷ others)
inside-next cutter d a x f c others q rest = ap (with_front None x) (q rest)

-- one lexeme outside brackets that isn't cut at
pub outside-next : {A : Type 0} (cutter : Cutter A) (a : Bool) (x : Lexeme) (f : ℕ) (c : Bool) (others : List Lexeme) → cutter a x ≡ None
    → Passes cutter (depth_behind 0 x) (ends_operand x) f c others → Passes cutter 0 a f c (x ∷ others)
outside-next cutter a x f c others e q rest =
    ap (λ found. with_front found x (pieces_from cutter (depth_behind 0 x) (ends_operand x) (others ++ rest))) e ∙ ap (with_front None x) (q rest)

-- nothing is cut inside brackets
abbrev pub Inside : List Lexeme → Type 1
Inside lexemes =
    (A : Type 0) (cutter : Cutter A) (d : ℕ) (a : Bool) → Passes cutter (suc d) a (suc d) true lexemes

pub nothing-passes : {A : Type 0} (cutter : Cutter A) (d : ℕ) (a : Bool) → Passes cutter d a d a []
nothing-passes cutter d a rest = refl

pub inside-parentheses : (lexemes : List Lexeme) → Inside lexemes → Inside (within_parentheses lexemes)
inside-parentheses lexemes p A cutter d a =
    inside-next cutter d a (Sign symbol.LeftParenthesis) (suc d) true (lexemes ++ Sign symbol.RightParenthesis ∷ [])
    (passes-append cutter (suc (suc d)) false (suc (suc d)) true (suc d) true lexemes (Sign symbol.RightParenthesis ∷ []) (p A cutter (suc d) false)
    (inside-next cutter (suc d) true (Sign symbol.RightParenthesis) (suc d) true [] (nothing-passes cutter (suc d) true)))

pub outside-parentheses : {A : Type 0} (cutter : Cutter A) (a : Bool) → cutter a (Sign symbol.LeftParenthesis) ≡ None → (lexemes : List Lexeme) → Inside lexemes
    → Passes cutter 0 a 0 true (within_parentheses lexemes)
outside-parentheses cutter a e lexemes p =
    outside-next cutter a (Sign symbol.LeftParenthesis) 0 true (lexemes ++ Sign symbol.RightParenthesis ∷ []) e
    (passes-append cutter 1 false 1 true 0 true lexemes (Sign symbol.RightParenthesis ∷ []) (p _ cutter 0 false)
    (inside-next cutter 0 true (Sign symbol.RightParenthesis) 0 true [] (nothing-passes cutter 0 true)))

-- ---- what the cuts of whole lists are
pub whole-from : {A : Type 0} (cutter : Cutter A) (d : ℕ) (a : Bool) (b : Bool) (lexemes : List Lexeme) → Passes cutter d a 0 b lexemes
    → pieces_from cutter d a lexemes ≡ (let p : Pieces A = record { first = lexemes; others = [] } in p)
whole-from {A} cutter d a b lexemes p =
    ap (pieces_from cutter d a) (sym (append-nil lexemes))
    ∙ (p [] ∙ ap (λ (l : List Lexeme). let p : Pieces A = record { first = l; others = [] } in p) (append-nil lexemes))

pub cut-once : {A : Type 0} (cutter : Cutter A) (left right : List Lexeme) (x : Lexeme) (cut : A) (b : Bool) → Passes cutter 0 false 0 true left → cutter true x
    ≡ Some cut → Passes cutter (depth_behind 0 x) (ends_operand x) 0 b right → pieces cutter (left ++ x ∷ right)
    ≡ (let p : Pieces A = record { first = left; others = (cut, right) ∷ [] } in p)
cut-once {A} cutter left right x cut b p e q =
    p (x ∷ right)
    ∙ (ap (λ found. in_front left (with_front found x (pieces_from cutter (depth_behind 0 x) (ends_operand x) right))) e
    ∙ (ap (λ rest. in_front left (with_front (Some cut) x rest)) (whole-from cutter (depth_behind 0 x) (ends_operand x) b right q)
    ∙ ap (λ (l : List Lexeme). let p : Pieces A = record { first = l; others = (cut, right) ∷ [] } in p) (append-nil left)))

-- ---- a level whose operators don't stand in the lexemes, and one whose operator stands once
abbrev read_pieces : {A : Type 0} → (A → Term → Term → Term) → Parser Term → Pieces A → Option Term
read_pieces build operand cut = option_and_then (λ left. joined build operand left cut.others) (operand cut.first)

pub level-uncut : {A : Type 0} (cutter : Cutter A) (build : A → Term → Term → Term) (operand : Parser Term) (b : Bool) (lexemes : List Lexeme) (t : Term)
    → Passes cutter 0 false 0 b lexemes → operand lexemes ≡ Some t → level cutter build operand lexemes ≡ Some t
level-uncut cutter build operand b lexemes t p e =
    ap (read_pieces build operand) (whole-from cutter 0 false b lexemes p) ∙ ap (λ found. option_and_then (λ left. joined build operand left []) found) e

pub level-cut : {A : Type 0} (cutter : Cutter A) (build : A → Term → Term → Term) (operand : Parser Term) (left right : List Lexeme) (x : Lexeme) (cut : A)
    (b : Bool) (l r : Term) → Passes cutter 0 false 0 true left → cutter true x ≡ Some cut → Passes cutter (depth_behind 0 x) (ends_operand x) 0 b right
    → operand left ≡ Some l → operand right ≡ Some r → level cutter build operand (left ++ x ∷ right) ≡ Some (build cut l r)
level-cut cutter build operand left right x cut b l r p e q el er =
    ap (read_pieces build operand) (cut-once cutter left right x cut b p e q)
    ∙ (ap (λ found. option_and_then (λ first. joined build operand first ((cut, right) ∷ [])) found) el
    ∙ ap (λ found. option_and_then (λ second. joined build operand (build cut l second) []) found) er)

-- ---- from a level to the loosest
module _ (inside : Parser Term) (lexemes : List Lexeme) (t : Term) where
  pub up-denied : Passes (at_word word.And) 0 false 0 true lexemes → Passes (at_word word.Or) 0 false 0 true lexemes → denied inside lexemes ≡ Some t
      → disjunction inside lexemes ≡ Some t
  up-denied a o e =
      level-uncut (at_word word.Or) (λ reserved. term.Or) (conjunction inside) true lexemes t o
      (level-uncut (at_word word.And) (λ reserved. term.And) (denied inside) true lexemes t a e)

  pub up-comparison : (first : Lexeme) (others : List Lexeme) → lexemes ≡ first ∷ others → is_not inside first ≡ false → comparison_level inside lexemes
      ≡ Some t → denied inside lexemes ≡ Some t
  up-comparison first others split no_not e =
      ap (denied inside) split
      ∙ (ap (λ test. if test then option_map term.Not (denied inside others) else comparison_level inside (first ∷ others)) no_not
      ∙ (ap (comparison_level inside) (sym split) ∙ e))

  pub up-sum : Passes at_comparison 0 false 0 true lexemes → sum_of inside lexemes ≡ Some t → comparison_level inside lexemes ≡ Some t
  up-sum p e =
      ap (λ (c : Pieces Comparison). option_and_then (compared inside c.others) (sum_of inside c.first)) (whole-from at_comparison 0 false true lexemes p)
      ∙ ap (option_and_then (compared inside [])) e

  pub up-product : Passes at_sum 0 false 0 true lexemes → product inside lexemes ≡ Some t → sum_of inside lexemes ≡ Some t
  up-product p e = level-uncut at_sum term.Calculate (product inside) true lexemes t p e

-- ---- a cutter that cuts at no operand's own lexemes, wherever they stand
abbrev pub is_operands_own : Lexeme → Bool
is_operands_own (Reserved reserved) = is_value_word reserved
is_operands_own (Sign symbol.LeftParenthesis) = true
is_operands_own (Sign symbol.LeftBracket) = true
is_operands_own (Sign _) = false
is_operands_own _ = true

abbrev pub Tame : {A : Type 0} → Cutter A → Type 0
Tame cutter = (b : Bool) (x : Lexeme) → is_operands_own x ≡ true → cutter b x ≡ None

-- a cutter of signs, by the two of them that open an operand
pub sign-uncut : {A : Type 0} (cut : Symbol → Option A) → cut symbol.LeftParenthesis ≡ None → cut symbol.LeftBracket ≡ None → (sign : Symbol)
    → is_operands_own (Sign sign) ≡ true → cut sign ≡ None
sign-uncut cut parenthesis bracket symbol.LeftParenthesis own = parenthesis
sign-uncut cut parenthesis bracket symbol.LeftBracket own = bracket
sign-uncut cut parenthesis bracket _ own = absurd (false≢true own)

pub tame_or : Tame (at_word word.Or)
tame_or b (Reserved word.Or) own = absurd (false≢true own)
tame_or b _ own = refl

pub tame_and : Tame (at_word word.And)
tame_and b (Reserved word.And) own = absurd (false≢true own)
tame_and b _ own = refl

pub tame_comparison : Tame at_comparison
tame_comparison b (Sign sign) own = sign-uncut comparison_of refl refl sign own
tame_comparison b _ own = refl

pub tame_product : Tame at_product
tame_product b (Sign sign) own = sign-uncut product_operator refl refl sign own
tame_product b _ own = refl

pub tame_sum : Tame at_sum
tame_sum true (Sign sign) own = sign-uncut sum_operator refl refl sign own
tame_sum _ _ own = refl

-- pieces, and then a `[` with the pieces behind it
abbrev pub item_behind : Pieces Symbol → Pieces Symbol → Pieces Symbol
item_behind cut behind = record cut { others = cut.others ++ (symbol.LeftBracket, behind.first) ∷ behind.others }

-- lexemes that stand as an operand without any operator outside brackets
pub record StandsAsOperand (inside : Parser Term) (lexemes : List Lexeme) (t : Term) : Type 1 where
  pub reads : indexed inside lexemes ≡ Some t
  -- an item that is taken of it
  pub index : (rest : List Lexeme) → pieces_from at_index 0 false (lexemes ++ Sign symbol.LeftBracket ∷ rest)
      ≡ item_behind (pieces_from at_index 0 false lexemes) (pieces_from at_index 1 false rest)
  pub inner : Inside lexemes
  pub outer : (A : Type 0) (cutter : Cutter A) → Tame cutter → (b : Bool) → Passes cutter 0 b 0 true lexemes
  pub first : Lexeme
  pub others : List Lexeme
  pub split : lexemes ≡ first ∷ others
  pub no_minus : is_sign symbol.Minus first ≡ false
  pub no_not : is_not inside first ≡ false

module _ (inside : Parser Term) (lexemes : List Lexeme) (t : Term) (o : StandsAsOperand inside lexemes t) where
  pub as_negated : negated inside lexemes ≡ Some t
  as_negated =
      ap (negated inside) o.split
      ∙ (ap (λ test. if test then option_map term.Negate (negated inside o.others) else indexed inside (o.first ∷ o.others)) o.no_minus
      ∙ (ap (indexed inside) (sym o.split) ∙ o.reads))

  pub as_product : product inside lexemes ≡ Some t
  as_product =
      level-uncut at_product term.Calculate (negated inside) true lexemes t (o.outer _ at_product tame_product false) as_negated

  pub as_sum : sum_of inside lexemes ≡ Some t
  as_sum = up-product inside lexemes t (o.outer _ at_sum tame_sum false) as_product

  pub as_comparison : comparison_level inside lexemes ≡ Some t
  as_comparison = up-sum inside lexemes t (o.outer _ at_comparison tame_comparison false) as_sum

  pub as_denied : denied inside lexemes ≡ Some t
  as_denied = up-comparison inside lexemes t o.first o.others o.split o.no_not as_comparison

  pub as_conjunction : conjunction inside lexemes ≡ Some t
  as_conjunction =
      level-uncut (at_word word.And) (λ reserved. term.And) (denied inside) true lexemes t (o.outer _ (at_word word.And) tame_and false) as_denied

  pub as_disjunction : disjunction inside lexemes ≡ Some t
  as_disjunction =
      level-uncut (at_word word.Or) (λ reserved. term.Or) (conjunction inside) true lexemes t (o.outer _ (at_word word.Or) tame_or false) as_conjunction
