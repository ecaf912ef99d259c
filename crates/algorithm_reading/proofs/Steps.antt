-- One lexeme more, wherever the reader stands.
use Rattle.std.proofs.Common.{◌≡◌, ℕ, suc, Bool, true, false, List, [], ◌∷◌, Option, Some, None, refl, ap, ◌∙◌}
use Rattle.std.specs.Prelude.{ℤ, option_and_then, option_map, if◌then◌else◌}
use Rattle.std.specs.Str.{bytes_eq}
use Rattle.model_tree.specs.declared.operator.Operator.TheVariants as operator
use Rattle.model_tree.specs.declared.operator.Comparison.TheVariants as comparison
use Rattle.model_tree.specs.Syntax.{Name, NoneConstant, TruthConstant, IntConstant, TextConstant, BytesConstant}
use Rattle.model_tree.specs.Known.{error_text}
use Rattle.model_text.specs.declared.symbol.Symbol.{Symbol as AnySymbol}
use Rattle.model_text.specs.declared.symbol.Symbol.TheVariants as symbol
use Rattle.model_text.specs.declared.reserved_word.ReservedWord.{ReservedWord}
use Rattle.model_text.specs.declared.reserved_word.ReservedWord.TheVariants as word
use Rattle.model_text.specs.Words.{Lexeme, Reserved, Named, Number, Texts, Octets, Sign, is_sign}
use Rattle.model_text.specs.Cutting.{depth_behind, ends_operand}
use Rattle.model_text.specs.Terms.{Term, Constantly, Variable}
use Rattle.model_text.specs.Levels.{Parser, at_index, constant_of_word, bracketed, primary, term_within}
use Rattle.algorithm_reading.specs.Operands.{Operand, Fits, capped}
use Rattle.algorithm_reading.specs.Pending.{Loose, Tight, no_loose, no_tight, behind_and, behind_or}
use Rattle.algorithm_reading.specs.Reader.{Group, Item, Items, Arguments, Open, TermProgress, Start, AtNot, AtOperand, BehindName, BehindOperand, AtKind}
use Rattle.algorithm_reading.specs.Reader.{BehindKind}
use Rattle.algorithm_reading.specs.Reader.{TermReader, reading}
use Rattle.algorithm_reading.specs.Feeding.{at_operand, at_not as fed_at_not, Compares, Adds, Multiplies, behind_infix, at_symbol, behind_operand}
use Rattle.algorithm_reading.specs.Feeding.{first_argument}
use Rattle.algorithm_reading.specs.Feeding.{behind_name as fed_behind_name, fed_within, fed}
use Rattle.algorithm_reading.proofs.Levels.{keeping}
use Rattle.algorithm_reading.proofs.Passes.{MovesPast, Uncut}
use Rattle.algorithm_reading.proofs.Meaning.{is_behind, ends, expression}
use Rattle.algorithm_reading.proofs.Operators.{after, at-or, at-and, at-compares, at-adds, at-multiplies, at-other}
use Rattle.algorithm_reading.proofs.Beginnings.{at-start, at-not, at-not-other, at-minus, at-primary, at-none, behind-name}
use Rattle.algorithm_reading.proofs.Openings.{opens-group, opens-list, opens-call, opens-item}
use Rattle.algorithm_reading.proofs.Within.{Step, Inner, Regular, regular-start, regular-not, regular-operand, regular-name, regular-behind, goes_on-not}
use Rattle.algorithm_reading.proofs.Within.{goes_on-operand, goes_on-name, goes_on-behind, none-step, same-step, open-step}
use Rattle.algorithm_reading.proofs.BareNames.{kind-step, behind-kind-step}
use Rattle.algorithm_reading.proofs.Closings.{Closer, closing-step}
use Rattle.algorithm_reading.proofs.Commas.{comma-step}
use Rattle.algorithm_reading.proofs.Dead.{dead-parenthesis, dead-bracket}

-- what begins with one lexeme that is no operand, and with one that is
module _ (inside : Parser Term) where
  word-begins : (w : ReservedWord) → constant_of_word w ≡ None → (rest : List Lexeme) → keeping (primary inside) (Reserved w ∷ rest) ≡ None
  word-begins w e [] = ap (option_map capped) e
  word-begins w e (y ∷ ys) = refl

  sign-begins : (s : AnySymbol) → ((lexemes : List Lexeme) → bracketed inside s lexemes ≡ None) → (rest : List Lexeme)
      → keeping (primary inside) (Sign s ∷ rest) ≡ None
  sign-begins s e [] = refl
  sign-begins s e (y ∷ ys) = ap (option_map capped) (e (y ∷ ys))

  constant-begins : (w : ReservedWord) (t : Term) → constant_of_word w ≡ Some t → capped t ≡ Fits t → (rest : List Lexeme)
      → keeping (primary inside) (Reserved w ∷ rest) ≡ ends (Some (Fits t)) rest
  constant-begins w t e fits [] = ap (option_map capped) e ∙ ap Some fits
  constant-begins w t e fits (y ∷ ys) = refl

  number-begins : (number : ℤ) (rest : List Lexeme) → keeping (primary inside) (Number number ∷ rest)
      ≡ ends (Some (Fits (Constantly (IntConstant number)))) rest
  number-begins number [] = refl
  number-begins number (y ∷ ys) = refl

  text-begins : (text : List ℕ) (rest : List Lexeme) → keeping (primary inside) (Texts text ∷ rest) ≡ ends (Some (Fits (Constantly (TextConstant text)))) rest
  text-begins text [] = refl
  text-begins text (y ∷ ys) = refl

  bytes-begins : (bytes : List ℕ) (rest : List Lexeme) → keeping (primary inside) (Octets bytes ∷ rest)
      ≡ ends (Some (Fits (Constantly (BytesConstant bytes)))) rest
  bytes-begins bytes [] = refl
  bytes-begins bytes (y ∷ ys) = refl

-- what goes on from a progress goes on from another
abbrev Via : ℕ → Lexeme → TermProgress → TermProgress → Type 0
Via k x p q = (g : Parser Operand) → MovesPast x (expression (term_within (suc k)) q) g → MovesPast x (expression (term_within (suc k)) p) g

-- ---- where an operand may stand
module _ (k : ℕ) (p : TermProgress) (r : Regular p) (loose : Loose) (tight : Tight) (opened : List Open) where
  word-step : (w : ReservedWord) → Inner (Reserved w) → Via k (Reserved w) p (AtOperand loose tight)
      → Step k (Reserved w) p opened (at_operand loose tight opened (Reserved w))
  word-step word.TrueValue i via = same-step (Reserved word.TrueValue) i p r k opened (BehindOperand loose tight (Fits (Constantly (TruthConstant true))))
      (goes_on-behind loose tight (Fits (Constantly (TruthConstant true)))) refl refl
      (via (expression (term_within (suc k)) (BehindOperand loose tight (Fits (Constantly (TruthConstant true)))))
      (at-primary (term_within (suc k)) loose tight (Reserved word.TrueValue) (ends (Some (Fits (Constantly (TruthConstant true))))) refl
      (record { at_or = refl; at_and = refl; compares = refl; adds = refl; multiplies = refl }) refl
      (record { at = constant-begins (term_within (suc k)) word.TrueValue (Constantly (TruthConstant true)) refl refl })))
  word-step word.FalseValue i via = same-step (Reserved word.FalseValue) i p r k opened (BehindOperand loose tight (Fits (Constantly (TruthConstant false))))
      (goes_on-behind loose tight (Fits (Constantly (TruthConstant false)))) refl refl
      (via (expression (term_within (suc k)) (BehindOperand loose tight (Fits (Constantly (TruthConstant false)))))
      (at-primary (term_within (suc k)) loose tight (Reserved word.FalseValue) (ends (Some (Fits (Constantly (TruthConstant false))))) refl
      (record { at_or = refl; at_and = refl; compares = refl; adds = refl; multiplies = refl }) refl
      (record { at = constant-begins (term_within (suc k)) word.FalseValue (Constantly (TruthConstant false)) refl refl })))
  word-step word.NoneValue i via = same-step (Reserved word.NoneValue) i p r k opened (BehindOperand loose tight (Fits (Constantly NoneConstant)))
      (goes_on-behind loose tight (Fits (Constantly NoneConstant))) refl refl
      (via (expression (term_within (suc k)) (BehindOperand loose tight (Fits (Constantly NoneConstant))))
      (at-primary (term_within (suc k)) loose tight (Reserved word.NoneValue) (ends (Some (Fits (Constantly NoneConstant)))) refl
      (record { at_or = refl; at_and = refl; compares = refl; adds = refl; multiplies = refl }) refl
      (record { at = constant-begins (term_within (suc k)) word.NoneValue (Constantly NoneConstant) refl refl })))
  word-step w i via =
      none-step (Reserved w) i p r k opened
      (via (λ rest. None) (at-none (term_within (suc k)) loose tight (Reserved w) refl (record { at = word-begins (term_within (suc k)) w refl })))

  sign-step : (s : AnySymbol) → Inner (Sign s) → Via k (Sign s) p (AtOperand loose tight) → Step k (Sign s) p opened (at_operand loose tight opened (Sign s))
  sign-step symbol.Minus i via =
      same-step (Sign symbol.Minus) i p r k opened (AtOperand loose (record tight { minuses = suc tight.minuses }))
      (goes_on-operand loose (record tight { minuses = suc tight.minuses })) refl refl (via _ (at-minus (term_within (suc k)) loose tight))
  sign-step symbol.LeftParenthesis i via =
      open-step (Sign symbol.LeftParenthesis) i p r k opened (record { bracket = Group; loose = loose; tight = tight }) Start refl refl refl
      (via _ (opens-group (term_within k) loose tight))
  sign-step symbol.LeftBracket i via =
      open-step (Sign symbol.LeftBracket) i p r k opened (record { bracket = Items []; loose = loose; tight = tight }) Start refl refl refl
      (via _ (opens-list (term_within k) loose tight))
  sign-step s i via =
      none-step (Sign s) i p r k opened
      (via (λ rest. None) (at-none (term_within (suc k)) loose tight (Sign s) refl (record { at = sign-begins (term_within (suc k)) s (λ lexemes. refl) })))

  pub at-operand-step : (x : Lexeme) → Inner x → Via k x p (AtOperand loose tight) → Step k x p opened (at_operand loose tight opened x)
  at-operand-step (Reserved w) i via = word-step w i via
  at-operand-step (Sign s) i via = sign-step s i via
  at-operand-step (Named name) i via =
      same-step (Named name) i p r k opened (BehindName loose tight name) (goes_on-name loose tight name) refl refl
      (via _ (at-primary (term_within (suc k)) loose tight (Named name) (λ rest. keeping (primary (term_within (suc k))) (Named name ∷ rest)) refl
      (record { at_or = refl; at_and = refl; compares = refl; adds = refl; multiplies = refl }) refl (record { at = λ rest. refl })))
  at-operand-step (Number number) i via = same-step (Number number) i p r k opened (BehindOperand loose tight (Fits (Constantly (IntConstant number))))
      (goes_on-behind loose tight (Fits (Constantly (IntConstant number)))) refl refl
      (via (expression (term_within (suc k)) (BehindOperand loose tight (Fits (Constantly (IntConstant number)))))
      (at-primary (term_within (suc k)) loose tight (Number number) (ends (Some (Fits (Constantly (IntConstant number))))) refl
      (record { at_or = refl; at_and = refl; compares = refl; adds = refl; multiplies = refl }) refl
      (record { at = number-begins (term_within (suc k)) number })))
  at-operand-step (Texts text) i via = same-step (Texts text) i p r k opened (BehindOperand loose tight (Fits (Constantly (TextConstant text))))
      (goes_on-behind loose tight (Fits (Constantly (TextConstant text)))) refl refl
      (via (expression (term_within (suc k)) (BehindOperand loose tight (Fits (Constantly (TextConstant text)))))
      (at-primary (term_within (suc k)) loose tight (Texts text) (ends (Some (Fits (Constantly (TextConstant text))))) refl
      (record { at_or = refl; at_and = refl; compares = refl; adds = refl; multiplies = refl }) refl
      (record { at = text-begins (term_within (suc k)) text })))
  at-operand-step (Octets bytes) i via = same-step (Octets bytes) i p r k opened (BehindOperand loose tight (Fits (Constantly (BytesConstant bytes))))
      (goes_on-behind loose tight (Fits (Constantly (BytesConstant bytes)))) refl refl
      (via (expression (term_within (suc k)) (BehindOperand loose tight (Fits (Constantly (BytesConstant bytes)))))
      (at-primary (term_within (suc k)) loose tight (Octets bytes) (ends (Some (Fits (Constantly (BytesConstant bytes))))) refl
      (record { at_or = refl; at_and = refl; compares = refl; adds = refl; multiplies = refl }) refl
      (record { at = bytes-begins (term_within (suc k)) bytes })))

-- ---- where `not` may stand too
module _ (k : ℕ) (p : TermProgress) (r : Regular p) (loose : Loose) (opened : List Open) where
  not-word-step : (w : ReservedWord) → Inner (Reserved w) → Via k (Reserved w) p (AtNot loose)
      → Step k (Reserved w) p opened (fed_at_not loose opened (Reserved w))
  not-word-step word.Not i via =
      same-step (Reserved word.Not) i p r k opened (AtNot (record loose { nots = suc loose.nots }))
      (goes_on-not (record loose { nots = suc loose.nots })) refl refl (via _ (at-not (term_within (suc k)) loose))
  not-word-step w i via =
      at-operand-step k p r loose no_tight opened (Reserved w) i (λ g m. via g (at-not-other (term_within (suc k)) loose (Reserved w) g refl m))

  pub at-not-step : (x : Lexeme) → Inner x → Via k x p (AtNot loose) → Step k x p opened (fed_at_not loose opened x)
  at-not-step (Reserved w) i via = not-word-step w i via
  at-not-step x i via =
      at-operand-step k p r loose no_tight opened x i (λ g m. via g (at-not-other (term_within (suc k)) loose x g refl m))

-- ---- behind an operand
module _ (k : ℕ) (p : TermProgress) (r : Regular p) (loose : Loose) (tight : Tight) (operand : Operand) (opened : List Open) where
  infix-step : (x : Lexeme) → Inner x → depth_behind 0 x ≡ 0 → ends_operand x ≡ false → (found : Option Tight)
      → MovesPast x (expression (term_within (suc k)) p) (after (term_within (suc k)) loose tight operand found)
      → Step k x p opened (option_and_then (λ pending. reading (AtOperand loose pending) opened) found)
  infix-step x i d b None m = none-step x i p r k opened m
  infix-step x i d b (Some pending) m =
      same-step x i p r k opened (AtOperand loose pending) (goes_on-operand loose pending) d b m

  other-step : (x : Lexeme) → Inner x → Via k x p (BehindOperand loose tight operand) → Uncut 0 true x → at_index true x ≡ None → Step k x p opened None
  other-step x i via uncut e =
      none-step x i p r k opened (via (λ rest. None) (at-other (term_within (suc k)) loose tight operand x uncut e))

  symbol-step : (s : AnySymbol) → Inner (Sign s) → Via k (Sign s) p (BehindOperand loose tight operand)
      → Step k (Sign s) p opened (at_symbol loose tight operand opened s)
  symbol-step symbol.LeftBracket i via =
      open-step (Sign symbol.LeftBracket) i p r k opened (record { bracket = Item operand; loose = loose; tight = tight }) Start refl refl refl
      (via _ (opens-item (term_within k) loose tight operand))
  symbol-step symbol.Equals i via = infix-step (Sign symbol.Equals) i refl refl (behind_infix tight operand (Compares comparison.Equal))
      (via _ (at-compares (term_within (suc k)) loose tight operand (Sign symbol.Equals)
      (record { depth = refl; behind = refl }) refl refl comparison.Equal refl))
  symbol-step symbol.NotEquals i via = infix-step (Sign symbol.NotEquals) i refl refl (behind_infix tight operand (Compares comparison.NotEqual))
      (via _ (at-compares (term_within (suc k)) loose tight operand (Sign symbol.NotEquals)
      (record { depth = refl; behind = refl }) refl refl comparison.NotEqual refl))
  symbol-step symbol.LessThan i via = infix-step (Sign symbol.LessThan) i refl refl (behind_infix tight operand (Compares comparison.Less))
      (via _ (at-compares (term_within (suc k)) loose tight operand (Sign symbol.LessThan)
      (record { depth = refl; behind = refl }) refl refl comparison.Less refl))
  symbol-step symbol.LessOrEqual i via = infix-step (Sign symbol.LessOrEqual) i refl refl (behind_infix tight operand (Compares comparison.LessOrEqual))
      (via _ (at-compares (term_within (suc k)) loose tight operand (Sign symbol.LessOrEqual)
      (record { depth = refl; behind = refl }) refl refl comparison.LessOrEqual refl))
  symbol-step symbol.GreaterThan i via = infix-step (Sign symbol.GreaterThan) i refl refl (behind_infix tight operand (Compares comparison.Greater))
      (via _ (at-compares (term_within (suc k)) loose tight operand (Sign symbol.GreaterThan)
      (record { depth = refl; behind = refl }) refl refl comparison.Greater refl))
  symbol-step symbol.GreaterOrEqual i via = infix-step (Sign symbol.GreaterOrEqual) i refl refl
      (behind_infix tight operand (Compares comparison.GreaterOrEqual))
      (via _ (at-compares (term_within (suc k)) loose tight operand (Sign symbol.GreaterOrEqual)
      (record { depth = refl; behind = refl }) refl refl comparison.GreaterOrEqual refl))
  symbol-step symbol.Plus i via = infix-step (Sign symbol.Plus) i refl refl (behind_infix tight operand (Adds operator.Add))
      (via _ (at-adds (term_within (suc k)) loose tight operand (Sign symbol.Plus) (record { depth = refl; behind = refl }) refl refl refl operator.Add refl))
  symbol-step symbol.Minus i via = infix-step (Sign symbol.Minus) i refl refl (behind_infix tight operand (Adds operator.Subtract))
      (via _ (at-adds (term_within (suc k)) loose tight operand (Sign symbol.Minus)
      (record { depth = refl; behind = refl }) refl refl refl operator.Subtract refl))
  symbol-step symbol.Star i via = infix-step (Sign symbol.Star) i refl refl (behind_infix tight operand (Multiplies operator.Multiply))
      (via _ (at-multiplies (term_within (suc k)) loose tight operand (Sign symbol.Star)
      (record { depth = refl; behind = refl }) refl refl refl operator.Multiply refl refl))
  symbol-step symbol.DoubleSlash i via = infix-step (Sign symbol.DoubleSlash) i refl refl (behind_infix tight operand (Multiplies operator.FloorDivide))
      (via _ (at-multiplies (term_within (suc k)) loose tight operand (Sign symbol.DoubleSlash)
      (record { depth = refl; behind = refl }) refl refl refl operator.FloorDivide refl refl))
  symbol-step symbol.Percent i via = infix-step (Sign symbol.Percent) i refl refl (behind_infix tight operand (Multiplies operator.Remainder))
      (via _ (at-multiplies (term_within (suc k)) loose tight operand (Sign symbol.Percent)
      (record { depth = refl; behind = refl }) refl refl refl operator.Remainder refl refl))
  symbol-step s i via = other-step (Sign s) i via (record { at_or = refl; at_and = refl; compares = refl; adds = refl; multiplies = refl }) refl

  word-behind-step : (w : ReservedWord) → Inner (Reserved w) → Via k (Reserved w) p (BehindOperand loose tight operand)
      → Step k (Reserved w) p opened (behind_operand loose tight operand opened (Reserved w))
  word-behind-step word.Or i via =
      same-step (Reserved word.Or) i p r k opened (AtNot (behind_or loose tight operand)) (goes_on-not (behind_or loose tight operand)) refl refl
      (via _ (at-or (term_within (suc k)) loose tight operand))
  word-behind-step word.And i via =
      same-step (Reserved word.And) i p r k opened (AtNot (behind_and loose tight operand)) (goes_on-not (behind_and loose tight operand)) refl refl
      (via _ (at-and (term_within (suc k)) loose tight operand))
  word-behind-step w i via = other-step (Reserved w) i via (record { at_or = refl; at_and = refl; compares = refl; adds = refl; multiplies = refl }) refl

  pub behind-operand-step : (x : Lexeme) → Inner x → Via k x p (BehindOperand loose tight operand)
      → Step k x p opened (behind_operand loose tight operand opened x)
  behind-operand-step (Reserved w) i via = word-behind-step w i via
  behind-operand-step (Sign s) i via = symbol-step s i via
  behind-operand-step x i via = other-step x i via (record { at_or = refl; at_and = refl; compares = refl; adds = refl; multiplies = refl }) refl

-- ---- behind a name
module _ (k : ℕ) (loose : Loose) (tight : Tight) (name : Name) (opened : List Open) where
  argument-first : (test : Bool) → is_behind (if test then AtKind else Start) ≡ false
  argument-first true = refl
  argument-first false = refl

  -- anything but `(`
  uncalled-step : (x : Lexeme) → Inner x → is_sign symbol.LeftParenthesis x ≡ false
      → Step k x (BehindName loose tight name) opened (behind_operand loose tight (Fits (Variable name)) opened x)
  uncalled-step x i e =
      behind-operand-step k (BehindName loose tight name) (regular-name loose tight name) loose tight (Fits (Variable name)) opened x i
      (λ g m. behind-name (term_within (suc k)) loose tight name x g e m)

  called-step : (s : AnySymbol) → Inner (Sign s) → Step k (Sign s) (BehindName loose tight name) opened (fed_behind_name loose tight name opened (Sign s))
  called-step symbol.LeftParenthesis i =
      open-step (Sign symbol.LeftParenthesis) i (BehindName loose tight name) (regular-name loose tight name) k opened
      (record { bracket = Arguments name None []; loose = loose; tight = tight }) (first_argument name)
      (argument-first (bytes_eq name error_text)) refl refl (opens-call (term_within k) loose tight name)
  called-step s i = uncalled-step (Sign s) i refl

  pub behind-name-step : (x : Lexeme) → Inner x → Step k x (BehindName loose tight name) opened (fed_behind_name loose tight name opened x)
  behind-name-step (Sign s) i = called-step s i
  behind-name-step x i = uncalled-step x i refl

-- ---- everywhere
within-step : (k : ℕ) (p : TermProgress) (opened : List Open) (x : Lexeme) → Inner x → Step k x p opened (fed_within p opened x)
within-step k Start opened x i =
    at-not-step k Start regular-start no_loose opened x i (λ g m. at-start (term_within (suc k)) no_loose x g m)
within-step k (AtNot loose) opened x i =
    at-not-step k (AtNot loose) (regular-not loose) loose opened x i (λ g m. m)
within-step k (AtOperand loose tight) opened x i =
    at-operand-step k (AtOperand loose tight) (regular-operand loose tight) loose tight opened x i (λ g m. m)
within-step k (BehindName loose tight name) opened x i = behind-name-step k loose tight name opened x i
within-step k (BehindOperand loose tight operand) opened x i =
    behind-operand-step k (BehindOperand loose tight operand) (regular-behind loose tight operand) loose tight operand opened x i (λ g m. m)
within-step k AtKind opened x i = kind-step k opened x i
within-step k (BehindKind kind) opened x i = behind-kind-step k opened kind x i

parenthesis-closes : Closer (Sign symbol.RightParenthesis)
parenthesis-closes = record { dead = λ inside. dead-parenthesis inside; no_name = λ rest. refl; no_comma = refl; depth = refl; behind = refl }

bracket-closes : Closer (Sign symbol.RightBracket)
bracket-closes = record { dead = λ inside. dead-bracket inside; no_name = λ rest. refl; no_comma = refl; depth = refl; behind = refl }

symbol-fed : (k : ℕ) (reader : TermReader) (s : AnySymbol) → Step k (Sign s) reader.progress reader.opened (fed reader (Sign s))
symbol-fed k reader symbol.Comma = comma-step k reader.progress reader.opened
symbol-fed k reader symbol.RightParenthesis =
    closing-step (Sign symbol.RightParenthesis) parenthesis-closes k reader.progress reader.opened
symbol-fed k reader symbol.RightBracket =
    closing-step (Sign symbol.RightBracket) bracket-closes k reader.progress reader.opened
symbol-fed k reader s =
    within-step k reader.progress reader.opened (Sign s) (record { no_comma = refl; no_parenthesis = refl; no_bracket = refl; deeper = refl })

pub fed-step : (k : ℕ) (reader : TermReader) (x : Lexeme) → Step k x reader.progress reader.opened (fed reader x)
fed-step k reader (Sign s) = symbol-fed k reader s
fed-step k reader x =
    within-step k reader.progress reader.opened x (record { no_comma = refl; no_parenthesis = refl; no_bracket = refl; deeper = refl })
