-- The tokens of a line are read as the line.
use Rattle.std.proofs.Common.{◌≡◌, ℕ, zero, suc, Bool, true, false, List, [], ◌∷◌, ◌++◌, map, replicate, Option, Some, None, refl, sym, ap, ◌∙◌, append_assoc}
use Rattle.std.proofs.Common.{codes}
use Rattle.std.specs.Prelude.{option_and_then, option_map}
use Rattle.std.specs.List.{repeat}
use Rattle.model_tree.specs.Syntax.{Name, Expr, Or, And, Not, Compare, Calculate, Negate, Index, Literal, Variable, ListOf, Apply, MakeError, NoneConstant}
use Rattle.model_tree.specs.Syntax.{TruthConstant, IntConstant, TextConstant, BytesConstant, exprs}
use Rattle.model_text.specs.declared.symbol.Symbol.TheVariants as symbol
use Rattle.model_text.specs.declared.reserved_word.ReservedWord.TheVariants as word
use Rattle.model_text.specs.Words.{Lexeme, Reserved, Named, Sign}
use Rattle.model_text.specs.Cutting.{parts}
use Rattle.model_text.specs.Terms.{Term}
use Rattle.model_text.specs.Levels.{all_of, bare_name, term_of}
use Rattle.model_text.specs.Forms.{Profile, Def, Assign, Yield, YieldFrom, Print, Raise, Return, Pass, If, Else, While, Try, Except, Finally, WithGroup}
use Rattle.model_text.specs.Forms.{WithTimeout, End, Spelled, with_term, assigned_form, print_form, return_form, closed_as, before_as, form_of}
use Rattle.model_text.specs.Places.{Role}
use Rattle.model_text.specs.FirstPass.{form_behind_lines, lexemes_behind, tokens_behind, line_behind}
use Rattle.model_text.specs.SecondPass.{Line}
use Rattle.law_lines.specs.Lexemes.{operand_lexemes, expr_lexemes, exprs_lexemes, more_lexemes, term_from}
use Rattle.law_lines.proofs.Shapes.{before-last}
use Rattle.law_lines.proofs.Facts.{facts, expression-read}
use Rattle.law_lines.specs.LineTexts.{line_text, named, line_lexemes, row_from, spelled}
use Rattle.law_lines.specs.WellWritten.{WellWritten}
use Rattle.law_lines.proofs.Arguments.{row-read, names-read, target-read}
use Rattle.law_lines.proofs.LineReads.{line-tokens}

term-read : (form : Term → Spelled) (e : Expr) → with_term form (expr_lexemes e) ≡ Some (form (term_from e))
term-read form e = ap (option_map form) (expression-read e)

-- ---- no expression begins with `yield`
abbrev begins_plain : List Lexeme → Bool
begins_plain [] = false
begins_plain (Reserved word.Yield ∷ lexemes) = false
begins_plain (lexeme ∷ lexemes) = true

plain-append : (first others : List Lexeme) → begins_plain first ≡ true → begins_plain (first ++ others) ≡ true
plain-append [] others e = cc
plain-append (Reserved word.Yield ∷ lexemes) others e = cc
plain-append (lexeme ∷ lexemes) others e = refl

plain-operand : (e : Expr) (lexemes : List Lexeme) → begins_plain lexemes ≡ true → begins_plain (operand_lexemes e lexemes) ≡ true
plain-operand (Or left right) lexemes p = refl
plain-operand (And left right) lexemes p = refl
plain-operand (Not operand) lexemes p = refl
plain-operand (Compare comparison left right) lexemes p = refl
plain-operand (Calculate operator left right) lexemes p = refl
plain-operand (Negate operand) lexemes p = refl
plain-operand _ lexemes p = p

begins : (e : Expr) → begins_plain (expr_lexemes e) ≡ true
begins (Or left right) =
    plain-append (operand_lexemes left (expr_lexemes left)) (Reserved word.Or ∷ operand_lexemes right (expr_lexemes right))
    (plain-operand left (expr_lexemes left) (begins left))
begins (And left right) =
    plain-append (operand_lexemes left (expr_lexemes left)) (Reserved word.And ∷ operand_lexemes right (expr_lexemes right))
    (plain-operand left (expr_lexemes left) (begins left))
begins (Not operand) = refl
begins (Compare c left right) =
    plain-append (operand_lexemes left (expr_lexemes left)) _ (plain-operand left (expr_lexemes left) (begins left))
begins (Calculate o left right) =
    plain-append (operand_lexemes left (expr_lexemes left)) _ (plain-operand left (expr_lexemes left) (begins left))
begins (Negate operand) = refl
begins (Index sequence index) =
    plain-append (operand_lexemes sequence (expr_lexemes sequence)) _ (plain-operand sequence (expr_lexemes sequence) (begins sequence))
begins (Literal NoneConstant) = refl
begins (Literal (TruthConstant true)) = refl
begins (Literal (TruthConstant false)) = refl
begins (Literal (IntConstant number)) = refl
begins (Literal (TextConstant bytes)) = refl
begins (Literal (BytesConstant bytes)) = refl
begins (Variable name) = refl
begins (ListOf items) = refl
begins (Apply function argument) = refl
begins (MakeError kind message) = refl

assigned-plain : (name : Name) (lexemes : List Lexeme) → begins_plain lexemes ≡ true → assigned_form name lexemes ≡ with_term (Assign name) lexemes
assigned-plain name [] p = cc
assigned-plain name (Reserved word.Yield ∷ lexemes) p = cc
assigned-plain name (lexeme ∷ lexemes) p = refl

-- ---- `print` and `return` with something behind them
print-some : (lexemes : List Lexeme) (first : Lexeme) (others : List Lexeme) → lexemes ≡ first ∷ others → print_form lexemes
    ≡ option_map Print (all_of term_of (parts lexemes))
print-some lexemes first others e =
    ap print_form e ∙ sym (ap (λ (l : List Lexeme). let form : Option Spelled = option_map Print (all_of term_of (parts l)) in form) e)

return-some : (lexemes : List Lexeme) (first : Lexeme) (others : List Lexeme) → lexemes ≡ first ∷ others → return_form lexemes
    ≡ with_term (λ value. Return (Some value)) lexemes
return-some lexemes first others e = ap return_form e ∙ sym (ap (with_term (λ value. Return (Some value))) e)

pub row-back : (items : List Expr) → row_from (exprs items) ≡ map term_from items
row-back [] = refl
row-back (first ∷ others) = ap (λ ts. term_from first ∷ ts) (row-back others)

-- ---- `) as NAME`
closed-behind : (x y z w : Lexeme) (lexemes : List Lexeme) (found : Option (List Lexeme × Name)) → closed_as x (y ∷ z ∷ w ∷ lexemes) found
    ≡ option_map (λ pair. (x ∷ pair.0, pair.1)) found
closed-behind (Sign symbol.RightParenthesis) (Reserved word.As) (Named name) w lexemes found = refl
closed-behind _ _ _ w lexemes found = refl

abbrev closing : Name → List Lexeme
closing name = Sign symbol.RightParenthesis ∷ Reserved word.As ∷ Named name ∷ []

closed-before : (x : Lexeme) (lexemes : List Lexeme) (name : Name) (found : Option (List Lexeme × Name)) → closed_as x (lexemes ++ closing name) found
    ≡ option_map (λ pair. (x ∷ pair.0, pair.1)) found
closed-before x [] name found =
    closed-behind x (Sign symbol.RightParenthesis) (Reserved word.As) (Named name) [] found
closed-before x (y ∷ []) name found =
    closed-behind x y (Sign symbol.RightParenthesis) (Reserved word.As) (Named name ∷ []) found
closed-before x (y ∷ z ∷ []) name found =
    closed-behind x y z (Sign symbol.RightParenthesis) (Reserved word.As ∷ Named name ∷ []) found
closed-before x (y ∷ z ∷ w ∷ lexemes) name found = closed-behind x y z w (lexemes ++ closing name) found

before-closing : (lexemes : List Lexeme) (name : Name) → before_as (lexemes ++ closing name) ≡ Some (lexemes, name)
before-closing [] name = refl
before-closing (x ∷ lexemes) name =
    closed-before x lexemes name (before_as (lexemes ++ closing name)) ∙ ap (option_map (λ pair. (x ∷ pair.0, pair.1))) (before-closing lexemes name)

abbrev timeout_form : Option (List Lexeme × Name) → Option Spelled
timeout_form found =
    option_and_then (λ pair. option_map (λ delay. WithTimeout delay pair.1) (term_of pair.0)) found

timeout-read : (delay : Expr) (name : Name)
    → timeout_form (before_as ((expr_lexemes delay ++ Sign symbol.RightParenthesis ∷ []) ++ Reserved word.As ∷ Named name ∷ []))
    ≡ Some (WithTimeout (term_from delay) name)
timeout-read delay name =
    ap (λ l. timeout_form (before_as l)) (append_assoc (expr_lexemes delay) (Sign symbol.RightParenthesis ∷ []) (Reserved word.As ∷ Named name ∷ []))
    ∙ (ap timeout_form (before-closing (expr_lexemes delay) name) ∙ term-read (λ t. WithTimeout t name) delay)

-- ---- lines
pub form-read : (line : Line) → WellWritten line → form_of (line_lexemes line) ≡ Some (spelled line)
unfolding form_of
form-read (Profile number) w = refl
form-read (Def name parameters) w =
    ap (λ (found : Option
    (List Lexeme)). let form : Option Spelled = option_and_then (λ inner. option_map (Def name) (all_of bare_name (parts inner))) found in form)
    (before-last symbol.RightParenthesis (Sign symbol.RightParenthesis) (named parameters) refl)
    ∙ ap (λ (found : Option (List Name)). let form : Option Spelled = option_map (Def name) found in form) (names-read parameters)
form-read (Assign name value) w =
    assigned-plain name (expr_lexemes value) (begins value) ∙ term-read (Assign name) value
form-read Yield w = refl
form-read (YieldFrom None target) w = ap (option_map (YieldFrom None)) (target-read target w.1)
form-read (YieldFrom (Some name) target) w = ap (option_map (YieldFrom (Some name))) (target-read target w.1)
form-read (Print []) w = absurd w
form-read (Print (first ∷ others)) w =
    let shape = (facts first).shape in
    let row = exprs (first ∷ others) in
    print-some (exprs_lexemes row) shape.first (shape.others ++ more_lexemes (exprs others)) (ap (λ l. l ++ more_lexemes (exprs others)) shape.split)
    ∙ (ap (option_map Print) (row-read row) ∙ ap (λ (ts : List Term). let form : Option Spelled = Some (Print ts) in form) (row-back (first ∷ others)))
form-read (Raise fault) w = term-read Raise fault
form-read (Return None) w = refl
form-read (Return (Some value)) w =
    let shape = (facts value).shape in
    return-some (expr_lexemes value) shape.first shape.others shape.split ∙ term-read (λ t. Return (Some t)) value
form-read Pass w = refl
form-read (If test) w = term-read If test
form-read Else w = refl
form-read (While test) w = term-read While test
form-read Try w = refl
form-read (Except kind None) w = refl
form-read (Except kind (Some name)) w = refl
form-read Finally w = refl
form-read (WithGroup name) w = refl
form-read (WithTimeout delay name) w = timeout-read delay name
form-read End w = refl

-- ---- a line of a text
lexemes-read : (before : List Role) (lexemes : List Lexeme) (form : Spelled) → form_of lexemes ≡ Some form → lexemes_behind before lexemes
    ≡ form_behind_lines before (Some form)
unfolding form_of
lexemes-read before [] form e = cc
lexemes-read before (lexeme ∷ lexemes) form e = ap (form_behind_lines before) e

pub line-read : (before : List Role) (spaces : ℕ) (line : Line) → WellWritten line → line_behind before (replicate spaces 32 ++ line_text line)
    ≡ form_behind_lines before (Some (spelled line))
line-read before spaces line w =
    let t = line-tokens spaces line w in
    ap (tokens_behind before) t.1 ∙ (ap (lexemes_behind before) t.2 ∙ lexemes-read before (line_lexemes line) (spelled line) (form-read line w))

-- two spaces for each open block
indentation : (blocks : ℕ) → (spaces : ℕ) × (repeat blocks (codes "  ") ≡ replicate spaces 32)
indentation zero = (0, refl)
indentation (suc blocks) = let i = indentation blocks in (suc (suc i.0), ap (λ l. 32 ∷ 32 ∷ l) i.1)

pub line-inside : (before : List Role) (blocks : ℕ) (line : Line) → WellWritten line → line_behind before (repeat blocks (codes "  ") ++ line_text line)
    ≡ form_behind_lines before (Some (spelled line))
line-inside before blocks line w =
    let i = indentation blocks in
    ap (λ l. line_behind before (l ++ line_text line)) i.1 ∙ line-read before i.0 line w
