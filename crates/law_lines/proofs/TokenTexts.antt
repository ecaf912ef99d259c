-- Names, reserved words, constants and operators in front of what follows them.
use Rattle.std.proofs.Common.{◌≡◌, ℕ, ◌^◌, ◌<◌, true, false, List, [], ◌∷◌, ◌++◌, Some, refl, sym, ap, subst, pos}
use Rattle.std.specs.Prelude.{codes}
use Rattle.std.specs.List.{AllByRecursion}
use Rattle.std.specs.Fmt.{decimal}
use Rattle.model_value.specs.declared.kind.Kind.{Kind}
use Rattle.model_value.specs.declared.kind.Kind.TheVariants as kind
use Rattle.model_value.specs.Escapes.{text_literal, bytes_literal}
use Rattle.model_value.specs.Kinds.{kind_name}
use Rattle.model_tree.specs.declared.function.Function.{Function}
use Rattle.model_tree.specs.declared.function.Function.TheVariants as function
use Rattle.model_tree.specs.declared.request_name.RequestName.{RequestName}
use Rattle.model_tree.specs.declared.request_name.RequestName.TheVariants as request
use Rattle.model_tree.specs.declared.operator.Operator.{Operator}
use Rattle.model_tree.specs.declared.operator.Operator.TheVariants as operator
use Rattle.model_tree.specs.declared.operator.Comparison.{Comparison}
use Rattle.model_tree.specs.declared.operator.Comparison.TheVariants as comparison
use Rattle.model_tree.specs.Syntax.{Constant, NoneConstant, TruthConstant, IntConstant, TextConstant, BytesConstant}
use Rattle.model_tree.specs.Known.{function_text, request_text}
use Rattle.model_text.specs.declared.symbol.Symbol.TheVariants as symbol
use Rattle.model_text.specs.declared.reserved_word.ReservedWord.{ReservedWord}
use Rattle.model_text.specs.declared.reserved_word.ReservedWord.TheVariants as word
use Rattle.model_text.specs.Tokens.{Name, Int, Text, Bytes}
use Rattle.model_text.specs.Cuts.{IsName}
use Rattle.model_text.specs.Words.{Lexeme, Reserved, Named, Number, Texts, Octets, Sign, word_or_name, reserved_of}
use Rattle.model_text.specs.Canonical.{constant_text, operator_text, comparison_text, in_parentheses}
use Rattle.law_lines.specs.Lexemes.{constant_lexeme, operator_symbol, comparison_symbol, within_parentheses}
use Rattle.law_lines.specs.WellWritten.{WellNamed, WellWrittenConstant}
use Rattle.law_lines.proofs.Fronts.{Leads, Fronts, fronts-then, leads-then, leads-leads, leads-fronts, blank-leads, spaced, token-fronts, sign-leads}
use Rattle.law_lines.proofs.Fronts.{spaced-sign}
use Rattle.law_lines.proofs.Spelling.{text-literal, bytes-literal, decimal-digits}

-- ---- names and words
name-token : (name : List ℕ) → IsName name → Fronts name (word_or_name name (reserved_of name) ∷ [])
name-token name n = token-fronts (Name name) name (n, refl) (λ rest r. (r.0, λ e. r.1))

pub name-fronts : (name : List ℕ) → WellNamed name → Fronts name (Named name ∷ [])
name-fronts name n = subst (λ found. Fronts name (word_or_name name found ∷ [])) n.1 (name-token name n.0)

pub word-fronts : (text : List ℕ) (reserved : ReservedWord) → IsName text → reserved_of text ≡ Some reserved → Fronts text (Reserved reserved ∷ [])
word-fronts text reserved n e = subst (λ found. Fronts text (word_or_name text found ∷ [])) e (name-token text n)

pub function-well : (f : Function) → WellNamed (function_text f)
function-well function.Len = ((refl, refl), refl)
function-well function.Str = ((refl, refl), refl)
function-well function.Bytes = ((refl, refl), refl)
function-well function.Text = ((refl, refl), refl)
function-well function.Kind = ((refl, refl), refl)
function-well function.Message = ((refl, refl), refl)
function-well function.Partial = ((refl, refl), refl)
function-well function.Members = ((refl, refl), refl)

pub request-well : (r : RequestName) → WellNamed (request_text r)
request-well request.MakeFuture = ((refl, refl), refl)
request-well request.Set = ((refl, refl), refl)
request-well request.Fail = ((refl, refl), refl)
request-well request.IsDone = ((refl, refl), refl)
request-well request.IsCancelled = ((refl, refl), refl)
request-well request.ResultOf = ((refl, refl), refl)
request-well request.Cancel = ((refl, refl), refl)
request-well request.Cancelling = ((refl, refl), refl)
request-well request.Uncancel = ((refl, refl), refl)
request-well request.Current = ((refl, refl), refl)
request-well request.Time = ((refl, refl), refl)
request-well request.Sleep = ((refl, refl), refl)
request-well request.Reschedule = ((refl, refl), refl)
request-well request.Expired = ((refl, refl), refl)
request-well request.Connect = ((refl, refl), refl)
request-well request.Write = ((refl, refl), refl)
request-well request.WriteEof = ((refl, refl), refl)
request-well request.Close = ((refl, refl), refl)
request-well request.WaitClosed = ((refl, refl), refl)
request-well request.Drain = ((refl, refl), refl)
request-well request.Limits = ((refl, refl), refl)
request-well request.Read = ((refl, refl), refl)
request-well request.ReadExactly = ((refl, refl), refl)
request-well request.ReadUntil = ((refl, refl), refl)
request-well request.ReadLine = ((refl, refl), refl)
request-well request.Launch = ((refl, refl), refl)
request-well request.StandardError = ((refl, refl), refl)
request-well request.WaitChild = ((refl, refl), refl)
request-well request.ReturnCode = ((refl, refl), refl)
request-well request.Kill = ((refl, refl), refl)
request-well request.Extra = ((refl, refl), refl)

pub kind-well : (k : Kind) → WellNamed (kind_name k)
kind-well kind.BaseException = ((refl, refl), refl)
kind-well kind.CancelledError = ((refl, refl), refl)
kind-well kind.Exception = ((refl, refl), refl)
kind-well kind.ArithmeticError = ((refl, refl), refl)
kind-well kind.LookupError = ((refl, refl), refl)
kind-well kind.OSError = ((refl, refl), refl)
kind-well kind.RuntimeError = ((refl, refl), refl)
kind-well kind.TypeError = ((refl, refl), refl)
kind-well kind.ValueError = ((refl, refl), refl)
kind-well kind.NameError = ((refl, refl), refl)
kind-well kind.EOFError = ((refl, refl), refl)
kind-well kind.LimitOverrunError = ((refl, refl), refl)
kind-well kind.InvalidStateError = ((refl, refl), refl)
kind-well kind.ExceptionGroup = ((refl, refl), refl)
kind-well kind.OverflowError = ((refl, refl), refl)
kind-well kind.ZeroDivisionError = ((refl, refl), refl)
kind-well kind.IndexError = ((refl, refl), refl)
kind-well kind.RecursionError = ((refl, refl), refl)
kind-well kind.IncompleteReadError = ((refl, refl), refl)
kind-well kind.TimeoutError = ((refl, refl), refl)
kind-well kind.ConnectionError = ((refl, refl), refl)
kind-well kind.ConnectionResetError = ((refl, refl), refl)
kind-well kind.ConnectionRefusedError = ((refl, refl), refl)
kind-well kind.BrokenPipeError = ((refl, refl), refl)

-- ---- constants
pub number-fronts : (n : ℕ) → n < 2 ^ 63 → Fronts (decimal n) (Number (pos n) ∷ [])
number-fronts n h =
    let d = decimal-digits n h in
    token-fronts (Int (pos n)) (decimal n) (d.0, subst (λ k. k < 2 ^ 63) (sym d.1) h, ap pos (sym d.1)) (λ rest r. r.0)

text-fronts : (bytes : List ℕ) → AllByRecursion (λ byte. byte < 128) bytes → Fronts (text_literal bytes) (Texts bytes ∷ [])
text-fronts bytes a = token-fronts (Text bytes) (text_literal bytes) (text-literal bytes a) (λ rest r. tt)

bytes-fronts : (bytes : List ℕ) → AllByRecursion (λ byte. byte < 256) bytes → Fronts (bytes_literal bytes) (Octets bytes ∷ [])
bytes-fronts bytes a = token-fronts (Bytes bytes) (bytes_literal bytes) (bytes-literal bytes a) (λ rest r. tt)

pub constant-fronts : (c : Constant) → WellWrittenConstant c → Fronts (constant_text c) (constant_lexeme c ∷ [])
constant-fronts NoneConstant w = word-fronts (codes "None") word.NoneValue (refl, refl) refl
constant-fronts (TruthConstant true) w = word-fronts (codes "True") word.TrueValue (refl, refl) refl
constant-fronts (TruthConstant false) w = word-fronts (codes "False") word.FalseValue (refl, refl) refl
constant-fronts (IntConstant number) w =
    subst (λ z. Fronts (constant_text (IntConstant z)) (Number z ∷ [])) (sym w.1) (number-fronts w.0 w.2)
constant-fronts (TextConstant bytes) w = text-fronts bytes w
constant-fronts (BytesConstant bytes) w = bytes-fronts bytes w

-- ---- symbols
pub open-leads : Leads (codes "(") (Sign symbol.LeftParenthesis ∷ [])
open-leads = sign-leads symbol.LeftParenthesis (λ rest. refl)

pub close-fronts : Fronts (codes ")") (Sign symbol.RightParenthesis ∷ [])
close-fronts =
    leads-fronts (codes ")") (Sign symbol.RightParenthesis ∷ []) (sign-leads symbol.RightParenthesis (λ rest. refl))

pub bracket-leads : Leads (codes "[") (Sign symbol.LeftBracket ∷ [])
bracket-leads = sign-leads symbol.LeftBracket (λ rest. refl)

pub unbracket-fronts : Fronts (codes "]") (Sign symbol.RightBracket ∷ [])
unbracket-fronts =
    leads-fronts (codes "]") (Sign symbol.RightBracket ∷ []) (sign-leads symbol.RightBracket (λ rest. refl))

pub minus-leads : Leads (codes "-") (Sign symbol.Minus ∷ [])
minus-leads = sign-leads symbol.Minus (λ rest. refl)

pub comma-leads : Leads (codes ", ") (Sign symbol.Comma ∷ [])
comma-leads =
    leads-leads (codes ",") (32 ∷ []) (Sign symbol.Comma ∷ []) [] (sign-leads symbol.Comma (λ rest. refl)) blank-leads

pub assign-leads : Leads (codes " = ") (Sign symbol.Assign ∷ [])
assign-leads = spaced-sign symbol.Assign (λ rest. refl)

pub operator-leads : (o : Operator) → Leads (operator_text o) (Sign (operator_symbol o) ∷ [])
operator-leads operator.Add = spaced-sign symbol.Plus (λ rest. refl)
operator-leads operator.Subtract = spaced-sign symbol.Minus (λ rest. refl)
operator-leads operator.Multiply = spaced-sign symbol.Star (λ rest. refl)
operator-leads operator.FloorDivide = spaced-sign symbol.DoubleSlash (λ rest. refl)
operator-leads operator.Remainder = spaced-sign symbol.Percent (λ rest. refl)

pub comparison-leads : (c : Comparison) → Leads (comparison_text c) (Sign (comparison_symbol c) ∷ [])
comparison-leads comparison.Equal = spaced-sign symbol.Equals (λ rest. refl)
comparison-leads comparison.NotEqual = spaced-sign symbol.NotEquals (λ rest. refl)
comparison-leads comparison.Less = spaced-sign symbol.LessThan (λ rest. refl)
comparison-leads comparison.LessOrEqual = spaced-sign symbol.LessOrEqual (λ rest. refl)
comparison-leads comparison.Greater = spaced-sign symbol.GreaterThan (λ rest. refl)
comparison-leads comparison.GreaterOrEqual = spaced-sign symbol.GreaterOrEqual (λ rest. refl)

-- ---- brackets
pub parentheses-fronts : (text : List ℕ) (lexemes : List Lexeme) → Fronts text lexemes → Fronts (in_parentheses text) (within_parentheses lexemes)
parentheses-fronts text lexemes f =
    leads-then (codes "(") (text ++ codes ")") (Sign symbol.LeftParenthesis ∷ []) (lexemes ++ Sign symbol.RightParenthesis ∷ []) open-leads
    (fronts-then text (codes ")") lexemes (Sign symbol.RightParenthesis ∷ []) f (refl, refl) close-fronts)

-- a word with a blank behind it
pub word-leads : (text : List ℕ) (reserved : ReservedWord) → IsName text → reserved_of text ≡ Some reserved → Leads (text ++ 32 ∷ []) (Reserved reserved ∷ [])
word-leads text reserved n e = spaced text (Reserved reserved ∷ []) (word-fronts text reserved n e)

-- a word between blanks
pub spaced-word : (text : List ℕ) (reserved : ReservedWord) → IsName text → reserved_of text ≡ Some reserved
    → Leads (32 ∷ (text ++ 32 ∷ [])) (Reserved reserved ∷ [])
spaced-word text reserved n e =
    leads-leads (32 ∷ []) (text ++ 32 ∷ []) [] (Reserved reserved ∷ []) blank-leads (word-leads text reserved n e)
