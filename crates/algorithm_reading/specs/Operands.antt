-- What a reader of an expression keeps of what it has read: the expression, if it isn't too high.
-- Source: the scripts' limits: an expression is at most 32 high.
use Rattle.std.specs.Prelude.{List, Option, Some, None, nat_le, if◌then◌else◌}
use Rattle.model_tree.specs.Syntax.{Name}
use Rattle.model_text.specs.Terms.{Term, ListOf, Called, terms, no_terms, height}
use Rattle.model_text.specs.Places.{most_height}
use Rattle.model_text.specs.Levels.{all_of}

pub data Operand : Type 0 where
  Fits : (term : Term) → Operand
  TooHigh : Operand

abbrev pub capped : Term → Operand
capped term = if nat_le (height term) most_height then Fits term else TooHigh

-- ---- An expression with a part that is too high is too high.
abbrev pub of_one : (Term → Term) → Operand → Operand
of_one build (Fits term) = capped (build term)
of_one build TooHigh = TooHigh

abbrev pub of_two : (Term → Term → Term) → Operand → Operand → Operand
of_two build (Fits left) right = of_one (build left) right
of_two build TooHigh right = TooHigh

abbrev pub that_fits : Operand → Option Term
that_fits (Fits term) = Some term
that_fits TooHigh = None

abbrev pub of_fitting : (List Term → Term) → Option (List Term) → Operand
of_fitting build (Some all) = capped (build all)
of_fitting build None = TooHigh

abbrev pub of_all : (List Term → Term) → List Operand → Operand
of_all build operands = of_fitting build (all_of that_fits operands)

-- `[a, b]`
abbrev pub list_of : List Operand → Operand
list_of items = of_all (λ all. ListOf (terms all)) items

-- a call whose arguments stand behind a bare name, if it has one
abbrev pub call : Name → Option Name → List Term → Term
call name None arguments = Called name (terms arguments) None no_terms
call name (Some bare) arguments = Called name no_terms (Some bare) (terms arguments)

-- `NAME(a, b)`
abbrev pub call_of : Name → Option Name → List Operand → Operand
call_of name bare arguments = of_all (call name bare) arguments
