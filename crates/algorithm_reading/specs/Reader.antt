-- What a reader of an expression knows behind some lexemes: what is pending, in each bracket that is open.
-- Source: operator-precedence parsing (Dijkstra's shunting yard), with one stack, of open brackets.
use Rattle.std.specs.Prelude.{List, [], Option, Some}
use Rattle.model_tree.specs.Syntax.{Name}
use Rattle.algorithm_reading.specs.Operands.{Operand}
use Rattle.algorithm_reading.specs.Pending.{Loose, Tight}

-- an open bracket, and what was read in it up to the last comma
pub data Bracket : Type 0 where
  -- `(`
  Group : Bracket
  -- `x[`, with x
  Item : (sequence : Operand) → Bracket
  -- `[`
  Items : (items : List Operand) → Bracket
  -- `NAME(`, with a bare name, if one was read
  Arguments : (name : Name) (bare : Option Name) (arguments : List Operand) → Bracket

-- an open bracket with what is pending before it
pub record Open : Type 0 where
  pub bracket : Bracket
  pub loose : Loose
  pub tight : Tight

-- how far the expression has come that is read in the innermost bracket
pub data TermProgress : Type 0 where
  -- nothing stands behind the bracket
  Start : TermProgress
  -- behind a comma, `or`, `and` or `not`: an operand or `not` may stand
  AtNot : (loose : Loose) → TermProgress
  -- behind another operator: an operand may stand
  AtOperand : (loose : Loose) (tight : Tight) → TermProgress
  -- behind a name: it may be called
  BehindName : (loose : Loose) (tight : Tight) (name : Name) → TermProgress
  -- behind any other operand
  BehindOperand : (loose : Loose) (tight : Tight) (operand : Operand) → TermProgress
  -- behind `error(`: a bare name may stand
  AtKind : TermProgress
  BehindKind : (kind : Name) → TermProgress

pub record TermReader : Type 0 where
  pub progress : TermProgress
  -- the open brackets, the innermost first
  pub opened : List Open

-- None: whatever follows, it is no expression.
abbrev pub ReaderState : Type 0
ReaderState = Option TermReader

abbrev pub reading : TermProgress → List Open → ReaderState
reading progress opened = Some (record { progress = progress; opened = opened })

abbrev pub start : ReaderState
start = reading Start []
