-- Flat code: the operations of a body in order, which jump to places, and a table of the ranges that handlers cover.
-- Source: CPython's `dis` and its exception tables.
use Rattle.std.specs.Prelude.{◌≡◌, ℕ, List, Some, slice_get}
use Rattle.model_tree.specs.Syntax.{Name, Expr}
use Rattle.algorithm_flat.specs.declared.op.Op as op
use Rattle.algorithm_flat.specs.declared.range.Clause as clause
use Rattle.algorithm_flat.specs.declared.range.Range as range

abbrev pub Op : Type 0
Op = op.Op Name Expr (List Expr)

abbrev pub Clause : Type 0
Clause = clause.Clause Name

abbrev pub Range : Type 0
Range = range.Range (List Clause)

-- the code of a coroutine: that of its body, and its variables, the parameters first
pub record CoroutineCode : Type 0 where
  pub ops : List Op
  pub ranges : List Range
  pub variables : List Name

-- this operation stands at a place
abbrev pub Has : CoroutineCode → ℕ → Op → Type 0
Has code place op = slice_get code.ops place ≡ Some op

-- this range has a number
abbrev pub Covers : CoroutineCode → ℕ → Range → Type 0
Covers code number range = slice_get code.ranges number ≡ Some range
