-- Code that is laid at the end of a body, and what is then known of every code that has these operations and ranges.
use Rattle.std.specs.Prelude.{◌≡◌, ℕ, ◌<◌, ◌≤◌, List, [], ◌∷◌, ◌++◌, length, slice_get, slice_set, Option, Some, None}
use Rattle.algorithm_flat.specs.declared.op.Op.TheVariants as op
use Rattle.algorithm_flat.specs.Ops.{Op, Range, CoroutineCode}
use Rattle.algorithm_flat.specs.Nearer.{JumpsForward}

-- the lists agree from one place up to another
abbrev pub Agrees : {A : Type 0} → (whole part : List A) → (from upto : ℕ) → Type 0
Agrees whole part from upto = (place : ℕ) → from ≤ place → place < upto → slice_get whole place ≡ slice_get part place

-- the code has the new operations and ranges of a body that has grown
pub record HasNew (code old new : CoroutineCode) : Type 0 where
  pub ops : Agrees code.ops new.ops (length old.ops) (length new.ops)
  pub ranges : Agrees code.ranges new.ranges (length old.ranges) (length new.ranges)

-- A body has grown at its end, and these facts hold of every code that has what is new.
pub record Grows (old new : CoroutineCode) (Facts : CoroutineCode → Type 0) : Type 0 where
  pub more_ops : length old.ops ≤ length new.ops
  pub more_ranges : length old.ranges ≤ length new.ranges
  pub kept_ops : Agrees new.ops old.ops 0 (length old.ops)
  pub kept_ranges : Agrees new.ranges old.ranges 0 (length old.ranges)
  pub forward : JumpsForward old → JumpsForward new
  pub facts : (code : CoroutineCode) → HasNew code old new → Facts code

-- ---- steps
abbrev pub with_op : Op → CoroutineCode → CoroutineCode
with_op operation body = record body { ops = body.ops ++ operation ∷ [] }

abbrev pub with_range : Range → CoroutineCode → CoroutineCode
with_range range body = record body { ranges = body.ranges ++ range ∷ [] }

abbrev pub put_op : ℕ → Op → CoroutineCode → CoroutineCode
put_op place operation body = record body { ops = slice_set body.ops place operation }

-- where an operation jumps to
abbrev pub jump_of : Op → Option ℕ
jump_of (op.Jump to) = Some to
jump_of _ = None

abbrev pub GoesForward : ℕ → Op → Type 0
GoesForward place operation = (to : ℕ) → jump_of operation ≡ Some to → place < to
