-- The members of an exception are smaller than it, and each exception of a list is smaller than the list.
use Rattle.std.specs.Prelude.{ℕ, ◌+◌, ◌≤◌, max, List, [], ◌∷◌, Option, Some, None}
use Rattle.std.specs.declared.rc.Rc.{Rc}
use Rattle.std.specs.declared.rc.RcSlice.{RcSlice}
use Rattle.std.specs.declared.string.String.{String}
use Rattle.std.specs.declared.alloc.Global.{Global}
use Rattle.std.proofs.Common.{arith}
use denote.Param.Weighed.{most}
use Rattle.model_value.specs.declared.kind.Kind.{Kind}
use Rattle.model_value.specs.Value.{Exc}
use Rattle.aio_base.specs.declared.exc.ExcParts.{ExcParts}
use Rattle.aio_base.specs.declared.exc.ExcNode.{ExcNode}
use Rattle.aio_base.specs.declared.exc.ExcNode.TheVariants as node
use Rattle.aio_base.specs.declared.exc.Exc.TheDeep.{deep-ExcNode, deep-ExcParts}
use Rattle.aio_base.specs.Size.{exc_size, excs_size}
use Rattle.aio_base.specs.Exc.{exc_of, exc_of_parts}

abbrev parts_of : Kind → String Global → Option (RcSlice ℕ Global) → Option (Rc (List Exc) Global) → ExcParts
parts_of kind text bytes members = record { kind = kind; text = text; bytes = bytes; members = members }

parts_fall : (kind : Kind) (text : String Global) (bytes : Option (RcSlice ℕ Global)) (members : Option (Rc (List Exc) Global))
    → max (deep-ExcParts (parts_of kind text bytes members)) 0 ≤ exc_size (exc_of_parts (parts_of kind text bytes members))
parts_fall kind text bytes None = omega arith
parts_fall kind text bytes (Some members) = omega arith

pub members_fall : (c : ExcNode) → max (deep-ExcNode c) 0 ≤ exc_size (exc_of c)
members_fall (node.Bare kind) = omega arith
members_fall (node.Full parts) = omega (arith, parts_fall parts.value.kind parts.value.text parts.value.bytes parts.value.members)

pub excs_fall : (es : List Exc) → max (most (λ e. exc_size e + 1) es) 0 ≤ excs_size es
excs_fall [] = omega arith
excs_fall (e ∷ es) = omega (arith, excs_fall es)
