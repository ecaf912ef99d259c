-- The items of a list value are smaller than it, and each value of a list is smaller than the list.
use Rattle.std.specs.Prelude.{◌+◌, ◌≤◌, max, List, [], ◌∷◌}
use Rattle.std.proofs.Common.{arith}
use denote.Param.Weighed.{most}
use Rattle.model_value.specs.Value.{Value}
use Rattle.aio_base.specs.declared.value.ValueNode.{ValueNode}
use Rattle.aio_base.specs.declared.value.ValueNode.TheVariants as node
use Rattle.aio_base.specs.declared.value.Value.TheDeep.{deep-ValueNode}
use Rattle.aio_base.specs.Size.{value_size, list_size}
use Rattle.aio_base.specs.Value.{value_of}

pub node_falls : (c : ValueNode) → max (deep-ValueNode c) 0 ≤ value_size (value_of c)
node_falls (node.List list) = omega arith
node_falls _ = omega arith

pub items_fall : (vs : List Value) → max (most (λ v. value_size v + 1) vs) 0 ≤ list_size vs
items_fall [] = omega arith
items_fall (v ∷ vs) = omega (arith, items_fall vs)
