use Rattle.std.proofs.Common.{◌≡◌, take, Ok}
use Rattle.model_tree.specs.Syntax.{exprs}
use Rattle.model_says.specs.Expressions.{values_of}
use Rattle.aio_gen.proofs.evaluate.values_of.Given as goal

abbrev pub invariant-loop-item : goal.invariant-loop-item
invariant-loop-item l = values_of (exprs (take l.item-index l.items)) l.env ≡ Ok l.found.items
