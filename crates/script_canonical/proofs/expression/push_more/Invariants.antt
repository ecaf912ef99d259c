use Rattle.std.proofs.Common.{◌≡◌, ◌++◌, take}
use Rattle.model_tree.specs.Syntax.{exprs}
use Rattle.model_text.specs.Canonical.{more_text}
use Rattle.script_canonical.proofs.expression.push_more.Given as goal

abbrev pub invariant-loop-item : goal.invariant-loop-item
invariant-loop-item l = l.out.items ≡ l.initial.out.items ++ more_text (exprs (take l.item-index l.items))
