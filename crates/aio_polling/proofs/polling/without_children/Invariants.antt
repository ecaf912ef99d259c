use Rattle.std.proofs.Common.{◌≡◌, take}
use Rattle.std.specs.List.{filter}
use Rattle.model_hub.specs.Select.{is_no_child}
use Rattle.aio_polling.proofs.polling.without_children.Given as goal

abbrev pub invariant-loop-entry : goal.invariant-loop-entry
invariant-loop-entry l = l.alone.items ≡ filter is_no_child (take l.entry-index l.watch)
