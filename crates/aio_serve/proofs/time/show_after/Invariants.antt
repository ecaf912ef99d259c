-- The text so far shows the values before.
use Rattle.std.proofs.Common.{◌≡◌, ◌++◌, take}
use Rattle.model_machine.specs.Replies.{shown_after}
use Rattle.aio_serve.proofs.time.show_after.Given as goal

abbrev pub invariant-loop-value : goal.invariant-loop-value
invariant-loop-value l = l.text.items ≡ l.fn.text.items ++ shown_after (take l.value-index l.values)
