use Rattle.std.proofs.Common.{◌≡◌, Some, map, take}
use Rattle.std.specs.Rc.{rc_str_bytes}
use Rattle.model_machine.specs.Arguments.{texts_of}
use Rattle.model_value.specs.Value.{values}
use Rattle.aio_opened.proofs.texts.texts_of.Given as goal

-- those so far are texts
abbrev pub invariant-loop-item : goal.invariant-loop-item
invariant-loop-item l = texts_of (values (take l.item-index l.items)) ≡ Some (map rc_str_bytes l.words.items)
