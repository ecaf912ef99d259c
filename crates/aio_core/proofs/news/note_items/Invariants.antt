-- The callbacks of the items so far are appended.
use Rattle.std.proofs.Common.{take}
use Rattle.std.specs.List.{flat_map}
use Rattle.model_machine.specs.Outside.{actions_of}
use Rattle.aio_core.specs.News.{Appends}
use Rattle.aio_core.proofs.news.note_items.Given as goal

abbrev pub invariant-loop-item : goal.invariant-loop-item
invariant-loop-item l = Appends (flat_map actions_of (take l.item-index l.items)) l.fn.parts l.parts
