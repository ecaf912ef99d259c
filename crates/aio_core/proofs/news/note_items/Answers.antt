use Rattle.std.proofs.Common.{ap, subst, ◌∙◌}
use Rattle.model_machine.specs.Outside.{actions_of}
use Rattle.aio_task.specs.View.{View}
use Rattle.aio_core.specs.News.{Appends}
use Rattle.aio_core.proofs.Appending.{appends_all, appends_more}
use Rattle.aio_core.proofs.news.note_items.Goals as goal

pub note_item-requires : goal.note_item-requires
note_item-requires c = record { idle = ap (λ (v : View). v.called) c.loop-item.invariant ∙ c.requires.idle }

pub loop-item-preserved : goal.loop-item-preserved
loop-item-preserved c =
    appends_more c.args.items.now c.loop-item.item-index c.item-item.result c.args.parts.now c.loop-item.parts
    c.note_item.new.parts
    c.loop-item-test.true c.loop-item.invariant
    (subst (λ it. Appends (actions_of it) c.loop-item.parts c.note_item.new.parts) c.item-item.is c.in_ok-note_item.ensures)

pub returns : goal.returns
returns c =
    appends_all c.args.items.now c.loop-item.item-index c.args.parts.now c.loop-item.parts c.loop-item-test.false
    c.loop-item.invariant
