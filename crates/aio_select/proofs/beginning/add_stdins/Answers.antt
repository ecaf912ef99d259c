use Rattle.std.proofs.lemmas.List.{take_more}
use Rattle.model_hub.specs.Gathering.{stdin_items}
use Rattle.aio_select.proofs.Offering.{adds_next}
use Rattle.aio_select.proofs.beginning.add_stdins.Goals as goal

pub loop-entry-preserved : goal.loop-entry-preserved
loop-entry-preserved g c = (
  c.add_stdin.ensures.fits,
  adds_next c.args.watch.now c.args.answering.now.items.items c.args.answering.now.kept.items
      c.loop-entry.answering.items.items c.loop-entry.answering.kept.items c.add_stdin.new.answering.items.items
      c.add_stdin.new.answering.kept.items (stdin_items (g.P.Pumps.children c.args.pumps.now)) c.entries-entry-items.result.now
      c.loop-entry.entry-index _ (take_more c.entries-entry-items.result.now c.loop-entry.entry-index _ c.loop-entry-test.true)
      c.loop-entry.invariant.1 c.in_ok-add_stdin.ensures.added,
)
