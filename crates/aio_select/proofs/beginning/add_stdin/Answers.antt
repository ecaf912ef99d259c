use Rattle.aio_select.proofs.Offering.{adds_stdin}
use Rattle.aio_select.proofs.beginning.add_stdin.Goals as goal

pub returns-clause-added : goal.returns-clause-added
returns-clause-added g c =
    adds_stdin c.args.watch.now c.args.answering.now.items.items c.args.answering.now.kept.items c.add_if.new.self.items.items
    c.add_if.new.self.kept.items c.add_if-2.new.self.items.items c.add_if-2.new.self.kept.items
    (g.P.Pumps.children c.args.pumps.now) c.args.entry.now c.in-Child.child c.in-Child.feeds c.in-Child.stdin c.in-Child.out
    c.in-Child.errs c.in-Child.exit c.can_be_fed-can_be_fed.result c.is_broken-is_broken.result c.in-Child.is
    c.can_be_fed-can_be_fed.ensures c.is_broken-is_broken.ensures c.in_ok-add_if.ensures.added c.in_ok-add_if-2.ensures.added
