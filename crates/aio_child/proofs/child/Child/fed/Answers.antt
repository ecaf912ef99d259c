use Rattle.std.proofs.Common.{◌∙◌, sym}
use Rattle.aio_exchange.specs.Follows.{Reach, after_of, reach}
use Rattle.aio_task.specs.View.{View}
use Rattle.aio_child.proofs.Calling.{fed_loses, fed_on}
use Rattle.aio_child.proofs.child.Child.fed.Goals as goal

pub returns-then-not-is_fed-clause-follows : goal.returns-then-not-is_fed-clause-follows
returns-then-not-is_fed-clause-follows g c =
    let at : Reach View g.row.W.Denot = reach c.args.parts.now c.args.port.now.wire.now c.args.port.now.events.now in
    fed_on g.W.Wire.outside c.args.id c.args.self.now at (sym c.is_fed.ensures ∙ c.if-not-is_fed.true)

pub returns-clause-follows : goal.returns-clause-follows
returns-clause-follows g c =
    let old : Reach View g.row.W.Denot = reach c.args.parts.now c.args.port.now.wire.now c.args.port.now.events.now in
    let new : Reach View g.row.W.Denot = reach c.lose.new.parts c.lose.new.port.wire.now c.lose.new.port.events.now in
    fed_loses g.W.Wire.outside c.args.id c.args.self.now old new (after_of c.lose.new.self c.lose.result)
    (sym c.is_fed.ensures ∙ c.if-not-is_fed.false) c.lose.ensures.follows
