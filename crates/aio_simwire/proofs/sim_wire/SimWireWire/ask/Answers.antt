use Rattle.aio_simwire.proofs.Replies.{if_replied}
use Rattle.aio_simwire.proofs.sim_wire.SimWireWire.ask.Goals as goal

pub returns-clause-replied : goal.returns-clause-replied
returns-clause-replied c =
    let said = c.reply.ensures in
    if_replied c.args.call.now c.args.self.now.is_over c.reply.new.self.is_over c.reply.result said.fits said.ends said.speaks
