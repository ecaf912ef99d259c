use Rattle.aio_wire.specs.Port.{ported}
use Rattle.aio_exchange.proofs.OneAsk.{asks_one}
use Rattle.aio_exchange.proofs.asking.ask.Goals as goal

pub returns-clause-asks : goal.returns-clause-asks
returns-clause-asks g c =
    asks_one g.W.Wire.outside c.args.call (ported c.args.port.now.wire.now c.args.port.now.events.now)
    (ported c.ask.new.self.wire.now c.ask.new.self.events.now) c.ask.result c.ask.ensures.asked
