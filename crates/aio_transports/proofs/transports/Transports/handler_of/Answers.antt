use Rattle.aio_transports.proofs.Known.{both_stand}
use Rattle.aio_transports.proofs.transports.Transports.handler_of.Goals as goal

pub returns : goal.returns
returns c s stands =
    c.handler_of.ensures s
    (both_stand c.self.inside.streams c.self.inside.children c.self.inside.remaining c.args.self.now c.self.view_is s stands).streams
