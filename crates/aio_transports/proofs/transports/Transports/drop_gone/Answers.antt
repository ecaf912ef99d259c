use Rattle.aio_transports.proofs.Remaining.{dropped}
use Rattle.aio_transports.proofs.transports.Transports.drop_gone.Goals as goal

pub returns : goal.returns
returns c =
    let i = c.self.inside in
    dropped i.streams i.children i.remaining c.args.self.now c.self.view_is c.drop_gone.new.self c.drop_gone.ensures
