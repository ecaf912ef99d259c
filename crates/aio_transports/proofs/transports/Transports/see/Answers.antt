use Rattle.aio_stream.specs.Kept.{all_opened}
use Rattle.aio_transports.proofs.Remaining.{saw}
use Rattle.aio_transports.proofs.transports.Transports.see.Goals as goal

pub returns : goal.returns
returns c =
    let i = c.self.inside in
    saw i.streams i.children i.remaining c.args.self.now c.self.view_is
    (all_opened c.opened_in_order.result.now) c.see.new.self c.see.result
    c.opened_in_order.ensures c.see.ensures
