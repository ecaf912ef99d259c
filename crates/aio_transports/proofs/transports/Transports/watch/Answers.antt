use Rattle.std.proofs.Common.{◌∙◌, ap}
use Rattle.aio_transports.specs.Kept.{Kept}
use Rattle.aio_transports.specs.Watched.{without_gone}
use Rattle.aio_transports.proofs.Remaining.{with_remaining}
use Rattle.aio_transports.proofs.Watches.{watch_goes}
use Rattle.aio_transports.proofs.transports.Transports.watch.Goals as goal

pub returns : goal.returns
returns c =
    let after = c.drop_gone.new.self in
    watch_goes c.args.self.now after c.args.into.now.items c.watch_remaining.new.into.items c.watch_remaining.result
    (c.drop_gone.ensures ∙ ap (λ (k : Kept). with_remaining
    (without_gone k.streams k.children k.remaining) k) c.in_ok-see.ensures)
    c.watch_remaining.ensures
