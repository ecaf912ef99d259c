use Rattle.std.proofs.Common.{ap, ◌∙◌}
use Rattle.model_sync.specs.Synced.{without}
use Rattle.aio_sync.proofs.Rising.{remove_only}
use Rattle.aio_sync.proofs.waiters.Waiters.leave.Goals as goal

pub returns : goal.returns
returns c =
    c.remove-was_there.ensures.keys ∙ remove_only c.self.inside.those.keys c.args.on c.self.invariant ∙ ap (without c.args.on) c.self.view_is
