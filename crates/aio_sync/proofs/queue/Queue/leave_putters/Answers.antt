use Rattle.std.proofs.Common.{◌≡◌, true, ap, sym, subst, ◌∙◌}
use Rattle.model_sync.specs.Synced.{Queue}
use Rattle.aio_sync.specs.Woken.{are_free}
use Rattle.aio_sync.proofs.Resolved.{left_free}
use Rattle.aio_sync.proofs.queue.Queue.leave_putters.Goals as goal

pub wake_next-requires-clause-free : goal.wake_next-requires-clause-free
wake_next-requires-clause-free c =
    let futures = c.args.parts.now.futures in
    ap (are_free futures) c.leave.ensures
    ∙ left_free futures c.args.on c.self.inside.putters
    (subst (λ (q : Queue). are_free futures q.putters ≡ true) (sym c.self.view_is) c.requires.free)
