use Rattle.std.proofs.Common.{◌≡◌, true, ap, sym, subst, ◌∙◌}
use Rattle.model_sync.specs.Synced.{Lock}
use Rattle.aio_sync.specs.Woken.{are_free}
use Rattle.aio_sync.proofs.Resolved.{left_free}
use Rattle.aio_sync.proofs.lock.Lock.give_up.Goals as goal

pub wake_first-requires-clause-free : goal.wake_first-requires-clause-free
wake_first-requires-clause-free c =
    let futures = c.args.parts.now.futures in
    ap (are_free futures) c.leave.ensures
    ∙ left_free futures c.args.on c.self.inside.waiters
    (subst (λ (l : Lock). are_free futures l.waiters ≡ true) (sym c.self.view_is) c.requires.free)
