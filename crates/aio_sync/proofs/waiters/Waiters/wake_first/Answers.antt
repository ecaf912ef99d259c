use Rattle.std.proofs.Common.{◌≡◌, ◌∙◌, ap, sym, subst, true}
use Rattle.aio_sync.specs.Woken.{are_free}
use Rattle.aio_sync.proofs.Resolved.{first_free}
use Rattle.aio_sync.proofs.waiters.Waiters.wake_first.Goals as goal

pub wake-requires-clause-free : goal.wake-requires-clause-free
wake-requires-clause-free c =
    first_free c.args.parts.now.futures c.self.inside.those.keys c.in-Some.waiter.now c.in-Some.ensures.first
    (ap (are_free c.args.parts.now.futures) c.self.view_is ∙ c.requires.free)
