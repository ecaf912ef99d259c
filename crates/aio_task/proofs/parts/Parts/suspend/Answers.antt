use Rattle.std.proofs.Common.{◌≡◌, ℕ, true, Option, slice_get, ap, sym, subst, ◌∙◌}
use Rattle.model_loop.specs.Futures.{is_pending_at}
use Rattle.model_loop.specs.Ways.{HasOneWay}
use Rattle.aio_cancel.specs.Awaitables.{parts}
use Rattle.aio_task.specs.View.{View}
use Rattle.aio_task.proofs.KeptFutures.{owns_of}
use Rattle.aio_task.proofs.KeptSteps.{suspend_kept}
use Rattle.aio_task.proofs.Plainly.{kept_one_way, kept_runs}
use Rattle.aio_task.proofs.Sizes.{sized, size_suspend}
use Rattle.aio_task.proofs.parts.Parts.suspend.Goals as goal

pub suspend-requires-clause-owns : goal.suspend-requires-clause-owns
suspend-requires-clause-owns c =
    let old = c.self.invariant in
    let idle = ap (λ (v : View). v.called) c.self.view_is ∙ c.requires.idle in
    owns_of _ idle old.0

pub suspend-requires-clause-one_way : goal.suspend-requires-clause-one_way
suspend-requires-clause-one_way c =
    let old = c.self.invariant in
    let idle = ap (λ (v : View). v.called) c.self.view_is ∙ c.requires.idle in
    let runs = ap (λ (v : View). v.running) c.self.view_is ∙ c.requires.running in
    subst (λ (running : Option ℕ). HasOneWay running (parts c.self.inside.body)) runs (kept_one_way _ old.0 idle)

pub suspend-requires-clause-lives : goal.suspend-requires-clause-lives
suspend-requires-clause-lives c =
    let old = c.self.invariant in
    let idle = ap (λ (v : View). v.called) c.self.view_is ∙ c.requires.idle in
    let runs = ap (λ (v : View). v.running) c.self.view_is ∙ c.requires.running in
    kept_runs _ old.0 c.args.task idle runs

pub invariant_of-self-2 : goal.invariant_of-self-2
invariant_of-self-2 c =
    let old = c.self.invariant in
    let idle = ap (λ (v : View). v.called) c.self.view_is ∙ c.requires.idle in
    let runs = ap (λ (v : View). v.running) c.self.view_is ∙ c.requires.running in
    let pending = subst (λ (v : View). is_pending_at (slice_get v.futures c.args.on) ≡ true) (sym c.self.view_is) c.requires.pending in
    rw (c.take.ensures.after, c.suspend.ensures.stack, c.suspend.ensures.seen) (
      suspend_kept _ c.suspend.new.body c.args.task c.args.on idle runs pending c.suspend.ensures.after c.suspend.ensures.queue old.0,
      sized _ _ _ _ _ _ _ (size_suspend c.args.task c.args.on _) c.suspend.ensures.after c.suspend.ensures.unnoted old.1,
    )
