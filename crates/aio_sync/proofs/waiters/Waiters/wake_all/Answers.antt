use Rattle.std.proofs.Common.{◌≡◌, true, map, ap, sym, subst, ◌∙◌}
use Rattle.model_sync.specs.Synced.{wakes}
use Rattle.aio_task.specs.View.{View}
use Rattle.refine_added.specs.Seen.{SeesAll}
use Rattle.aio_sync.specs.Woken.{are_free}
use Rattle.aio_sync.proofs.Resolved.{free_woken, seen_next, tail_free}
use Rattle.aio_sync.proofs.waiters.Waiters.wake_all.Goals as goal

pub loop-waiter-preserved : goal.loop-waiter-preserved
loop-waiter-preserved c =
    let l = c.loop-waiter in
    let waiter = c.in-Some.waiter.now in
    let rest = c.next.new.self in
    let steps = c.in-Some.ensures.steps in
    record {
      idle = ap (λ (v : View). v.called) c.wake.ensures ∙ l.invariant.idle;
      free = ap (λ (v : View). are_free v.futures rest) c.wake.ensures ∙ free_woken waiter l.parts rest
          ∙ tail_free l.parts.futures waiter rest (subst (λ ids. are_free l.parts.futures ids ≡ true) steps l.invariant.free);
      rest = λ known w seen.
          l.invariant.rest known w (subst (λ ids. SeesAll known (map wakes ids) l.parts w) (sym steps)
          (seen_next known waiter rest l.parts c.wake.new.parts w c.wake.ensures seen));
    }
