use Rattle.std.proofs.Common.{◌≤◌, sym, subst}
use Rattle.aio_pump.specs.declared.exit.Exited.{Exited}
use Rattle.aio_pump.specs.Exits.{ExitAnswers, ExitPlan}
use Rattle.aio_pump.proofs.Waits.{plan_seen, wait_answers}
use Rattle.aio_pump.proofs.mem_exit.MemExitExitSource.TheImpl.Goals as goal

pub wait-tells : goal.wait-tells
wait-tells c =
    let before = c.args.self.now in
    subst (λ (x : Exited × ExitPlan). ExitAnswers (plan_seen before) x.0 (plan_seen x.1))
    (λ i. (sym c.ensures.answer i, sym c.ensures.after i))
    (wait_answers before (subst (λ (p : ExitPlan). before.faults ≤ p.faults) c.ensures.after c.ensures.monotone))
