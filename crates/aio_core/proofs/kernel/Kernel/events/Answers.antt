use Rattle.std.proofs.Common.{◌++◌, refl, ap}
use Rattle.aio_wire.specs.EventList.{EventList}
use Rattle.aio_core.proofs.Keeping.{alive_taken, events_taken, stands_up}
use Rattle.aio_core.proofs.kernel.Kernel.events.Goals as goal

pub invariant_of-self : goal.invariant_of-self
invariant_of-self g c = record {
  alive = alive_taken g.X.Extra.added c.args.self.now.ended c.args.self.now.body c.take.new.self c.take.ensures.left c.args.self.now.alive;
}

pub returns-clause-taken : goal.returns-clause-taken
returns-clause-taken g c = ap (λ (l : EventList). l.events) c.take.ensures.taken

pub returns-clause-left : goal.returns-clause-left
returns-clause-left g c = ap (λ (l : EventList). l.events) c.take.ensures.left

pub returns-clause-ended : goal.returns-clause-ended
returns-clause-ended g c = refl

pub returns-clause-tasks : goal.returns-clause-tasks
returns-clause-tasks g c = refl

pub returns-clause-stands : goal.returns-clause-stands
returns-clause-stands g c =
    let body = c.args.self.now.body in
    λ past answers s h. stands_up (past ++ body.events.events) answers _ s h.goes
    (events_taken past answers body c.take.new.self s c.take.ensures.left h.rests)
