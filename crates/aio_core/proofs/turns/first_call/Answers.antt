use Rattle.std.proofs.Common.{refl, ◌∙◌, ap}
use Rattle.model_machine.specs.Outside.{select}
use Rattle.model_machine.specs.Turn.{wait_of}
use Rattle.aio_core.proofs.turns.first_call.Goals as goal

pub returns-clause-call : goal.returns-clause-call
returns-clause-call g c =
    λ d s h. ap (λ wait. select wait c.in_ok-watch.watch) (c.wait-wait.ensures d s h)
    ∙ ap (select (wait_of s.loop.parts)) (c.in_ok-watch.ensures.list d s h)

pub returns-clause-shape : goal.returns-clause-shape
returns-clause-shape g c = (c.wait-wait.result, (c.in_ok-watch.watch, refl))

pub returns-clause-stands : goal.returns-clause-stands
returns-clause-stands g c = c.in_ok-watch.ensures.stands
