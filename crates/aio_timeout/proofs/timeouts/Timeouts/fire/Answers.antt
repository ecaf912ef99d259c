use Rattle.std.proofs.Common.{◌<◌, ℕ, List, length, refl, sym, ap, subst, ◌∙◌}
use Rattle.model_loop.specs.Cancel.{cancel}
use Rattle.aio_task.specs.View.{View, parts}
use Rattle.aio_timeout.specs.declared.timeout.Timeout.{Timeout}
use Rattle.aio_timeout.specs.Kept.{KeepsTimeouts}
use Rattle.aio_timeout.proofs.Below.{below_appended}
use Rattle.aio_timeout.proofs.Keeping.{fired, given_up_at}
use Rattle.aio_timeout.proofs.timeouts.Timeouts.fire.Goals as goal

pub returns-clause-after : goal.returns-clause-after
returns-clause-after c = λ t l keeps.
    let items = c.self.inside.items.items in
    let v = c.args.parts.now in
    fired t l items v c.args.id c.index-timeout.result.now (subst (λ (its : List Timeout). KeepsTimeouts t its v l) (sym c.self.view_is) keeps)
    (subst (λ (its : List Timeout). c.args.id < length its) (sym c.self.view_is) c.requires.live) c.index-timeout.ensures c.cancel-answer.new.self
    (record {
      parts = c.cancel-answer.ensures.after ∙ ap (λ (target : ℕ). (cancel target (parts v)).parts) c.future_of.ensures;
      queue = c.cancel-answer.ensures.queue;
      time = ap (λ (x : View). x.time) c.cancel-answer.ensures.frame;
      schedule = ap (λ (x : View). x.schedule) c.cancel-answer.ensures.frame;
    })

pub returns-clause-given_up : goal.returns-clause-given_up
returns-clause-given_up c = given_up_at c.self.inside.items.items c.args.id _ refl

pub returns-clause-below : goal.returns-clause-below
returns-clause-below c = below_appended c.args.parts.now.queue c.cancel-answer.new.self.queue c.cancel-answer.ensures.queue
