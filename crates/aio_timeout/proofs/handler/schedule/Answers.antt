use Rattle.std.proofs.Common.{◌≡◌, ◌<◌, ◌≤◌, ℕ, Option, sym, ap, subst, ◌∙◌, arith}
use Rattle.std.proofs.lemmas.Result.{IfOk-weaker}
use Rattle.aio_task.specs.Keeps.{Keeps}
use Rattle.aio_task.specs.View.{View}
use Rattle.aio_timeout.specs.Scheduled.{Made, fires_if, tag_if}
use Rattle.aio_timeout.proofs.Handlers.{made_in_time, made_later}
use Rattle.aio_timeout.proofs.handler.schedule.Goals as goal

pub returns-then-over-clause-after : goal.returns-then-over-clause-after
returns-then-over-clause-after c =
    let time : c.now.result ≡ c.args.parts.now.time = c.now.ensures ∙ ap (λ (v : View). v.time) c.ticket.ensures in
    let over : c.in-Some.when ≤ c.args.parts.now.time = omega arith in
    IfOk-weaker c.call_soon.result _ _ (λ handler made t p keeps.
    subst (λ (when : Option ℕ). Made t p handler c.call_soon.new.parts (fires_if c.args.id when p) (tag_if when p)) (sym c.in-Some.is)
    (made_in_time t c.args.parts.now c.call_soon.new.parts p handler c.args.id c.in-Some.when keeps over
    (made t p (subst (λ (v : View). Keeps t v p) (sym c.ticket.ensures) keeps)))) c.call_soon.ensures.after

pub returns-else-over-clause-after : goal.returns-else-over-clause-after
returns-else-over-clause-after c =
    let time : c.now.result ≡ c.args.parts.now.time = c.now.ensures ∙ ap (λ (v : View). v.time) c.ticket.ensures in
    let waits : c.args.parts.now.time < c.in-Some.when = omega arith in
    IfOk-weaker c.call_at.result _ _ (λ handler made t p keeps.
    subst (λ (when : Option ℕ). Made t p handler c.call_at.new.parts (fires_if c.args.id when p) (tag_if when p)) (sym c.in-Some.is)
    (made_later t c.args.parts.now c.call_at.new.parts p handler c.args.id c.in-Some.when keeps waits
    (made t p (subst (λ (v : View). Keeps t v p) (sym c.ticket.ensures) keeps)))) c.call_at.ensures.after
