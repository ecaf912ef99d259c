use Rattle.std.proofs.Common.{◌-◌, Some, min, ◌∙◌, sym, ap}
use Rattle.std.specs.Option.{option_map}
use Rattle.model_machine.specs.Turn.{longest_wait}
use Rattle.aio_cancel.specs.Awaitables.{waiting}
use Rattle.aio_ready.specs.Queue as queue
use Rattle.aio_timer.specs.Schedule as schedule
use Rattle.aio_core.proofs.Waking.{wait_busy, wait_idle, waits_for}
use Rattle.aio_core.proofs.turns.wait.Goals as goal

pub returns-then-not-is_empty : goal.returns-then-not-is_empty
returns-then-not-is_empty g c =
    let body = c.args.body.now in
    λ d s h. wait_busy (queue.is_empty (waiting body.parts.queue)) (schedule.first_when body.parts.schedule.live) body.parts.time
    (sym c.is_empty.ensures ∙ c.if-not-is_empty.true) ∙ waits_for d body s h

pub returns-in-Some : goal.returns-in-Some
returns-in-Some g c =
    let body = c.args.body.now in
    let found = sym c.in-Some.is ∙ c.earliest.ensures.first in
    λ d s h. ap Some (c.min.ensures ∙ ap (λ n. min n longest_wait) (c.saturating_sub.ensures ∙ ap (λ n. c.in-Some.when - n)
    c.now.ensures))
    ∙ ap (option_map (λ when. min (when - body.parts.time) longest_wait)) found
    ∙ wait_idle (queue.is_empty (waiting body.parts.queue)) (schedule.first_when body.parts.schedule.live) body.parts.time
    (sym c.is_empty.ensures ∙ c.if-not-is_empty.false) ∙ waits_for d body s h

pub returns-in-None : goal.returns-in-None
returns-in-None g c =
    let body = c.args.body.now in
    let found = sym c.in-None.is ∙ c.earliest.ensures.first in
    λ d s h. ap (option_map (λ when. min (when - body.parts.time) longest_wait)) found
    ∙ wait_idle (queue.is_empty (waiting body.parts.queue)) (schedule.first_when body.parts.schedule.live) body.parts.time
    (sym c.is_empty.ensures ∙ c.if-not-is_empty.false) ∙ waits_for d body s h
