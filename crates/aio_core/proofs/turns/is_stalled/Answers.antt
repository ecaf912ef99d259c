use Rattle.std.proofs.Common.{◌∙◌, sym}
use Rattle.model_machine.specs.Turn.{watched_by}
use Rattle.aio_cancel.specs.Awaitables.{waiting}
use Rattle.aio_ready.specs.Queue as queue
use Rattle.aio_timer.specs.Schedule as schedule
use Rattle.aio_core.proofs.Waking.{stall_else, stall_then, stall_timer, stalls_so}
use Rattle.aio_core.proofs.turns.is_stalled.Goals as goal

pub returns-then-not-is_empty : goal.returns-then-not-is_empty
returns-then-not-is_empty g c =
    let body = c.args.body.now in
    λ d s h. stall_else (queue.is_empty (waiting body.parts.queue)) (schedule.first_when body.parts.schedule.live)
    (watched_by g.X.Extra.added.meaning s) (sym c.is_empty.ensures ∙ c.if-not-is_empty.true) ∙ stalls_so d body s h

pub returns-then-is_none : goal.returns-then-is_none
returns-then-is_none g c =
    let body = c.args.body.now in
    λ d s h. stall_then (queue.is_empty (waiting body.parts.queue)) (schedule.first_when body.parts.schedule.live)
    c.earliest.result
    c.is_none.result (watched_by g.X.Extra.added.meaning s) (sym c.is_empty.ensures ∙ c.if-not-is_empty.false)
    c.earliest.ensures.first
    c.is_none.ensures c.is_watched.result c.if-is_none.true (c.is_watched.ensures d s h) ∙ stalls_so d body s h

pub returns-else-is_none : goal.returns-else-is_none
returns-else-is_none g c =
    let body = c.args.body.now in
    λ d s h. c.if-is_none.false ∙ stall_timer (queue.is_empty (waiting body.parts.queue))
    (schedule.first_when body.parts.schedule.live)
    c.earliest.result c.is_none.result (watched_by g.X.Extra.added.meaning s) (sym c.is_empty.ensures ∙ c.if-not-is_empty.false)
    c.earliest.ensures.first c.is_none.ensures c.if-is_none.false ∙ stalls_so d body s h
