use Rattle.aio_step.proofs.Going.{on_end, on_first, on_next, on_suspend, on_serve, on_starved, on_stop, suspends_there}
use Rattle.aio_step.proofs.steps.serve.Goals as goal

pub loop-answered-init : goal.loop-answered-init
loop-answered-init g c = on_first g.X.Extra.added g.W.Wire.outside c.args.task c.args.input c.args.body.now c.args.coroutine c.args.wire.now

pub serve_one-requires : goal.serve_one-requires
serve_one-requires g c =
    let l = c.loop-answered in
    on_serve g.X.Extra.added g.W.Wire.outside c.args.task c.args.input c.args.body.now c.args.coroutine c.args.wire.now l.fresh l.input l.body l.coroutine
    l.wire
    l.invariant c.requires

pub put_back-requires : goal.put_back-requires
put_back-requires g c =
    let l = c.loop-answered in
    suspends_there g.X.Extra.added g.W.Wire.outside c.args.task c.args.input c.args.body.now c.args.coroutine c.args.wire.now l.fresh l.input l.body l.coroutine
    l.wire
    l.invariant c.serve_one.new.body c.serve_one.new.coroutine c.serve_one.new.wire (rw c.in-Ok-Suspends.field-0-is at c.in-Ok-Suspends.ensures)
    c.requires

pub returns-in-Ok-Suspends : goal.returns-in-Ok-Suspends
returns-in-Ok-Suspends g c =
    let l = c.loop-answered in
    on_suspend g.X.Extra.added g.W.Wire.outside c.args.task c.args.input c.args.body.now c.args.coroutine c.args.wire.now l.fresh l.input l.body l.coroutine
    l.wire
    l.invariant c.serve_one.new.body c.serve_one.new.coroutine c.serve_one.new.wire (rw c.in-Ok-Suspends.field-0-is at c.in-Ok-Suspends.ensures)
    c.put_back.new.self c.put_back.ensures.frame c.put_back.ensures.slots

pub returns-in-Ok-Ended : goal.returns-in-Ok-Ended
returns-in-Ok-Ended g c =
    let l = c.loop-answered in
    on_end g.X.Extra.added g.W.Wire.outside c.args.task c.args.input c.args.body.now c.args.coroutine c.args.wire.now l.fresh l.input l.body l.coroutine l.wire
    l.invariant c.serve_one.new.body c.serve_one.new.coroutine c.serve_one.new.wire c.in-Ok-Ended.ended
    (rw c.in-Ok-Ended.field-0-is at c.in-Ok-Ended.ensures)

pub returns-in-Err : goal.returns-in-Err
returns-in-Err g c =
    let l = c.loop-answered in
    on_stop g.X.Extra.added g.W.Wire.outside c.args.task c.args.input c.args.body.now c.args.coroutine c.args.wire.now l.fresh l.input l.body l.coroutine l.wire
    l.invariant c.serve_one.new.body c.serve_one.new.coroutine c.serve_one.new.wire c.in-Err.stop c.in-Err.ensures

pub loop-answered-preserved : goal.loop-answered-preserved
loop-answered-preserved g c =
    let l = c.loop-answered in
    on_next g.X.Extra.added g.W.Wire.outside c.args.task c.args.input c.args.body.now c.args.coroutine c.args.wire.now l.fresh l.input l.body l.coroutine l.wire
    l.invariant c.serve_one.new.body c.serve_one.new.coroutine c.serve_one.new.wire c.in-Ok-Answered.next
    (rw c.in-Ok-Answered.field-0-is at c.in-Ok-Answered.ensures)

pub returns : goal.returns
returns g c =
    let l = c.loop-answered in
    on_starved g.X.Extra.added g.W.Wire.outside c.args.task c.args.input c.args.body.now c.args.coroutine c.args.wire.now l.fresh l.input l.body l.coroutine
    l.wire
    l.invariant l.body
