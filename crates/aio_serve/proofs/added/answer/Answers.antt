use Rattle.aio_serve.proofs.Adding.{on_answer, on_end, on_first, on_next, on_starved, on_stop}
use Rattle.aio_serve.proofs.added.answer.Goals as goal

pub loop-woken-init : goal.loop-woken-init
loop-woken-init g c = on_first g.X.Extra.added g.W.Wire.outside c.args.task c.args.asked c.args.body.now c.args.wire.now

pub answer_one-requires : goal.answer_one-requires
answer_one-requires g c =
    let l = c.loop-woken in
    on_answer g.X.Extra.added g.W.Wire.outside c.args.task c.args.asked c.args.body.now c.args.wire.now l.asked l.body l.wire l.invariant c.requires

pub loop-woken-preserved : goal.loop-woken-preserved
loop-woken-preserved g c =
    let l = c.loop-woken in
    on_next g.X.Extra.added g.W.Wire.outside c.args.task c.args.asked c.args.body.now c.args.wire.now l.asked l.body l.wire l.invariant
    c.answer_one.new.body c.answer_one.new.wire c.in-Ok-Again.next (rw c.in-Ok-Again.field-0-is at c.in-Ok-Again.ensures)

pub returns-in-Ok-Replies : goal.returns-in-Ok-Replies
returns-in-Ok-Replies g c =
    let l = c.loop-woken in
    on_end g.X.Extra.added g.W.Wire.outside c.args.task c.args.asked c.args.body.now c.args.wire.now l.asked l.body l.wire l.invariant
    c.answer_one.new.body c.answer_one.new.wire c.in-Ok-Replies.said (rw c.in-Ok-Replies.field-0-is at c.in-Ok-Replies.ensures)

pub returns-in-Err : goal.returns-in-Err
returns-in-Err g c =
    let l = c.loop-woken in
    on_stop g.X.Extra.added g.W.Wire.outside c.args.task c.args.asked c.args.body.now c.args.wire.now l.asked l.body l.wire l.invariant
    c.answer_one.new.body c.answer_one.new.wire c.in-Err.stop c.in-Err.ensures

pub returns : goal.returns
returns g c =
    let l = c.loop-woken in
    on_starved g.X.Extra.added g.W.Wire.outside c.args.task c.args.asked c.args.body.now c.args.wire.now l.asked l.body l.wire l.invariant l.body
