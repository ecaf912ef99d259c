use Rattle.model_value.specs.declared.input.Input.TheVariants.{Send, Throw}
use Rattle.aio_body.specs.declared.reply.RequestReply.TheVariants.{Answers, Raises}
use Rattle.aio_step.proofs.First.{answers_first, raises_first}
use Rattle.aio_step.proofs.Ready.{decide_hears, decide_of}
use Rattle.aio_step.proofs.Whole.{decides_stop, serve_of, serves_on, waits_on, waits_there}
use Rattle.aio_step.proofs.steps.step.Goals as goal

pub begin-coroutine-requires : goal.begin-coroutine-requires
begin-coroutine-requires g c = c.requires.called

pub decide-requires-clause-made : goal.decide-requires-clause-made
decide-requires-clause-made g c =
    decide_hears c.args.task c.args.input c.args.body.now c.begin-coroutine.new.body c.begin-coroutine.result c.requires.called c.requires.made
    c.begin-coroutine.ensures

pub decide-requires-clause-deciding : goal.decide-requires-clause-deciding
decide-requires-clause-deciding g c =
    decide_of c.args.task c.args.input c.args.body.now c.begin-coroutine.new.body c.begin-coroutine.result c.requires.called c.begin-coroutine.ensures

pub serve-requires : goal.serve-requires
serve-requires g c =
    serve_of g.X.Extra.added g.W.Wire.outside c.args.task c.args.input c.args.body.now c.requires.made c.begin-coroutine.result c.begin-coroutine.new.body
    c.begin-coroutine.ensures c.args.wire.now c.decide.new.body c.decide.new.wire (Answers c.in-Ok-Answers.value) (Send c.in-Ok-Answers.value)
    (λ d e s h b says. answers_first c.args.task c.args.input d c.args.body.now s h c.requires.made c.begin-coroutine.result c.begin-coroutine.new.body b e
    c.decide.new.body c.in-Ok-Answers.value says) (rw c.in-Ok-Answers.field-0-is at c.in-Ok-Answers.ensures) c.requires.called

pub serve-requires-in-Ok-Raises : goal.serve-requires-in-Ok-Raises
serve-requires-in-Ok-Raises g c =
    serve_of g.X.Extra.added g.W.Wire.outside c.args.task c.args.input c.args.body.now c.requires.made c.begin-coroutine.result c.begin-coroutine.new.body
    c.begin-coroutine.ensures c.args.wire.now c.decide.new.body c.decide.new.wire (Raises c.in-Ok-Raises.fault) (Throw c.in-Ok-Raises.fault)
    (λ d e s h b says. raises_first c.args.task c.args.input d c.args.body.now s h c.requires.made c.begin-coroutine.result c.begin-coroutine.new.body b e
    c.decide.new.body c.in-Ok-Raises.fault says) (rw c.in-Ok-Raises.field-0-is at c.in-Ok-Raises.ensures) c.requires.called

pub put_back-requires : goal.put_back-requires
put_back-requires g c =
    waits_there g.X.Extra.added g.W.Wire.outside c.args.task c.args.input c.args.body.now c.requires.made c.begin-coroutine.result c.begin-coroutine.new.body
    c.begin-coroutine.ensures c.args.wire.now c.decide.new.body c.decide.new.wire (rw c.in-Ok-Suspends.field-0-is at c.in-Ok-Suspends.ensures) c.requires.called

pub returns-in-Ok-Answers : goal.returns-in-Ok-Answers
returns-in-Ok-Answers g c =
    serves_on g.X.Extra.added g.W.Wire.outside c.args.task c.args.input c.args.body.now c.requires.made c.begin-coroutine.result c.begin-coroutine.new.body
    c.begin-coroutine.ensures c.args.wire.now c.decide.new.body c.decide.new.wire (Answers c.in-Ok-Answers.value) (Send c.in-Ok-Answers.value)
    (λ d e s h b says. answers_first c.args.task c.args.input d c.args.body.now s h c.requires.made c.begin-coroutine.result c.begin-coroutine.new.body b e
    c.decide.new.body c.in-Ok-Answers.value says) (rw c.in-Ok-Answers.field-0-is at c.in-Ok-Answers.ensures)
    c.serve.new.body c.serve.new.wire c.serve.result c.serve.ensures

pub returns-in-Ok-Raises : goal.returns-in-Ok-Raises
returns-in-Ok-Raises g c =
    serves_on g.X.Extra.added g.W.Wire.outside c.args.task c.args.input c.args.body.now c.requires.made c.begin-coroutine.result c.begin-coroutine.new.body
    c.begin-coroutine.ensures c.args.wire.now c.decide.new.body c.decide.new.wire (Raises c.in-Ok-Raises.fault) (Throw c.in-Ok-Raises.fault)
    (λ d e s h b says. raises_first c.args.task c.args.input d c.args.body.now s h c.requires.made c.begin-coroutine.result c.begin-coroutine.new.body b e
    c.decide.new.body c.in-Ok-Raises.fault says) (rw c.in-Ok-Raises.field-0-is at c.in-Ok-Raises.ensures)
    c.serve-in-Ok-Raises.new.body c.serve-in-Ok-Raises.new.wire c.serve-in-Ok-Raises.result c.serve-in-Ok-Raises.ensures

pub returns-in-Ok-Suspends : goal.returns-in-Ok-Suspends
returns-in-Ok-Suspends g c =
    waits_on g.X.Extra.added g.W.Wire.outside c.args.task c.args.input c.args.body.now c.requires.made c.begin-coroutine.result c.begin-coroutine.new.body
    c.begin-coroutine.ensures c.args.wire.now c.decide.new.body c.decide.new.wire (rw c.in-Ok-Suspends.field-0-is at c.in-Ok-Suspends.ensures)
    c.put_back.new.self c.put_back.ensures.frame c.put_back.ensures.slots

pub returns-in-Err : goal.returns-in-Err
returns-in-Err g c =
    decides_stop g.X.Extra.added g.W.Wire.outside c.args.task c.args.input c.args.body.now c.requires.made c.begin-coroutine.result c.begin-coroutine.new.body
    c.begin-coroutine.ensures c.args.wire.now c.decide.new.body c.decide.new.wire c.in-Err.stop c.in-Err.ensures
