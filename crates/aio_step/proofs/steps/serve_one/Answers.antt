use Rattle.std.proofs.Common.{refl}
use Rattle.aio_step.specs.declared.steps.Served.TheVariants.{Ended}
use Rattle.aio_step.specs.declared.steps.Stepped.TheVariants.{Goes, Runaway}
use Rattle.aio_step.proofs.Resumed.{ask_of, asks_so, asks_stop, ends_so, raises_so, resumes_without, returns_so, runs_so, serve_idle, serve_runs}
use Rattle.aio_step.proofs.steps.serve_one.Goals as goal

-- ---- it asks
pub reply-requires : goal.reply-requires
reply-requires g c =
    ask_of c.args.task c.args.fresh c.args.input c.args.body.now c.args.coroutine.now c.resume.new.self c.in-Ok-Asks.field-0
    c.in-Ok-Asks.ensures.said c.in-Ok-Asks.ensures.stands c.requires c.in-Ok-Asks.request c.in-Ok-Asks.field-0-is

pub returns-in-Ok : goal.returns-in-Ok
returns-in-Ok g c =
    rw c.onward.ensures (asks_so c.args.task c.args.fresh c.args.input c.args.body.now c.args.coroutine.now c.resume.new.self c.in-Ok-Asks.field-0
    c.in-Ok-Asks.ensures.said c.in-Ok-Asks.ensures.stands g.W.Wire.outside c.args.wire.now
    c.in-Ok-Asks.request c.in-Ok-Asks.field-0-is c.reply.new.body c.reply.new.wire c.in-Ok.said c.in-Ok.ensures)

pub returns-in-Err-reply : goal.returns-in-Err-reply
returns-in-Err-reply g c =
    asks_stop c.args.task c.args.fresh c.args.input c.args.body.now c.args.coroutine.now c.resume.new.self c.in-Ok-Asks.field-0
    c.in-Ok-Asks.ensures.said c.in-Ok-Asks.ensures.stands g.W.Wire.outside c.args.wire.now
    c.in-Ok-Asks.request c.in-Ok-Asks.field-0-is c.reply.new.body c.reply.new.wire c.in-Err-reply.stop c.in-Err-reply.ensures

-- ---- it ends
pub finish-requires-clause-idle : goal.finish-requires-clause-idle
finish-requires-clause-idle g c = serve_idle c.args.task c.args.fresh c.args.input c.args.body.now c.args.coroutine.now c.requires

pub finish-requires-clause-running : goal.finish-requires-clause-running
finish-requires-clause-running g c = serve_runs c.args.task c.args.fresh c.args.input c.args.body.now c.args.coroutine.now c.requires

pub finish-requires-in-Ok-Raises-clause-idle : goal.finish-requires-in-Ok-Raises-clause-idle
finish-requires-in-Ok-Raises-clause-idle g c = serve_idle c.args.task c.args.fresh c.args.input c.args.body.now c.args.coroutine.now c.requires

pub finish-requires-in-Ok-Raises-clause-running : goal.finish-requires-in-Ok-Raises-clause-running
finish-requires-in-Ok-Raises-clause-running g c = serve_runs c.args.task c.args.fresh c.args.input c.args.body.now c.args.coroutine.now c.requires

pub returns-in-Ok-Returns : goal.returns-in-Ok-Returns
returns-in-Ok-Returns g c =
    ends_so c.args.task c.args.fresh c.args.input c.args.body.now c.args.coroutine.now c.resume.new.self c.in-Ok-Returns.field-0
    c.in-Ok-Returns.ensures.said c.in-Ok-Returns.ensures.stands g.W.Wire.outside c.args.wire.now
    (record c.args.body.now { parts = c.finish.new.self }) (Ended Goes) refl (λ d s h.
    returns_so c.args.task c.args.fresh c.args.input c.args.body.now c.args.coroutine.now c.resume.new.self c.in-Ok-Returns.field-0
    c.in-Ok-Returns.ensures.said c.in-Ok-Returns.ensures.stands d s h c.in-Ok-Returns.value c.in-Ok-Returns.field-0-is c.finish.new.self c.finish.ensures.after
    c.finish.ensures.queue c.finish.ensures.frame)

pub returns-in-Ok-Raises : goal.returns-in-Ok-Raises
returns-in-Ok-Raises g c =
    ends_so c.args.task c.args.fresh c.args.input c.args.body.now c.args.coroutine.now c.resume.new.self c.in-Ok-Raises.field-0
    c.in-Ok-Raises.ensures.said c.in-Ok-Raises.ensures.stands g.W.Wire.outside c.args.wire.now
    (record c.args.body.now { parts = c.finish-in-Ok-Raises.new.self }) (Ended Goes) refl (λ d s h.
    raises_so c.args.task c.args.fresh c.args.input c.args.body.now c.args.coroutine.now c.resume.new.self c.in-Ok-Raises.field-0
    c.in-Ok-Raises.ensures.said c.in-Ok-Raises.ensures.stands d s h c.in-Ok-Raises.fault c.in-Ok-Raises.field-0-is c.finish-in-Ok-Raises.new.self
    c.finish-in-Ok-Raises.ensures.after c.finish-in-Ok-Raises.ensures.queue c.finish-in-Ok-Raises.ensures.frame)

pub returns-in-Ok-Runaway : goal.returns-in-Ok-Runaway
returns-in-Ok-Runaway g c =
    ends_so c.args.task c.args.fresh c.args.input c.args.body.now c.args.coroutine.now c.resume.new.self c.in-Ok-Runaway.field-0
    c.in-Ok-Runaway.ensures.said c.in-Ok-Runaway.ensures.stands g.W.Wire.outside c.args.wire.now
    c.args.body.now (Ended (Runaway c.args.task)) refl (λ d s h. (
      refl,
      runs_so c.args.task c.args.fresh c.args.input c.args.body.now c.args.coroutine.now c.resume.new.self c.in-Ok-Runaway.field-0
          c.in-Ok-Runaway.ensures.said c.in-Ok-Runaway.ensures.stands d s h c.in-Ok-Runaway.field-0-is,
    ))

pub returns-in-Err : goal.returns-in-Err
returns-in-Err g c =
    resumes_without g.X.Extra.added g.W.Wire.outside c.args.task c.args.fresh c.args.input c.args.body.now c.args.coroutine.now c.resume.new.self
    c.args.wire.now
