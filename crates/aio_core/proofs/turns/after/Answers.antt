use Rattle.std.proofs.Common.{sym, subst}
use Rattle.aio_wire.specs.Port.{ported}
use Rattle.aio_body.specs.Asking.{Comes}
use Rattle.aio_core.specs.Turning.{all_below, turning_by}
use Rattle.aio_core.proofs.Following.{after_goes, after_runs_away, after_starves, after_stops, alive_by, alive_ran, woken_to}
use Rattle.aio_core.proofs.turns.after.Goals as goal

pub wake-requires-clause-alive : goal.wake-requires-clause-alive
wake-requires-clause-alive g c = c.requires.alive

pub wake-requires-clause-time : goal.wake-requires-clause-time
wake-requires-clause-time g c = c.requires.time

pub run_below-requires : goal.run_below-requires
run_below-requires g c =
    let answer = c.args.answer.now in
    alive_by c.args.body.now c.wake.new.body (λ d s. all_below d (woken_to answer s)) (woken_to answer) c.requires.alive
    c.in-Ok.ensures

pub end_turn-requires : goal.end_turn-requires
end_turn-requires g c =
    alive_ran g.X.Extra.added g.W.Wire.outside c.args.answer.now c.args.body.now c.wake.new.body c.run_below.new.body c.in-Ok.ensures
    c.args.wire.now
    c.run_below.new.wire (rw c.in-Ok-Goes.field-0-is at c.in-Ok-Goes.ensures) c.requires.alive

pub returns-in-Ok-Goes : goal.returns-in-Ok-Goes
returns-in-Ok-Goes g c =
    subst (Comes _ (turning_by g.X.Extra.added c.args.answer.now c.args.body.now c.end_turn.new.body) (ported c.args.wire.now c.args.body.now.events)
    (ported c.run_below.new.wire c.end_turn.new.body.events)) (sym c.or_stop.ensures)
    (after_goes g.X.Extra.added g.W.Wire.outside c.args.answer.now c.args.body.now c.wake.new.body c.run_below.new.body c.in-Ok.ensures
    c.args.wire.now
    c.run_below.new.wire (rw c.in-Ok-Goes.field-0-is at c.in-Ok-Goes.ensures) c.end_turn.new.body c.end_turn.result c.end_turn.ensures)

pub returns-in-Ok-Runaway : goal.returns-in-Ok-Runaway
returns-in-Ok-Runaway g c =
    after_runs_away g.X.Extra.added g.W.Wire.outside c.args.answer.now c.args.body.now c.wake.new.body c.run_below.new.body
    c.in-Ok.ensures c.args.wire.now
    c.run_below.new.wire c.in-Ok-Runaway.task (rw c.in-Ok-Runaway.field-0-is at c.in-Ok-Runaway.ensures)

pub returns-in-Err-run_below : goal.returns-in-Err-run_below
returns-in-Err-run_below g c =
    after_stops g.X.Extra.added g.W.Wire.outside c.args.answer.now c.args.body.now c.wake.new.body c.run_below.new.body c.in-Ok.ensures
    c.args.wire.now
    c.run_below.new.wire c.in-Err-run_below.stop c.in-Err-run_below.ensures

-- ---- memory was refused before any handle ran
pub returns-in-Err : goal.returns-in-Err
returns-in-Err g c = after_starves g.X.Extra.added g.W.Wire.outside c.args.answer.now c.args.body.now c.wake.new.body c.args.wire.now
