use Rattle.std.proofs.Common.{sym, subst}
use Rattle.algorithm_flat.specs.Tapes.{ComesTo}
use Rattle.algorithm_flat.proofs.Nearer.{goes-nearer}
use Rattle.algorithm_flat.proofs.Tapes.{move-comes}
use Rattle.aio_flat.specs.Code.{codes_of}
use Rattle.aio_gen.specs.Plain.{plain_frames}
use Rattle.aio_gen.proofs.Running.{forward-in, size_of, within}
use Rattle.aio_gen.proofs.run.run.Goals as goal

pub loop-frames-smaller : goal.loop-frames-smaller
loop-frames-smaller c =
    let code = c.args.code.now in
    let frames = c.loop-frames.frames in
    let move = rw c.in-Goes.is at c.in_ok-next.ensures in
    goes-nearer (codes_of code) (codes_of code frames.frame.coroutine) (forward-in code.bodies.items frames.frame.coroutine)
    (size_of code.bodies.items) (within code.bodies.items frames.frame.coroutine) c.loop-frames.way c.in-Goes.next
    (plain_frames frames) (plain_frames c.step_in.new.frames) (sym move)

pub loop-frames-preserved : goal.loop-frames-preserved
loop-frames-preserved c = λ limit program coroutine arguments tape laid_out moves.
    let codes = codes_of c.args.code.now in
    let move = rw c.in-Goes.is at c.in_ok-next.ensures in
    subst (ComesTo limit program codes coroutine arguments tape) (sym move)
    (move-comes limit program codes coroutine arguments laid_out tape c.loop-frames.way (plain_frames c.loop-frames.frames)
    (c.loop-frames.invariant limit program coroutine arguments tape laid_out moves))

pub returns-in-Asks : goal.returns-in-Asks
returns-in-Asks c = λ limit program coroutine arguments tape laid_out moves.
    let codes = codes_of c.args.code.now in
    let move = rw c.in-Asks.is at c.in_ok-next.ensures in
    subst (ComesTo limit program codes coroutine arguments tape) (sym move)
    (move-comes limit program codes coroutine arguments laid_out tape c.loop-frames.way (plain_frames c.loop-frames.frames)
    (c.loop-frames.invariant limit program coroutine arguments tape laid_out moves))

pub returns-in-Returns : goal.returns-in-Returns
returns-in-Returns c = λ limit program coroutine arguments tape laid_out moves.
    let codes = codes_of c.args.code.now in
    let move = rw c.in-Returns.is at c.in_ok-next.ensures in
    subst (ComesTo limit program codes coroutine arguments tape) (sym move)
    (move-comes limit program codes coroutine arguments laid_out tape c.loop-frames.way (plain_frames c.loop-frames.frames)
    (c.loop-frames.invariant limit program coroutine arguments tape laid_out moves))

pub returns-in-Raises : goal.returns-in-Raises
returns-in-Raises c = λ limit program coroutine arguments tape laid_out moves.
    let codes = codes_of c.args.code.now in
    let move = rw c.in-Raises.is at c.in_ok-next.ensures in
    subst (ComesTo limit program codes coroutine arguments tape) (sym move)
    (move-comes limit program codes coroutine arguments laid_out tape c.loop-frames.way (plain_frames c.loop-frames.frames)
    (c.loop-frames.invariant limit program coroutine arguments tape laid_out moves))

pub returns-in-Runaway : goal.returns-in-Runaway
returns-in-Runaway c = λ limit program coroutine arguments tape laid_out moves.
    let codes = codes_of c.args.code.now in
    let move = rw c.in-Runaway.is at c.in_ok-next.ensures in
    subst (ComesTo limit program codes coroutine arguments tape) (sym move)
    (move-comes limit program codes coroutine arguments laid_out tape c.loop-frames.way (plain_frames c.loop-frames.frames)
    (c.loop-frames.invariant limit program coroutine arguments tape laid_out moves))
