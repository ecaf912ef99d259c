use Rattle.aio_outside.proofs.Replies.{unreplied, err_so, if_unless}
use Rattle.aio_outside.proofs.outside.OutsideWire.ask.Goals as goal

pub returns-clause-unreplied : goal.returns-clause-unreplied
returns-clause-unreplied g c =
    let seen = g.W.Wire.outside.seen in
    unreplied c.args.call.now (seen c.args.self.now.wire) (seen c.ask_any.new.self.wire) c.ask_any.result

pub returns-clause-fails : goal.returns-clause-fails
returns-clause-fails g c fails = absurd fails

pub returns-clause-keeps : goal.returns-clause-keeps
returns-clause-keeps g c = tt

pub returns-clause-quiet : goal.returns-clause-quiet
returns-clause-quiet g c = if_unless c.ask_any.result

pub returns-clause-err : goal.returns-clause-err
returns-clause-err g c = err_so c.ask_any.result _ tt
