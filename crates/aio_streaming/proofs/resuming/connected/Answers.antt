use Rattle.std.proofs.Common.{refl}
use Rattle.model_machine.specs.State.{Connecting}
use Rattle.aio_streaming.proofs.Resumes.{connect_answers, connect_raises, deciding_idle, deciding_owned}
use Rattle.aio_streaming.proofs.resuming.connected.Goals as goal

pub drop_made-requires-clause-idle : goal.drop_made-requires-clause-idle
drop_made-requires-clause-idle g c = deciding_idle g.X.Extra.added c.args.task (Connecting c.args.conn) c.args.body.now c.requires

pub drop_made-requires-clause-own : goal.drop_made-requires-clause-own
drop_made-requires-clause-own g c = deciding_owned g.X.Extra.added c.args.task (Connecting c.args.conn) c.args.body.now c.requires

pub returns-in-Send : goal.returns-in-Send
returns-in-Send g c = record {
  comes =
      rw c.in-Send.is (connect_answers g.X.Extra.added c.args.task (Connecting c.args.conn) c.args.body.now g.W.Wire.outside
      c.in-Send.value c.args.wire.now (λ s. refl));
}

pub returns-in-Throw : goal.returns-in-Throw
returns-in-Throw g c = record {
  comes =
      rw (c.thrown.ensures, c.in-Throw.is) (connect_raises g.X.Extra.added c.args.task (Connecting c.args.conn) c.args.body.now g.W.Wire.outside c.requires
      c.drop_made.new.body c.args.wire.now c.drop_made.new.wire c.args.conn c.in-Throw.fault (λ s. refl)
      c.drop_made.ensures.frame c.drop_made.result
      c.drop_made.ensures.comes);
}
