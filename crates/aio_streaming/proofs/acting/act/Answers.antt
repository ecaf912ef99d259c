use Rattle.aio_streaming.proofs.Callbacks.{acting_idle, acts_so, taken_owned}
use Rattle.aio_streaming.proofs.acting.act.Goals as goal

pub run-requires-clause-idle : goal.run-requires-clause-idle
run-requires-clause-idle g c =
    acting_idle {a = g.X.Extra.added} c.args.action.now c.args.body.now c.requires.taken c.requires.of_streams

pub run-requires-clause-own : goal.run-requires-clause-own
run-requires-clause-own g c = taken_owned {a = g.X.Extra.added} c.args.action.now c.args.body.now c.requires.taken

pub returns : goal.returns
returns g c = record {
  comes =
      acts_so {a = g.X.Extra.added} c.args.action.now c.args.body.now g.W.Wire.outside c.has_returned-returned.result c.run.new.body
      c.args.wire.now c.run.new.wire c.requires.taken c.requires.of_streams c.has_returned-returned.ensures c.run.result
      c.run.ensures.comes c.run.ensures.frame;
}
