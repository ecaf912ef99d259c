use Rattle.model_stream.specs.Reading.{feed_eof}
use Rattle.aio_receiver.proofs.Waking.{woken_after}
use Rattle.aio_receiver.proofs.receiver.Receiver.receive_end.Goals as goal

pub returns-clause-tells : goal.returns-clause-tells
returns-clause-tells c =
    woken_after (feed_eof c.args.self.now.reader) c.args.self.now c.feed_eof.new.self c.wake.new.self c.args.parts.now c.wake.new.parts
    c.feed_eof.ensures c.wake.ensures.after c.wake.ensures.parts
