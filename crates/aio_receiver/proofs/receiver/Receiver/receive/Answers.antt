use Rattle.model_stream.specs.Reading.{feed}
use Rattle.aio_receiver.proofs.Waking.{woken_after}
use Rattle.aio_receiver.proofs.receiver.Receiver.receive.Goals as goal

pub returns-clause-tells : goal.returns-clause-tells
returns-clause-tells c =
    woken_after (feed c.args.piece.now c.args.self.now.reader) c.args.self.now c.feed.new.self c.wake.new.self c.args.parts.now c.wake.new.parts
    c.in_ok-feed.ensures c.wake.ensures.after c.wake.ensures.parts
