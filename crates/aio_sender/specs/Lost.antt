-- The sender that a lost one stands for.
use Rattle.std.specs.Prelude.{[]}
use Rattle.model_stream.specs.declared.phase.Phase.TheVariants as phase
use Rattle.model_stream.specs.Senders.{Sender}
use Rattle.aio_flow.specs.Spent.{writer_of}
use Rattle.aio_sender.specs.declared.lost.LostSender.{LostSender}

abbrev pub sender_of : LostSender → Sender
sender_of lost =
    record { writer = writer_of lost.flow; drains = []; phase = phase.Lost lost.broken; closed_future = lost.closed }
