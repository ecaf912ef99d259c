-- The receiver that a bare one stands for.
use Rattle.std.specs.Prelude.{None}
use Rattle.model_stream.specs.Receivers.{Receiver}
use Rattle.aio_reader.specs.Bare.{reading_of}
use Rattle.aio_receiver.specs.declared.bare.BareReceiver.{BareReceiver}

abbrev pub receiver_of : BareReceiver → Receiver
receiver_of bare = record { reader = reading_of bare.reader; waiter = None }
