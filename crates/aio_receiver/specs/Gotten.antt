-- One look of a read of all, in code and in the definitions.
use Rattle.model_stream.specs.Receivers as plain
use Rattle.aio_receiver.specs.declared.receiver.AllGot.{AllGot}

abbrev pub all_got : AllGot → plain.AllGot
all_got it = record { taken = it.taken; got = it.got }
