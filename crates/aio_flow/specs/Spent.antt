-- The writer that a spent one stands for.
use Rattle.std.specs.Prelude.{[], true, false}
use Rattle.model_stream.specs.Sending.{Writer}
use Rattle.aio_flow.specs.declared.spent.SpentFlow.{SpentFlow}

abbrev pub writer_of : SpentFlow → Writer
writer_of flow =
    record { unsent = []; high = flow.high; low = flow.low; paused = flow.paused; eof = flow.eof; ended = true; whole = false }
