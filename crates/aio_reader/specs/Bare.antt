-- The reader that a bare one stands for.
use Rattle.std.specs.Prelude.{[], None}
use Rattle.model_stream.specs.Reading.{Reading}
use Rattle.aio_reader.specs.declared.bare.BareReader.{BareReader}

abbrev pub reading_of : BareReader → Reading
reading_of bare = record { held = []; eof = bare.eof; failed = None; limit = 65536; paused = bare.paused }
