-- A child that is over: nothing more comes of it.
use Rattle.std.specs.Prelude.{Bool, ◌&&◌, is_some}
use Rattle.model_stream.specs.Children.{Child}
use Rattle.model_stream.specs.Senders.{is_lost}

-- its standard input is lost, both pipes ended, and its exit is known
abbrev pub is_over : Child → Bool
is_over p = is_lost p.stdin && p.out.reader.eof && p.errs.reader.eof && is_some p.code
