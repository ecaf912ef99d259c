-- Writers with a high mark of 8 and a low one of 2.
use Rattle.std.specs.Prelude.{ℕ, Bool, true, false, List}
use Rattle.model_stream.specs.Sending.{Writer}

abbrev pub writer : (unsent : List ℕ) (paused : Bool) → Writer
writer unsent paused =
    record { unsent = unsent; high = 8; low = 2; paused = paused; eof = false; ended = false; whole = false }

abbrev pub child_writer : (unsent : List ℕ) (paused : Bool) → Writer
child_writer unsent paused = record (writer unsent paused) { whole = true }
