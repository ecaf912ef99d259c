-- Readers with a limit of 4.
use Rattle.std.specs.Prelude.{ℕ, true, false, List, Some, None}
use Rattle.model_value.specs.Value.{Exc}
use Rattle.model_stream.specs.Reading.{Reading}

-- one that holds these bytes
abbrev pub reader : List ℕ → Reading
reader held = record { held = held; eof = false; failed = None; limit = 4; paused = false }

-- the end came behind them
abbrev pub ended : List ℕ → Reading
ended held = record (reader held) { eof = true }

-- no more is received for now
abbrev pub paused : List ℕ → Reading
paused held = record (reader held) { paused = true }

-- the connection was lost
abbrev pub failed : List ℕ → Exc → Reading
failed held fault = record (reader held) { failed = Some fault }
