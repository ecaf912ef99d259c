-- The lines of a script's text. A carriage return right before a newline is dropped.
-- Source: the Python language reference, "Physical lines".
use Rattle.std.specs.Prelude.{ℕ, ◌==◌, ◌&&◌, List, [], ◌∷◌, slice_index, if◌then◌else◌}
use Rattle.model_value.specs.Lines.{lines_of}

-- the text without the carriage returns that stand right before a newline
abbrev pub without_returns : List ℕ → List ℕ
without_returns [] = []
without_returns (byte ∷ bytes) =
    if (byte == 13) && (slice_index bytes 0 == 10) then without_returns bytes else byte ∷ without_returns bytes

abbrev pub text_lines : List ℕ → List (List ℕ)
text_lines text = lines_of (without_returns text)
