-- The lines of a text: each ends at a newline, which is no part of it; the last may lack its newline.
-- A text of no bytes has no lines. Source: the library reference, `io`, with the newline byte alone.
use Rattle.std.specs.Prelude.{ℕ, List, [], ◌∷◌, ◌==◌, if◌then◌else◌}

-- lines with a byte at the front of the first
abbrev pub fronted : ℕ → List (List ℕ) → List (List ℕ)
fronted byte [] = (byte ∷ []) ∷ []
fronted byte (line ∷ lines) = (byte ∷ line) ∷ lines

abbrev pub lines_of : List ℕ → List (List ℕ)
lines_of [] = []
lines_of (byte ∷ bytes) = if byte == 10 then [] ∷ lines_of bytes else fronted byte (lines_of bytes)
