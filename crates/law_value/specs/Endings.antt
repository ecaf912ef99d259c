-- Where printed texts end: a line at a newline, a literal at its closing quote.
use Rattle.std.specs.Prelude.{ℕ, Bool, true, false, ◌==◌, if◌then◌else◌, List, [], ◌∷◌, Option, Some, None}
use Rattle.std.specs.List.{list_any}

abbrev pub has_newline : List ℕ → Bool
has_newline = list_any (λ byte. byte == 10)

-- what stands behind the quote that closes a literal, read from within it: a backslash takes the byte behind it along
abbrev pub behind_quote : (after_backslash : Bool) → List ℕ → Option (List ℕ)
behind_quote after_backslash [] = None
behind_quote true (byte ∷ bytes) = behind_quote false bytes
behind_quote false (byte ∷ bytes) =
    if byte == 34 then Some bytes else behind_quote (byte == 92) bytes
