-- The text of literals and of texts that are printed, byte by byte. No printed byte is a newline, and inside a literal
-- no quote stands without a backslash before it.
use Rattle.std.specs.Prelude.{ℕ, ◌+◌, ◌/◌, ◌%◌, Bool, true, false, ◌&&◌, ◌||◌, ◌==◌, nat_lt, nat_le, if◌then◌else◌, List, [], ◌∷◌, ◌++◌}
use Rattle.std.specs.List.{flat_map}
use Rattle.model_value.specs.declared.place.Place.{Place}
use Rattle.model_value.specs.declared.place.Place.TheVariants.{Bare, InText, InBytes}

abbrev pub is_quoted : Place → Bool
is_quoted Bare = false
is_quoted InText = true
is_quoted InBytes = true

-- Texts keep their bytes from 0x80 on, which are parts of characters; bytes are no characters.
abbrev pub is_bytes : Place → Bool
is_bytes Bare = false
is_bytes InText = false
is_bytes InBytes = true

-- the lower-case digit of a number below 16
abbrev pub hex_digit : ℕ → ℕ
hex_digit d = if nat_lt d 10 then 48 + d else 87 + d

-- a backslash and a letter or sign
abbrev pub behind_backslash : ℕ → List ℕ
behind_backslash b = 92 ∷ b ∷ []

-- a backslash, an x and two digits
abbrev pub hex_escape : ℕ → List ℕ
hex_escape b = 92 ∷ 120 ∷ hex_digit (b / 16) ∷ hex_digit (b % 16) ∷ []

-- `\n`, `\r`, `\t`, `\\` everywhere, `\"` in literals, `\xhh` for what can't be printed, and else the byte
abbrev pub escaped_byte : Place → ℕ → List ℕ
escaped_byte place b =
    if b == 10 then behind_backslash 110
    else (if b == 13 then behind_backslash 114
    else (if b == 9 then behind_backslash 116
    else (if b == 92 then behind_backslash 92
    else (if (b == 34) && is_quoted place then behind_backslash 34
    else (if nat_lt b 32 || (b == 127) || (nat_le 128 b && is_bytes place) then hex_escape b
    else b ∷ [])))))

abbrev pub escaped : Place → List ℕ → List ℕ
escaped place = flat_map (escaped_byte place)

-- `"..."`
abbrev pub text_literal : List ℕ → List ℕ
text_literal bytes = 34 ∷ (escaped InText bytes ++ 34 ∷ [])

-- `b"..."`
abbrev pub bytes_literal : List ℕ → List ℕ
bytes_literal bytes = 98 ∷ 34 ∷ (escaped InBytes bytes ++ 34 ∷ [])
