-- The bytes of a script: ASCII without control characters.
-- Source: the Python language reference, "Lexical analysis", cut to ASCII.
use Rattle.std.specs.Prelude.{ℕ, Bool, ◌||◌, ◌==◌}
use Rattle.std.specs.Int.{is_in_range}
use Rattle.std.specs.Char.{is_ascii_alphanumeric}

-- a space, or a letter, digit or mark
abbrev pub is_allowed : ℕ → Bool
is_allowed byte = is_in_range 32 126 byte

-- a letter, a digit or _
abbrev pub is_word : ℕ → Bool
is_word byte = is_ascii_alphanumeric byte || byte == 95

abbrev pub is_space : ℕ → Bool
is_space byte = byte == 32

-- #
abbrev pub is_hash : ℕ → Bool
is_hash byte = byte == 35

-- "
abbrev pub is_quote : ℕ → Bool
is_quote byte = byte == 34

-- \
abbrev pub is_backslash : ℕ → Bool
is_backslash byte = byte == 92
