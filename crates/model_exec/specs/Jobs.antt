-- Jobs: what one comes to, by its kind and its bytes, and how a loop and what is outside tell each other of it.
use Rattle.std.specs.Prelude.{ℕ, ◌+◌, ◌/◌, ◌%◌, ◌==◌, ℤ, pos, negsuc, Bool, false, ◌&&◌, List, [], ◌∷◌, count_by, length, nat_le, reverse}
use Rattle.std.specs.Prelude.{if◌then◌else◌}
use Rattle.std.specs.Fmt.{decimal}
use Rattle.std.specs.List.{flat_map}
use Rattle.model_value.specs.Escapes.{hex_digit}

-- ---- what a job is
abbrev pub is_kind : ℤ → Bool
is_kind (pos kind) = nat_le 1 kind && nat_le kind 3
is_kind (negsuc before) = false

-- the greatest number of bytes that a job is given, so that what it comes to fits one turn
abbrev pub most_input : ℕ
most_input = 131000

abbrev pub is_job : (kind : ℤ) (input : List ℕ) → Bool
is_job kind input = is_kind kind && nat_le (length input) most_input

-- two lower-case digits for each byte
abbrev pub hexadecimal : List ℕ → List ℕ
hexadecimal input = flat_map (λ byte. hex_digit (byte / 16) ∷ hex_digit (byte % 16) ∷ []) input

-- how many newlines there are
abbrev pub newlines : List ℕ → ℕ
newlines input = count_by (λ byte. byte == 10) input

-- Of kind 1 the bytes from the last to the first, of kind 2 the bytes in hexadecimal, of kind 3 the number of newlines in decimal.
abbrev pub job : (kind : ℤ) (input : List ℕ) → List ℕ
job (pos kind) input =
    if kind == 1 then reverse input
    else (if kind == 2 then hexadecimal input
    else (if kind == 3 then decimal (newlines input) else []))
job (negsuc before) input = []

-- ---- how it is told of
-- the code of the request, and of what is asked and told
abbrev pub job_code : ℕ
job_code = 300

-- the kind's one digit, a space and the bytes
abbrev pub job_text : (kind : ℤ) (input : List ℕ) → List ℕ
job_text (pos kind) input = (48 + kind) ∷ 32 ∷ input
job_text (negsuc before) input = []
