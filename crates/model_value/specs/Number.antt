-- Numbers in decimal digits. Source: the language reference, "Integer literals", without underscores.
use Rattle.std.specs.Prelude.{ℕ, ◌+◌, ◌-◌, ◌*◌, Bool, ◌&&◌, List, length, Option, Some, None, nat_le, nat_lt, fold, if◌then◌else◌}
use Rattle.std.specs.List.{list_all}

abbrev pub is_digit : ℕ → Bool
is_digit byte = nat_le 48 byte && nat_le byte 57

-- the greatest number of a script: 9,223,372,036,854,775,807
abbrev pub most : ℕ
most = 0x7FFF_FFFF_FFFF_FFFF

-- what digits stand for
abbrev pub digits_value : List ℕ → ℕ
digits_value digits = fold (λ value digit. 10 * value + (digit - 48)) 0 digits

-- the number that a text of digits alone stands for, where it is no greater than a script's greatest
abbrev pub number_of : List ℕ → Option ℕ
number_of digits =
    if nat_lt 0 (length digits) && list_all is_digit digits && nat_le (digits_value digits) most
    then Some (digits_value digits) else None
