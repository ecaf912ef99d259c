-- Literals of texts and of bytes: where one ends, and what its inside says.
-- Source: the Python language reference, "String and Bytes literals", cut to double quotes and six escapes.
use Rattle.std.specs.Prelude.{ℕ, zero, suc, ◌+◌, ◌-◌, ◌*◌, Bool, not, ◌&&◌, List, [], ◌∷◌, length, take, slice_index, Option, Some, None, option_map, Result}
use Rattle.std.specs.Prelude.{Ok, Err, ◌==◌, nat_lt, if◌then◌else◌, codes}
use Rattle.std.specs.Char.{is_ascii_hexdigit, digit_value}
use Rattle.model_text.specs.declared.literal.Literal.{Literal}
use Rattle.model_text.specs.declared.literal.Literal.TheVariants.{OfText, OfBytes}
use Rattle.model_text.specs.Letters.{is_allowed, is_quote, is_backslash}
use Rattle.model_text.specs.Faults.{TokenFault, BadByte, both_or_fault}

-- what a literal begins with
abbrev pub opening : Literal → List ℕ
opening OfText = codes "\""
opening OfBytes = codes "b\""

-- what each byte that a literal says is below
abbrev pub limit : Literal → ℕ
limit OfText = 128
limit OfBytes = 256

-- What stands before the closing quote, which is the first quote that no unpaired backslash stands before; nothing
-- where there is none. The test says whether an unpaired backslash stands before these bytes.
abbrev pub inside_of : Bool → List ℕ → Option (List ℕ)
inside_of unpaired [] = None
inside_of unpaired (byte ∷ bytes) =
    if is_quote byte && not unpaired then Some []
    else option_map (λ inside. byte ∷ inside) (inside_of (is_backslash byte && not unpaired) bytes)

-- The inside is cut into parts: a byte for itself, or a backslash with what belongs to it, three bytes where an x
-- stands behind it and one otherwise.
abbrev pub part_at : ℕ → List ℕ → List ℕ
part_at byte bytes =
    if is_backslash byte then byte ∷ take (if slice_index bytes 0 == 120 then 3 else 1) bytes
    else byte ∷ []

-- the parts of bytes of which the first few belong to the part before them
abbrev pub parts_after : ℕ → List ℕ → List (List ℕ)
parts_after taken [] = []
parts_after zero (byte ∷ bytes) =
    part_at byte bytes ∷ parts_after (length (part_at byte bytes) - 1) bytes
parts_after (suc taken) (byte ∷ bytes) = parts_after taken bytes

abbrev pub parts_of : List ℕ → List (List ℕ)
parts_of inside = parts_after 0 inside

-- \n, \r, \t, \\ and \"
abbrev pub escape_value : ℕ → Option ℕ
escape_value byte =
    if byte == 110 then Some 10
    else (if byte == 114 then Some 13
    else (if byte == 116 then Some 9
    else (if is_backslash byte then Some 92
    else (if is_quote byte then Some 34
    else None))))

-- two hexadecimal digits of either case
abbrev pub hexadecimal_value : ℕ → ℕ → Option ℕ
hexadecimal_value high low =
    if is_ascii_hexdigit high && is_ascii_hexdigit low then Some (16 * digit_value high + digit_value low)
    else None

-- the value, if it is below the bound
abbrev pub value_below : ℕ → Option ℕ → Option ℕ
value_below bound None = None
value_below bound (Some value) = if nat_lt value bound then Some value else None

-- the byte that a part says, if it says one
abbrev pub part_value : Literal → List ℕ → Option ℕ
part_value literal [] = None
part_value literal (byte ∷ []) =
    if is_allowed byte && not (is_quote byte) && not (is_backslash byte) then Some byte
    else None
part_value literal (byte ∷ letter ∷ []) = if is_backslash byte then escape_value letter else None
part_value literal (byte ∷ letter ∷ high ∷ []) = None
part_value literal (byte ∷ letter ∷ high ∷ low ∷ []) =
    if is_backslash byte && letter == 120 then value_below (limit literal) (hexadecimal_value high low)
    else None
part_value literal (byte ∷ letter ∷ high ∷ low ∷ next ∷ others) = None

-- a part alone, which begins in this column
abbrev pub part_bytes : ℕ → Option ℕ → Result (List ℕ) TokenFault
part_bytes column (Some value) = Ok (value ∷ [])
part_bytes column None = Err (BadByte column)

-- What the parts say, of which the first begins in this column, or their first fault.
abbrev pub literal_bytes : Literal → ℕ → List (List ℕ) → Result (List ℕ) TokenFault
literal_bytes literal column [] = Ok []
literal_bytes literal column (part ∷ parts) =
    both_or_fault (part_bytes column (part_value literal part)) (literal_bytes literal (column + length part) parts)
