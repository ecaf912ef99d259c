-- What a code asks for, how often a request waits again, and what a wait's outcome tells.
use Rattle.std.specs.Prelude.{ℕ, ℤ, pos, List, slice_get, if◌then◌else◌}
use Rattle.std.specs.Option.{option_map_or}
use Rattle.std.specs.Ordering.{int_eq}
use Rattle.model_value.specs.Value.{Value, Nothing as no_value, Int}
use Rattle.try_loop.specs.declared.next_turn.Wanted.{Wanted}
use Rattle.try_loop.specs.declared.next_turn.Wanted.TheVariants.{Seven, Wait, Waits, Several, Nothing}

abbrev pub wanted_by : ℤ → Wanted
wanted_by code =
    if int_eq code (pos 1) then Seven
    else (if int_eq code (pos 2) then Wait else (if int_eq code (pos 10) then Waits else (if int_eq code (pos 11) then Several else Nothing)))

abbrev pub left_at : List ℕ → (key : ℕ) → ℕ
left_at left key = option_map_or (λ (times : ℕ). times) (slice_get left key) 0

-- an Int, or None in the place of any other value
abbrev pub told : Value → Value
told (Int number) = Int number
told _ = no_value
