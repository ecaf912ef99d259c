-- What is said under a number, and what changes of it leave.
use Rattle.std.specs.Prelude.{ℕ, ◌+◌, ◌*◌, ◌^◌, ◌≤◌, ◌≡◌, ◌==◌, Bool, true, false, List, [], ◌∷◌, Option, Some, None, if◌then◌else◌}
use Rattle.std.specs.Option.{option_map}

abbrev pub found : ℕ → List (ℕ × Bool) → Option Bool
found number [] = None
found number (entry ∷ entries) = if number == entry.0 then Some entry.1 else found number entries

abbrev pub begins_with : ℕ → List (ℕ × Bool) → Bool
begins_with number [] = false
begins_with number (entry ∷ entries) = entry.0 == number

-- under twice the number, and under one more
abbrev pub low : ℕ × Bool → ℕ × Bool
low entry = (2 * entry.0, entry.1)

abbrev pub high : ℕ × Bool → ℕ × Bool
high entry = (2 * entry.0 + 1, entry.1)

-- whether nothing stands under a number whose double is too great
abbrev pub IsHalf : List (ℕ × Bool) → Type 0
IsHalf entries = (number : ℕ) → 2 ^ 63 ≤ number → found number entries ≡ None

-- whether one thing alone changed
abbrev pub IsChanged : (Option Bool → Option Bool) → ℕ → List (ℕ × Bool) → List (ℕ × Bool) → Type 0
IsChanged change number old new =
    (other : ℕ) → found other new ≡ (if number == other then change (found other old) else found other old)

abbrev pub IsPut : ℕ → List (ℕ × Bool) → List (ℕ × Bool) → Type 0
IsPut = IsChanged (λ _. Some false)

abbrev pub IsMarked : ℕ → List (ℕ × Bool) → List (ℕ × Bool) → Type 0
IsMarked = IsChanged (option_map (λ _. true))

-- whether all others stand as before
abbrev pub IsTaken : ℕ → List (ℕ × Bool) → List (ℕ × Bool) → Type 0
IsTaken number old new = (other : ℕ) → (number == other) ≡ false → found other new ≡ found other old

-- whether the first left
pub record Lifted (number : ℕ) (said : Bool) (old new : List (ℕ × Bool)) : Type 0 where
  pub first : found number old ≡ Some said
  pub begins : begins_with number old ≡ true
  pub others : IsTaken number old new
