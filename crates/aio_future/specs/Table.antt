-- The futures by number, a released one as a done one.
use Rattle.std.specs.Prelude.{◌≡◌, ℕ, zero, suc, ◌≤◌, List, [], ◌∷◌, ◌++◌, Option, None, unwrap_or, nat_eq}
use Rattle.std.specs.Map.{lookup}
use Rattle.model_loop.specs.Parts.{Future}
use Rattle.algorithm_parts.specs.Released.{released}

abbrev pub table : (ℕ → Option Future) → ℕ → List Future
table held zero = []
table held (suc count) = table held count ++ unwrap_or (held count) released ∷ []

-- what a map of these entries holds
abbrev pub held_in : List (ℕ × Future) → ℕ → Option Future
held_in entries number = lookup (nat_eq number) entries

-- no number of a future that is still to be made is held
abbrev pub IsBelow : List (ℕ × Future) → ℕ → Type 0
IsBelow entries next = (number : ℕ) → next ≤ number → held_in entries number ≡ None
