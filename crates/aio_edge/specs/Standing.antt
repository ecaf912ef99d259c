-- Where a file that is read stands.
use Rattle.std.specs.Prelude.{◌≡◌, ℕ, List}

-- the file that is open has this name, and it stands at this place
abbrev pub StandsAt : (name : List ℕ) (from : ℕ) (own : List ℕ) (at : ℕ) → Type 0
StandsAt name from own at = (own ≡ name) × (at ≡ from)

-- the file that is open has another name, or stands at another place
abbrev pub StandsElsewhere : (name : List ℕ) (from : ℕ) (own : List ℕ) (at : ℕ) → Type 0
StandsElsewhere name from own at = StandsAt name from own at → ⊥
