-- Shares of runs that are numbered.
use Rattle.std.specs.Prelude.{◌≡◌, ℕ, ◌+◌, List, [], ◌∷◌}
use Rattle.simulate.specs.declared.shares.Share.{Share}

-- these shares follow one another: all runs from one number on that are less than another, each once
unfoldable pub Covers : ℕ → ℕ → List Share → Type 0
Covers first end [] = first ≡ end
Covers first end (share ∷ rest) = (share.before ≡ first) × Covers (first + share.runs) end rest
