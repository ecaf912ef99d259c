-- The keys of a part: those that it knows are of its number.
use Rattle.std.specs.Prelude.{◌≡◌, ℕ, true}
use Rattle.model_machine.specs.Extra.{Extra}
use Rattle.model_reach.specs.Reach.{Part, part_of_key}

abbrev pub HasKeysOf : {P : Type 0} → Part → Extra P → Type 0
HasKeysOf {P} part added = (kept : P) (key : ℕ) → (added.keeps kept).has_key key ≡ true → part_of_key key ≡ part
