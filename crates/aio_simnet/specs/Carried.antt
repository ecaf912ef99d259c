-- What is seen of one way of a connection.
use Rattle.std.specs.Prelude.{ℕ, List, ◌++◌}

-- the bytes that it took, and those of them that were heard at its end
pub record Carried : Type 0 where
  pub taken : List ℕ
  pub heard : List ℕ

-- it took so many more
abbrev pub with_taken : Carried → List ℕ → Carried
with_taken pipe bytes = record { taken = pipe.taken ++ bytes; heard = pipe.heard }

-- so many more were heard
abbrev pub with_heard : Carried → List ℕ → Carried
with_heard pipe bytes = record { taken = pipe.taken; heard = pipe.heard ++ bytes }
