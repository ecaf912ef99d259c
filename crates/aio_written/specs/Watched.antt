-- What is watched, by the text of its id with a space before it, and its letters.
use Rattle.std.specs.Prelude.{ℕ, List, [], ◌∷◌, ◌++◌, codes}

abbrev pub watched_after : List ℕ → List ℕ → List ℕ
watched_after subject [] = []
watched_after subject (letter ∷ letters) = subject ++ codes " " ++ letter ∷ letters
