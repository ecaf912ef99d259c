-- How a variable's number is looked up by its name.
use Rattle.std.specs.Prelude.{◌≡◌, ℕ, ◌+◌, List, unwrap_or}
use Rattle.std.specs.Ordering.{nat_cmp}
use Rattle.std.specs.Cmp.Lexicographic.{slice_cmp}
use Rattle.std.specs.BTreeMap as tree
use denote.Ref.{Bor}
use Rattle.model_tree.specs.Syntax.{Name}
use Rattle.algorithm_locals.specs.Numbered.{number_of}

-- The map has the number of the first of each name among these, which are numbered from one on. A name that is missing
-- has the number past the last.
abbrev pub HasNumbers : tree.BTreeMap (Bor (List ℕ)) ℕ → (count at : ℕ) → List Name → Type 0
HasNumbers numbers count at names =
    (name : List ℕ) →
    unwrap_or (tree.get_by (λ k. slice_cmp nat_cmp name k.now) numbers) count
    ≡ at + number_of names name
