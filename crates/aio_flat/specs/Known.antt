-- Names that are kept in a set beside their list.
use Rattle.std.specs.Prelude.{◌≡◌, ℕ, List}
use Rattle.std.specs.List.{list_any}
use Rattle.std.specs.Ordering.{nat_cmp}
use Rattle.std.specs.Str.{bytes_eq}
use Rattle.std.specs.Cmp.Lexicographic.{slice_cmp}
use Rattle.std.specs.BTreeSet as sorted
use denote.Ref.{Bor}
use Rattle.model_tree.specs.Syntax.{Name}

-- the set has exactly the names of the list
abbrev pub Knows : sorted.BTreeSet (Bor (List ℕ)) → List Name → Type 0
Knows known names =
    (name : List ℕ) → sorted.contains_by (λ k. slice_cmp nat_cmp name k.now) known ≡ list_any (bytes_eq name) names
