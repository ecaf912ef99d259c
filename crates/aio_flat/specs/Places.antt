-- How a coroutine's place is looked up by its name.
use Rattle.std.specs.Prelude.{◌≡◌, ℕ, ◌+◌, List, unwrap_or}
use Rattle.std.specs.Ordering.{nat_cmp}
use Rattle.std.specs.Cmp.Lexicographic.{slice_cmp}
use Rattle.std.specs.BTreeMap as tree
use denote.Ref.{Bor}
use Rattle.model_tree.specs.Syntax.{Coroutine}
use Rattle.model_says.specs.Requests.{place_among}

-- The map has the place of the first of each name among these coroutines, which stand from a place on. A name that is
-- missing has the place past the last.
abbrev pub HasPlaces : tree.BTreeMap (Bor (List ℕ)) ℕ → (count at : ℕ) → List Coroutine → Type 0
HasPlaces places count at coroutines =
    (name : List ℕ) →
    unwrap_or (tree.get_by (λ k. slice_cmp nat_cmp name k.now) places) count ≡ at + place_among coroutines name
