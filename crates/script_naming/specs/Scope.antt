-- How the names of a coroutine are looked up: the names that it binds in a set, and the coroutines in a map.
-- Source: the definition of scopes (model_text, specs/Naming.antt).
use Rattle.std.specs.Prelude.{◌≡◌, ℕ, Bool, ◌&&◌, not, List, option_map, find}
use Rattle.std.specs.List.{list_any}
use Rattle.std.specs.Ordering.{nat_cmp}
use Rattle.std.specs.Str.{bytes_eq}
use Rattle.std.specs.Cmp.Lexicographic.{slice_cmp}
use Rattle.std.specs.BTreeMap as tree
use Rattle.std.specs.BTreeSet as sorted
use denote.Ref.{Bor}
use Rattle.model_tree.specs.Syntax.{Name}
use Rattle.model_tree.specs.Known.{is_taken}
use Rattle.model_text.specs.Naming.{Callee}

-- the set has exactly the names of the list
abbrev pub Holds : sorted.BTreeSet (Bor (List ℕ)) → List Name → Type 0
Holds set names =
    (name : List ℕ) → sorted.contains_by (λ k. slice_cmp nat_cmp name k.now) set ≡ list_any (bytes_eq name) names

-- a name that is none of these, nor the language's own
abbrev pub is_free : List Name → Name → Bool
is_free names name = not (is_taken name) && not (list_any (bytes_eq name) names)

abbrev pub with_arity : Name → ℕ → Callee
with_arity name parameters = record { name = name; parameters = parameters }

-- the map has, for each name, how many parameters the first coroutine of this name has
abbrev pub FindsFirst : tree.BTreeMap (Bor (List ℕ)) ℕ → List Callee → Type 0
FindsFirst arities callees =
    (name : List ℕ) → find (λ callee. bytes_eq callee.name name) callees
    ≡ option_map (with_arity name) (tree.get_by (λ k. slice_cmp nat_cmp name k.now) arities)
