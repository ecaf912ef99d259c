-- Numbers of variables, one more at a time from the last to the first.
use Rattle.std.proofs.Common.{◌≡◌, ℕ, suc, ◌+◌, cond, List, ◌∷◌, Some, unwrap_or, ap, sym, ◌∙◌}
use Rattle.std.specs.Ordering.{nat_cmp}
use Rattle.std.specs.Cmp.Lexicographic.{slice_cmp}
use Rattle.std.specs.Str.{bytes_eq}
use Rattle.std.specs.BTreeMap as tree
use Rattle.std.proofs.lemmas.Map.Text.{btree_map_updates_str}
use denote.Ref.{Bor}
use Rattle.model_tree.specs.Syntax.{Name}
use Rattle.algorithm_locals.specs.Numbered.{number_of}
use Rattle.aio_flat.specs.Numbers.{HasNumbers}
use Rattle.aio_flat.proofs.PlaceLemmas.{first-or-later}

pub HasNumbers-insert : (old new : tree.BTreeMap (Bor (List ℕ)) ℕ) (key : Bor (List ℕ)) (count at : ℕ) (first : Name)
    (others : List Name) → first ≡ key.now →
    tree.Updates (λ x y. slice_cmp nat_cmp x.now y.now) old new key (Some at) → HasNumbers old count (at + 1) others →
    HasNumbers new count at (first ∷ others)
HasNumbers-insert old new key count at first others named updates has = λ name.
    ap (λ found. unwrap_or found count) (btree_map_updates_str key.now old new (Some at) updates name)
    ∙ first-or-later (bytes_eq key.now name) count at (number_of others name) _ (has name)
    ∙ ap (λ n. at + cond (bytes_eq n name) 0 (suc (number_of others name))) (sym named)
