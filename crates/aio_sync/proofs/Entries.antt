-- Requests that wait, in code and in the definitions.
use Rattle.std.proofs.Common.{◌≡◌, ℕ, ◌+◌, ◌<◌, List, [], ◌∷◌, ◌++◌, Option, Some, None, map, refl, sym, ap, subst, ◌∙◌}
use Rattle.std.specs.BTreeMap.{insert_entry, is_at}
use Rattle.std.specs.List.{AllByRecursion as Each}
use Rattle.std.specs.Map.{lookup, remove_entry, set_value}
use Rattle.std.specs.Option.{option_map}
use Rattle.std.specs.Ordering.{nat_cmp}
use Rattle.model_value.specs.Value.{Value}
use Rattle.model_sync.specs.Synced as plain
use Rattle.model_sync.specs.Synced.{is_place}
use Rattle.aio_sync.specs.Drawn.{Drawn}
use Rattle.aio_sync.specs.Keeps.{entry_as, found_of, moved, on_moved, value_of, waiting_as}
use Rattle.aio_sync.specs.declared.keys.Waiting.{Waiting}
use Rattle.aio_sync.specs.declared.keys.Waiting.TheVariants.{Acquires, Awaits, Puts, Gets}
use Rattle.aio_sync.proofs.Rising.{insert_entry_as, lookup_entry, remove_entry_as, set_entry_as}

abbrev pub seen_as : ℕ → List (ℕ × Waiting) → Drawn
seen_as drawn es = record { drawn = drawn; waiting = map entry_as es }

module _ (place drawn : ℕ) (es : List (ℕ × Waiting)) (now : Drawn) (view : seen_as drawn es ≡ now) where
  looked : option_map waiting_as (lookup (is_at (nat_cmp place)) es) ≡ lookup (is_place place) now.waiting
  looked = sym (lookup_entry waiting_as place es) ∙ ap (λ (d : Drawn). lookup (is_place place) d.waiting) view

  pub found_at : (o : Option Waiting) → o ≡ lookup (is_at (nat_cmp place)) es
      → found_of (option_map waiting_as o) ≡ found_of (lookup (is_place place) now.waiting)
  found_at o e = ap (λ it. found_of (option_map waiting_as it)) e ∙ ap found_of looked

  pub put_value : (o : Option Waiting) → o ≡ lookup (is_at (nat_cmp place)) es → (queue : ℕ) (value : Value) (on : ℕ)
      → lookup (is_place place) now.waiting ≡ Some (plain.Puts queue value on) → value_of o ≡ Some value
  put_value o e queue value on is = at o (ap (option_map waiting_as) e ∙ looked ∙ is)
    where
      at : (o : Option Waiting) → option_map waiting_as o ≡ Some (plain.Puts queue value on) → value_of o ≡ Some value
      at None f = absurd (cc)
      at (Some (Acquires lock other)) f = absurd (cc)
      at (Some (Awaits event other)) f = absurd (cc)
      at (Some (Puts other it last)) f = cc
      at (Some (Gets other last)) f = absurd (cc)

  pub ended : (fs : List (ℕ × Waiting)) → fs ≡ remove_entry (is_at (nat_cmp place)) es
      → seen_as drawn fs ≡ record { drawn = now.drawn; waiting = remove_entry (is_place place) now.waiting }
  ended fs e =
      ap (seen_as drawn) e ∙ ap (λ ws. record { drawn = drawn; waiting = ws }) (remove_entry_as waiting_as place es)
      ∙ ap (λ (d : Drawn). record { drawn = d.drawn; waiting = remove_entry (is_place place) d.waiting }) view

  moved_as : (next : ℕ) (it : Waiting) → waiting_as (moved next it) ≡ on_moved next (waiting_as it)
  moved_as next (Acquires lock on) = refl
  moved_as next (Awaits event on) = refl
  moved_as next (Puts queue value on) = refl
  moved_as next (Gets queue on) = refl

  pub moved_on : (fs : List (ℕ × Waiting)) (next : ℕ) → ((it : Waiting) → lookup (is_at (nat_cmp place)) es ≡ Some it
      → fs ≡ set_value (is_at (nat_cmp place)) es (moved next it)) → (it : plain.Waiting) → lookup (is_place place) now.waiting ≡ Some it
      → seen_as drawn fs ≡ record { drawn = now.drawn; waiting = set_value (is_place place) now.waiting (on_moved next it) }
  moved_on fs next moves it e = at (lookup (is_at (nat_cmp place)) es) refl
    where
      same : (a b : plain.Waiting) → Some a ≡ Some b → a ≡ b
      same a b e = cc

      at : (o : Option Waiting) → lookup (is_at (nat_cmp place)) es ≡ o
          → seen_as drawn fs ≡ record { drawn = now.drawn; waiting = set_value (is_place place) now.waiting (on_moved next it) }
      at None f = let no : None ≡ Some it = ap (option_map waiting_as) (sym f) ∙ looked ∙ e in absurd (cc)
      at (Some coded) f =
          ap (seen_as drawn) (moves coded f)
          ∙ ap (λ ws. record { drawn = drawn; waiting = ws }) (set_entry_as waiting_as place (moved next coded) es)
          ∙ ap (λ new. record { drawn = drawn; waiting = set_value (is_place place) (map entry_as es) new })
          (moved_as next coded ∙ ap (on_moved next) (same (waiting_as coded) it (ap (option_map waiting_as) (sym f) ∙ looked ∙ e)))
          ∙ ap (λ (d : Drawn). record { drawn = d.drawn; waiting = set_value (is_place place) d.waiting (on_moved next it) }) view

pub waits_more : (drawn : ℕ) (es : List (ℕ × Waiting)) (now : Drawn) → seen_as drawn es ≡ now → Each (λ e. e.0 < drawn) es → (it : Waiting)
    → (fs : List (ℕ × Waiting)) → fs ≡ insert_entry nat_cmp es drawn it
    → seen_as (drawn + 1) fs ≡ record { drawn = now.drawn + 1; waiting = now.waiting ++ (now.drawn, waiting_as it) ∷ [] }
waits_more drawn es now view below it fs e =
    ap (seen_as (drawn + 1)) e ∙ ap (λ ws. record { drawn = drawn + 1; waiting = ws }) (insert_entry_as waiting_as drawn it es below)
    ∙ ap (λ (d : Drawn). record { drawn = d.drawn + 1; waiting = d.waiting ++ (d.drawn, waiting_as it) ∷ [] }) view
