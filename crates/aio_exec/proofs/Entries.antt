-- Requests that stand, and jobs, in code and in the definitions.
use Rattle.std.proofs.Common.{◌≡◌, ℕ, ◌+◌, ◌<◌, List, [], ◌∷◌, ◌++◌, Option, Some, None, map, refl, sym, ap, ◌∙◌}
use Rattle.std.specs.BTreeMap.{insert_entry, is_at}
use Rattle.std.specs.List.{AllByRecursion as Each}
use Rattle.std.specs.Map.{lookup, remove_entry, set_value}
use Rattle.std.specs.Option.{option_and_then, option_map}
use Rattle.std.specs.Ordering.{nat_cmp}
use Rattle.std.specs.Rc.{rc_slice_items}
use Rattle.std.specs.declared.alloc.Global.{Global}
use Rattle.std.specs.declared.rc.RcSlice.{RcSlice}
use Rattle.model_exec.specs.Execed as plain
use Rattle.model_exec.specs.Execed.{is_number}
use Rattle.aio_exec.specs.Drawn.{Accepted, Drawn}
use Rattle.aio_exec.specs.Keeps.{came_in, came_of, entry_as, found_of, given, given_in, on_of, standing_as, waits_on}
use Rattle.aio_exec.specs.declared.requests.Standing as coded
use Rattle.aio_exec.specs.declared.requests.Standing.TheVariants.{Asking, Waiting}
use Rattle.aio_exec.proofs.Rising.{entry, insert_entry_as, lookup_entry, remove_entry_as, set_entry_as, set_there}

abbrev pub seen_as : ℕ → List (ℕ × coded.Standing) → Drawn
seen_as drawn es = record { drawn = drawn; standing = map entry_as es }

module _ (place drawn : ℕ) (es : List (ℕ × coded.Standing)) (now : Drawn) (view : seen_as drawn es ≡ now) where
  looked : option_map standing_as (lookup (is_at (nat_cmp place)) es) ≡ lookup (is_number place) now.standing
  looked = sym (lookup_entry standing_as place es) ∙ ap (λ (d : Drawn). lookup (is_number place) d.standing) view

  pub found_at : (o : Option coded.Standing) → o ≡ lookup (is_at (nat_cmp place)) es
      → found_of (option_map standing_as o) ≡ found_of (lookup (is_number place) now.standing)
  found_at o e = ap (λ it. found_of (option_map standing_as it)) e ∙ ap found_of looked

  came_as : (o : Option coded.Standing) → came_of o ≡ came_in (option_map standing_as o)
  came_as None = refl
  came_as (Some Asking) = refl
  came_as (Some (Waiting on came)) = refl

  pub came_at : (o : Option coded.Standing) → o ≡ lookup (is_at (nat_cmp place)) es → came_of o ≡ came_in (lookup (is_number place) now.standing)
  came_at o e = came_as o ∙ ap (λ it. came_in (option_map standing_as it)) e ∙ ap came_in looked

  on_as : (o : Option coded.Standing) → option_and_then on_of o ≡ waits_on (option_map standing_as o)
  on_as None = refl
  on_as (Some Asking) = refl
  on_as (Some (Waiting on came)) = refl

  pub on_at : option_and_then on_of (lookup (is_at (nat_cmp place)) es) ≡ waits_on (lookup (is_number place) now.standing)
  on_at = on_as (lookup (is_at (nat_cmp place)) es) ∙ ap waits_on looked

  pub ended : (fs : List (ℕ × coded.Standing)) → fs ≡ remove_entry (is_at (nat_cmp place)) es
      → seen_as drawn fs ≡ record { drawn = now.drawn; standing = remove_entry (is_number place) now.standing }
  ended fs e =
      ap (seen_as drawn) e ∙ ap (λ ws. record { drawn = drawn; standing = ws }) (remove_entry_as standing_as place es)
      ∙ ap (λ (d : Drawn). record { drawn = d.drawn; standing = remove_entry (is_number place) d.standing }) view

  pub waits_now : (fs : List (ℕ × coded.Standing)) (on : ℕ) → fs ≡ set_value (is_at (nat_cmp place)) es (Waiting on None)
      → seen_as drawn fs ≡ record { drawn = now.drawn; standing = set_value (is_number place) now.standing (plain.Waiting on None) }
  waits_now fs on e =
      ap (seen_as drawn) e ∙ ap (λ ws. record { drawn = drawn; standing = ws }) (set_entry_as standing_as place (Waiting on None) es)
      ∙ ap (λ (d : Drawn). record { drawn = d.drawn; standing = set_value (is_number place) d.standing (plain.Waiting on None) }) view

  -- one that is given what came
  module _ (fs : List (ℕ × coded.Standing)) (came : RcSlice ℕ Global) (none : lookup (is_at (nat_cmp place)) es ≡ None → fs ≡ es)
      (some : (it : coded.Standing) → lookup (is_at (nat_cmp place)) es ≡ Some it → fs ≡ set_value (is_at (nat_cmp place)) es (given came it)) where
    abbrev GivenSo : Option plain.Standing → List (ℕ × plain.Standing) → Type 0
    GivenSo o those = map entry_as fs ≡ given_in place (rc_slice_items came) o those

    given_so : (o : Option coded.Standing) → lookup (is_at (nat_cmp place)) es ≡ o → GivenSo (option_map standing_as o) (map entry_as es)
    given_so None e = ap (map entry_as) (none e)
    given_so (Some Asking) e = ap (map entry_as) (some Asking e ∙ set_there (is_at (nat_cmp place)) es Asking e)
    given_so (Some (Waiting on held)) e =
        ap (map entry_as) (some (Waiting on held) e) ∙ set_entry_as standing_as place (Waiting on (Some came)) es

    pub given_at : seen_as drawn fs
        ≡ record {
          drawn = now.drawn;
          standing = given_in place (rc_slice_items came) (lookup (is_number place) now.standing) now.standing;
        }
    given_at =
        ap (λ ws. record { drawn = drawn; standing = ws })
        (given_so (lookup (is_at (nat_cmp place)) es) refl
        ∙ ap (λ o. given_in place (rc_slice_items came) o (map entry_as es)) (sym (lookup_entry standing_as place es)))
        ∙ ap (λ (d : Drawn). record {
          drawn = d.drawn;
          standing = given_in place (rc_slice_items came) (lookup (is_number place) d.standing) d.standing;
        }) view

pub asks_more : (drawn : ℕ) (es : List (ℕ × coded.Standing)) (now : Drawn) → seen_as drawn es ≡ now → Each (λ e. e.0 < drawn) es
    → (fs : List (ℕ × coded.Standing)) → fs ≡ insert_entry nat_cmp es drawn Asking
    → seen_as (drawn + 1) fs ≡ record { drawn = now.drawn + 1; standing = now.standing ++ (now.drawn, plain.Asking) ∷ [] }
asks_more drawn es now view below fs e =
    ap (seen_as (drawn + 1)) e ∙ ap (λ ws. record { drawn = drawn + 1; standing = ws }) (insert_entry_as standing_as drawn Asking es below)
    ∙ ap (λ (d : Drawn). record { drawn = d.drawn + 1; standing = d.standing ++ (d.drawn, plain.Asking) ∷ [] }) view

-- ---- jobs
map_same : (es : List (ℕ × ℕ)) → map (entry (λ (n : ℕ). n)) es ≡ es
map_same [] = refl
map_same (e ∷ es) = ap (λ fs. e ∷ fs) (map_same es)

abbrev jobs_as : ℕ → List (ℕ × ℕ) → Accepted
jobs_as accepted es = record { accepted = accepted; going = es }

pub accepts_more : (accepted : ℕ) (es : List (ℕ × ℕ)) (now : Accepted) → jobs_as accepted es ≡ now → Each (λ e. e.0 < accepted) es
    → (place : ℕ) (fs : List (ℕ × ℕ)) → fs ≡ insert_entry nat_cmp es accepted place
    → jobs_as (accepted + 1) fs ≡ record { accepted = now.accepted + 1; going = now.going ++ (now.accepted, place) ∷ [] }
accepts_more accepted es now view below place fs e =
    ap (jobs_as (accepted + 1))
    (e ∙ sym (map_same (insert_entry nat_cmp es accepted place)) ∙ insert_entry_as (λ (n : ℕ). n) accepted place es below
    ∙ ap (λ gs. gs ++ (accepted, place) ∷ []) (map_same es))
    ∙ ap (λ (d : Accepted). jobs_as (d.accepted + 1) (d.going ++ (d.accepted, place) ∷ [])) view
