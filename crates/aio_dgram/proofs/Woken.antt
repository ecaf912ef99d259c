-- Those who wait are woken, by the view of the loop's parts.
use Rattle.std.proofs.Common.{◌≡◌, ℕ, Bool, true, List, [], ◌∷◌, ◌++◌, Option, Some, None, map, refl, sym, ap, subst, ◌∙◌}
use Rattle.std.specs.BTreeMap.{is_at}
use Rattle.std.specs.List.{AllByRecursion as Each}
use Rattle.std.specs.Map.{lookup}
use Rattle.std.specs.Ordering.{nat_cmp}
use Rattle.model_loop.specs.Parts.{Future}
use Rattle.model_machine.specs.Extra.{ExtraStep}
use Rattle.model_sync.specs.Synced.{is_place, wakes}
use Rattle.model_dgram.specs.Endpoints.{Closes, Offers, Opens, Receives, Sends, Waiting, futures_of, wakes_at}
use Rattle.law_sync.proofs.Lists.{all_each, each_found, flat_each}
use Rattle.aio_task.specs.Keeps.{Known}
use Rattle.aio_task.specs.View.{View}
use Rattle.refine_added.specs.Seen.{SeesAll}
use Rattle.aio_sync.specs.Woken.{are_free, is_free, woken}
use Rattle.aio_sync.proofs.Resolved.{free_woken, seen_one}
use Rattle.aio_dgram.specs.Keeps.{future_of, own_in, waits}
use Rattle.aio_dgram.specs.Woken.{Sees}
use Rattle.aio_dgram.proofs.Places.{same_test}

-- ---- its future is free
module _ (futures : List Future) where
  abbrev AreFree : ℕ × Waiting → Type 0
  AreFree entry = Each (λ id. is_free futures id ≡ true) (futures_of entry.1)

  of_one : (it : Waiting) (on : ℕ) → future_of it ≡ Some on → Each (λ id. is_free futures id ≡ true) (futures_of it) → is_free futures on ≡ true
  of_one Opens on e free = absurd (cc)
  of_one (Offers endpoint datagram) on e free = absurd (cc)
  of_one (Sends endpoint datagram other) on e free = ap (λ o. is_free_in o) (sym e) ∙ free.0
    where
      is_free_in : Option ℕ → Bool
      is_free_in None = true
      is_free_in (Some id) = is_free futures id
  of_one (Receives endpoint other) on e free = ap (λ o. is_free_in o) (sym e) ∙ free.0
    where
      is_free_in : Option ℕ → Bool
      is_free_in None = true
      is_free_in (Some id) = is_free futures id
  of_one Closes on e free = absurd (cc)

  pub free_at : (ws : List (ℕ × Waiting)) (place : ℕ) (it : Waiting) → lookup (is_at (nat_cmp place)) ws ≡ Some it
      → are_free futures (own_in ws) ≡ true → (on : ℕ) → future_of it ≡ Some on → is_free futures on ≡ true
  free_at ws place it e free on is =
      of_one it on is (each_found AreFree (is_at (nat_cmp place)) ws it e
      (flat_each (λ entry. futures_of entry.1) (λ id. is_free futures id ≡ true) ws (all_each (is_free futures) (own_in ws) free))).1

-- ---- what waits there is woken
module _ (ws : List (ℕ × Waiting)) (place : ℕ) where
  found_at : (o : Option Waiting) → lookup (is_at (nat_cmp place)) ws ≡ o → lookup (is_place place) ws ≡ o
  found_at o e = ap (λ (test : ℕ → Bool). lookup test ws) (sym (same_test place)) ∙ e

  abbrev steps_of : Option Waiting → List ExtraStep
  steps_of o = elim o [ None ↦ [] | Some it ↦ map wakes (futures_of it) ]

  steps_at : (o : Option Waiting) → lookup (is_at (nat_cmp place)) ws ≡ o → wakes_at (waits ws) place ≡ steps_of o
  steps_at o e = ap steps_of (found_at o e)

  pub none_woken : (v w : View) → lookup (is_at (nat_cmp place)) ws ≡ None → w ≡ v → Sees (wakes_at (waits ws) place) v w
  none_woken v w e same = λ known. subst (λ steps. SeesAll known steps v w) (sym (steps_at None e)) same

  steps_none : (it : Waiting) → future_of it ≡ None → map wakes (futures_of it) ≡ []
  steps_none Opens e = refl
  steps_none (Offers endpoint datagram) e = refl
  steps_none (Sends endpoint datagram on) e = absurd (cc)
  steps_none (Receives endpoint on) e = absurd (cc)
  steps_none Closes e = refl

  steps_one : (it : Waiting) (on : ℕ) → future_of it ≡ Some on → map wakes (futures_of it) ≡ wakes on ∷ []
  steps_one Opens on e = absurd (cc)
  steps_one (Offers endpoint datagram) on e = absurd (cc)
  steps_one (Sends endpoint datagram other) on e = ap (λ (o : Option ℕ). elim o [ None ↦ [] | Some id ↦ wakes id ∷ [] ]) e
  steps_one (Receives endpoint other) on e = ap (λ (o : Option ℕ). elim o [ None ↦ [] | Some id ↦ wakes id ∷ [] ]) e
  steps_one Closes on e = absurd (cc)

  pub idle_woken : (v w : View) (it : Waiting) → lookup (is_at (nat_cmp place)) ws ≡ Some it → future_of it ≡ None → w ≡ v
      → Sees (wakes_at (waits ws) place) v w
  idle_woken v w it e none same =
      λ known. subst (λ steps. SeesAll known steps v w) (sym (steps_at (Some it) e ∙ steps_none it none)) same

  pub one_woken : (v w : View) (it : Waiting) (on : ℕ) → lookup (is_at (nat_cmp place)) ws ≡ Some it → future_of it ≡ Some on → w ≡ woken on v
      → Sees (wakes_at (waits ws) place) v w
  one_woken v w it on e is same =
      λ known. subst (λ steps. SeesAll known steps v w) (sym (steps_at (Some it) e ∙ steps_one it on is)) (seen_one known on v w same)

pub still_free : (v w : View) (on : ℕ) (ids : List ℕ) → w ≡ woken on v → are_free v.futures ids ≡ true → are_free w.futures ids ≡ true
still_free v w on ids e free = ap (λ (u : View). are_free u.futures ids) e ∙ free_woken on v ids ∙ free

-- ---- one after another
pub seen_both : (known : ℕ → Known) (first second : List ExtraStep) (v m w : View) → SeesAll known first v m → SeesAll known second m w
    → SeesAll known (first ++ second) v w
seen_both known [] second v m w e rest = subst (λ u. SeesAll known second u w) e rest
seen_both known (step ∷ first) second v m w h rest = (h.0, h.1, seen_both known first second h.0 m w h.2 rest)
