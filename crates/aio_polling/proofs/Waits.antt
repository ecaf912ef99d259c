-- How long a poll waits, whatever posts were taken before.
use Rattle.std.proofs.Common.{◌≡◌, ℕ, Bool, true, false, cond, List, [], ◌∷◌, ◌++◌, Option, Some, refl, sym, ap, ◌∙◌}
use Rattle.std.specs.List.{flat_map}
use Rattle.model_wire.specs.Call.{Item}
use Rattle.model_wire.specs.declared.watch.Watch.{Watch}
use Rattle.model_wire.specs.Fits.{turn_fits}
use Rattle.model_pump.specs.Posts.{Post}
use Rattle.model_hub.specs.declared.child.Child.{Child}
use Rattle.model_hub.specs.Gathering.{Gathering, goes_in, offer, offer_all, add, add_all, kept_of, stdin_items, begin, start}
use Rattle.model_hub.specs.Select.{wait_for, polled_wait}
use Rattle.aio_select.specs.Answered.{first_items, has_any}
use Rattle.aio_polling.specs.Selects.{hub_of}

abbrev retaken : List Post → Gathering → Gathering
retaken taken g = record g { taken = taken }

module _ (watched : List Watch) (taken : List Post) where
  offer_re : (g : Gathering) (came : Item) → offer watched (retaken taken g) came ≡ retaken taken (offer watched g came)
  offer_re g came = by_case (goes_in watched g came)
    where
      by_case : (b : Bool)
          → cond b (record (retaken taken g) { items = g.items ++ came ∷ [] }) (record (retaken taken g) { kept = g.kept ++ kept_of came })
          ≡ retaken taken (cond b (record g { items = g.items ++ came ∷ [] }) (record g { kept = g.kept ++ kept_of came }))
      by_case true = refl
      by_case false = refl

  offer_all_re : (g : Gathering) (more : List Item) → offer_all watched (retaken taken g) more ≡ retaken taken (offer_all watched g more)
  offer_all_re g [] = refl
  offer_all_re g (came ∷ more) =
      ap (λ (h : Gathering). offer_all watched h more) (offer_re g came) ∙ offer_all_re (offer watched g came) more

  add_re : (g : Gathering) (came : Item) → add watched (retaken taken g) came ≡ retaken taken (add watched g came)
  add_re g came = by_case (turn_fits watched 0 (g.items ++ came ∷ []))
    where
      by_case : (b : Bool)
          → cond b (record (retaken taken g) { items = g.items ++ came ∷ [] }) (retaken taken g)
          ≡ retaken taken (cond b (record g { items = g.items ++ came ∷ [] }) g)
      by_case true = refl
      by_case false = refl

  add_all_re : (g : Gathering) (more : List Item) → add_all watched (retaken taken g) more ≡ retaken taken (add_all watched g more)
  add_all_re g [] = refl
  add_all_re g (came ∷ more) =
      ap (λ (h : Gathering). add_all watched h more) (add_re g came) ∙ add_all_re (add watched g came) more

  begin_re : (children : List Child) (kept : List Item)
      → begin watched (hub_of children kept taken) [] ≡ retaken taken (begin watched (hub_of children kept []) [])
  begin_re children kept =
      ap (λ (h : Gathering). add_all watched h (flat_map (stdin_items children) watched))
      (offer_all_re (start (hub_of children kept []) []) kept)
      ∙ add_all_re (offer_all watched (start (hub_of children kept []) []) kept) (flat_map (stdin_items children) watched)

  pub wait_re : (children : List Child) (kept : List Item) (wait : Option ℕ)
      → polled_wait watched (hub_of children kept []) wait ≡ polled_wait watched (hub_of children kept taken) wait
  wait_re children kept wait = ap (λ (g : Gathering). wait_for g.items wait) (sym (begin_re children kept))

wait_by : (items : List Item) (has : Bool) (wait : Option ℕ) → has ≡ has_any items → cond has (Some 0) wait ≡ wait_for items wait
wait_by [] has wait is = ap (λ b. cond b (Some 0) wait) is
wait_by (came ∷ more) has wait is = ap (λ b. cond b (Some 0) wait) is

pub wait_is : (watched : List Watch) (children : List Child) (kept : List Item) (has : Bool) (wait given : Option ℕ)
    → has ≡ has_any (first_items watched children kept) → given ≡ cond has (Some 0) wait
    → given ≡ polled_wait watched (hub_of children kept []) wait
wait_is watched children kept has wait given is gives = gives ∙ wait_by (first_items watched children kept) has wait is
