-- Items that are offered one after the other.
use Rattle.std.proofs.Common.{◌≡◌, ℕ, List, [], ◌∷◌, ◌++◌, map, refl, sym, ap, ◌∙◌}
use Rattle.std.proofs.lemmas.List.{map-id, append-nil}
use Rattle.std.proofs.lemmas.Grind.{flat_map-append}
use Rattle.std.specs.List.{flat_map}
use Rattle.model_wire.specs.Call.{Item}
use Rattle.model_wire.specs.declared.watch.Watch.{Watch}
use Rattle.model_hub.specs.Gathering.{Gathering, goes_in, is_kept, kept_of, offer, offer_all, add, add_all}
use Rattle.std.proofs.Common.{Bool, true, false, cond, not, ◌&&◌, take, ◌+◌}
use Rattle.std.specs.List.{list_any}
use Rattle.model_pump.specs.Posts.{Post}
use Rattle.model_wire.specs.Fits.{turn_fits, clashes}
use Rattle.model_hub.specs.declared.halt.Halt.{Halt}
use Rattle.std.specs.Prelude.{nat_lt}
use Rattle.model_value.specs.declared.action.ChildItem.TheVariants as news
use Rattle.model_wire.specs.declared.item.Item.TheVariants as item
use Rattle.model_wire.specs.declared.watch.Watch.TheVariants as watch
use Rattle.model_hub.specs.declared.child.Child.{Child}
use Rattle.model_hub.specs.Hub.{waiting_of, is_broken}
use Rattle.model_hub.specs.Gathering.{stdin_items, most_waiting}
use Rattle.aio_select.specs.Answered.{gathering, Offers, OffersAll, AddsAll}

offered_one_more : (watched : List Watch) (g : Gathering) (came : List Item) (item : Item)
    → offer_all watched g (came ++ item ∷ []) ≡ offer watched (offer_all watched g came) item
offered_one_more watched g [] item = refl
offered_one_more watched g (first ∷ came) item = offered_one_more watched (offer watched g first) came item

module _ (watched : List Watch) (items kept came : List Item) (item : Item) (items_now kept_now items_next kept_next : List Item) where
  pub offers_more : OffersAll watched items kept came items_now kept_now → Offers watched items_now kept_now item items_next kept_next
      → OffersAll watched items kept (came ++ item ∷ []) items_next kept_next
  offers_more all one children taken count halt =
      one children taken count halt
      ∙ ap (λ g. offer watched g item) (all children taken count halt)
      ∙ sym (offered_one_more watched (gathering items kept children taken count halt) came item)

module _ (watched : List Watch) (items kept came all : List Item) (items_now kept_now : List Item) where
  pub offers_whole : OffersAll watched items kept came items_now kept_now → map (λ (x : Item). x) came ≡ all
      → OffersAll watched items kept all items_now kept_now
  offers_whole offers whole children taken count halt =
      offers children taken count halt
      ∙ ap (λ l. offer_all watched (gathering items kept children taken count halt) l) (sym (map-id came) ∙ whole)

-- ---- items that are added
added_both : (watched : List Watch) (g : Gathering) (came more : List Item)
    → add_all watched g (came ++ more) ≡ add_all watched (add_all watched g came) more
added_both watched g [] more = refl
added_both watched g (first ∷ came) more = added_both watched (add watched g first) came more

module _ (watched : List Watch) (items kept came more items_now kept_now items_next kept_next : List Item) where
  pub adds_both : AddsAll watched items kept came items_now kept_now → AddsAll watched items_now kept_now more items_next kept_next
      → AddsAll watched items kept (came ++ more) items_next kept_next
  adds_both first second children taken count halt =
      second children taken count halt
      ∙ ap (λ g. add_all watched g more) (first children taken count halt)
      ∙ sym (added_both watched (gathering items kept children taken count halt) came more)

  -- what is so of the standard input of one child
  pub adds_same : (all : List Item) → came ++ more ≡ all → AddsAll watched items kept came items_now kept_now
      → AddsAll watched items_now kept_now more items_next kept_next → AddsAll watched items kept all items_next kept_next
  adds_same all whole first second children taken count halt =
      adds_both first second children taken count halt ∙ ap (λ l. add_all watched (gathering items kept children taken count halt) l) whole

pub stdin_is : (children : List Child) (entry : Watch) (child : ℕ) (feeds stdin out errs exit fed breaks : Bool)
    → entry ≡ watch.Child child feeds stdin out errs exit → fed ≡ nat_lt (waiting_of child children) most_waiting
    → breaks ≡ is_broken child children
    → cond fed (item.WritableChild child ∷ []) [] ++ cond breaks (item.Child child news.Broken ∷ []) [] ≡ stdin_items children entry
stdin_is children entry child feeds stdin out errs exit fed breaks is may_be does =
    ap (λ b. cond b (item.WritableChild child ∷ []) [] ++ cond breaks (item.Child child news.Broken ∷ []) []) may_be
    ∙ ap (λ b. cond (nat_lt (waiting_of child children) most_waiting) (item.WritableChild child ∷ []) [] ++ cond b (item.Child child news.Broken ∷ []) []) does
    ∙ ap (λ e. stdin_items children e) (sym is)

module _ (watched : List Watch) (items kept items_now kept_now items_next kept_next : List Item) where
  pub adds_stdin : (children : List Child) (entry : Watch) (child : ℕ) (feeds stdin out errs exit fed breaks : Bool)
      → entry ≡ watch.Child child feeds stdin out errs exit → fed ≡ nat_lt (waiting_of child children) most_waiting
      → breaks ≡ is_broken child children
      → AddsAll watched items kept (cond fed (item.WritableChild child ∷ []) []) items_now kept_now
      → AddsAll watched items_now kept_now (cond breaks (item.Child child news.Broken ∷ []) []) items_next kept_next
      → AddsAll watched items kept (stdin_items children entry) items_next kept_next
  adds_stdin children entry child feeds stdin out errs exit fed breaks is may_be does first second =
      adds_same watched items kept (cond fed (item.WritableChild child ∷ []) []) (cond breaks (item.Child child news.Broken ∷ []) [])
      items_now kept_now items_next kept_next (stdin_items children entry)
      (stdin_is children entry child feeds stdin out errs exit fed breaks is may_be does) first second

  -- the entries up to one, and that one
  pub adds_next : (told : Watch → List Item) (entries : List Watch) (at : ℕ) (entry : Watch)
      → take (at + 1) entries ≡ take at entries ++ entry ∷ []
      → AddsAll watched items kept (flat_map told (take at entries)) items_now kept_now
      → AddsAll watched items_now kept_now (told entry) items_next kept_next
      → AddsAll watched items kept (flat_map told (take (at + 1) entries)) items_next kept_next
  adds_next told entries at entry whole first second =
      adds_same watched items kept (flat_map told (take at entries)) (told entry) items_now kept_now items_next kept_next
      (flat_map told (take (at + 1) entries))
      (sym (ap (λ l. flat_map told l) whole ∙ flat_map-append told (take at entries) (entry ∷ [])
      ∙ ap (λ l. flat_map told (take at entries) ++ l) (append-nil (told entry))))
      first second

-- ---- an item that is offered
module _ (watched : List Watch) (items kept : List Item) (came : Item) (items_now kept_now : List Item) where
  goes_if : (b : Bool) (children : List Child) (taken : List Post) (count : ℕ) (halt : Halt)
      → goes_in watched (gathering items kept children taken count halt) came ≡ b
      → offer watched (gathering items kept children taken count halt) came
      ≡ cond b (gathering (items ++ came ∷ []) kept children taken count halt) (gathering items (kept ++ kept_of came) children taken count halt)
  goes_if b children taken count halt is =
      ap (λ x. cond x (gathering (items ++ came ∷ []) kept children taken count halt) (gathering items (kept ++ kept_of came) children taken count halt)) is

  pub offers_in : list_any (clashes came) kept ≡ false → turn_fits watched 0 (items ++ came ∷ []) ≡ true → items_now ≡ items ++ came ∷ []
      → kept_now ≡ kept → Offers watched items kept came items_now kept_now
  offers_in apart fits items_is kept_is children taken count halt =
      ap (λ (l : List Item). gathering l kept_now children taken count halt) items_is
      ∙ ap (λ (l : List Item). gathering (items ++ came ∷ []) l children taken count halt) kept_is
      ∙ sym (goes_if true children taken count halt (ap (λ b. not b && turn_fits watched 0 (items ++ came ∷ [])) apart ∙ fits))

  pub offers_kept : (not (list_any (clashes came) kept) && turn_fits watched 0 (items ++ came ∷ [])) ≡ false → is_kept came ≡ true
      → items_now ≡ items → kept_now ≡ kept ++ came ∷ [] → Offers watched items kept came items_now kept_now
  offers_kept stays keeps items_is kept_is children taken count halt =
      ap (λ (l : List Item). gathering l kept_now children taken count halt) items_is
      ∙ ap (λ (l : List Item). gathering items l children taken count halt)
      (kept_is ∙ ap (λ b. kept ++ cond b (came ∷ []) []) (sym keeps))
      ∙ sym (goes_if false children taken count halt stays)

  pub stays_behind : list_any (clashes came) kept ≡ true → (not (list_any (clashes came) kept) && turn_fits watched 0 (items ++ came ∷ [])) ≡ false
  stays_behind behind = ap (λ b. not b && turn_fits watched 0 (items ++ came ∷ [])) behind

  pub stays_out : turn_fits watched 0 (items ++ came ∷ []) ≡ false → (not (list_any (clashes came) kept) && turn_fits watched 0 (items ++ came ∷ [])) ≡ false
  stays_out out = ap (λ b. not (list_any (clashes came) kept) && b) out ∙ never (not (list_any (clashes came) kept))
    where
      never : (b : Bool) → (b && false) ≡ false
      never true = refl
      never false = refl
