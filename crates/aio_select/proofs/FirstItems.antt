-- Whether an answer has an item before posts are taken, where nothing came of the poller.
use Rattle.std.proofs.Common.{◌≡◌, ℕ, ◌+◌, Bool, true, false, cond, ◌&&◌, ◌||◌, not, List, [], ◌∷◌, ◌++◌, take, drop}
use Rattle.std.proofs.Common.{length, get_or, ◌<◌, ◌≤◌, ◌==◌, refl, sym, ap, ◌∙◌, append-nil, append_assoc}
use Rattle.std.proofs.lemmas.List.{at_drop_more, at_drop_all}
use Rattle.std.proofs.lemmas.Grind.{flat_map-append}
use Rattle.std.specs.Prelude.{nat_lt}
use Rattle.std.specs.List.{list_any, flat_map}
use Rattle.std.specs.HashSet.{HashSet}
use Rattle.std.proofs.lemmas.Bool.{false≢true}
use Rattle.model_value.specs.declared.action.ChildItem.TheVariants as news
use Rattle.model_wire.specs.Call.{Item}
use Rattle.model_wire.specs.declared.item.Item.TheVariants as item
use Rattle.model_wire.specs.declared.watch.Watch.{Watch}
use Rattle.model_wire.specs.declared.watch.Watch.TheVariants as watch
use Rattle.model_wire.specs.Fits.{turn_fits, clashes}
use Rattle.model_hub.specs.declared.halt.Halt.TheVariants.{Going}
use Rattle.model_hub.specs.declared.child.Child.{Child}
use Rattle.model_hub.specs.Hub.{waiting_of, is_broken}
use Rattle.model_hub.specs.Gathering.{Gathering, goes_in, offer, offer_all, add, add_all, kept_of, stdin_items, most_waiting}
use Rattle.aio_select.specs.Answered.{gathering, first_items, has_any}
use Rattle.aio_interest.specs.Keys.{Marks, has, has_key, is_marked_in}
use Rattle.aio_interest.proofs.Marking.{behind_it, next_of}
use Rattle.aio_select.specs.First.{fits_alone, has_kept_item, tells_stdin, has_stdin_item}

-- an answer that has an item keeps it
any_or : (xs : List Item) (x : Item) → has_any (xs ++ x ∷ []) ≡ true
any_or [] x = refl
any_or (y ∷ xs) x = refl

module _ (watched : List Watch) where
  offer_if : (g : Gathering) (came : Item) (b : Bool) → has_any g.items ≡ true
      → has_any (cond b (record g { items = g.items ++ came ∷ [] }) (record g { kept = g.kept ++ kept_of came })).items ≡ true
  offer_if g came true has = any_or g.items came
  offer_if g came false has = has

  offered_on : (g : Gathering) (more : List Item) → has_any g.items ≡ true → has_any (offer_all watched g more).items ≡ true
  offered_on g [] has = has
  offered_on g (came ∷ more) has = offered_on (offer watched g came) more (offer_if g came (goes_in watched g came) has)

  add_if : (g : Gathering) (came : Item) (b : Bool) → has_any g.items ≡ true
      → has_any (cond b (record g { items = g.items ++ came ∷ [] }) g).items ≡ true
  add_if g came true has = any_or g.items came
  add_if g came false has = has

  added_on : (g : Gathering) (more : List Item) → has_any g.items ≡ true → has_any (add_all watched g more).items ≡ true
  added_on g [] has = has
  added_on g (came ∷ more) has =
      added_on (add watched g came) more (add_if g came (turn_fits watched 0 (g.items ++ came ∷ [])) has)

  module _ (children : List Child) where
    abbrev empty : List Item → Gathering
    empty kept = gathering [] kept children [] 0 Going

    -- an answer that has none yet: what is kept, what stands in the standard inputs
    abbrev after_kept : List Item → List Item → Gathering
    after_kept behind kept = offer_all watched (empty behind) kept

    offers_one : (behind : List Item) (came : Item) (b : Bool) → (not (list_any (clashes came) behind) && fits_alone watched came) ≡ b
        → offer watched (empty behind) came ≡ cond b (gathering (came ∷ []) behind children [] 0 Going) (empty (behind ++ kept_of came))
    offers_one behind came b is = ap (λ x. cond x (gathering (came ∷ []) behind children [] 0 Going) (empty (behind ++ kept_of came))) is

    -- each of them is offered in turn
    record Offered (behind kept : List Item) (has : Bool) : Type 0 where
      some : has ≡ true → has_any (after_kept behind kept).items ≡ true
      none : has ≡ false → (after_kept behind kept).items ≡ []

    kept_by : (behind : List Item) (came : Item) (more : List Item) (b : Bool)
        → (not (list_any (clashes came) behind) && fits_alone watched came) ≡ b
        → Offered (behind ++ kept_of came) more (has_kept_item watched (behind ++ kept_of came) more)
        → Offered behind (came ∷ more) (b || has_kept_item watched (behind ++ kept_of came) more)
    kept_by behind came more true is rest =
        record {
          some = λ h.
              ap (λ g. has_any (offer_all watched g more).items) (offers_one behind came true is)
              ∙ offered_on (gathering (came ∷ []) behind children [] 0 Going) more refl;
          none = λ h. absurd (false≢true (sym h));
        }
    kept_by behind came more false is rest =
        record {
          some = λ h. ap (λ g. has_any (offer_all watched g more).items) (offers_one behind came false is) ∙ rest.some h;
          none = λ h. ap (λ g. (offer_all watched g more).items) (offers_one behind came false is) ∙ rest.none h;
        }

    all_kept : (behind kept : List Item) → Offered behind kept (has_kept_item watched behind kept)
    all_kept behind [] = record { some = λ h. absurd (false≢true h); none = λ h. refl }
    all_kept behind (came ∷ more) =
        kept_by behind came more (not (list_any (clashes came) behind) && fits_alone watched came) refl (all_kept (behind ++ kept_of came) more)

    -- ---- standard inputs
    abbrev any_added : Gathering → List Item → Bool
    any_added g more = has_any (add_all watched g more).items

    adds_one : (g : Gathering) (came : Item) → g.items ≡ [] → (more : List Item)
        → any_added g (came ∷ more) ≡ (fits_alone watched came || any_added g more)
    adds_one g came none more = by_fit (fits_alone watched came) (ap (λ (l : List Item). turn_fits watched 0 (l ++ came ∷ [])) none)
      where
        by_fit : (b : Bool) → turn_fits watched 0 (g.items ++ came ∷ []) ≡ b → any_added g (came ∷ more) ≡ (b || any_added g more)
        by_fit true is =
            ap (λ x. any_added (cond x (record g { items = g.items ++ came ∷ [] }) g) more) is
            ∙ added_on (record g { items = g.items ++ came ∷ [] }) more (any_or g.items came)
        by_fit false is = ap (λ x. any_added (cond x (record g { items = g.items ++ came ∷ [] }) g) more) is

    adds_if : (g : Gathering) → g.items ≡ [] → (b : Bool) (came : Item) (more : List Item)
        → any_added g (cond b (came ∷ []) [] ++ more) ≡ ((b && fits_alone watched came) || any_added g more)
    adds_if g none true came more = adds_one g came none more
    adds_if g none false came more = refl

    or_assoc : (a b c : Bool) → (a || (b || c)) ≡ ((a || b) || c)
    or_assoc true b c = refl
    or_assoc false b c = refl

    adds_entry : (g : Gathering) → g.items ≡ [] → (entry : Watch) (more : List Item)
        → any_added g (stdin_items children entry ++ more) ≡ (tells_stdin watched children entry || any_added g more)
    adds_entry g none (watch.Child child feeds stdin out errs exit) more =
        ap (any_added g)
        (append_assoc (cond (nat_lt (waiting_of child children) most_waiting) (item.WritableChild child ∷ []) [])
        (cond (is_broken child children) (item.Child child news.Broken ∷ []) []) more)
        ∙ adds_if g none (nat_lt (waiting_of child children) most_waiting) (item.WritableChild child)
        (cond (is_broken child children) (item.Child child news.Broken ∷ []) [] ++ more)
        ∙ ap (λ b. (nat_lt (waiting_of child children) most_waiting && fits_alone watched (item.WritableChild child)) || b)
        (adds_if g none (is_broken child children) (item.Child child news.Broken) more)
        ∙ or_assoc (nat_lt (waiting_of child children) most_waiting && fits_alone watched (item.WritableChild child))
        (is_broken child children && fits_alone watched (item.Child child news.Broken)) (any_added g more)
    adds_entry g none (watch.Server server) more = refl
    adds_entry g none (watch.Making conn) more = refl
    adds_entry g none (watch.Conn conn reads writes) more = refl
    adds_entry g none watch.Extra more = refl

    adds_entries : (g : Gathering) → g.items ≡ [] → (entries : List Watch)
        → any_added g (flat_map (stdin_items children) entries) ≡ has_stdin_item watched children entries
    adds_entries g none [] = ap has_any none
    adds_entries g none (entry ∷ entries) =
        adds_entry g none entry (flat_map (stdin_items children) entries)
        ∙ ap (λ b. tells_stdin watched children entry || b) (adds_entries g none entries)

    -- ---- both
    pub with_kept : (kept : List Item) → has_kept_item watched [] kept ≡ true → has_any (first_items watched children kept) ≡ true
    with_kept kept has =
        added_on (after_kept [] kept) (flat_map (stdin_items children) watched) ((all_kept [] kept).some has)

    pub with_stdin : (kept : List Item) → has_kept_item watched [] kept ≡ false
        → has_any (first_items watched children kept) ≡ has_stdin_item watched children watched
    with_stdin kept has = adds_entries (after_kept [] kept) ((all_kept [] kept).none has) watched

-- ---- what is kept, as far as it was looked at
abbrev pub kept_up_to : ℕ → List Item → List Item
kept_up_to n kept = flat_map kept_of (take n kept)

pub record Passed {S : Type 0} (watched : List Watch) (kept : List Item) (n : ℕ) (marks : HashSet ℕ S) : Type 0 where
  pub marked : Marks marks (kept_up_to n kept)
  pub is : has_kept_item watched [] kept ≡ has_kept_item watched (kept_up_to n kept) (drop n kept)

pub none_passed : {S : Type 0} (watched : List Watch) (kept : List Item) (marks : HashSet ℕ S) → marks.keys ≡ [] → Passed watched kept 0 marks
none_passed watched kept marks none = record { marked = λ k. ap (list_any (◌==◌ k)) none; is = refl }

any_both : (p : Item → Bool) (xs ys : List Item) → list_any p (xs ++ ys) ≡ (list_any p ys || list_any p xs)
any_both p [] ys = sym (or_none (list_any p ys))
  where
    or_none : (b : Bool) → (b || false) ≡ b
    or_none true = refl
    or_none false = refl
any_both p (x ∷ xs) ys = ap (λ b. p x || b) (any_both p xs ys) ∙ turned (p x) (list_any p ys) (list_any p xs)
  where
    turned : (a b c : Bool) → (a || (b || c)) ≡ (b || (a || c))
    turned true true c = refl
    turned true false c = refl
    turned false true c = refl
    turned false false c = refl

module _ {S : Type 0} (watched : List Watch) (kept : List Item) (n : ℕ) (marks : HashSet ℕ S) (passed : Passed watched kept n marks) (came : Item)
    (few : n < length kept) (is_came : came ≡ get_or kept n came) where
  rest_is : drop n kept ≡ came ∷ drop (n + 1) kept
  rest_is = at_drop_more (λ (l : List Item). l) kept n came few ∙ ap (λ (x : Item). x ∷ drop (n + 1) kept) (sym is_came)

  more_is : kept_up_to (n + 1) kept ≡ kept_up_to n kept ++ kept_of came
  more_is =
      ap (flat_map kept_of) (next_of kept kept n came refl few is_came)
      ∙ flat_map-append kept_of (take n kept) (came ∷ []) ∙ ap (λ (l : List Item). kept_up_to n kept ++ l) (append-nil (kept_of came))

  goes_is : (goes : Bool) → goes ≡ (not (is_marked_in marks came) && fits_alone watched came)
      → (not (list_any (clashes came) (kept_up_to n kept)) && fits_alone watched came) ≡ goes
  goes_is goes is =
      ap (λ b. not b && fits_alone watched came) (behind_it marks (kept_up_to n kept) passed.marked came) ∙ sym is

  found_if : (goes : Bool) → goes ≡ (not (is_marked_in marks came) && fits_alone watched came)
      → has_kept_item watched [] kept ≡ (goes || has_kept_item watched (kept_up_to n kept ++ kept_of came) (drop (n + 1) kept))
  found_if goes is =
      passed.is ∙ ap (has_kept_item watched (kept_up_to n kept)) rest_is
      ∙ ap (λ b. b || has_kept_item watched (kept_up_to n kept ++ kept_of came) (drop (n + 1) kept)) (goes_is goes is)

  pub found_here : (goes : Bool) → goes ≡ (not (is_marked_in marks came) && fits_alone watched came) → goes ≡ true → has_kept_item watched [] kept ≡ true
  found_here goes is goes_in_it =
      found_if goes is ∙ ap (λ b. b || has_kept_item watched (kept_up_to n kept ++ kept_of came) (drop (n + 1) kept)) goes_in_it

  pub pass_on : (goes : Bool) → goes ≡ (not (is_marked_in marks came) && fits_alone watched came) → goes ≡ false → (marks_now : HashSet ℕ S)
      → ((k : ℕ) → has marks_now k ≡ (list_any (has_key k) (kept_of came) || has marks k)) → Passed watched kept (n + 1) marks_now
  pass_on goes is stays marks_now more =
      record {
        marked = λ k.
            more k ∙ ap (λ b. list_any (has_key k) (kept_of came) || b) (passed.marked k)
            ∙ sym (any_both (has_key k) (kept_up_to n kept) (kept_of came)) ∙ ap (list_any (has_key k)) (sym more_is);
        is =
            found_if goes is
            ∙ ap (λ b. b || has_kept_item watched (kept_up_to n kept ++ kept_of came) (drop (n + 1) kept)) stays
            ∙ ap (λ (l : List Item). has_kept_item watched l (drop (n + 1) kept)) (sym more_is);
      }

pub all_passed : {S : Type 0} (watched : List Watch) (kept : List Item) (n : ℕ) (marks : HashSet ℕ S) → Passed watched kept n marks → length kept ≤ n
    → has_kept_item watched [] kept ≡ false
all_passed watched kept n marks passed all =
    passed.is ∙ at_drop_all (has_kept_item watched (kept_up_to n kept)) kept n all
