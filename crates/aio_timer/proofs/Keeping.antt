-- Timers are kept as one is placed and as one leaves, and what the first place says.
use Rattle.std.proofs.Common.{◌≡◌, ℕ, zero, ◌+◌, ◌<◌, ◌≤◌, ◌⊎◌, Bool, true, false, cond, not, ◌==◌, List, [], ◌∷◌, ◌++◌, get_or, length, Option, Some}
use Rattle.std.proofs.Common.{None, refl, sym, ap, subst, subst₂, inl, inr, arith, ◌∙◌}
use Rattle.std.specs.BinaryHeap.{IsHeap, IsUpperBound, heap_items, lt_by_cmp}
use Rattle.std.specs.List.{AllByRecursion, Contains, cons_option}
use Rattle.std.specs.List.Sorted.{IsPermutation}
use Rattle.std.specs.declared.cmp.Reverse.{Reverse}
use Rattle.std.proofs.lemmas.Bool.{cases_eq, lt-leb, lt-ltb, cases_Bool, eqb-true, eq-eqb, and_from, and_parts, false_from_ne_true}
use Rattle.std.proofs.lemmas.Option.{none-some, same_Some}
use Rattle.std.proofs.lemmas.List.Elements.{All-from_recursion, recursion_from_All, All-contains, Contains-get_or, Contains-push, Contains-append_left}
use Rattle.std.proofs.lemmas.List.Sorted.{Contains-permutation}
use Rattle.slab.specs.Slab.{Slab, get, Updates}
use Rattle.slab.proofs.SlabLemmas.{Contains-cons, Contains-cons_cases}
use Rattle.model_loop.specs.Parts.{Timer}
use Rattle.aio_timer.specs.declared.live.Live.{Live}
use Rattle.aio_timer.specs.declared.live.TimerId.{TimerId}
use Rattle.aio_timer.specs.declared.place.Place.{Place}
use Rattle.aio_timer.specs.Schedule.{placed_after, is_of, lives, without, due_at, later_than}
use Rattle.aio_timer.specs.Kept.{AreRising, Entry, IsFirst, IsKept, IsSame, IsSettled, IsThinned, KeepsStanding, NoneAt, begins_dead, has}
use Rattle.aio_timer.specs.Kept.{is_numbered, later_cmp, place_of, sorted_onto, stands, timer_if, timer_of, timers_of, waiting}
use Rattle.aio_timer.proofs.Comparing.{no_earlier, no_later}
use Rattle.aio_timer.proofs.Sorting.{IsAscending, Precedes, all_filter, all_sorted, all_unsorted, ascending_sorted, filter_sorted, first_of}
use Rattle.aio_timer.proofs.Sorting.{lives_none, lives_or_none, sorted_append, without_is, without_none}
use Rattle.aio_timer.proofs.Waiting.{all_waiting, contains_filter, from_rising, is_own, one_slot, rising_filter, rising_push, waiting_has}
use Rattle.aio_timer.proofs.Waiting.{waiting_left, waiting_put, waiting_thinned, was_there}

-- ---- what stands
has_itself : (e : Entry) (o : Option Entry) → o ≡ Some e → has e.0 o ≡ true
has_itself e o s =
    subst (λ (x : Option Entry). has e.0 x ≡ true) (sym s)
    (and_from (e.0.number == e.0.number) (e.0.when == e.0.when) (eq-eqb e.0.number e.0.number refl) (eq-eqb e.0.when e.0.when refl))

numbered_itself : (e : Entry) (o : Option Entry) → o ≡ Some e → is_numbered e.0.number o ≡ true
numbered_itself e o s = subst (λ (x : Option Entry). is_numbered e.0.number x ≡ true) (sym s) (eq-eqb e.0.number e.0.number refl)

pub record Found (id : TimerId) (o : Option Entry) : Type 0 where
  pub entry : Entry
  pub there : o ≡ Some entry
  pub number : entry.0.number ≡ id.number
  pub when : entry.0.when ≡ id.when

pub found : (id : TimerId) (o : Option Entry) → has id o ≡ true → Found id o
found id None q = absurd (cc)
found id (Some e) q =
    let both = and_parts (e.0.number == id.number) (e.0.when == id.when) q in
    record { entry = e; there = refl; number = eqb-true e.0.number id.number both.0; when = eqb-true e.0.when id.when both.1 }

pub same_id : (a b : TimerId) → a.number ≡ b.number → a.when ≡ b.when → a ≡ b
same_id a b number when = λ i. record { number = number i; when = when i }

-- ---- the first place
pub head_of : {X : Type 0} (xs : List X) (x : X) → 0 < length xs → ((d : X) → x ≡ get_or xs 0 d) → (rest : List X) × (xs ≡ x ∷ rest)
head_of [] x l h = absurd (omega arith)
head_of (y ∷ ys) x l h = (ys, ap (λ z. z ∷ ys) (sym (h y)))

pub none_of_length : {X : Type 0} (xs : List X) → length xs ≤ 0 → xs ≡ []
none_of_length [] l = refl
none_of_length (y ∷ ys) l = absurd (omega arith)

-- a dead first place leaves
pub shed_one : (entries : Slab Entry) (items : List (Reverse Place)) (x : Reverse Place) (rest : List (Reverse Place)) → begins_dead entries items ≡ true
    → x ≡ get_or items 0 x → IsPermutation items (x ∷ rest) → KeepsStanding entries items rest
shed_one entries [] x rest dead top moved = absurd (cc)
shed_one entries (y ∷ ys) x rest dead top moved = λ place live among.
    go place live (Contains-cons_cases x place rest (Contains-permutation (y ∷ ys) (x ∷ rest) place moved among))
  where
    go : (place : Reverse Place) → stands entries place ≡ true → (x ≡ place) ⊎ Contains rest place → Contains rest place
    go place live (inl same) =
        let first : stands entries y ≡ true = ap (stands entries) (sym top ∙ same) ∙ live in
        let fails : false ≡ true = ap not (sym first) ∙ dead in
        absurd (cc)
    go place live (inr later) = later

-- ---- only room changes
module _ (old new : Live) (same : IsSame old new) where
  pub same_slots : (slot : ℕ) → get new.entries slot ≡ get old.entries slot
  same_slots slot = ap (λ (slots : List (Option Entry)). get_or slots slot None) same.slots

  same_stands : (place : Reverse Place) → stands new.entries place ≡ stands old.entries place
  same_stands place =
      ap (λ (o : Option Entry). has (record { number = place.0.number; when = place.0.when }) o) (same_slots place.0.slot)

  same_dead : (places : List (Reverse Place)) → begins_dead new.entries places ≡ begins_dead old.entries places
  same_dead [] = refl
  same_dead (place ∷ places) = ap not (same_stands place)

  same_waiting : (xs : List (ℕ × ℕ)) → waiting new.entries xs ≡ waiting old.entries xs
  same_waiting [] = refl
  same_waiting (x ∷ xs) =
      ap (λ (o : Option Entry). cons_option (timer_if x.0 o) (waiting new.entries xs)) (same_slots x.1)
      ∙ ap (λ (ts : List Timer). cons_option (timer_if x.0 (get old.entries x.1)) ts) (same_waiting xs)

  pub same_timers : timers_of new ≡ timers_of old
  same_timers =
      ap (λ (xs : List (ℕ × ℕ)). sorted_onto [] (waiting new.entries xs)) same.numbers
      ∙ ap (sorted_onto []) (same_waiting old.numbers.items)

  pub same_kept : IsKept old → IsKept new
  same_kept kept =
      record {
        heap = subst (IsHeap later_cmp) (sym same.places) kept.heap;
        first = same_dead (heap_items new.places) ∙ ap (begins_dead old.entries) same.places ∙ kept.first;
        rising = subst (AreRising 0) (sym same.numbers) kept.rising;
        below =
            subst₂ (λ (n : ℕ) (xs : List (ℕ × ℕ)). AllByRecursion (λ (pair : ℕ × ℕ). pair.0 < n) xs) (sym same.next) (sym same.numbers) kept.below;
        numbered = λ slot e s.
            subst (λ (xs : List (ℕ × ℕ)). Contains xs (e.0.number, slot)) (sym same.numbers) (kept.numbered slot e (sym (same_slots slot) ∙ s));
        placed = λ slot e s.
            subst (λ (ps : List (Reverse Place)). Contains ps (place_of e.0 slot)) (sym same.places) (kept.placed slot e (sym (same_slots slot) ∙ s));
      }

-- ---- no timers
pub none_kept : (live : Live) → IsHeap later_cmp (heap_items live.places) → heap_items live.places ≡ [] → live.numbers.items ≡ []
    → live.entries.slots ≡ [] → IsKept live
none_kept live heap places numbers slots =
    record {
      heap = heap;
      first = ap (begins_dead live.entries) places;
      rising = subst (AreRising 0) (sym numbers) tt;
      below = subst (AllByRecursion (λ (pair : ℕ × ℕ). pair.0 < live.next)) (sym numbers) tt;
      numbered = λ slot e s. absurd (none-some e (sym (none_there slot) ∙ s));
      placed = λ slot e s. absurd (none-some e (sym (none_there slot) ∙ s));
    }
  where
    none_there : (slot : ℕ) → get live.entries slot ≡ None
    none_there slot = ap (λ (os : List (Option Entry)). get_or os slot None) slots

pub none_timers : (live : Live) → live.numbers.items ≡ [] → timers_of live ≡ []
none_timers live numbers = ap (λ (xs : List (ℕ × ℕ)). sorted_onto [] (waiting live.entries xs)) numbers

-- ---- the list of slots, thinned
module _ (entries : Slab Entry) (old new : List (ℕ × ℕ)) (thinned : IsThinned entries old new) where
  pub thinned_waiting : waiting entries new ≡ waiting entries old
  thinned_waiting = go thinned
    where
      go : IsThinned entries old new → waiting entries new ≡ waiting entries old
      go (inl same) = ap (waiting entries) same
      go (inr some) = ap (waiting entries) some ∙ waiting_thinned entries old

  thinned_rising : AreRising 0 old → AreRising 0 new
  thinned_rising r = go thinned
    where
      go : IsThinned entries old new → AreRising 0 new
      go (inl same) = subst (AreRising 0) (sym same) r
      go (inr some) = subst (AreRising 0) (sym some) (rising_filter (λ (pair : ℕ × ℕ). is_numbered pair.0 (get entries pair.1)) 0 old r)

  thinned_all : (P : ℕ × ℕ → Type 0) → AllByRecursion P old → AllByRecursion P new
  thinned_all P a = go thinned
    where
      go : IsThinned entries old new → AllByRecursion P new
      go (inl same) = subst (AllByRecursion P) (sym same) a
      go (inr some) = subst (AllByRecursion P) (sym some) (all_filter (λ (pair : ℕ × ℕ). is_numbered pair.0 (get entries pair.1)) P old a)

  thinned_has : (x : ℕ × ℕ) → is_numbered x.0 (get entries x.1) ≡ true → Contains old x → Contains new x
  thinned_has x holds among = go thinned
    where
      go : IsThinned entries old new → Contains new x
      go (inl same) = subst (λ (xs : List (ℕ × ℕ)). Contains xs x) (sym same) among
      go (inr some) =
          subst (λ (xs : List (ℕ × ℕ)). Contains xs x) (sym some)
          (contains_filter (λ (pair : ℕ × ℕ). is_numbered pair.0 (get entries pair.1)) old x holds among)

-- ---- a timer leaves
all_from : {X : Type 0} (P : X → Type 0) (xs : List X) → ((x : X) → Contains xs x → P x) → AllByRecursion P xs
all_from P xs each = recursion_from_All P xs (λ k d l. each (get_or xs k d) (Contains-get_or xs k d l))

module _ (old new : Live) (slot : ℕ) (e : Entry) (kept : IsKept old) (was : get old.entries slot ≡ Some e)
    (left : Updates old.entries new.entries slot None) (settled : IsSettled new.entries (heap_items old.places) (heap_items new.places))
    (thinned : IsThinned new.entries old.numbers.items new.numbers.items) (next : new.next ≡ old.next) where
  pub left_kept : IsKept new
  left_kept =
      record {
        heap = settled.heap;
        first = settled.first;
        rising = thinned_rising new.entries old.numbers.items new.numbers.items thinned kept.rising;
        below =
            subst (λ (n : ℕ). AllByRecursion (λ (pair : ℕ × ℕ). pair.0 < n) new.numbers.items) (sym next)
            (thinned_all new.entries old.numbers.items new.numbers.items thinned (λ (pair : ℕ × ℕ). pair.0 < old.next) kept.below);
        numbered = λ other f s.
            thinned_has new.entries old.numbers.items new.numbers.items thinned (f.0.number, other) (numbered_itself f (get new.entries other) s)
            (kept.numbered other f (was_there old.entries new.entries slot e was left other f s));
        placed = λ other f s.
            settled.kept (place_of f.0 other) (has_itself f (get new.entries other) s)
            (kept.placed other f (was_there old.entries new.entries slot e was left other f s));
      }

  one : AllByRecursion (λ (x : ℕ × ℕ). x.0 ≡ e.0.number → x.1 ≡ slot) old.numbers.items
  one =
      all_from (λ (x : ℕ × ℕ). x.0 ≡ e.0.number → x.1 ≡ slot) old.numbers.items (λ x among same.
      one_slot 0 old.numbers.items kept.rising e.0.number x.1 slot
      (subst (λ (n : ℕ). Contains old.numbers.items (n, x.1)) same among) (kept.numbered slot e was))

  pub left_timers : timers_of new ≡ without e.0 (timers_of old)
  left_timers =
      let from = from_rising old.entries 0 old.numbers.items kept.rising in
      ap (sorted_onto []) (thinned_waiting new.entries old.numbers.items new.numbers.items thinned)
      ∙ ap (sorted_onto []) (waiting_left old.entries new.entries slot e was left old.numbers.items one)
      ∙ sym (filter_sorted (λ (t : Timer). not (is_of e.0 t)) 0 [] (waiting old.entries old.numbers.items) tt tt from)
      ∙ sym (without_is e.0 (timers_of old) (ascending_sorted 0 [] (waiting old.entries old.numbers.items) tt tt from))

-- ---- a timer is placed
module _ (old new : Live) (slot : ℕ) (e : Entry) (kept : IsKept old) (number : e.0.number ≡ old.next) (vacant : get old.entries slot ≡ None)
    (filled : Updates old.entries new.entries slot (Some e))
    (settled : IsSettled new.entries (place_of e.0 slot ∷ heap_items old.places) (heap_items new.places))
    (pushed : new.numbers.items ≡ old.numbers.items ++ (e.0.number, slot) ∷ []) (next : new.next ≡ old.next + 1) where
  below : AllByRecursion (λ (x : ℕ × ℕ). x.0 < e.0.number) old.numbers.items
  below = subst (λ (n : ℕ). AllByRecursion (λ (x : ℕ × ℕ). x.0 < n) old.numbers.items) (sym number) kept.below

  filled_cases : (other : ℕ) (f : Entry) → get new.entries other ≡ Some f → ((other ≡ slot) × (f ≡ e)) ⊎ (get old.entries other ≡ Some f)
  filled_cases other f s = go (cases_eq other slot)
    where
      go : (other ≡ slot) ⊎ (other ≡ slot → ⊥) → ((other ≡ slot) × (f ≡ e)) ⊎ (get old.entries other ≡ Some f)
      go (inl same) =
          let both : Some f ≡ Some e = sym s ∙ ap (get new.entries) same ∙ filled.changed in
          let is : f ≡ e = same_Some f e both in
          inl (same, is)
      go (inr differs) = inr (sym (filled.others other differs) ∙ s)

  all_pushed : (xs : List (ℕ × ℕ)) → AllByRecursion (λ (x : ℕ × ℕ). x.0 < e.0.number) xs
      → AllByRecursion (λ (x : ℕ × ℕ). x.0 < e.0.number + 1) (xs ++ (e.0.number, slot) ∷ [])
  all_pushed [] a = (omega arith, tt)
  all_pushed (x ∷ xs) a = (let l : x.0 < e.0.number = a.0 in omega arith, all_pushed xs a.1)

  pub filled_kept : IsKept new
  filled_kept =
      record {
        heap = settled.heap;
        first = settled.first;
        rising = subst (AreRising 0) (sym pushed) (rising_push 0 e.0.number slot old.numbers.items (omega arith) kept.rising below);
        below =
            subst₂ (λ (n : ℕ) (xs : List (ℕ × ℕ)). AllByRecursion (λ (pair : ℕ × ℕ). pair.0 < n) xs)
            (ap (λ (n : ℕ). n + 1) number ∙ sym next) (sym pushed) (all_pushed old.numbers.items below);
        numbered = λ other f s. subst (λ (xs : List (ℕ × ℕ)). Contains xs (f.0.number, other)) (sym pushed) (numbered_at other f (filled_cases other f s));
        placed = λ other f s. settled.kept (place_of f.0 other) (has_itself f (get new.entries other) s) (placed_at other f (filled_cases other f s));
      }
    where
      numbered_at : (other : ℕ) (f : Entry) → ((other ≡ slot) × (f ≡ e)) ⊎ (get old.entries other ≡ Some f)
          → Contains (old.numbers.items ++ (e.0.number, slot) ∷ []) (f.0.number, other)
      numbered_at other f (inl same) =
          subst₂ (λ (g : Entry) (at : ℕ). Contains (old.numbers.items ++ (e.0.number, slot) ∷ []) (g.0.number, at)) (sym same.1) (sym same.0)
          (Contains-push old.numbers.items (e.0.number, slot))
      numbered_at other f (inr s) = Contains-append_left old.numbers.items ((e.0.number, slot) ∷ []) (f.0.number, other) (kept.numbered other f s)

      placed_at : (other : ℕ) (f : Entry) → ((other ≡ slot) × (f ≡ e)) ⊎ (get old.entries other ≡ Some f)
          → Contains (place_of e.0 slot ∷ heap_items old.places) (place_of f.0 other)
      placed_at other f (inl same) =
          subst₂ (λ (g : Entry) (at : ℕ). Contains (place_of e.0 slot ∷ heap_items old.places) (place_of g.0 at)) (sym same.1) (sym same.0)
          (zero, omega arith, refl)
      placed_at other f (inr s) = Contains-cons (place_of e.0 slot) (place_of f.0 other) (heap_items old.places) (kept.placed other f s)

  pub filled_timers : timers_of new ≡ placed_after (timer_of e) (timers_of old)
  filled_timers =
      ap (λ (xs : List (ℕ × ℕ)). sorted_onto [] (waiting new.entries xs)) pushed
      ∙ ap (sorted_onto []) (waiting_put old.entries new.entries slot e vacant filled old.numbers.items below)
      ∙ sorted_append [] (waiting old.entries old.numbers.items) (timer_of e)

-- ---- what is there
module _ (live : Live) (kept : IsKept live) where
  up : IsAscending (timers_of live)
  up = ascending_sorted 0 [] (waiting live.entries live.numbers.items) tt tt (from_rising live.entries 0 live.numbers.items kept.rising)

  all_timers : (P : Timer → Type 0) → ((slot : ℕ) (e : Entry) → get live.entries slot ≡ Some e → P (timer_of e)) → AllByRecursion P (timers_of live)
  all_timers P each = all_sorted P [] (waiting live.entries live.numbers.items) tt (all_waiting live.entries P each live.numbers.items)

  among_timers : (slot : ℕ) (e : Entry) → get live.entries slot ≡ Some e → (P : Timer → Type 0) → AllByRecursion P (timers_of live) → P (timer_of e)
  among_timers slot e s P a =
      waiting_has live.entries P live.numbers.items (all_unsorted P [] (waiting live.entries live.numbers.items) a).1 slot e s
      (kept.numbered slot e s)

  pub lives_there : (slot : ℕ) (e : Entry) → get live.entries slot ≡ Some e → lives e.0 (timers_of live) ≡ true
  lives_there slot e s = go (lives_or_none e.0 (timers_of live))
    where
      go : (lives e.0 (timers_of live) ≡ true) ⊎ AllByRecursion (λ (t : Timer). is_of e.0 t ≡ false) (timers_of live) → lives e.0 (timers_of live) ≡ true
      go (inl holds) = holds
      go (inr none) =
          let fails : is_of e.0 (timer_of e) ≡ false = among_timers slot e s (λ (t : Timer). is_of e.0 t ≡ false) none in
          let holds : is_of e.0 (timer_of e) ≡ true = is_own e in
          absurd (cc)

  -- no slot has the timer
  module _ (id : TimerId) (absent : (slot : ℕ) (e : Entry) → get live.entries slot ≡ Some e → e.0.number ≡ id.number → e.0.when ≡ id.when → ⊥) where
    none_of : AllByRecursion (λ (t : Timer). is_of id t ≡ false) (timers_of live)
    none_of =
        all_timers (λ (t : Timer). is_of id t ≡ false) (λ slot e s.
        false_from_ne_true (is_of id (timer_of e)) (λ q.
        let both = and_parts (id.when == e.0.when) (id.number == e.0.number) q in
        absent slot e s (sym (eqb-true id.number e.0.number both.1)) (sym (eqb-true id.when e.0.when both.0))))

    pub absent_lives : lives id (timers_of live) ≡ false
    absent_lives = lives_none id (timers_of live) none_of

    pub absent_without : without id (timers_of live) ≡ timers_of live
    absent_without = without_none id (timers_of live) none_of

  pub absent_number : (id : TimerId) → NoneAt id.number live.numbers.items
      → (slot : ℕ) (e : Entry) → get live.entries slot ≡ Some e → e.0.number ≡ id.number → e.0.when ≡ id.when → ⊥
  absent_number id none slot e s number when = none slot (subst (λ (n : ℕ). Contains live.numbers.items (n, slot)) number (kept.numbered slot e s))

  pub absent_slot : (id : TimerId) (at : ℕ) → Contains live.numbers.items (id.number, at) → has id (get live.entries at) ≡ false
      → (slot : ℕ) (e : Entry) → get live.entries slot ≡ Some e → e.0.number ≡ id.number → e.0.when ≡ id.when → ⊥
  absent_slot id at among fails slot e s number when =
      let here : Contains live.numbers.items (id.number, slot) = subst (λ (n : ℕ). Contains live.numbers.items (n, slot)) number (kept.numbered slot e s) in
      let same : at ≡ slot = one_slot 0 live.numbers.items kept.rising id.number at slot among here in
      let there : get live.entries at ≡ Some e = ap (get live.entries) same ∙ s in
      let holds : has id (get live.entries at) ≡ true =
      subst (λ (o : Option Entry). has id o ≡ true) (sym there)
      (and_from (e.0.number == id.number) (e.0.when == id.when) (eq-eqb e.0.number id.number number) (eq-eqb e.0.when id.when when)) in
      absurd (cc)

  -- the first place
  module _ (p : Reverse Place) (rest : List (Reverse Place)) (items : heap_items live.places ≡ p ∷ rest)
      (greatest : IsUpperBound later_cmp p (heap_items live.places)) where
    standing : stands live.entries p ≡ true
    standing = go (cases_Bool (stands live.entries p))
      where
        go : (stands live.entries p ≡ true) ⊎ (stands live.entries p ≡ false) → stands live.entries p ≡ true
        go (inl holds) = holds
        go (inr fails) =
            let dead : begins_dead live.entries (p ∷ rest) ≡ false =
            subst (λ (ps : List (Reverse Place)). begins_dead live.entries ps ≡ false) items kept.first in
            let other : true ≡ false = ap not (sym fails) ∙ dead in
            absurd (cc)

    not_less : (slot : ℕ) (e : Entry) → get live.entries slot ≡ Some e → lt_by_cmp later_cmp p (place_of e.0 slot) ≡ false
    not_less slot e s =
        All-contains (λ (q : Reverse Place). lt_by_cmp later_cmp p q ≡ false) (heap_items live.places) (place_of e.0 slot)
        (All-from_recursion (λ (q : Reverse Place). lt_by_cmp later_cmp p q ≡ false) (heap_items live.places) greatest) (kept.placed slot e s)

    pub first_is : IsFirst live p.0
    first_is =
        let f = found (record { number = p.0.number; when = p.0.when }) (get live.entries p.0.slot) standing in
        record {
          entry = f.entry;
          there = f.there;
          when = f.when;
          rest =
              first_of f.entry.0 (timer_of f.entry) (timers_of live) (is_own f.entry) up
              (all_timers (λ (t : Timer). Precedes t (timer_of f.entry) → ⊥) (λ slot e s before.
              no_earlier (record { when = e.0.when; number = e.0.number; slot = slot }) p.0 (not_less slot e s) (as_place f e before)))
              (among_timers p.0.slot f.entry f.there);
          least =
              All-from_recursion (λ (t : Timer). p.0.when ≤ t.when) (timers_of live)
              (all_timers (λ (t : Timer). p.0.when ≤ t.when) (λ slot e s.
              no_later (record { when = e.0.when; number = e.0.number; slot = slot }) p.0 (not_less slot e s)));
        }
      where
        as_place : (f : Found (record { number = p.0.number; when = p.0.when }) (get live.entries p.0.slot)) (e : Entry)
            → Precedes (timer_of e) (timer_of f.entry)
            → (e.0.when < p.0.when) ⊎ ((e.0.when ≡ p.0.when) × (e.0.number < p.0.number))
        as_place f e (inl l) = inl (let w : f.entry.0.when ≡ p.0.when = f.when in omega arith)
        as_place f e (inr k) =
            let w : f.entry.0.when ≡ p.0.when = f.when in
            let n : f.entry.0.number ≡ p.0.number = f.number in
            let same : e.0.when ≡ f.entry.0.when = k.0 in
            let l : e.0.number < f.entry.0.number = k.1 in
            inr (omega arith, omega arith)

  nothing : (ts : List Timer) → AllByRecursion (λ (t : Timer). ⊥) ts → ts ≡ []
  nothing [] a = refl
  nothing (t ∷ ts) a = absurd a.0

  pub none_first : heap_items live.places ≡ [] → timers_of live ≡ []
  none_first items =
      nothing (timers_of live) (all_timers (λ (t : Timer). ⊥) (λ slot e s.
      let among : Contains [] (place_of e.0 slot) = subst (λ (ps : List (Reverse Place)). Contains ps (place_of e.0 slot)) items (kept.placed slot e s) in
      absurd (omega (arith, among.1))))

-- ---- what is due
none_due_of : (now when : ℕ) (ts : List Timer) → AllByRecursion (λ (t : Timer). when ≤ t.when) ts → now < when
    → (due_at now ts ≡ []) × (later_than now ts ≡ ts)
none_due_of now when [] all l = (refl, refl)
none_due_of now when (t ∷ ts) all l =
    let here : when ≤ t.when = all.0 in
    let rest = none_due_of now when ts all.1 l in (
      subst (λ (c : Bool). cond c (t ∷ due_at now ts) (due_at now ts) ≡ []) (sym (lt-leb t.when now (omega arith))) rest.0,
      subst (λ (c : Bool). cond c (t ∷ later_than now ts) (later_than now ts) ≡ t ∷ ts) (sym (lt-ltb now t.when (omega arith)))
          (ap (λ (xs : List Timer). t ∷ xs) rest.1),
    )

pub none_due : (now : ℕ) (live : Live) (place : Place) → IsFirst live place → now < place.when
    → (due_at now (timers_of live) ≡ []) × (later_than now (timers_of live) ≡ timers_of live)
none_due now live place f l =
    none_due_of now place.when (timers_of live) (recursion_from_All (λ (t : Timer). place.when ≤ t.when) (timers_of live) f.least) l
