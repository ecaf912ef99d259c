-- Of those of one kind who wait for a queue: where one wasn't woken, as many were as is needed, and it stands in the list.
use Rattle.std.proofs.Common.{◌≡◌, ◌⊎◌, inl, inr, ℕ, ◌+◌, ◌≤◌, Bool, true, false, cond, List, [], ◌∷◌, ◌++◌, Option, Some, None, length}
use Rattle.std.proofs.Common.{refl, sym, ap, subst, ◌∙◌, arith, le_refl}
use Rattle.std.specs.Prelude.{◌==◌, ◌&&◌, ◌||◌, filter, if◌then◌else◌}
use Rattle.std.specs.List.{AllByRecursion as Each, list_any}
use Rattle.std.specs.Map.{lookup, remove_entry, set_value}
use Rattle.std.proofs.lemmas.Bool.{eq-eqb, eqb-true, false≢true, true≢false, and_from, and_parts}
use Rattle.std.proofs.lemmas.Option.{none-some}
use Rattle.model_value.specs.Value.{Outcome}
use Rattle.model_loop.specs.Futures.{future_outcome, is_pending}
use Rattle.model_loop.specs.Parts.{Parts}
use Rattle.model_sync.specs.Queues.{got_value, wake_next}
use Rattle.model_sync.specs.Synced.{Waiting, is_place, on_of, wakes}
use Rattle.law_sync.proofs.Lists.{each_append, each_both}
use Rattle.law_exclusion.proofs.Ended.{Ends, none_yet}
use Rattle.law_exclusion.specs.Turns.{is_woken, woken_of}

abbrev pub Entries : Type 0
Entries = List (ℕ × Waiting)

module _ (kind : Waiting → Bool) where
  abbrev pub waits_so : ℕ → ℕ × Waiting → Bool
  waits_so waiter entry = kind entry.1 && (on_of entry.1 == waiter)

  -- a request of the kind waits for this future
  abbrev pub Stands : Entries → ℕ → Type 0
  Stands xs waiter = list_any (waits_so waiter) xs ≡ true

  abbrev pub HasTurn : Parts → Entries → (many : ℕ) → ℕ → Type 0
  HasTurn p xs many waiter = future_outcome p waiter ≡ None → Stands xs waiter × (many ≤ woken_of kind p xs)

  -- ---- one that is gone
  abbrev pub gone : Parts → Option Waiting → ℕ
  gone p None = 0
  gone p (Some it) = cond (kind it && got_value (future_outcome p (on_of it))) 1 0

  abbrev pub IsGone : Option Waiting → ℕ → Type 0
  IsGone None waiter = ⊥
  IsGone (Some it) waiter = (kind it && (on_of it == waiter)) ≡ true

  -- it isn't that one
  abbrev pub IsSafe : Parts → Option Waiting → ℕ → Type 0
  IsSafe p lost waiter = future_outcome p waiter ≡ None → IsGone lost waiter → ⊥

  pub record Moves (p : Parts) (xs ys : Entries) (lost : Option Waiting) : Type 0 where
    pub sums : woken_of kind p xs ≤ woken_of kind p ys + gone p lost
    pub stands : (waiter : ℕ) → (IsGone lost waiter → ⊥) → Stands xs waiter → Stands ys waiter

  -- ---- counts
  step_le : (b c : Bool) (m n : ℕ) → (b ≡ true → c ≡ true) → m ≤ n → (x : ℕ × Waiting) (xs ys : Entries) → m ≡ length xs → n ≡ length ys
      → length (cond b (x ∷ xs) xs) ≤ length (cond c (x ∷ ys) ys)
  step_le true true m n on le x xs ys e f = omega (arith, le, e, f)
  step_le true false m n on le x xs ys e f = absurd (false≢true (on refl))
  step_le false true m n on le x xs ys e f = omega (arith, le, e, f)
  step_le false false m n on le x xs ys e f = omega (arith, le, e, f)

  -- more are woken
  pub more_woken : (p q : Parts) (xs : Entries) → Each (λ entry. is_woken kind p entry ≡ true → is_woken kind q entry ≡ true) xs
      → woken_of kind p xs ≤ woken_of kind q xs
  more_woken p q [] on = le_refl 0
  more_woken p q (x ∷ xs) on =
      step_le (is_woken kind p x) (is_woken kind q x) (woken_of kind p xs) (woken_of kind q xs) on.0 (more_woken p q xs on.1) x
      (filter (is_woken kind p) xs) (filter (is_woken kind q) xs) refl refl

  -- and this one
  pub one_woken : (p q : Parts) (waiter : ℕ) (xs : Entries) → ((entry : ℕ × Waiting) → is_woken kind p entry ≡ true → is_woken kind q entry ≡ true)
      → Stands xs waiter → future_outcome p waiter ≡ None → got_value (future_outcome q waiter) ≡ true
      → woken_of kind p xs + 1 ≤ woken_of kind q xs
  one_woken p q waiter [] on st none got = absurd (false≢true st)
  one_woken p q waiter (x ∷ xs) on st none got = at (waits_so waiter x) refl st (λ h. one_woken p q waiter xs on h none got)
    where
      here : (b c : Bool) (ps qs : Entries) → b ≡ false → c ≡ true → length ps ≤ length qs
          → length (cond b (x ∷ ps) ps) + 1 ≤ length (cond c (x ∷ qs) qs)
      here true c ps qs out into le = absurd (true≢false out)
      here false true ps qs out into le = omega (arith, le)
      here false false ps qs out into le = absurd (false≢true into)

      there : (b c : Bool) (ps qs : Entries) → (b ≡ true → c ≡ true) → length ps + 1 ≤ length qs
          → length (cond b (x ∷ ps) ps) + 1 ≤ length (cond c (x ∷ qs) qs)
      there true true ps qs stays le = omega (arith, le)
      there true false ps qs stays le = absurd (false≢true (stays refl))
      there false true ps qs stays le = omega (arith, le)
      there false false ps qs stays le = omega (arith, le)

      same_on : waits_so waiter x ≡ true → on_of x.1 ≡ waiter
      same_on is = eqb-true (on_of x.1) waiter (and_parts (kind x.1) (on_of x.1 == waiter) is).1

      of_kind : waits_so waiter x ≡ true → kind x.1 ≡ true
      of_kind is = (and_parts (kind x.1) (on_of x.1 == waiter) is).0

      was_not : waits_so waiter x ≡ true → is_woken kind p x ≡ false
      was_not is =
          ap (λ b. b && got_value (future_outcome p (on_of x.1))) (of_kind is) ∙ ap (λ id. got_value (future_outcome p id)) (same_on is) ∙ ap got_value none

      is_now : waits_so waiter x ≡ true → is_woken kind q x ≡ true
      is_now is =
          ap (λ b. b && got_value (future_outcome q (on_of x.1))) (of_kind is) ∙ ap (λ id. got_value (future_outcome q id)) (same_on is) ∙ got

      all : (xs : Entries) → Each (λ entry. is_woken kind p entry ≡ true → is_woken kind q entry ≡ true) xs
      all [] = tt
      all (x ∷ xs) = (on x, all xs)

      at : (b : Bool) → waits_so waiter x ≡ b → (b || list_any (waits_so waiter) xs) ≡ true
          → (Stands xs waiter → woken_of kind p xs + 1 ≤ woken_of kind q xs)
          → length (cond (is_woken kind p x) (x ∷ filter (is_woken kind p) xs) (filter (is_woken kind p) xs)) + 1
          ≤ length (cond (is_woken kind q x) (x ∷ filter (is_woken kind q) xs) (filter (is_woken kind q) xs))
      at true is h rest =
          here (is_woken kind p x) (is_woken kind q x) (filter (is_woken kind p) xs) (filter (is_woken kind q) xs) (was_not is) (is_now is)
          (more_woken p q xs (all xs))
      at false is h rest =
          there (is_woken kind p x) (is_woken kind q x) (filter (is_woken kind p) xs) (filter (is_woken kind q) xs) (on x) (rest h)

  -- ---- what a call makes of the list
  -- one stands at its end
  pub asks_move : (p : Parts) (xs : Entries) (new : ℕ × Waiting) → Moves p xs (xs ++ new ∷ []) None
  asks_move p xs new = record { sums = sums xs; stands = λ waiter none st. stands waiter xs st }
    where
      sums : (xs : Entries) → woken_of kind p xs ≤ woken_of kind p (xs ++ new ∷ []) + 0
      sums [] = omega arith
      sums (x ∷ xs) = at (is_woken kind p x) (sums xs)
        where
          at : (b : Bool) → woken_of kind p xs ≤ woken_of kind p (xs ++ new ∷ []) + 0
              → length (cond b (x ∷ filter (is_woken kind p) xs) (filter (is_woken kind p) xs))
              ≤ length (cond b (x ∷ filter (is_woken kind p) (xs ++ new ∷ [])) (filter (is_woken kind p) (xs ++ new ∷ []))) + 0
          at true le = omega (arith, le)
          at false le = le

      stands : (waiter : ℕ) (xs : Entries) → Stands xs waiter → Stands (xs ++ new ∷ []) waiter
      stands waiter [] st = absurd (false≢true st)
      stands waiter (x ∷ xs) st = at (waits_so waiter x) (stands waiter xs) st
        where
          at : (b : Bool) → (Stands xs waiter → Stands (xs ++ new ∷ []) waiter) → (b || list_any (waits_so waiter) xs) ≡ true
              → (b || list_any (waits_so waiter) (xs ++ new ∷ [])) ≡ true
          at true next h = h
          at false next h = next h

  pub same_move : (p : Parts) (xs : Entries) → Moves p xs xs None
  same_move p xs = record { sums = omega arith; stands = λ waiter none st. st }

  pub new_stands : (waiter place : ℕ) (it : Waiting) (xs : Entries) → kind it ≡ true → on_of it ≡ waiter → Stands (xs ++ (place, it) ∷ []) waiter
  new_stands waiter place it [] is same =
      ap (λ b. (b && (on_of it == waiter)) || false) is ∙ ap (λ b. b || false) (eq-eqb (on_of it) waiter same)
  new_stands waiter place it (x ∷ xs) is same = at (waits_so waiter x) (new_stands waiter place it xs is same)
    where
      at : (b : Bool) → Stands (xs ++ (place, it) ∷ []) waiter → (b || list_any (waits_so waiter) (xs ++ (place, it) ∷ [])) ≡ true
      at true st = refl
      at false st = st

  -- ---- the one under a key of this place goes, or waits for another future
  module _ (p : Parts) (place : ℕ) (it : Waiting) where
    same_it : (x : Waiting) → Some x ≡ Some it → x ≡ it
    same_it x e = cc

    -- without this one
    less_one : (x : ℕ × Waiting) (xs : Entries) → x.1 ≡ it → woken_of kind p (x ∷ xs) ≤ woken_of kind p xs + gone p (Some it)
    less_one x xs same =
        subst (λ y. woken_of kind p (x ∷ xs) ≤ woken_of kind p xs + gone p (Some y)) same (at (is_woken kind p x))
      where
        at : (b : Bool) → length (cond b (x ∷ filter (is_woken kind p) xs) (filter (is_woken kind p) xs)) ≤ woken_of kind p xs + cond b 1 0
        at true = omega arith
        at false = omega arith

    is_other : (x : ℕ × Waiting) (xs : Entries) (waiter : ℕ) → x.1 ≡ it → (IsGone (Some it) waiter → ⊥) → Stands (x ∷ xs) waiter → Stands xs waiter
    is_other x xs waiter same none st = at (waits_so waiter x) (λ is. none (ap (λ y. kind y && (on_of y == waiter)) (sym same) ∙ is)) st
      where
        at : (b : Bool) → (b ≡ true → ⊥) → (b || list_any (waits_so waiter) xs) ≡ true → Stands xs waiter
        at true differs h = absurd (differs refl)
        at false differs h = h

    more : (x : ℕ × Waiting) (xs : Entries) → woken_of kind p xs ≤ woken_of kind p (x ∷ xs)
    more x xs = at (is_woken kind p x)
      where
        at : (b : Bool) → woken_of kind p xs ≤ length (cond b (x ∷ filter (is_woken kind p) xs) (filter (is_woken kind p) xs))
        at true = omega arith
        at false = omega arith

    stands_more : (x : ℕ × Waiting) (xs : Entries) (waiter : ℕ) → Stands xs waiter → Stands (x ∷ xs) waiter
    stands_more x xs waiter st = at (waits_so waiter x)
      where
        at : (b : Bool) → (b || list_any (waits_so waiter) xs) ≡ true
        at true = refl
        at false = st

    -- both have this one
    sums_both : (x : ℕ × Waiting) (xs ys : Entries) → woken_of kind p xs ≤ woken_of kind p ys + gone p (Some it)
        → woken_of kind p (x ∷ xs) ≤ woken_of kind p (x ∷ ys) + gone p (Some it)
    sums_both x xs ys le = at (is_woken kind p x)
      where
        at : (b : Bool) → length (cond b (x ∷ filter (is_woken kind p) xs) (filter (is_woken kind p) xs))
            ≤ length (cond b (x ∷ filter (is_woken kind p) ys) (filter (is_woken kind p) ys)) + gone p (Some it)
        at true = omega (arith, le)
        at false = le

    stands_both : (x : ℕ × Waiting) (xs ys : Entries) (waiter : ℕ) → (Stands xs waiter → Stands ys waiter) → Stands (x ∷ xs) waiter → Stands (x ∷ ys) waiter
    stands_both x xs ys waiter next st = at (waits_so waiter x) st
      where
        at : (b : Bool) → (b || list_any (waits_so waiter) xs) ≡ true → (b || list_any (waits_so waiter) ys) ≡ true
        at true h = refl
        at false h = next h

    pub over_moves : (xs : Entries) → lookup (is_place place) xs ≡ Some it → Moves p xs (remove_entry (is_place place) xs) (Some it)
    over_moves [] e = absurd (none-some it e)
    over_moves (x ∷ xs) e = at (is_place place x.0) e (λ h. over_moves xs h)
      where
        at : (b : Bool) → cond b (Some x.1) (lookup (is_place place) xs) ≡ Some it
            → (lookup (is_place place) xs ≡ Some it → Moves p xs (remove_entry (is_place place) xs) (Some it))
            → Moves p (x ∷ xs) (cond b xs (x ∷ remove_entry (is_place place) xs)) (Some it)
        at true h next = record {
          sums = less_one x xs (same_it x.1 h);
          stands = λ waiter none st. is_other x xs waiter (same_it x.1 h) none st;
        }
        at false h next =
            let m = next h in
            record {
              sums = sums_both x xs (remove_entry (is_place place) xs) m.sums;
              stands = λ waiter none st. stands_both x xs (remove_entry (is_place place) xs) waiter (m.stands waiter none) st;
            }

    pub again_moves : (new : Waiting) (xs : Entries) → lookup (is_place place) xs ≡ Some it
        → Moves p xs (set_value (is_place place) xs new) (Some it)
    again_moves new [] e = absurd (none-some it e)
    again_moves new (x ∷ xs) e = at (is_place place x.0) e (λ h. again_moves new xs h)
      where
        at : (b : Bool) → cond b (Some x.1) (lookup (is_place place) xs) ≡ Some it
            → (lookup (is_place place) xs ≡ Some it → Moves p xs (set_value (is_place place) xs new) (Some it))
            → Moves p (x ∷ xs) (cond b ((x.0, new) ∷ xs) (x ∷ set_value (is_place place) xs new)) (Some it)
        at true h next = record {
          sums =
              let a = less_one x xs (same_it x.1 h) in
              let b = more (x.0, new) xs in omega (arith, a, b);
          stands = λ waiter none st. stands_more (x.0, new) xs waiter (is_other x xs waiter (same_it x.1 h) none st);
        }
        at false h next =
            let m = next h in
            record {
              sums = sums_both x xs (set_value (is_place place) xs new) m.sums;
              stands = λ waiter none st. stands_both x xs (set_value (is_place place) xs new) waiter (m.stands waiter none) st;
            }

    pub again_stands : (new : Waiting) (xs : Entries) (waiter : ℕ) → lookup (is_place place) xs ≡ Some it → kind new ≡ true → on_of new ≡ waiter
        → Stands (set_value (is_place place) xs new) waiter
    again_stands new [] waiter e is same = absurd (none-some it e)
    again_stands new (x ∷ xs) waiter e is same = at (is_place place x.0) e (λ h. again_stands new xs waiter h is same)
      where
        at : (b : Bool) → cond b (Some x.1) (lookup (is_place place) xs) ≡ Some it
            → (lookup (is_place place) xs ≡ Some it → Stands (set_value (is_place place) xs new) waiter)
            → Stands (cond b ((x.0, new) ∷ xs) (x ∷ set_value (is_place place) xs new)) waiter
        at true h next = ap (λ b. (b && (on_of new == waiter)) || list_any (waits_so waiter) xs) is
            ∙ ap (λ b. b || list_any (waits_so waiter) xs) (eq-eqb (on_of new) waiter same)
        at false h next = stands_more x (set_value (is_place place) xs new) waiter (next h)

  -- ---- what a call leaves
  module _ (p q : Parts) (stays : Ends p q)
      (xs ys : Entries) (lost : Option Waiting) (moves : Moves p xs ys lost) where
    -- what isn't done wasn't
    opens : (waiter : ℕ) → future_outcome q waiter ≡ None → future_outcome p waiter ≡ None
    opens waiter none = at (future_outcome p waiter) refl
      where
        at : (o : Option Outcome) → future_outcome p waiter ≡ o → o ≡ None
        at None e = refl
        at (Some outcome) e = absurd (none-some outcome (sym none ∙ stays waiter outcome e))

    got_so : (on : ℕ) → got_value (future_outcome p on) ≡ true → got_value (future_outcome q on) ≡ true
    got_so on got = at (future_outcome p on) refl got
      where
        at : (o : Option Outcome) → future_outcome p on ≡ o → got_value o ≡ true → got_value (future_outcome q on) ≡ true
        at None e h = absurd (false≢true h)
        at (Some outcome) e h = ap got_value (stays on outcome e) ∙ h

    woken_so : (entry : ℕ × Waiting) → is_woken kind p entry ≡ true → is_woken kind q entry ≡ true
    woken_so entry is =
        let b = and_parts (kind entry.1) (got_value (future_outcome p (on_of entry.1))) is in
        and_from (kind entry.1) (got_value (future_outcome q (on_of entry.1))) b.0 (got_so (on_of entry.1) b.1)

    all_so : (zs : Entries) → Each (λ entry. is_woken kind p entry ≡ true → is_woken kind q entry ≡ true) zs
    all_so [] = tt
    all_so (z ∷ zs) = (woken_so z, all_so zs)

    -- no more are needed, but for the one that is gone
    pub turns_stay : (many now : ℕ) (waiters : List ℕ) → (now ≡ 0) ⊎ (now + gone p lost ≤ many) → Each (IsSafe p lost) waiters
        → Each (HasTurn p xs many) waiters → Each (HasTurn q ys now) waiters
    turns_stay many now waiters le safe all = each_both (IsSafe p lost) (HasTurn p xs many) (HasTurn q ys now) one waiters safe all
      where
        enough : (now ≡ 0) ⊎ (now + gone p lost ≤ many) → many ≤ woken_of kind p xs → now ≤ woken_of kind q ys
        enough (inl none) m = omega (arith, none)
        enough (inr le) m =
            let s = moves.sums in
            let w = more_woken p q ys (all_so ys) in omega (arith, le, m, s, w)

        one : (waiter : ℕ) → IsSafe p lost waiter → HasTurn p xs many waiter → HasTurn q ys now waiter
        one waiter safe_ has none =
            let was = opens waiter none in
            let h = has was in
            (moves.stands waiter (safe_ was) h.0, enough le h.1)

    -- one more waits, and none is needed
    pub turns_last : (many next : ℕ) (waiters : List ℕ) → Each (IsSafe p lost) waiters → Stands ys next → Each (HasTurn p xs many) waiters
        → Each (HasTurn q ys 0) (waiters ++ next ∷ [])
    turns_last many next waiters safe st all =
        each_append (HasTurn q ys 0) waiters (next ∷ []) (turns_stay many 0 waiters (inl refl) safe all) ((λ none. (st, omega arith)), tt)

    -- the next is woken
    pub turns_woken : (many now : ℕ) (waiters : List ℕ) → now + gone p lost ≤ many + 1
        → ((waiter : ℕ) → (wake_next p waiters).steps ≡ wakes waiter ∷ [] → is_pending p waiter ≡ true → got_value (future_outcome q waiter) ≡ true)
        → Each (IsSafe p lost) waiters → Each (HasTurn p xs many) waiters → Each (HasTurn q ys now) (wake_next p waiters).left
    turns_woken many now [] le got safe all = tt
    turns_woken many now (waiter ∷ waiters) le got safe all =
        at (is_pending p waiter) refl got (λ got_. turns_woken many now waiters le got_ safe.1 all.1)
      where
        here : is_pending p waiter ≡ true → got_value (future_outcome q waiter) ≡ true → now ≤ woken_of kind q ys
        here is got_ =
            let was = none_yet p waiter is in
            let h = all.0 was in
            let st = moves.stands waiter (safe.0 was) h.0 in
            let s = moves.sums in
            let m = h.1 in
            let w = one_woken p q waiter ys woken_so st was got_ in omega (arith, le, m, s, w)

        at : (b : Bool) → is_pending p waiter ≡ b
            → ((other : ℕ) → (if b then record { left = waiters; steps = wakes waiter ∷ [] } else wake_next p waiters).steps ≡ wakes other ∷ []
            → is_pending p other ≡ true → got_value (future_outcome q other) ≡ true)
            → (((other : ℕ) → (wake_next p waiters).steps ≡ wakes other ∷ [] → is_pending p other ≡ true → got_value (future_outcome q other) ≡ true)
            → Each (HasTurn q ys now) (wake_next p waiters).left)
            → Each (HasTurn q ys now) (if b then record { left = waiters; steps = wakes waiter ∷ [] } else wake_next p waiters).left
        at false is got_ next = next got_
        at true is got_ next =
            each_both (IsSafe p lost) (HasTurn p xs many) (HasTurn q ys now)
            (λ other safe_ has none. (moves.stands other (safe_ (opens other none)) (has (opens other none)).0, here is (got_ waiter refl is)))
            waiters safe.1 all.1
