-- The entries and the handles of a request that is asked: they tell it alone, and one is registered on each open member.
use Rattle.std.proofs.Common.{◌≡◌, ◌<◌, ◌≤◌, ◌+◌, ◌-◌, ◌==◌, ◌⊎◌, inl, inr, ℕ, ℤ, zero, suc, Bool, true, false, List, [], ◌∷◌, ◌++◌, Option, Some, None}
use Rattle.std.proofs.Common.{length, map, filter, cond, not, slice_get, refl, sym, ap, subst, ◌∙◌, arith}
use Rattle.std.specs.List.{AllByRecursion as Each, count_by, sum_by}
use Rattle.std.specs.Option.{option_map_or}
use Rattle.std.proofs.lemmas.Bool.{cases_eq, ne_eqb}
use Rattle.std.proofs.lemmas.List.Sums.{sum_by-append, sum_by-cons}
use Rattle.std.proofs.lemmas.Option.{none-some, same_Some}
use Rattle.model_value.specs.Action.{Action}
use Rattle.model_value.specs.declared.action.Action.TheVariants as action
use Rattle.model_loop.specs.Futures.{is_pending, next_future}
use Rattle.model_loop.specs.Loop.{Loop}
use Rattle.model_loop.specs.Parts.{Parts}
use Rattle.model_loop.specs.Totals.{callbacks_of}
use Rattle.model_machine.specs.Extra.{ExtraStep, made_by, made_by_all}
use Rattle.model_gather.specs.Gathered.{Drawn, Gathering, Tells, distinct, gather_part, registered_from}
use Rattle.model_gather.specs.Gather.{count, count_all}
use Rattle.model_gather.specs.Wait.{handle_if_some}
use Rattle.law_waiters.proofs.Fitting.{each_append}
use Rattle.law_waiters.specs.Timed.{is_key}
use Rattle.law_members.proofs.Counted.{Counts, IsIn, is_told, the_key}
use Rattle.law_members.proofs.Drawing.{IsWithin, MoreFit, counts_in, registered_most, registered_on_each, registered_within, tells_in}
use Rattle.law_members.proofs.Onward.{makes, steps_stay}

-- ---- members
pub in_filter : (f : ℕ → Bool) (m : ℕ) (ids : List ℕ) → IsIn m ids → f m ≡ true → IsIn m (filter f ids)
in_filter f m [] among is = absurd among
in_filter f m (id ∷ ids) (inl e) is =
    subst (λ b. IsIn m (cond b (id ∷ filter f ids) (filter f ids))) (sym (ap f e ∙ is)) (inl e)
in_filter f m (id ∷ ids) (inr h) is = at (f id) (in_filter f m ids h is)
  where
    at : (b : Bool) → IsIn m (filter f ids) → IsIn m (cond b (id ∷ filter f ids) (filter f ids))
    at true more = inr more
    at false more = more

pub in_distinct : (m : ℕ) (ids : List ℕ) → IsIn m ids → IsIn m (distinct ids)
in_distinct m [] among = absurd among
in_distinct m (id ∷ ids) (inl e) = inl e
in_distinct m (id ∷ ids) (inr h) = at (cases_eq m id) (in_distinct m ids h)
  where
    at : (m ≡ id) ⊎ (m ≡ id → ⊥) → IsIn m (distinct ids) → IsIn m (distinct (id ∷ ids))
    at (inl e) more = inl (sym e)
    at (inr n) more = inr (in_filter (λ other. not (other == id)) m (distinct ids) more (ap not (ne_eqb m id n)))

-- each that is counted is one fewer, and nothing else changes
pub record CountsAll (it now : Gathering) (counted : ℕ) : Type 0 where
  pub outer : now.outer ≡ it.outer
  pub awaited : now.awaited ≡ it.awaited
  pub as_items : now.as_items ≡ it.as_items
  pub left : now.left ≡ it.left - counted

pub counts_all : (p : Parts) (asked : Bool) (members : List ℕ) (it : Gathering) → CountsAll it (count_all p asked members it).now (length members)
counts_all p asked [] it = record { outer = refl; awaited = refl; as_items = refl; left = omega arith }
counts_all p asked (member ∷ members) it =
    let ih = counts_all p asked members (count p asked member it).now in
    record { outer = ih.outer; awaited = ih.awaited; as_items = ih.as_items; left = let a = ih.left in omega (arith, a) }

-- ---- handles that tell of futures, one each
tells_one : (n : ℕ) (ids : List ℕ) (i m : ℕ) → slice_get ids i ≡ Some m → tells_in (slice_get (map (Tells n) ids) i) ≡ Some (n, m)
tells_one n [] i m e = absurd (none-some m e)
tells_one n (id ∷ ids) zero m e = ap (λ (k : ℕ). Some (n, k)) (same_Some id m e)
tells_one n (id ∷ ids) (suc i) m e = tells_one n ids i m e

pub tells_with : (n : ℕ) (ids : List ℕ) (tail : List Drawn) (i m : ℕ) → slice_get ids i ≡ Some m
    → tells_in (slice_get (map (Tells n) ids ++ tail) i) ≡ Some (n, m)
tells_with n [] tail i m e = absurd (none-some m e)
tells_with n (id ∷ ids) tail zero m e = ap (λ (k : ℕ). Some (n, k)) (same_Some id m e)
tells_with n (id ∷ ids) tail (suc i) m e = tells_with n ids tail i m e

-- behind a request: its handles, none of which counts
pub record IsTail (n : ℕ) (tail : List Drawn) : Type 0 where
  pub none : (i : ℕ) → counts_in (slice_get tail i) ≡ None
  pub tells : (i k m : ℕ) → tells_in (slice_get tail i) ≡ Some (k, m) → k ≡ n

pair_place : (k m n f : ℕ) → ◌≡◌ {A = Option (ℕ × ℕ)} (Some (n, f)) (Some (k, m)) → k ≡ n
pair_place k m n f e = sym (ap (λ (o : Option (ℕ × ℕ)). option_map_or (λ (it : ℕ × ℕ). it.0) o k) e)

pub tail_of : (n : ℕ) (ids : List ℕ) (delay : Option ℤ) → IsTail n (map (Tells n) ids ++ handle_if_some delay n)
tail_of n ids delay = record { none = none ids delay; tells = tells ids delay }
  where
    none : (ids : List ℕ) (delay : Option ℤ) (i : ℕ) → counts_in (slice_get (map (Tells n) ids ++ handle_if_some delay n) i) ≡ None
    none [] None i = refl
    none [] (Some delay) zero = refl
    none [] (Some delay) (suc i) = refl
    none (id ∷ ids) delay zero = refl
    none (id ∷ ids) delay (suc i) = none ids delay i

    tells : (ids : List ℕ) (delay : Option ℤ) (i k m : ℕ) → tells_in (slice_get (map (Tells n) ids ++ handle_if_some delay n) i) ≡ Some (k, m) → k ≡ n
    tells [] None i k m e = absurd (none-some (k, m) e)
    tells [] (Some delay) zero k m e = absurd (none-some (k, m) e)
    tells [] (Some delay) (suc i) k m e = absurd (none-some (k, m) e)
    tells (id ∷ ids) delay zero k m e = pair_place k m n id e
    tells (id ∷ ids) delay (suc i) k m e = tells ids delay i k m e

pub no_more : (tail : List Drawn) → tail ++ [] ≡ tail
no_more [] = refl
no_more (it ∷ tail) = ap (λ more. it ∷ more) (no_more tail)

pub tail_alone : (n : ℕ) (ids : List ℕ) → IsTail n (map (Tells n) ids)
tail_alone n ids = subst (IsTail n) (no_more (map (Tells n) ids)) (tail_of n ids None)

-- ---- of a request that counts nothing
pub plain_fit : (n : ℕ) (first : Drawn) (tail : List Drawn) (steps : List ExtraStep) (l : Loop) → counts_in (Some first) ≡ None → tells_in (Some first) ≡ None
    → IsTail n tail → Each (IsWithin n (n + length (first ∷ tail))) steps → MoreFit n (first ∷ tail) steps l
plain_fit n first tail steps l no_count no_tell is within =
    record {
      counts = counts;
      tells = tells;
      within = within;
      own = λ it e. absurd (none-some it (sym no_count ∙ e));
      left = λ it e test same. absurd (none-some it (sym no_count ∙ e));
      there = λ it e m among before pending. absurd (none-some it (sym no_count ∙ e));
    }
  where
    counts : (i : ℕ) (it : Counts) → counts_in (slice_get (first ∷ tail) i) ≡ Some it → i ≡ 0
    counts zero it e = refl
    counts (suc i) it e = absurd (none-some it (sym (is.none i) ∙ e))

    tells : (i k m : ℕ) → tells_in (slice_get (first ∷ tail) i) ≡ Some (k, m) → (k ≡ n) × (0 < i)
    tells zero k m e = absurd (none-some (k, m) (sym no_tell ∙ e))
    tells (suc i) k m e = (is.tells i k m e, omega arith)

-- ---- of one that counts: its handles are registered on its open members
module _ (n : ℕ) (first : Drawn) (its : Counts) (open_ : List ℕ) (tail : List Drawn) (make : ExtraStep) (more : List ExtraStep) (l : Loop)
    (counts_first : counts_in (Some first) ≡ Some its) (tells_first : tells_in (Some first) ≡ None) (tail_fits : IsTail n (map (Tells n) open_ ++ tail))
    (make_within : IsWithin n (n + length (first ∷ map (Tells n) open_ ++ tail)) make)
    (make_makes : (test : Action → Bool) → makes test make ≡ 0)
    (makes_one : next_future (made_by make l).parts ≡ suc (next_future l.parts))
    (more_within : Each (IsWithin n (n + length (first ∷ map (Tells n) open_ ++ tail))) more)
    (more_none : (test : Action → Bool) → ((i : ℕ) → test (action.Extra (the_key (n + i)))
    ≡ is_told n (tells_in (slice_get (first ∷ map (Tells n) open_ ++ tail) i))) → sum_by (makes test) more ≡ 0)
    (size : n + suc (length open_) ≤ n + length (first ∷ map (Tells n) open_ ++ tail))
    (left_is : length open_ ≤ its.left) (own_is : its.own ≡ next_future l.parts)
    (open_in : (m : ℕ) → IsIn m its.members → is_pending l.parts m ≡ true → IsIn m open_) where
  abbrev entries_now : List Drawn
  entries_now = first ∷ map (Tells n) open_ ++ tail

  abbrev handles : List ExtraStep
  handles = registered_from gather_part (suc n) open_

  abbrev all_steps : List ExtraStep
  all_steps = make ∷ handles ++ more

  pub counting_fit : MoreFit n (first ∷ map (Tells n) open_ ++ tail) (make ∷ registered_from gather_part (suc n) open_ ++ more) l
  counting_fit = record {
    counts = counts;
    tells = tells;
    within = (
      make_within,
      each_append (IsWithin n (n + length entries_now)) handles more
          (registered_within n (n + length entries_now) (suc n) open_ (omega arith) (omega (arith, size))) more_within,
    );
    own = λ it e.
        let a = ap (λ (w : Counts). w.own) (same_Some its it (sym counts_first ∙ e)) in
        let b = (steps_stay (handles ++ more) (made_by make l)).made in
        omega (arith, a, b, own_is, makes_one);
    left = λ it e test same.
        let a = ap (λ (w : Counts). w.left) (same_Some its it (sym counts_first ∙ e)) in
        let b = sum_by-cons (makes test) make (handles ++ more) in
        let c = sum_by-append (makes test) handles more in
        let d = registered_most test (suc n) open_ in
        let f = make_makes test in
        let g = more_none test same in
        omega (arith, a, b, c, d, f, g, left_is);
    there = there;
  }
    where
      counts : (i : ℕ) (it : Counts) → counts_in (slice_get (first ∷ map (Tells n) open_ ++ tail) i) ≡ Some it → i ≡ 0
      counts zero it e = refl
      counts (suc i) it e = absurd (none-some it (sym (tail_fits.none i) ∙ e))

      tells : (i k m : ℕ) → tells_in (slice_get (first ∷ map (Tells n) open_ ++ tail) i) ≡ Some (k, m) → (k ≡ n) × (0 < i)
      tells zero k m e = absurd (none-some (k, m) (sym tells_first ∙ e))
      tells (suc i) k m e = (tail_fits.tells i k m e, omega arith)

      there : (it : Counts) → counts_in (Some first) ≡ Some it → (m : ℕ) → IsIn m it.members → m < it.own
          → is_pending (made_by_all (make ∷ registered_from gather_part (suc n) open_ ++ more) l).parts m ≡ true
          → (i : ℕ) × ((tells_in (slice_get (first ∷ map (Tells n) open_ ++ tail) i) ≡ Some (n, m))
          × (0 < count_by (is_key (the_key (n + i)))
          (callbacks_of (made_by_all (make ∷ registered_from gather_part (suc n) open_ ++ more) l).parts m)))
      there it e m among before pending =
          let here = same_Some its it (sym counts_first ∙ e) in
          let members = ap (λ (w : Counts). w.members) here in
          let own = ap (λ (w : Counts). w.own) here in
          let low : m < next_future l.parts = omega (arith, before, own, own_is) in
          let was = (steps_stay all_steps l).pending m low pending in
          let open_at = open_in m (subst (IsIn m) (sym members) among) was.0 in
          let on = registered_on_each more (suc n) open_ (made_by make l) m open_at (omega (arith, low, makes_one)) pending in
          let z : suc n + on.0 ≡ n + suc on.0 = omega arith in (
            suc on.0,
            (
              tells_with n open_ tail on.0 m on.1.0,
              subst (λ k. 0 < count_by (is_key (the_key k)) (callbacks_of (made_by_all all_steps l).parts m)) z on.1.1,
            ),
          )
