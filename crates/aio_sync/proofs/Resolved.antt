-- Waiters that are woken, by the view of the loop's parts.
use Rattle.std.proofs.Common.{◌≡◌, ℕ, zero, suc, ◌<◌, Bool, true, false, List, [], ◌∷◌, ◌++◌, Option, Some, None, length, map, slice_get, slice_set, refl, sym, ap, subst, ◌∙◌, length-set}
use Rattle.std.specs.Prelude.{is_none, nat_lt, not, ◌&&◌, ◌==◌}
use Rattle.std.specs.List.{AllByRecursion as Each, list_all}
use Rattle.std.proofs.lemmas.Bool.{and_from, and_parts, ltb-true}
use Rattle.model_value.specs.Value.{Nothing, Outcome}
use Rattle.model_value.specs.declared.outcome.Outcome.TheVariants.{Value as Returned}
use Rattle.model_loop.specs.Owning.{owner_at}
use Rattle.model_loop.specs.Parts.{Future}
use Rattle.model_machine.specs.Extra.{ExtraStep}
use Rattle.model_sync.specs.Synced.{wakes, wake_first, without}
use Rattle.law_sync.proofs.Lists.{all_each, each_all, each_filter}
use Rattle.aio_future.specs.Settled.{settled, settled_at, settled_until}
use Rattle.aio_task.specs.Keeps.{Known}
use Rattle.aio_task.specs.View.{View}
use Rattle.refine_added.specs.Seen.{SeesAll}
use Rattle.aio_sync.specs.Woken.{are_free, is_free, woken}

-- what is so of a future and of the one that replaces it
set_kept : {B : Type 0} (f : Option Future → B) (xs : List Future) (id other : ℕ) (old new : Future) → slice_get xs id ≡ Some old
    → f (Some new) ≡ f (Some old) → f (slice_get (slice_set xs id new) other) ≡ f (slice_get xs other)
set_kept f [] id other old new e same = refl
set_kept f (x ∷ xs) zero zero old new e same = same ∙ ap f (sym e)
set_kept f (x ∷ xs) zero (suc other) old new e same = refl
set_kept f (x ∷ xs) (suc id) zero old new e same = refl
set_kept f (x ∷ xs) (suc id) (suc other) old new e same = set_kept f xs id other old new e same

-- an outcome makes no future a task's, and as many stay
owner_settled : (id : ℕ) (outcome : Outcome) (futures : List Future) (other : ℕ)
    → owner_at (slice_get (settled id outcome futures) other) ≡ owner_at (slice_get futures other)
owner_settled id outcome futures other = at (slice_get futures id) refl
  where
    until : (future : Future) (done : Option Outcome) → slice_get futures id ≡ Some future
        → owner_at (slice_get (settled_until done future id outcome futures) other) ≡ owner_at (slice_get futures other)
    until future (Some done) e = refl
    until future None e = set_kept owner_at futures id other future (record future { outcome = Some outcome; callbacks = [] }) e refl

    at : (it : Option Future) → slice_get futures id ≡ it
        → owner_at (slice_get (settled_at it id outcome futures) other) ≡ owner_at (slice_get futures other)
    at None e = refl
    at (Some future) e = until future future.outcome e

length_settled : (id : ℕ) (outcome : Outcome) (futures : List Future) → length (settled id outcome futures) ≡ length futures
length_settled id outcome futures = at (slice_get futures id)
  where
    until : (future : Future) (done : Option Outcome) → length (settled_until done future id outcome futures) ≡ length futures
    until future (Some done) = refl
    until future None = length-set futures id (record future { outcome = Some outcome; callbacks = [] })

    at : (it : Option Future) → length (settled_at it id outcome futures) ≡ length futures
    at None = refl
    at (Some future) = until future future.outcome

free_settled : (id : ℕ) (outcome : Outcome) (futures : List Future) (other : ℕ) → is_free (settled id outcome futures) other ≡ is_free futures other
free_settled id outcome futures other =
    ap (λ n. nat_lt other n && is_none (owner_at (slice_get (settled id outcome futures) other))) (length_settled id outcome futures)
    ∙ ap (λ o. nat_lt other (length futures) && is_none o) (owner_settled id outcome futures other)

pub free_woken : (waiter : ℕ) (v : View) (ids : List ℕ) → are_free (woken waiter v).futures ids ≡ are_free v.futures ids
free_woken waiter v [] = refl
free_woken waiter v (id ∷ ids) =
    ap (λ b. b && are_free (woken waiter v).futures ids) (free_settled waiter (Returned Nothing) v.futures id)
    ∙ ap (λ b. is_free v.futures id && b) (free_woken waiter v ids)

pub none_of : (o : Option ℕ) → is_none o ≡ true → o ≡ None
none_of None e = refl
none_of (Some id) e = absurd (cc)

-- ---- what is free
pub free_owner : (futures : List Future) (id : ℕ) → is_free futures id ≡ true → owner_at (slice_get futures id) ≡ None
free_owner futures id h =
    none_of (owner_at (slice_get futures id)) (and_parts (nat_lt id (length futures)) (is_none (owner_at (slice_get futures id))) h).1

pub free_below : (futures : List Future) (ids : List ℕ) → are_free futures ids ≡ true → Each (λ id. id < length futures) ids
free_below futures [] h = tt
free_below futures (id ∷ ids) h =
    let b = and_parts (is_free futures id) (are_free futures ids) h in (
      ltb-true id (length futures) (and_parts (nat_lt id (length futures)) (is_none (owner_at (slice_get futures id))) b.0).0,
      free_below futures ids b.1,
    )

-- ---- steps
pub seen_one : (known : ℕ → Known) (waiter : ℕ) (v w : View) → w ≡ woken waiter v → SeesAll known (wakes waiter ∷ []) v w
seen_one known waiter v w e = (w, e, refl)

pub seen_next : (known : ℕ → Known) (waiter : ℕ) (waiters : List ℕ) (v m w : View) → m ≡ woken waiter v → SeesAll known (map wakes waiters) m w
    → SeesAll known (map wakes (waiter ∷ waiters)) v w
seen_next known waiter waiters v m w e rest = (m, e, rest)

pub first_free : (futures : List Future) (ids : List ℕ) (id : ℕ) → slice_get ids 0 ≡ Some id → are_free futures ids ≡ true → is_free futures id ≡ true
first_free futures [] id e h = absurd (cc)
first_free futures (x ∷ ids) id e h =
    ap (is_free futures) (sym (same x id e)) ∙ (and_parts (is_free futures x) (are_free futures ids) h).0
  where
    same : (x id : ℕ) → Some x ≡ Some id → x ≡ id
    same x id e = cc

pub first_seen : (known : ℕ → Known) (ids : List ℕ) (id : ℕ) (v w : View) → slice_get ids 0 ≡ Some id → w ≡ woken id v
    → SeesAll known (wake_first ids) v w
first_seen known [] id v w e h = absurd (cc)
first_seen known (x ∷ ids) id v w e h = (w, h ∙ ap (λ n. woken n v) (sym (same x id e)), refl)
  where
    same : (x id : ℕ) → Some x ≡ Some id → x ≡ id
    same x id e = cc

pub none_seen : (known : ℕ → Known) (ids : List ℕ) (v : View) → length ids ≡ 0 → SeesAll known (wake_first ids) v v
none_seen known [] v e = refl
none_seen known (x ∷ ids) v e = absurd (cc)

-- ---- one is gone through
pub head_free : (futures : List Future) (id : ℕ) (ids : List ℕ) → are_free futures (id ∷ ids) ≡ true → is_free futures id ≡ true
head_free futures id ids h = (and_parts (is_free futures id) (are_free futures ids) h).0

pub tail_free : (futures : List Future) (id : ℕ) (ids : List ℕ) → are_free futures (id ∷ ids) ≡ true → are_free futures ids ≡ true
tail_free futures id ids h = (and_parts (is_free futures id) (are_free futures ids) h).1

-- one who left
pub left_free : (futures : List Future) (on : ℕ) (ids : List ℕ) → are_free futures ids ≡ true → are_free futures (without on ids) ≡ true
left_free futures on ids h = each_all (is_free futures) (without on ids)
    (each_filter (λ id. is_free futures id ≡ true) (λ other. not (other == on)) ids (all_each (is_free futures) ids h))
