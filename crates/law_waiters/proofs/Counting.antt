-- What a gather's future gets as a member is counted, and the lists of gathers and waits.
use Rattle.std.proofs.Common.{◌≡◌, ◌+◌, ◌==◌, ◌&&◌, ◌⊎◌, inl, inr, ℕ, zero, suc, Bool, true, false, cond, not, if◌then◌else◌, List, [], ◌∷◌, Option, Some, None}
use Rattle.std.proofs.Common.{length, slice_get, refl, sym, ap, ◌∙◌, arith, subst}
use Rattle.std.specs.Option.{option_and_then}
use Rattle.std.proofs.lemmas.Bool.{cases_eq, eq-eqb, ne_eqb}
use Rattle.std.proofs.lemmas.Option.{none-some, same_Some}
use Rattle.model_value.specs.declared.outcome.Outcome.TheVariants.{Cancelled}
use Rattle.model_value.specs.Value.{Outcome}
use Rattle.model_loop.proofs.FutureCases.{settled, settled_as}
use Rattle.model_loop.specs.Futures.{future_outcome, is_pending, outcome_at, settle}
use Rattle.model_loop.specs.Parts.{Future, Parts}
use Rattle.model_gather.specs.Gathered.{Argument, Gathering}
use Rattle.model_gather.specs.Gather.{count, decided, is_value, item_at, items_of, result_of}
use Rattle.law_waiters.specs.Answers.{AreInOrder, GatherGets, MayGoOn, answers, done_of, is_cancelled, pending_of, raises, waits}

module _ (p : Parts) (asked : Bool) (counted : Outcome) (now : Gathering) where
  -- none is left, or some are
  last : MayGoOn counted now → (n : (now.left ≡ 0) ⊎ (now.left ≡ 0 → ⊥)) → (b : Bool) → asked ≡ b
      → GatherGets p asked counted now
      (if now.left == 0 then Some (if b then Cancelled else result_of (items_of p now.awaited)) else None)
  last may (inl none) true is =
      subst (λ c. GatherGets p asked counted now (if c then Some Cancelled else None)) (sym (eq-eqb now.left 0 none)) (is_cancelled may none is)
  last may (inl none) false is =
      subst (λ c. GatherGets p asked counted now (if c then Some (result_of (items_of p now.awaited)) else None)) (sym (eq-eqb now.left 0 none))
      (answers may none is)
  last may (inr some) b is =
      subst (λ c. GatherGets p asked counted now (if c then Some (if b then Cancelled else result_of (items_of p now.awaited)) else None))
      (sym (ne_eqb now.left 0 some)) (waits may some)

  by : (items value : Bool) → now.as_items ≡ items → is_value counted ≡ value
      → GatherGets p asked counted now
      (if not items && not value then Some counted
      else (if now.left == 0 then Some (if asked then Cancelled else result_of (items_of p now.awaited)) else None))
  by true value is has = last (inl is) (cases_eq now.left 0) asked refl
  by false true is has = last (inr has) (cases_eq now.left 0) asked refl
  by false false is has = raises is has

  pub decides : GatherGets p asked counted now (decided p asked counted now)
  decides = by now.as_items (is_value counted) refl refl

pub count_decides : (p : Parts) (asked : Bool) (member : ℕ) (it : Gathering) (counted : Outcome) → future_outcome p member ≡ Some counted
    → GatherGets p asked counted (count p asked member it).now (count p asked member it).outcome
count_decides p asked member it counted e =
    let now = (count p asked member it).now in
    subst (λ o. GatherGets p asked counted now (option_and_then (λ outcome. decided p asked outcome now) o)) (sym e) (decides p asked counted now)

-- what is done stays
pub settles_once : (id : ℕ) (first second : Outcome) (p : Parts) → future_outcome p id ≡ Some first → settle id second p ≡ p
settles_once id first second p e = at (slice_get p.futures id) refl
  where
    until : (future : Future) (o : Option Outcome) → o ≡ Some first → settled_as o id future second p ≡ p
    until future None f = absurd (none-some first f)
    until future (Some done) f = refl

    at : (o : Option Future) → slice_get p.futures id ≡ o → settled o id second p ≡ p
    at None found = refl
    at (Some future) found = until future future.outcome (sym (ap outcome_at found) ∙ e)

-- ---- lists
items_size : (p : Parts) (awaited : List ℕ) → length (items_of p awaited) ≡ length awaited
items_size p [] = refl
items_size p (id ∷ ids) = ap suc (items_size p ids)

items_at : (p : Parts) (awaited : List ℕ) (place id : ℕ) → slice_get awaited place ≡ Some id → slice_get (items_of p awaited) place ≡ Some (item_at p id)
items_at p [] place id e = absurd (none-some id e)
items_at p (x ∷ xs) zero id e = ap (λ k. Some (item_at p k)) (same_Some x id e)
items_at p (x ∷ xs) (suc place) id e = items_at p xs place id e

pub in_order : (p : Parts) (awaited : List ℕ) → AreInOrder p awaited (items_of p awaited)
in_order p awaited = (items_size p awaited, items_at p awaited)

pub split_all : (p : Parts) (arguments : List Argument) → length (done_of p arguments) + length (pending_of p arguments) ≡ length arguments
split_all p [] = omega arith
split_all p (it ∷ others) = at (split_all p others) (is_pending p it.future)
  where
    at : length (done_of p others) + length (pending_of p others) ≡ length others → (b : Bool)
        → length (cond (not b) (it ∷ done_of p others) (done_of p others)) + length (cond b (it ∷ pending_of p others) (pending_of p others))
        ≡ length (it ∷ others)
    at ih true = omega (arith, ih)
    at ih false = omega (arith, ih)
