-- What is added keeps what it kept, as the loop goes on: tasks, futures, tags and values, and the keys under which tasks stand.
use Rattle.std.proofs.Common.{◌≡◌, ℕ, ◌<◌, ◌≤◌, ◌⊎◌, inl, inr, Bool, true, not, List, [], ◌∷◌, ◌++◌, Option, Some, None, option_map, length, slice_get}
use Rattle.std.proofs.Common.{slice_index_or, refl, sym, ap, subst, ◌∙◌, arith}
use Rattle.std.specs.List.{AllByRecursion as Each}
use Rattle.std.specs.Option.{option_map_or}
use Rattle.std.proofs.lemmas.Bool.{cases_eq}
use Rattle.std.proofs.lemmas.Option.{none-some}
use Rattle.model_value.specs.Value.{Value}
use Rattle.model_loop.specs.Futures.{next_future}
use Rattle.model_loop.specs.Owning.{own_future}
use Rattle.model_loop.specs.Parts.{Parts, Task}
use Rattle.model_loop.specs.Tasks.{future_of, next_task}
use Rattle.model_machine.specs.Extra.{Keeping}
use Rattle.model_machine.specs.Sound.{AreKept, AreKeysKept, Ids, IsAwaitable, IsFree, IsNoneOf, IsOwned, IsTagOwned, StandsUnder, is_extra}
use Rattle.model_machine.specs.State.{ResumePoint, Asked, Serving, Generator, generator}
use Rattle.law_cancel.proofs.Lookups.{get-push_last, get-push_other, get_within}
use Rattle.law_turns.specs.After.{IsAfter}
use Rattle.law_replies.specs.InStep.{FuturesStay, MayStandAt}
use Rattle.law_replies.proofs.Counts.{get_there}
use Rattle.law_replies.proofs.Ids.{IsMore, list_up}

-- ---- futures of `future()`
pub futures_stay : {next : ℕ} {futures : List ℕ} → FuturesStay next futures futures
futures_stay = record { stays = λ place id e. e; fresh = λ place id e. inl e }

pub same_stay : (next : ℕ) (old new : List ℕ) → new ≡ old → FuturesStay next old new
same_stay next old new same = record {
  stays = λ place id e. ap (λ l. slice_get l place) same ∙ e;
  fresh = λ place id e. inl (sym (ap (λ l. slice_get l place) same) ∙ e);
}

pub pushed_stay : (next : ℕ) (futures : List ℕ) → FuturesStay next futures (futures ++ next ∷ [])
pushed_stay next futures = record {
  stays = λ place id e.
      let w = get_within futures place id e in get-push_other futures next place (λ same. absurd (omega (arith, w, same))) ∙ e;
  fresh = λ place id e. at place id e (cases_eq place (length futures));
}
  where
    at : (place id : ℕ) → slice_get (futures ++ next ∷ []) place ≡ Some id → (place ≡ length futures) ⊎ (place ≡ length futures → ⊥)
        → (slice_get futures place ≡ Some id) ⊎ (next ≤ id)
    at place id e (inl same) =
        let is : next ≡ id = ap (λ o. option_map_or (λ x. x) o 0)
        (sym (get-push_last futures next) ∙ ap (λ k. slice_get (futures ++ next ∷ []) k) (sym same) ∙ e) in
        inr (omega (arith, is))
    at place id e (inr n) = inl (sym (get-push_other futures next place n) ∙ e)

-- ---- each of a list
pub each_on : {A : Type 0} (P Q : A → Type 0) → ((x : A) → P x → Q x) → (xs : List A) → Each P xs → Each Q xs
each_on P Q on [] all = tt
each_on P Q on (x ∷ xs) all = (on x all.0, each_on P Q on xs all.1)

pub each_both : {A : Type 0} (P Q R : A → Type 0) → ((x : A) → P x → Q x → R x) → (xs : List A) → Each P xs → Each Q xs → Each R xs
each_both P Q R on [] all both = tt
each_both P Q R on (x ∷ xs) all both = (on x all.0 both.0, each_both P Q R on xs all.1 both.1)

-- ---- as the loop goes on
module _ (test : Value → Bool) (grown : Bool) (excused : Option ℕ) (old new : List ℕ) (p q : Parts) (a : IsAfter test grown excused p q)
    (stay : FuturesStay (next_future p) old new) where
  own_stays : (task id : ℕ) → own_future p task ≡ Some id → own_future q task ≡ Some id
  own_stays task id e = at (slice_get p.tasks task) refl
    where
      there : (t : Task) → slice_get p.tasks task ≡ Some t → own_future q task ≡ Some id
      there t is =
          let within = get_within p.tasks task t is in
          let n = a.tasks in
          let u = get_there q.tasks task (omega (arith, within, n)) in
          let own : t.future ≡ id = ap (λ o. option_map_or (λ (x : ℕ). x) o id) (sym (ap (option_map (λ (x : Task). x.future)) is) ∙ e) in
          let here : future_of p task ≡ t.future = ap (λ o. option_map_or (λ (x : Task). x.future) o (next_future p)) is in
          let after : future_of q task ≡ u.0.future = ap (λ o. option_map_or (λ (x : Task). x.future) o (next_future q)) u.1 in
          ap (option_map (λ (x : Task). x.future)) u.1 ∙ ap Some (sym after ∙ a.owned task within ∙ here ∙ own)

      at : (o : Option Task) → slice_get p.tasks task ≡ o → own_future q task ≡ Some id
      at None is = absurd (none-some id (sym (ap (option_map (λ (x : Task). x.future)) is) ∙ e))
      at (Some t) is = there t is

  awaitable : (id : ℕ) → IsAwaitable old p id → IsAwaitable new q id
  awaitable id (inl named) = inl (named.0, stay.stays named.0 id named.1)
  awaitable id (inr own) = inr (own.0, own_stays own.0 id own.1)

  owned : (id : ℕ) → IsOwned p id → IsOwned q id
  owned id h = (let n = a.futures in let w = h.0 in omega (arith, n, w), a.owners id h.0 ∙ h.1)

  none_of : (id : ℕ) → IsOwned p id → IsNoneOf old id → IsNoneOf new id
  none_of id h none place e = at (stay.fresh place id e)
    where
      at : (slice_get old place ≡ Some id) ⊎ (next_future p ≤ id) → ⊥
      at (inl was) = none place was
      at (inr past) = absurd (let w = h.0 in omega (arith, w, past))

  tag_owned : (tag : ℕ) → IsTagOwned p tag → IsTagOwned q tag
  tag_owned tag h = (
    let n = a.next in let w = h.0 in omega (arith, n, w),
    let e = a.tags (λ other it. not (is_extra it)) tag h.0 in let z = h.1 in omega (arith, e, z),
  )

  pub kept_on : (m n : Ids) → IsMore m n → (keeping : Keeping) → AreKept m keeping old p → AreKept n keeping new q
  kept_on m n more keeping is = record {
    tasks = each_on (λ task. task < next_task p) (λ task. task < next_task q) (λ task h. let n = a.tasks in omega (arith, h, n)) keeping.tasks is.tasks;
    awaitable = each_on (IsAwaitable old p) (IsAwaitable new q) awaitable keeping.futures is.awaitable;
    own = each_on (IsOwned p) (IsOwned q) owned keeping.own is.own;
    apart = each_both (IsOwned p) (IsNoneOf old) (IsNoneOf new) none_of keeping.own is.own is.apart;
    tags = each_on (IsTagOwned p) (IsTagOwned q) tag_owned keeping.tags is.tags;
    values = list_up m n more keeping.values is.values;
  }

-- where more was made
pub kept_more : (m n : Ids) → IsMore m n → (keeping : Keeping) (futures : List ℕ) (p : Parts) → AreKept m keeping futures p
    → AreKept n keeping futures p
kept_more m n more keeping futures p is = record {
  tasks = is.tasks;
  awaitable = is.awaitable;
  own = is.own;
  apart = is.apart;
  tags = is.tags;
  values = list_up m n more keeping.values is.values;
}

-- ---- keys
asked_serves : (key : ℕ) → Asked ≡ Serving key → ⊥
asked_serves key e = absurd (cc)

-- where tasks stand as before
pub keys_same : (has_key : ℕ → Bool) (old new : List Generator)
    → ((task : ℕ) → (slice_index_or new task (generator 0 [])).resume_point ≡ (slice_index_or old task (generator 0 [])).resume_point)
    → AreKeysKept has_key old → AreKeysKept has_key new
keys_same has_key old new same is = record {
  known = λ task key e. is.known task key (sym (same task) ∙ e);
  once = λ task other key e f. is.once task other key (sym (same task) ∙ e) (sym (same other) ∙ f);
}

-- a key that is free, and is known, is no other's
pub may_at : (has_key : ℕ → Bool) (generators : List Generator) (resume_point : ResumePoint) → MayStandAt has_key generators resume_point → (key : ℕ)
    → resume_point ≡ Serving key → IsFree generators key × (has_key key ≡ true)
may_at has_key generators resume_point may key e = subst (MayStandAt has_key generators) e may

pub keys_stood : (has_key : ℕ → Bool) (old new : List Generator) (task : ℕ) (resume_point : ResumePoint) → MayStandAt has_key old resume_point
    → (slice_index_or new task (generator 0 [])).resume_point ≡ resume_point
    → ((other : ℕ) → (task ≡ other → ⊥)
    → (slice_index_or new other (generator 0 [])).resume_point ≡ (slice_index_or old other (generator 0 [])).resume_point)
    → AreKeysKept has_key old → AreKeysKept has_key new
keys_stood has_key old new task resume_point may mine others is = record {
  known = λ other key e. known other key e (cases_eq task other);
  once = λ one other key e f. once one other key e f (cases_eq task one) (cases_eq task other);
}
  where
    here : (other key : ℕ) → task ≡ other → StandsUnder new other key → IsFree old key × (has_key key ≡ true)
    here other key same e =
        may_at has_key old resume_point may key
        (sym mine ∙ ap (λ k. (slice_index_or new k (generator 0 [])).resume_point) same ∙ e)

    known : (other key : ℕ) → StandsUnder new other key → (task ≡ other) ⊎ (task ≡ other → ⊥) → has_key key ≡ true
    known other key e (inl same) = (here other key same e).1
    known other key e (inr n) = is.known other key (sym (others other n) ∙ e)

    once : (one other key : ℕ) → StandsUnder new one key → StandsUnder new other key → (task ≡ one) ⊎ (task ≡ one → ⊥)
        → (task ≡ other) ⊎ (task ≡ other → ⊥) → one ≡ other
    once one other key e f (inl a) (inl b) = sym a ∙ b
    once one other key e f (inl a) (inr n) = absurd ((here one key a e).0 other (sym (others other n) ∙ f))
    once one other key e f (inr m) (inl b) = absurd ((here other key b f).0 one (sym (others one m) ∙ e))
    once one other key e f (inr m) (inr n) = is.once one other key (sym (others one m) ∙ e) (sym (others other n) ∙ f)
