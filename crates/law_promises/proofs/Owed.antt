-- What timeouts and groups will take back of a task's count, and that the count is at least that where nobody else took of it.
use Rattle.std.proofs.Common.{◌≡◌, ℕ, zero, suc, ◌+◌, ◌≤◌, ◌<◌, ◌⊎◌, inl, inr, Bool, true, false, cond, ◌||◌, List, [], ◌∷◌, ◌++◌, length, slice_get}
use Rattle.std.proofs.Common.{slice_index_or, slice_set, refl, sym, ap, subst, ◌∙◌, le_refl, append_assoc, append-nil, length-set, arith}
use Rattle.std.specs.List.{count_by, list_any}
use Rattle.std.specs.Option.{option_map_or}
use Rattle.std.proofs.lemmas.Bool.{cases_lt, or_parts, false≢true}
use Rattle.std.proofs.lemmas.List.Folds.{list_any-append}
use Rattle.model_loop.specs.Balance.{Balances, lowers}
use Rattle.model_loop.specs.Futures.{is_pending}
use Rattle.model_loop.specs.Groups.{group_of, new_group, set_group}
use Rattle.model_loop.specs.Ledger.{LedgerEntry, Asked, Raised, Took, Began, Booked}
use Rattle.model_loop.specs.Loop.{Timeout, Group, Loop, book}
use Rattle.model_loop.specs.Parts.{Parts, Task}
use Rattle.model_loop.specs.Tasks.{cancelling, future_of, lives, next_task}
use Rattle.model_loop.specs.Timeouts.{no_timeout, set_timeout, timeout_of}
pub use Rattle.law_changes.proofs.Counting.{count-cons as count_cons}
use Rattle.law_changes.specs.Changes.{LoopChange, made_of_loop}
use Rattle.law_changes.specs.Reaches.{Reaches}
use Rattle.law_changes.proofs.Folds.{fold}
use Rattle.law_promises.proofs.Later.{IsLater, later_refl, later_then}
use Rattle.law_promises.specs.Owed.{AreFound, IsCovered, IsRight, owed, owes_group, owes_timeout, uncancels}
use Rattle.law_promises.proofs.Found.{found_on, is_took, none_found}

-- a step that takes nothing back, and after which no more is owed
pub record IsEasy (l q : Loop) : Type 0 where
  pub later : IsLater l.parts q.parts
  pub counts : (task : ℕ) → cancelling l.parts task ≤ cancelling q.parts task
  pub owes : (task : ℕ) → owed q task ≤ owed l task
  pub more : List LedgerEntry
  pub ledger : q.ledger ≡ l.ledger ++ more
  pub none : list_any is_took more ≡ false
  pub timeouts_made : length q.timeouts ≡ length l.timeouts
  pub groups_made : length q.groups ≡ length l.groups

-- one that books nothing
easy_unbooked : (l q : Loop) → IsLater l.parts q.parts → ((task : ℕ) → cancelling l.parts task ≤ cancelling q.parts task)
    → ((task : ℕ) → owed q task ≤ owed l task) → q.ledger ≡ l.ledger → length q.timeouts ≡ length l.timeouts
    → length q.groups ≡ length l.groups → IsEasy l q
easy_unbooked l q later counts owes same timeouts_made groups_made = record {
  later = later;
  counts = counts;
  owes = owes;
  more = [];
  ledger = same ∙ sym (append-nil l.ledger);
  none = refl;
  timeouts_made = timeouts_made;
  groups_made = groups_made;
}

pub easy_parts : (l : Loop) (p : Parts) → IsLater l.parts p → ((task : ℕ) → cancelling l.parts task ≤ cancelling p task)
    → IsEasy l (record l { parts = p })
easy_parts l p later counts = easy_unbooked l (record l { parts = p }) later counts (λ task. le_refl _) refl refl refl

pub easy_refl : (l : Loop) → IsEasy l l
easy_refl l = easy_parts l l.parts (later_refl l.parts) (λ task. le_refl _)

pub easy_then : (l m q : Loop) → IsEasy l m → IsEasy m q → IsEasy l q
easy_then l m q a b = record {
  later = later_then l.parts m.parts q.parts a.later b.later;
  counts = λ task. let x = a.counts task in let y = b.counts task in omega (arith, x, y);
  owes = λ task. let x = a.owes task in let y = b.owes task in omega (arith, x, y);
  more = a.more ++ b.more;
  ledger = b.ledger ∙ ap (λ (es : List LedgerEntry). es ++ b.more) a.ledger ∙ append_assoc l.ledger a.more b.more;
  none = list_any-append is_took a.more b.more ∙ ap (λ x. x || list_any is_took b.more) a.none ∙ b.none;
  timeouts_made = b.timeouts_made ∙ a.timeouts_made;
  groups_made = b.groups_made ∙ a.groups_made;
}

module _ {May : LoopChange → Loop → Type 0} (each : (change : LoopChange) (l : Loop) → May change l → IsEasy l (made_of_loop change l)) where
  pub easy_row : {l m : Loop} → Reaches made_of_loop May l m → IsEasy l m
  easy_row row = fold IsEasy easy_refl easy_then each row

pub same_counts : (p q : Parts) → q.tasks ≡ p.tasks → (task : ℕ) → cancelling p task ≤ cancelling q task
same_counts p q e task =
    let x : cancelling q task ≡ cancelling p task =
    ap (λ (ts : List Task). option_map_or (λ (t : Task). t.cancels) (slice_get ts task) 0) e in
    omega (arith, x)

pub no_lowers : (task : ℕ) (es : List LedgerEntry) → list_any is_took es ≡ false → count_by (lowers task) es ≡ 0
no_lowers task [] h = refl
no_lowers task (Asked by ∷ es) h =
    let a = count_cons (lowers task) (Asked by) es in let ih = no_lowers task es h in omega (arith, a, ih)
no_lowers task (Raised other by ∷ es) h =
    let a = count_cons (lowers task) (Raised other by) es in let ih = no_lowers task es h in omega (arith, a, ih)
no_lowers task (Began group ∷ es) h =
    let a = count_cons (lowers task) (Began group) es in let ih = no_lowers task es h in omega (arith, a, ih)
no_lowers task (Took other by lowered ∷ es) h = absurd (false≢true (sym h))

pub easy_book : (change : Parts → Booked) (l : Loop) → IsLater l.parts (change l.parts).parts → Balances l.parts (change l.parts)
    → list_any is_took (change l.parts).entries ≡ false → IsEasy l (book change l)
easy_book change l later balances none = record {
  later = later;
  counts = λ task. let b = balances task in let z = no_lowers task (change l.parts).entries none in omega (arith, b, z);
  owes = λ task. le_refl _;
  more = (change l.parts).entries;
  ledger = refl;
  none = none;
  timeouts_made = refl;
  groups_made = refl;
}

-- ---- a timeout or a group changes
count_set : {X : Type 0} (f : X → Bool) (xs : List X) (i : ℕ) (new d : X) → f d ≡ false
    → count_by f (slice_set xs i new) + cond (f (slice_index_or xs i d)) 1 0 ≤ count_by f xs + cond (f new) 1 0
count_set f [] i new d h = let a : ◌≡◌ {A = ℕ} (cond (f d) 1 0) 0 = ap (λ b. cond b 1 0) h in omega (arith, a)
count_set f (x ∷ xs) zero new d h = let a = count_cons f new xs in let b = count_cons f x xs in omega (arith, a, b)
count_set f (x ∷ xs) (suc i) new d h =
    let a = count_cons f x (slice_set xs i new) in
    let b = count_cons f x xs in
    let ih = count_set f xs i new d h in
    omega (arith, a, b, ih)

pub timeout_owed : (id : ℕ) (new : Timeout) (l : Loop) (task : ℕ)
    → owed (set_timeout id new l) task + cond (owes_timeout task (timeout_of l id)) 1 0 ≤ owed l task + cond (owes_timeout task new) 1 0
timeout_owed id new l task = let a = count_set (owes_timeout task) l.timeouts id new no_timeout refl in omega (arith, a)

pub group_owed : (id : ℕ) (new : Group) (l : Loop) (task : ℕ)
    → owed (set_group id new l) task + cond (owes_group l.profile task (group_of l id)) 1 0 ≤ owed l task + cond (owes_group l.profile task new) 1 0
group_owed id new l task = let a = count_set (owes_group l.profile task) l.groups id new (new_group 0) refl in omega (arith, a)

pub easy_timeout : (id : ℕ) (new : Timeout) (l : Loop)
    → ((task : ℕ) → cond (owes_timeout task new) 1 0 ≤ cond (owes_timeout task (timeout_of l id)) 1 0) → IsEasy l (set_timeout id new l)
easy_timeout id new l fewer =
    easy_unbooked l (set_timeout id new l) (later_refl l.parts) (λ task. le_refl _)
    (λ task. let a = timeout_owed id new l task in let b = fewer task in omega (arith, a, b)) refl (length-set l.timeouts id new) refl

pub easy_group : (id : ℕ) (new : Group) (l : Loop)
    → ((task : ℕ) → cond (owes_group l.profile task new) 1 0 ≤ cond (owes_group l.profile task (group_of l id)) 1 0) → IsEasy l (set_group id new l)
easy_group id new l fewer =
    easy_unbooked l (set_group id new l) (later_refl l.parts) (λ task. le_refl _)
    (λ task. let a = group_owed id new l task in let b = fewer task in omega (arith, a, b)) refl refl (length-set l.groups id new)

-- ---- what is right stays so, and what is covered
pub right_on : (l q : Loop) → IsLater l.parts q.parts → next_task q.parts ≡ next_task l.parts → ((task : ℕ) → owed q task ≤ owed l task) → IsRight l
    → IsRight q
right_on l q later same owes is = record {
  made = λ task h.
      let w : task < next_task l.parts = omega (arith, h, same) in
      let a = is.made task w in
      let b = later.owned task w in
      let c = later.futures in
      omega (arith, a, b, c);
  fresh = λ task h. let a = is.fresh task (omega (arith, h, same)) in let b = owes task in omega (arith, a, b);
}

pub back : (l q : Loop) → IsLater l.parts q.parts → IsRight l → (task : ℕ) → task < next_task l.parts → lives q.parts task ≡ true
    → lives l.parts task ≡ true
back l q a is task w h = a.pends (future_of l.parts task) (is.made task w) (sym (ap (is_pending q.parts) (a.owned task w)) ∙ h)

pub first_none : (task : ℕ) (xs ys : List LedgerEntry) → list_any (uncancels task) (xs ++ ys) ≡ false
    → (list_any (uncancels task) xs ≡ false) × (list_any (uncancels task) ys ≡ false)
first_none task xs ys h =
    or_parts (list_any (uncancels task) xs) (list_any (uncancels task) ys) (sym (list_any-append (uncancels task) xs ys) ∙ h)

pub covers : (l q : Loop) → IsEasy l q → IsRight l → IsCovered l → IsCovered q
covers l q a right is = record {
  timeouts_few = let x = is.timeouts_few in let y = a.timeouts_made in omega (arith, x, y);
  groups_few = let x = is.groups_few in let y = a.groups_made in omega (arith, x, y);
  covered = λ task h none. at task h (first_none task l.ledger a.more (sym (ap (list_any (uncancels task)) a.ledger) ∙ none)).0
      (cases_lt task (next_task l.parts));
  found = subst (AreFound []) (sym a.ledger) (found_on [] l.ledger a.more is.found (none_found l.ledger a.more a.none));
}
  where
    at : (task : ℕ) → lives q.parts task ≡ true → list_any (uncancels task) l.ledger ≡ false
        → (task < next_task l.parts) ⊎ (next_task l.parts ≤ task) → owed q task ≤ cancelling q.parts task
    at task h none (inl w) =
        let x = is.covered task (back l q a.later right task w h) none in
        let y = a.owes task in
        let z = a.counts task in
        omega (arith, x, y, z)
    at task h none (inr past) = let x = right.fresh task past in let y = a.owes task in omega (arith, x, y)
