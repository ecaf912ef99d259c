-- No more futures are open than are pending and are tasks' own or stand for several, where nothing waits in a cycle.
use Rattle.std.proofs.Common.{◌≡◌, ℕ, zero, suc, ◌+◌, ◌<◌, ◌≤◌, ◌⊎◌, Bool, true, false, ◌||◌, cond, List, [], ◌∷◌, ◌++◌, Option, Some, None, length, map}
use Rattle.std.proofs.Common.{reverse, slice_get, slice_set, nat_eq, nat_lt, refl, ap, sym, ◌∙◌, subst, arith, inl, inr}
use Rattle.std.specs.List.{list_any}
use Rattle.std.specs.Option.{option_map, option_map_or, option_to_list}
use Rattle.std.specs.Prelude.{◌==◌}
use Rattle.std.proofs.lemmas.Bool.{cases_eq, eq-eqb, ne_eqb, lt-ltb}
use Rattle.std.proofs.lemmas.List.{reverse-append}
use Rattle.model_value.specs.Value.{Outcome}
use Rattle.model_value.specs.declared.outcome.Outcome.TheVariants.{Cancelled}
use Rattle.model_loop.specs.Parts.{FutureKind, Plain, OfTask, Many, Future, Task, Parts}
use Rattle.model_loop.specs.Futures.{made_before}
use Rattle.model_loop.specs.Tasks.{change_task, waiter_of}
use Rattle.model_loop.specs.Cancel.{has_seen}
use Rattle.model_loop.specs.Cycles.{PassesTo, Leads, at_once, passes}
use Rattle.model_loop.specs.Sound.{HasNoCycle}
use Rattle.law_cancel.proofs.PassCases.{passes_at, passes_until}
use Rattle.law_cancel.proofs.Lookups.{get-set_kept, get_within}
use Rattle.law_cancel.proofs.Effects.{settle-futures, settle-tasks, done_as, mark_asked-futures, mark_asked-tasks, asked_as, change_task-futures}
use Rattle.law_cancel.proofs.Trace.{Goes, begins, settles, asks, raises, sets_must_cancel}
use Rattle.algorithm_parts.specs.Shape.{stands_of, stands_at, members_at}
use Rattle.algorithm_parts.specs.declared.walk.WalkFrame.{WalkFrame}
use Rattle.algorithm_parts.specs.declared.walk.WalkFrame.TheVariants.{Waits, Members}
use Rattle.algorithm_parts.specs.declared.walk.FutureState.{FutureState}
use Rattle.algorithm_parts.specs.declared.walk.FutureState.TheVariants as stands
use Rattle.algorithm_parts.specs.Open.{is_inner_until, is_inner_at, is_inner, others, room_of, passing, passing_at, AllLead, id_of, frame_stands, OpenDown}
use Rattle.algorithm_parts.proofs.Leading.{leads_on}
use Rattle.algorithm_parts.proofs.WalkLemmas.{goes-members}

-- ---- counting
others_past : (inner : ℕ → Bool) (n : ℕ) (ids : List ℕ) (id : ℕ) → n ≤ id → others inner n (id ∷ ids) ≡ others inner n ids
others_past inner zero ids id h = refl
others_past inner (suc n) ids id h =
    let ih : others inner n (id ∷ ids) ≡ others inner n ids = others_past inner n ids id (omega arith) in
    rw (ne_eqb n id (omega arith), ih) refl

pub others-cons : (inner : ℕ → Bool) (n : ℕ) (ids : List ℕ) (id : ℕ) → id < n → has_seen ids id ≡ false → inner id ≡ true
    → others inner n (id ∷ ids) + 1 ≡ others inner n ids
others-cons inner zero ids id h u f = absurd (omega arith)
others-cons inner (suc n) ids id h u f = go (cases_eq n id) (λ below. others-cons inner n ids id below u f)
  where
    go : (n ≡ id) ⊎ (n ≡ id → ⊥) → (id < n → others inner n (id ∷ ids) + 1 ≡ others inner n ids)
        → cond (nat_eq n id || has_seen ids n) 0 (cond (inner n) 1 0) + others inner n (id ∷ ids) + 1
        ≡ cond (has_seen ids n) 0 (cond (inner n) 1 0) + others inner n ids
    go (inl e) ih =
        let b : has_seen ids n ≡ false = rw e u in
        let d : inner n ≡ true = rw e f in
        let c : others inner n (id ∷ ids) ≡ others inner n ids = others_past inner n ids id (omega arith) in
        rw (eq-eqb n id e, b, d, c) (omega arith)
    go (inr ne) ih =
        let c : others inner n (id ∷ ids) + 1 ≡ others inner n ids = ih (omega arith) in
        rw (ne_eqb n id ne) (omega arith)

-- a future that passes to others is pending, and a task's own or stands for several
inner_of : (p : Parts) (id : ℕ) (st : FutureState) → passing_at p id ≡ passing st → (st ≡ stands.Done → ⊥) → passing st ≡ st
    → (is_inner p id ≡ true) × (id < length p.futures)
inner_of p id st e n s = at (slice_get p.futures id) refl (e ∙ s)
  where
    no : {X : Type 0} → stands.Done ≡ st → X
    no d = absurd (n (sym d))

    until : (future : Future) → slice_get p.futures id ≡ Some future → (o : Option Outcome) (k : FutureKind)
        → passing (stands_of o k) ≡ st → is_inner_until o k ≡ true
    until future f (Some outcome) k h = no h
    until future f None Plain h = no h
    until future f None (OfTask task) h = refl
    until future f None (Many members asked) h = refl

    at : (o : Option Future) → slice_get p.futures id ≡ o → passing (stands_at o) ≡ st
        → (is_inner p id ≡ true) × (id < length p.futures)
    at None f h = no h
    at (Some future) f h =
        (ap is_inner_at f ∙ until future f future.outcome future.kind h, get_within p.futures id future f)

not_done : (frame : WalkFrame) → frame_stands frame ≡ stands.Done → ⊥
not_done (Waits id task) e = absurd (cc)
not_done (Members id place any) e = absurd (cc)

same_passing : (frame : WalkFrame) → passing (frame_stands frame) ≡ frame_stands frame
same_passing (Waits id task) = refl
same_passing (Members id place any) = refl

pub down_count : (p : Parts) (frames : List WalkFrame) → HasNoCycle p → OpenDown p frames
    → length frames + others (is_inner p) (length p.futures) (map id_of frames) ≡ room_of p
down_count p [] none o = omega arith
down_count p (frame ∷ frames) none o =
    let ih = down_count p frames none o.0 in
    let new : has_seen (map id_of frames) (id_of frame) ≡ false = go (has_seen (map id_of frames) (id_of frame)) refl in
    let inner = inner_of p (id_of frame) (frame_stands frame) (o.2 ∙ sym (same_passing frame)) (not_done frame) (same_passing frame) in
    let a = others-cons (is_inner p) (length p.futures) (map id_of frames) (id_of frame) inner.1 new inner.0 in
    omega arith
  where
    go : (b : Bool) → has_seen (map id_of frames) (id_of frame) ≡ b → has_seen (map id_of frames) (id_of frame) ≡ false
    go false e = e
    go true e = absurd (none (id_of frame) (o.1 (id_of frame) e))

push-reverse : (frames : List WalkFrame) (frame : WalkFrame) → reverse (frames ++ frame ∷ []) ≡ frame ∷ reverse frames
push-reverse frames frame = reverse-append frames (frame ∷ [])

-- those that are open lead on
pub lead_on : (p : Parts) (ids : List ℕ) (id next : ℕ) → AllLead p ids id → PassesTo p id next → AllLead p (id ∷ ids) next
lead_on p ids id next lead pass = λ x h. go x (cases_eq x id) h
  where
    go : (x : ℕ) → (x ≡ id) ⊎ (x ≡ id → ⊥) → has_seen (id ∷ ids) x ≡ true → Leads p x next
    go x (inl e) h = subst (λ z. Leads p z next) (sym e) (at_once pass)
    go x (inr n) h = leads_on next (lead x (rw (ne_eqb x id n) at h)) pass

-- ---- what passes stays
pub goes-passing : {s : List ℕ} {p : Parts} {t : List ℕ} {q : Parts} → Goes s p t q → (j : ℕ) → passing_at q j ≡ passing_at p j
goes-passing begins j = refl
goes-passing (settles {q = q} g id future e o k) j =
    ap (λ (fs : List Future). passing (stands_at (slice_get fs j))) (settle-futures id Cancelled q future e o)
    ∙ get-set_kept (λ f. passing (stands_at f)) q.futures id j future (done_as Cancelled future) e (rw (o, k) refl) ∙ goes-passing g j
goes-passing (asks {q = q} g id future members asked e o k) j =
    ap (λ (fs : List Future). passing (stands_at (slice_get fs j))) (mark_asked-futures id q future e)
    ∙ get-set_kept (λ f. passing (stands_at f)) q.futures id j future (asked_as future) e (rw (o, k) refl) ∙ goes-passing g j
goes-passing (raises {q = q} g id task n e) j =
    ap (λ (fs : List Future). passing (stands_at (slice_get fs j))) (change_task-futures id _ q) ∙ goes-passing g j
goes-passing (sets_must_cancel {q = q} g id) j =
    ap (λ (fs : List Future). passing (stands_at (slice_get fs j))) (change_task-futures id _ q) ∙ goes-passing g j

change-waiter : (id : ℕ) (change : Task → Task) (q : Parts) (j : ℕ) → ((t : Task) → (change t).waiter ≡ t.waiter)
    → waiter_of (change_task id change q) j ≡ waiter_of q j
change-waiter id change q j same = at (slice_get q.tasks id) refl
  where
    at : (o : Option Task) → slice_get q.tasks id ≡ o
        → waiter_of (option_map_or (λ (task : Task). record q { tasks = slice_set q.tasks id (change task) }) o q) j ≡ waiter_of q j
    at None e = refl
    at (Some task) e =
        get-set_kept (λ (o : Option Task). option_map_or (λ (t : Task). t.waiter) o None) q.tasks id j task (change task) e (same task)

pub goes-waiter : {s : List ℕ} {p : Parts} {t : List ℕ} {q : Parts} → Goes s p t q → (j : ℕ) → waiter_of q j ≡ waiter_of p j
goes-waiter begins j = refl
goes-waiter (settles {q = q} g id future e o k) j =
    ap (λ (ts : List Task). option_map_or (λ (t : Task). t.waiter) (slice_get ts j) None) (settle-tasks id Cancelled q) ∙ goes-waiter g j
goes-waiter (asks {q = q} g id future members asked e o k) j =
    ap (λ (ts : List Task). option_map_or (λ (t : Task). t.waiter) (slice_get ts j) None) (mark_asked-tasks id q) ∙ goes-waiter g j
goes-waiter (raises {q = q} g id task n e) j = change-waiter id _ q j (λ t. refl) ∙ goes-waiter g j
goes-waiter (sets_must_cancel {q = q} g id) j = change-waiter id _ q j (λ t. refl) ∙ goes-waiter g j

pub passes-task : (p : Parts) (id task : ℕ) → passing_at p id ≡ stands.OfTask task → passes p id ≡ option_to_list (waiter_of p task)
passes-task p id task h = at (slice_get p.futures id) h
  where
    until : (o : Option Outcome) (k : FutureKind) → passing (stands_of o k) ≡ stands.OfTask task
        → passes_until o k id p ≡ option_to_list (waiter_of p task)
    until (Some outcome) k h = absurd (cc)
    until None Plain h = absurd (cc)
    until None (OfTask other) h = let same : other ≡ task = cc in ap (λ t. option_to_list (waiter_of p t)) same
    until None (Many members asked) h = absurd (cc)

    at : (o : Option Future) → passing (stands_at o) ≡ stands.OfTask task → passes_at o id p ≡ option_to_list (waiter_of p task)
    at None h = absurd (cc)
    at (Some future) h = until future.outcome future.kind h

pub passes-many : (p : Parts) (id : ℕ) → passing_at p id ≡ stands.Many → passes p id ≡ made_before id (members_at (slice_get p.futures id))
passes-many p id h = at (slice_get p.futures id) h
  where
    until : (future : Future) (o : Option Outcome) (k : FutureKind) → passing (stands_of o k) ≡ stands.Many
        → passes_until o k id p ≡ made_before id (members_at (Some (record future { kind = k })))
    until future (Some outcome) k h = absurd (cc)
    until future None Plain h = absurd (cc)
    until future None (OfTask other) h = absurd (cc)
    until future None (Many members asked) h = refl

    at : (o : Option Future) → passing (stands_at o) ≡ stands.Many → passes_at o id p ≡ made_before id (members_at o)
    at None h = absurd (cc)
    at (Some future) h = until future future.outcome future.kind h

pub pass_waiter : {s : List ℕ} {p : Parts} {t : List ℕ} {q : Parts} → Goes s p t q → (id task w : ℕ) (waiter : Option ℕ)
    → stands.OfTask task ≡ stands_at (slice_get q.futures id)
    → Some waiter ≡ option_map (λ (it : Task). it.waiter) (slice_get q.tasks task) → waiter ≡ Some w → PassesTo p id w
pass_waiter {p = p} {q = q} g id task w waiter st h is =
    let a : passes p id ≡ option_to_list (waiter_of p task) = passes-task p id task (sym (goes-passing g id) ∙ sym (ap passing st)) in
    let b : waiter_of p task ≡ Some w = sym (goes-waiter g task) ∙ at (slice_get q.tasks task) h ∙ is in
    rw (a, b, eq-eqb w w refl) refl
  where
    at : (o : Option Task) → Some waiter ≡ option_map (λ (it : Task). it.waiter) o → option_map_or (λ (it : Task). it.waiter) o None ≡ waiter
    at None h = absurd (cc)
    at (Some it) h = cc

any_made : (ids : List ℕ) (id m place : ℕ) → slice_get ids place ≡ Some m → m < id → list_any (λ n. n == m) (made_before id ids) ≡ true
any_made [] id m place e l = absurd (cc)
any_made (x ∷ xs) id m zero e l = let same : x ≡ m = cc in rw (same, lt-ltb m id l, eq-eqb m m refl) refl
any_made (x ∷ xs) id m (suc place) e l = go (nat_lt x id) (x == m) (any_made xs id m place e l)
  where
    go : (b c : Bool) → list_any (λ n. n == m) (made_before id xs) ≡ true
        → list_any (λ n. n == m) (cond b (x ∷ made_before id xs) (made_before id xs)) ≡ true
    go true c ih = or_true (x == m) _ ih
      where
        or_true : (a b : Bool) → b ≡ true → (a || b) ≡ true
        or_true true b h = refl
        or_true false b h = h
    go false c ih = ih

pub pass_member : {s : List ℕ} {p : Parts} {t : List ℕ} {q : Parts} → Goes s p t q → (id m place : ℕ) → passing_at p id ≡ stands.Many
    → Some m ≡ slice_get (members_at (slice_get q.futures id)) place → m < id → PassesTo p id m
pass_member {p = p} g id m place st h l =
    let a : slice_get (members_at (slice_get p.futures id)) place ≡ Some m =
    ap (λ ms. slice_get ms place) (sym (goes-members g id)) ∙ sym h in
    rw (passes-many p id st) (any_made (members_at (slice_get p.futures id)) id m place a l)
