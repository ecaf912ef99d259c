-- A future that a request is done with stays so, and a request for it changes nothing.
use Rattle.std.proofs.Common.{◌≡◌, ℕ, zero, suc, ◌+◌, ◌<◌, ◌≤◌, ◌⊎◌, Bool, true, false, cond, ◌||◌, List, [], ◌∷◌, ◌++◌, Option, Some, None, take, slice_get}
use Rattle.std.proofs.Common.{slice_set, nat_lt, refl, ap, sym, ◌∙◌, arith, inl, inr, subst, append-nil, if◌then◌else◌}
use Rattle.std.specs.Option.{option_map_or}
use Rattle.std.proofs.lemmas.Bool.{cases_eq, lt-ltb, le-ltb}
use Rattle.model_value.specs.declared.outcome.Outcome.TheVariants.{Cancelled}
use Rattle.model_value.specs.Value.{Outcome}
use Rattle.model_loop.specs.Parts.{FutureKind, Plain, OfTask, Many, Future, Parts}
use Rattle.model_loop.specs.Futures.{made_before, settle, mark_asked, asked_kind, with_future}
use Rattle.model_loop.specs.Tasks.{set_must_cancel, raise_count}
use Rattle.model_loop.specs.Cancel.{answers, has_seen, cancel_each, cancel_with}
use Rattle.law_cancel.proofs.Lookups.{get-set_same, get-set_other}
use Rattle.law_cancel.proofs.Seen.{has_seen-append}
use Rattle.law_cancel.proofs.Effects.{settle-futures, done_as, asked_as, change_task-futures}
use Rattle.algorithm_parts.specs.Shape.{stands_of, stands_at, members_of, members_at}
use Rattle.algorithm_parts.specs.declared.walk.FutureState.TheVariants as stands
use Rattle.algorithm_parts.specs.Quiet.{stage_of, stage, stage_at, Quiet, over, visited, finished, QuietAll, none, more, Sound, OnlyAdds, Grows, Later}
use Rattle.algorithm_parts.specs.Quiet.{asked_of}
use Rattle.algorithm_parts.specs.Walk.{joined, ask_joined}
use Rattle.algorithm_parts.proofs.WalkLemmas as walk

grows_same : (a : Option FutureKind) → Grows a a
grows_same None = refl
grows_same (Some Plain) = tt
grows_same (Some (OfTask task)) = refl
grows_same (Some (Many members true)) = refl
grows_same (Some (Many members false)) = (false, refl)

-- ---- stays
mutual
  pub stays : {s : List ℕ} {p : Parts} {t : List ℕ} {q : Parts} {id : ℕ} {b : Bool} → Later s p t q → Quiet s p id b → Quiet t q id b
  stays {p = p} {q = q} {id = id} l (over e) = over (go (stage_at p id) e (l.stages id))
    where
      go : (a : Option FutureKind) → a ≡ None → Grows a (stage_at q id) → stage_at q id ≡ None
      go None e g = g
      go (Some kind) e g = absurd (cc)
  stays {p = p} {q = q} {id = id} l (visited task e n) = visited task (go (stage_at p id) e (l.stages id)) (l.seen task n)
    where
      go : (a : Option FutureKind) → a ≡ Some (OfTask task) → Grows a (stage_at q id) → stage_at q id ≡ Some (OfTask task)
      go None e g = absurd (cc)
      go (Some (OfTask t)) e g = g ∙ e
      go (Some Plain) e g = absurd (cc)
      go (Some (Many members asked)) e g = absurd (cc)
  stays {s} {p} {t} {q} {id} {b} l (finished members asked e all implies) = go asked (subst_stage e (l.stages id)) implies (all_stay l all)
    where
      subst_stage : stage_at p id ≡ Some (Many members asked) → Grows (stage_at p id) (stage_at q id) → Grows (Some (Many members asked)) (stage_at q id)
      subst_stage e g = subst (λ x. Grows x (stage_at q id)) e g

      go : (a : Bool) → Grows (Some (Many members a)) (stage_at q id) → (b ≡ true → a ≡ true) → QuietAll t q (made_before id members) b → Quiet t q id b
      go true g i all = finished members true g all (λ _. refl)
      go false g i all = finished members g.0 g.1 all (λ h. not (i h))
        where
          not : {X : Type 0} → false ≡ true → X
          not x = absurd (cc)

  pub all_stay : {s : List ℕ} {p : Parts} {t : List ℕ} {q : Parts} {ids : List ℕ} {b : Bool} → Later s p t q → QuietAll s p ids b → QuietAll t q ids b
  all_stay l none = none
  all_stay l (more first others) = more (stays l first) (all_stay l others)

-- ---- answers again
set_same : {X : Type 0} (xs : List X) (k : ℕ) (v : X) → slice_get xs k ≡ Some v → slice_set xs k v ≡ xs
set_same [] k v e = refl
set_same (x ∷ xs) zero v e = let same : x ≡ v = cc in ap (λ z. z ∷ xs) (sym same)
set_same (x ∷ xs) (suc k) v e = ap (λ ys. x ∷ ys) (set_same xs k v e)

asked_already : (id : ℕ) (p : Parts) (members : List ℕ) → stage_at p id ≡ Some (Many members true) → mark_asked id p ≡ p
asked_already id p members e = at (slice_get p.futures id) refl e
  where
    until : (future : Future) → slice_get p.futures id ≡ Some future → (k : FutureKind) → future.kind ≡ k → (o : Option Outcome)
        → stage_of o k ≡ Some (Many members true) → with_future id (asked_as future) p ≡ p
    until future g k f (Some outcome) e = absurd (cc)
    until future g Plain f None e = absurd (cc)
    until future g (OfTask task) f None e = absurd (cc)
    until future g (Many ms false) f None e = absurd (cc)
    until future g (Many ms true) f None e =
        let same : asked_as future ≡ future = rw f refl in
        ap (λ fs. record p { futures = fs }) (ap (slice_set p.futures id) same ∙ set_same p.futures id future g)

    at : (o : Option Future) → slice_get p.futures id ≡ o → stage o ≡ Some (Many members true)
        → option_map_or (λ (f : Future). with_future id (asked_as f) p) o p ≡ p
    at None g e = absurd (cc)
    at (Some future) g e = until future g future.kind refl future.outcome e

module _ (s : List ℕ) (p : Parts) where
  done_again : (id : ℕ) → stage_at p id ≡ None → cancel_with id s p ≡ answers false s p
  done_again id e = walk.visited id s p ∙ at (slice_get p.futures id) e
    where
      until : (o : Option Outcome) (k : FutureKind) → stage_of o k ≡ None → walk.by_stands (stands_of o k) (members_of k) id s p ≡ answers false s p
      until (Some outcome) k e = refl
      until None k e = absurd (cc)

      at : (o : Option Future) → stage o ≡ None → walk.by_stands (stands_at o) (members_at o) id s p ≡ answers false s p
      at None e = refl
      at (Some future) e = until future.outcome future.kind e

  task_again : (id task : ℕ) → stage_at p id ≡ Some (OfTask task) → has_seen s task ≡ true → cancel_with id s p ≡ answers true s p
  task_again id task e n = walk.visited id s p ∙ at (slice_get p.futures id) e
    where
      until : (o : Option Outcome) (k : FutureKind) → stage_of o k ≡ Some (OfTask task)
          → walk.by_stands (stands_of o k) (members_of k) id s p ≡ answers true s p
      until (Some outcome) k e = absurd (cc)
      until None Plain e = absurd (cc)
      until None (Many members asked) e = absurd (cc)
      until None (OfTask t) e = let same : t ≡ task = cc in rw (same, n) refl

      at : (o : Option Future) → stage o ≡ Some (OfTask task) → walk.by_stands (stands_at o) (members_at o) id s p ≡ answers true s p
      at None e = absurd (cc)
      at (Some future) e = until future.outcome future.kind e

  many_again : (id : ℕ) (members : List ℕ) (asked again : Bool) → stage_at p id ≡ Some (Many members asked) → (again ≡ true → asked ≡ true)
      → cancel_each cancel_with (made_before id members) s p ≡ answers again s p → cancel_with id s p ≡ answers again s p
  many_again id members asked again e implies each = walk.visited id s p ∙ at (slice_get p.futures id) e
    where
      answer : (b a : Bool) → again ≡ b → asked ≡ a → ask_joined id (joined false (answers b s p)) ≡ answers b s p
      answer false a f g = refl
      answer true true f g = ap (answers true s) (asked_already id p members (rw (← g) e))
      answer true false f g = not (sym g ∙ implies f)
        where
          not : {X : Type 0} → false ≡ true → X
          not x = absurd (cc)

      until : (o : Option Outcome) (k : FutureKind) → stage_of o k ≡ Some (Many members asked)
          → walk.by_stands (stands_of o k) (members_of k) id s p ≡ answers again s p
      until (Some outcome) k e = absurd (cc)
      until None Plain e = absurd (cc)
      until None (OfTask t) e = absurd (cc)
      until None (Many ms a) e =
          let same : ms ≡ members = cc in
          rw same (ap (λ r. ask_joined id (joined false r)) each ∙ answer again asked refl refl)

      at : (o : Option Future) → stage o ≡ Some (Many members asked) → walk.by_stands (stands_at o) (members_at o) id s p ≡ answers again s p
      at None e = absurd (cc)
      at (Some future) e = until future.outcome future.kind e

mutual
  pub again_is : {s : List ℕ} {p : Parts} {id : ℕ} {b : Bool} → Quiet s p id b → cancel_with id s p ≡ answers b s p
  again_is {s} {p} {id} (over e) = done_again s p id e
  again_is {s} {p} {id} (visited task e n) = task_again s p id task e n
  again_is {s} {p} {id} {b} (finished members asked e all implies) = many_again s p id members asked b e implies (all_again all)

  all_again : {s : List ℕ} {p : Parts} {ids : List ℕ} {b : Bool} → QuietAll s p ids b → cancel_each cancel_with ids s p ≡ answers b s p
  all_again none = refl
  all_again (more first others) = rw (again_is first, all_again others) refl

-- ---- the small changes
stage_set : (fs : List Future) (id j : ℕ) (old new : Future) → slice_get fs id ≡ Some old → Grows (stage (Some old)) (stage (Some new))
    → Grows (stage (slice_get fs j)) (stage (slice_get (slice_set fs id new) j))
stage_set fs id j old new e g = go (cases_eq id j)
  where
    go : (id ≡ j) ⊎ (id ≡ j → ⊥) → Grows (stage (slice_get fs j)) (stage (slice_get (slice_set fs id new) j))
    go (inl p) = rw (← p, e, get-set_same fs id old new e) g
    go (inr n) = rw (get-set_other fs id j new n) (grows_same (stage (slice_get fs j)))

grows_equal : (fs gs : List Future) (j : ℕ) → gs ≡ fs → Grows (stage (slice_get fs j)) (stage (slice_get gs j))
grows_equal fs gs j e = rw e (grows_same (stage (slice_get fs j)))

module _ (s : List ℕ) (p : Parts) where
  pub settled_later : (id : ℕ) → stage_at p id ≡ Some Plain → Later s p s (settle id Cancelled p)
  settled_later id e = at (slice_get p.futures id) refl e
    where
      plain : (a b : Option FutureKind) → a ≡ Some Plain → Grows a b
      plain None b e = absurd (cc)
      plain (Some Plain) b e = tt
      plain (Some (OfTask task)) b e = absurd (cc)
      plain (Some (Many members asked)) b e = absurd (cc)

      until : (future : Future) → slice_get p.futures id ≡ Some future → (o : Option Outcome) → future.outcome ≡ o
          → stage_of o future.kind ≡ Some Plain → Later s p s (settle id Cancelled p)
      until future g (Some outcome) f e = absurd (cc)
      until future g None f e = record {
        seen = λ x h. h;
        stages = λ j. rw (settle-futures id Cancelled p future g f) (stage_set p.futures id j future (done_as Cancelled future) g (plain (stage
            (Some future)) None (rw f e)));
      }

      at : (o : Option Future) → slice_get p.futures id ≡ o → stage o ≡ Some Plain → Later s p s (settle id Cancelled p)
      at None g e = absurd (cc)
      at (Some future) g e = until future g future.outcome refl e

  pub asked_later : (id : ℕ) → Later s p s (mark_asked id p)
  asked_later id = at (slice_get p.futures id) refl
    where
      grows : (o : Option Outcome) (k : FutureKind) → Grows (stage_of o k) (stage_of o (asked_kind k))
      grows (Some outcome) k = refl
      grows None Plain = tt
      grows None (OfTask task) = refl
      grows None (Many members true) = refl
      grows None (Many members false) = (true, refl)

      at : (o : Option Future) → slice_get p.futures id ≡ o → Later s p s (option_map_or (λ (f : Future). with_future id (asked_as f) p) o p)
      at None g = record { seen = λ x h. h; stages = λ j. grows_same (stage_at p j) }
      at (Some future) g = record {
        seen = λ x h. h;
        stages = λ j. stage_set p.futures id j future (asked_as future) g (grows future.outcome future.kind);
      }

  pub must_cancel_later : (task : ℕ) → Later s p s (set_must_cancel task p)
  must_cancel_later task = record { seen = λ x h. h; stages = λ j. grows_equal p.futures (set_must_cancel task p).futures j (change_task-futures task _ p) }

  pub raised_later : (task : ℕ) → Later s p (s ++ task ∷ []) (raise_count task p)
  raised_later task = record {
    seen = λ x h. has_seen-append s (task ∷ []) x ∙ rw h refl;
    stages = λ j. grows_equal p.futures (raise_count task p).futures j (change_task-futures task _ p);
  }

pub sound_later : (s : List ℕ) (p : Parts) (t : List ℕ) (q : Parts) (noted : ℕ → Option Bool) → Later s p t q → Sound s p noted → Sound t q noted
sound_later s p t q noted l sound = λ id again e. stays l (sound id again e)

-- ---- the steps of the code
pub stage_done : (o : Option Future) → stands.Done ≡ stands_at o → stage o ≡ None
stage_done None e = refl
stage_done (Some future) e = until future.outcome future.kind e
  where
    until : (o : Option Outcome) (k : FutureKind) → stands.Done ≡ stands_of o k → stage_of o k ≡ None
    until (Some outcome) k e = refl
    until None Plain e = absurd (cc)
    until None (OfTask t) e = absurd (cc)
    until None (Many ms a) e = absurd (cc)

pub stage_plain : (o : Option Future) → stands.Plain ≡ stands_at o → stage o ≡ Some Plain
stage_plain None e = absurd (cc)
stage_plain (Some future) e = until future.outcome future.kind e
  where
    until : (o : Option Outcome) (k : FutureKind) → stands.Plain ≡ stands_of o k → stage_of o k ≡ Some Plain
    until (Some outcome) k e = absurd (cc)
    until None Plain e = refl
    until None (OfTask t) e = absurd (cc)
    until None (Many ms a) e = absurd (cc)

pub stage_task : (o : Option Future) (task : ℕ) → stands.OfTask task ≡ stands_at o → stage o ≡ Some (OfTask task)
stage_task None task e = absurd (cc)
stage_task (Some future) task e = until future.outcome future.kind e
  where
    until : (o : Option Outcome) (k : FutureKind) → stands.OfTask task ≡ stands_of o k → stage_of o k ≡ Some (OfTask task)
    until (Some outcome) k e = absurd (cc)
    until None Plain e = absurd (cc)
    until None (OfTask t) e = let same : t ≡ task = cc in rw same refl
    until None (Many ms a) e = absurd (cc)

stage_many : (o : Option Future) (asked : Bool) → Some asked ≡ asked_of (stage o) → stage o ≡ Some (Many (members_at o) asked)
stage_many None asked e = absurd (cc)
stage_many (Some future) asked e = until future.outcome future.kind e
  where
    until : (o : Option Outcome) (k : FutureKind) → Some asked ≡ asked_of (stage_of o k) → stage_of o k ≡ Some (Many (members_of k) asked)
    until (Some outcome) k e = absurd (cc)
    until None Plain e = absurd (cc)
    until None (OfTask t) e = absurd (cc)
    until None (Many ms a) e = let same : a ≡ asked = cc in rw same refl

pub ask_where_later : (s : List ℕ) (p q : Parts) (any : Bool) (id : ℕ) → q ≡ (if any then mark_asked id p else p) → Later s p s q
ask_where_later s p q true id e = rw e (asked_later s p id)
ask_where_later s p q false id e = rw e (record { seen = λ x h. h; stages = λ j. grows_same (stage_at p j) })

pub put_sound : (s : List ℕ) (p : Parts) (noted after : ℕ → Option Bool) (id : ℕ) (asked again : Bool)
    → Sound s p noted → Some asked ≡ asked_of (stage_at p id) → QuietAll s p (made_before id (members_at (slice_get p.futures id))) again
    → (again ≡ true → asked ≡ true) → OnlyAdds noted id again after → Sound s p after
put_sound s p noted after id asked again sound e all implies adds = λ j b found. go j b (adds j b found)
  where
    mine : Quiet s p id again
    mine = finished (members_at (slice_get p.futures id)) asked (stage_many (slice_get p.futures id) asked e) all implies

    go : (j : ℕ) (b : Bool) → ((j ≡ id) × (b ≡ again)) ⊎ (noted j ≡ Some b) → Quiet s p j b
    go j b (inl same) = subst (λ x. Quiet s p x b) (sym same.0) (subst (λ x. Quiet s p id x) (sym same.1) mine)
    go j b (inr old) = sound j b old

or_false : (b : Bool) → (b || false) ≡ b
or_false true = refl
or_false false = refl

all_push : {s : List ℕ} {p : Parts} {m : ℕ} {c : Bool} (ids : List ℕ) (b : Bool) → QuietAll s p ids b → Quiet s p m c → QuietAll s p (ids ++ m ∷ []) (b || c)
all_push {s} {p} {m} {c} [] b none q = subst (λ x. QuietAll s p (m ∷ []) x) (or_false c) (more q none)
all_push {s} {p} {m} {c} (id ∷ ids) b (more {again = x} {others = y} first others) q =
    subst (λ z. QuietAll s p (id ∷ ids ++ m ∷ []) z) (or_assoc x y c) (more first (all_push ids y others q))
  where
    or_assoc : (a b c : Bool) → (a || (b || c)) ≡ ((a || b) || c)
    or_assoc true b c = refl
    or_assoc false b c = refl

take_more : (xs : List ℕ) (place m : ℕ) → Some m ≡ slice_get xs place → take (suc place) xs ≡ take place xs ++ m ∷ []
take_more [] place m e = absurd (cc)
take_more (x ∷ xs) zero m e = let same : x ≡ m = cc in rw same refl
take_more (x ∷ xs) (suc place) m e = ap (λ ys. x ∷ ys) (take_more xs place m e)

take_all : (xs : List ℕ) (place : ℕ) → None ≡ slice_get xs place → take place xs ≡ xs
take_all [] zero e = refl
take_all [] (suc place) e = refl
take_all (x ∷ xs) zero e = absurd (cc)
take_all (x ∷ xs) (suc place) e = ap (λ ys. x ∷ ys) (take_all xs place e)

before-push : (id m : ℕ) (xs : List ℕ) → made_before id (xs ++ m ∷ []) ≡ made_before id xs ++ made_before id (m ∷ [])
before-push id m [] = refl
before-push id m (x ∷ xs) = go (nat_lt x id) (before-push id m xs)
  where
    go : (b : Bool) → made_before id (xs ++ m ∷ []) ≡ made_before id xs ++ made_before id (m ∷ [])
        → cond b (x ∷ made_before id (xs ++ m ∷ [])) (made_before id (xs ++ m ∷ [])) ≡ cond b (x ∷ made_before id xs)
        (made_before id xs) ++ made_before id (m ∷ [])
    go true e = ap (λ ys. x ∷ ys) e
    go false e = e

module _ (s : List ℕ) (p : Parts) (id place m : ℕ) (members : List ℕ) (again : Bool) (found : Some m ≡ slice_get members place) where
  next_place : take (place + 1) members ≡ take place members ++ m ∷ []
  next_place = let n : place + 1 ≡ suc place = omega arith in rw n (take_more members place m found)

  pub all_skip : id ≤ m → QuietAll s p (made_before id (take place members)) again → QuietAll s p (made_before id (take (place + 1) members)) again
  all_skip l all =
      let e : made_before id (take (place + 1) members) ≡ made_before id (take place members) = ap (made_before id) next_place
      ∙ before-push id m (take place members) ∙ rw (le-ltb m id l) (append-nil (made_before id (take place members))) in
      rw e all

  pub all_more : {c : Bool} → m < id → QuietAll s p (made_before id (take place members)) again → Quiet s p m c
      → QuietAll s p (made_before id (take (place + 1) members)) (again || c)
  all_more l all q =
      let e : made_before id (take (place + 1) members) ≡ made_before id (take place members) ++ m ∷ [] = ap (made_before id) next_place
      ∙ before-push id m (take place members) ∙ rw (lt-ltb m id l) refl in
      rw e (all_push (made_before id (take place members)) again all q)

pub all_whole : (s : List ℕ) (p : Parts) (id place : ℕ) (members : List ℕ) (again : Bool) → None ≡ slice_get members place
    → QuietAll s p (made_before id (take place members)) again → QuietAll s p (made_before id members) again
all_whole s p id place members again e all = subst (λ xs. QuietAll s p (made_before id xs) again) (take_all members place e) all

pub none_yet : (s : List ℕ) (p : Parts) (id : ℕ) (members : List ℕ) → QuietAll s p (made_before id (take 0 members)) false
none_yet s p id members = none

pub asked_if : (asked again : Bool) → (asked ≡ true) ⊎ ((asked ≡ false) × (again ≡ false)) → again ≡ true → asked ≡ true
asked_if asked again (inl e) h = e
asked_if asked again (inr e) h = absurd (let f = e.1 in cc)
