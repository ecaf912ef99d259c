-- What runs next before the bar.
use Rattle.std.proofs.Common.{◌≡◌, ℕ, ◌<◌, ◌≤◌, ◌⊎◌, Bool, true, false, cond, List, [], ◌∷◌, ◌++◌, Option, Some, None, drop, map, refl, ap, sym, subst, ◌∙◌}
use Rattle.std.proofs.Common.{inl, inr, arith}
use Rattle.std.specs.List.{AllByRecursion as Each}
use Rattle.std.proofs.lemmas.Bool.{cases_lt}
use Rattle.model_value.specs.Action.{Action}
use Rattle.model_loop.specs.Parts as plain
use Rattle.model_loop.specs.Parts.{Parts}
use Rattle.aio_ready.specs.declared.handle.Handle.{Handle}
use Rattle.aio_ready.specs.Queue.{Queue, from_live, first_action, next_action, taken}
use Rattle.aio_task.specs.View.{View}
use Rattle.aio_task.specs.Keeps.{handle_as, NameMap, Keeps}
use Rattle.refine_parts.specs.Runs.{skipped, IsPastBar, Runs, Skips}
use Rattle.refine_parts.proofs.Appending.{moved}
use Rattle.refine_parts.proofs.Running.{IsEarly, first_early, keeps_taken}

skips_dead : (q : Queue) (first : Handle) (others : List Handle) → q.below ≡ first ∷ others → first.dead ≡ true
    → from_live q.below ≡ from_live (drop 1 q.below)
skips_dead q first others e dead = rw e (go first.dead dead)
  where
    go : (b : Bool) → b ≡ true → cond b (from_live others) (first ∷ others) ≡ from_live others
    go true d = refl
    go false d = absurd (cc)

finds_live : (q : Queue) (first : Handle) (others : List Handle) → q.below ≡ first ∷ others → first.dead ≡ false
    → from_live q.below ≡ first ∷ others
finds_live q first others e live = rw e (go first.dead live)
  where
    go : (b : Bool) → b ≡ false → cond b (from_live others) (first ∷ others) ≡ first ∷ others
    go true d = absurd (cc)
    go false d = refl

module _ (t : NameMap) (v : View) (p : Parts) (k : Keeps t v p) where
  module _ (first : plain.Handle) (others : List plain.Handle) (are : p.pending ≡ first ∷ others) (early : first.stamp < t.bar) where
    abbrev e : IsEarly t v p k first others are
    e = first_early t v p k first others are early

    below_is : v.queue.below ≡ handle_as t.known first ∷ map (handle_as t.known) e.early
    below_is = k.handles.below ∙ ap (map (handle_as t.known)) e.is

    passes : first.dead ≡ true → from_live v.queue.below ≡ from_live (drop 1 v.queue.below)
    passes dead = skips_dead v.queue (handle_as t.known first) (map (handle_as t.known) e.early) below_is dead

    pub keeps_dead : first.dead ≡ true
        → Keeps t (record v { queue = skipped v.queue }) (record p { pending = others })
        × (next_action (skipped v.queue) ≡ next_action v.queue)
        × (taken (skipped v.queue) ≡ taken v.queue)
    keeps_dead dead = (
      keeps_taken t v p k first others are e (record v { queue = skipped v.queue }) refl refl refl refl refl,
      ap first_action (sym (passes dead)),
      ap (λ hs. record v.queue { below = drop 1 hs }) (sym (passes dead)),
    )

    pub keeps_live : (called : Option ℕ) → first.dead ≡ false
        → Keeps t (record v { queue = taken v.queue; called = called }) (record p { pending = others })
        × (next_action v.queue ≡ Some first.action)
    keeps_live called live =
        let found : from_live v.queue.below ≡ handle_as t.known first ∷ map (handle_as t.known) e.early =
        finds_live v.queue (handle_as t.known first) (map (handle_as t.known) e.early) below_is live in (
          keeps_taken t v p k first others are e (record v { queue = taken v.queue; called = called }) refl refl refl refl
              (ap (λ hs. record v.queue { below = drop 1 hs }) (found ∙ sym below_is)),
          ap first_action found,
        )

  none_early : IsPastBar t.bar p.pending → k.handles.early ≡ []
  none_early past = go k.handles.early refl
    where
      go : (early : List plain.Handle) → k.handles.early ≡ early → early ≡ []
      go [] e = refl
      go (first ∷ early) e =
          let x = ap (IsPastBar t.bar) (k.handles.pending ∙ ap (λ z. z ++ k.handles.late) e) in
          let late : t.bar ≤ first.stamp = subst (λ hs. IsPastBar t.bar hs) (k.handles.pending ∙ ap (λ z. z ++ k.handles.late) e) past in
          let soon : first.stamp < t.bar = (subst (Each (λ (h : plain.Handle). h.stamp < t.bar)) e k.handles.before_bar).0 in
          absurd (omega (arith, late, soon))

  pub none_next : IsPastBar t.bar p.pending → (next_action v.queue ≡ None) × (taken v.queue ≡ v.queue)
  none_next past =
      let below : v.queue.below ≡ [] = k.handles.below ∙ ap (map (handle_as t.known)) (none_early past) in (
        ap (λ hs. first_action (from_live hs)) below,
        ap (λ hs. record v.queue { below = drop 1 (from_live hs) }) below ∙ ap (λ hs. record v.queue { below = hs }) (sym below),
      )

-- ---- a whole call
runs_on : (t : NameMap) (w : View) (p : Parts) (others : List plain.Handle) (next : Option Action) (left : List plain.Handle)
    → Runs t w (record p { pending = others }) next left → Runs t w p next left
runs_on t w p others None left r = r
runs_on t w p others (Some action) [] r = r
runs_on t w p others (Some action) (handle ∷ handles) r = r

abbrev left_by : View → Option ℕ → View
left_by v called = record v { queue = taken v.queue; called = called }

abbrev SkipsFrom : NameMap → Option ℕ → List plain.Handle → Type 0
SkipsFrom t called pending =
    (v : View) (p : Parts) → Keeps t v p → p.pending ≡ pending → Skips t (left_by v called) p (next_action v.queue)

skips_none : (t : NameMap) (called : Option ℕ) (v : View) (p : Parts) → Keeps t v p → IsPastBar t.bar p.pending
    → Skips t (left_by v called) p (next_action v.queue)
skips_none t called v p k past =
    let none = none_next t v p k past in
    subst (λ next. Skips t (left_by v called) p next) (sym none.0)
    (record {
      dead = [];
      left = p.pending;
      pending = refl;
      are_dead = tt;
      runs = (past, moved t v (left_by v called) p p.futures p.tasks k refl refl none.1 k.tasks k.futures k.made k.done k.numbered);
    })

skips_live : (t : NameMap) (called : Option ℕ) (v : View) (p : Parts) (k : Keeps t v p) (first : plain.Handle) (others : List plain.Handle)
    → p.pending ≡ first ∷ others → first.stamp < t.bar → first.dead ≡ false → Skips t (left_by v called) p (next_action v.queue)
skips_live t called v p k first others are early live =
    let runs = keeps_live t v p k first others are early called live in
    subst (λ next. Skips t (left_by v called) p next) (sym runs.1)
    (record { dead = []; left = first ∷ others; pending = are; are_dead = tt; runs = (early, live, refl, runs.0) })

skips_one : (t : NameMap) (called : Option ℕ) (v : View) (p : Parts) (k : Keeps t v p) (first : plain.Handle) (others : List plain.Handle)
    → p.pending ≡ first ∷ others → first.stamp < t.bar → first.dead ≡ true → SkipsFrom t called others
    → Skips t (left_by v called) p (next_action v.queue)
skips_one t called v p k first others are early dead more =
    let one = keeps_dead t v p k first others are early dead in
    let it = more (record v { queue = skipped v.queue }) (record p { pending = others }) one.0 refl in
    let same : Skips t (left_by v called) (record p { pending = others }) (next_action v.queue) =
    subst (λ next. Skips t (left_by v called) (record p { pending = others }) next) one.1
    (subst (λ q. Skips t (record v { queue = q; called = called }) (record p { pending = others }) (next_action (skipped v.queue))) one.2 it) in
    record {
      dead = first ∷ same.dead;
      left = same.left;
      pending = are ∙ ap (λ hs. first ∷ hs) same.pending;
      are_dead = ((dead, early), same.are_dead);
      runs = runs_on t (left_by v called) p others (next_action v.queue) same.left same.runs;
    }

skips_from : (t : NameMap) (called : Option ℕ) (pending : List plain.Handle) → SkipsFrom t called pending
skips_from t called [] v p k are = skips_none t called v p k (rw are tt)
skips_from t called (first ∷ others) v p k are = go (cases_lt first.stamp t.bar) first.dead refl (skips_from t called others)
  where
    go : (first.stamp < t.bar) ⊎ (t.bar ≤ first.stamp) → (dead : Bool) → first.dead ≡ dead → SkipsFrom t called others
        → Skips t (left_by v called) p (next_action v.queue)
    go (inl early) true d more = skips_one t called v p k first others are early d more
    go (inl early) false d more = skips_live t called v p k first others are early d
    go (inr past) dead d more = skips_none t called v p k (rw are past)

pub keeps_next : (t : NameMap) (v : View) (p : Parts) (called : Option ℕ) → Keeps t v p → Skips t (left_by v called) p (next_action v.queue)
keeps_next t v p called k = skips_from t called p.pending v p k refl
