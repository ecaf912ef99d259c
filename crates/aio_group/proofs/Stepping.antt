-- The steps of a group for its children: their cancels, and the end of one, by which the exit may be woken.
use Rattle.std.proofs.Common.{◌≡◌, ℕ, ◌<◌, ◌⊎◌, Bool, true, false, not, ◌||◌, List, [], ◌∷◌, ◌++◌, Option, Some, None, filter, length, map, slice_get, refl, ap}
use Rattle.std.proofs.Common.{sym, subst, ◌∙◌, inl, inr, append-nil}
use Rattle.std.specs.Prelude.{◌==◌, is_some, if◌then◌else◌}
use Rattle.std.proofs.lemmas.Bool.{cases_eq, ne_eqb}
use Rattle.std.specs.List.{AllByRecursion as Each}
use Rattle.model_value.specs.declared.outcome.Outcome.TheVariants.{Value as Returned}
use Rattle.model_value.specs.Value.{Exc, Nothing}
use Rattle.model_loop.proofs.GroupCases.{abort_and_request_unless}
use Rattle.model_loop.specs.Cancel.{cancel, has_seen}
use Rattle.model_loop.specs.Futures.{future_outcome, settle}
use Rattle.model_loop.specs.Groups.{group_of, set_group, is_empty, failure_in, failure_of, abort, request_parent, wake_if_last, wake_exit}
use Rattle.model_loop.specs.Groups.{without_child, blame, child_done}
use Rattle.model_loop.specs.Ledger.{Origin, ByAbort, ByGroup, ask_cancel, request_each}
use Rattle.model_loop.specs.Loop.{Group, Loop, in_parts, book}
use Rattle.model_loop.specs.Parts.{Parts}
use Rattle.model_loop.specs.Tasks.{future_of}
use Rattle.aio_ready.specs.Queue.{soon_all}
use Rattle.aio_future.specs.Settled as settled
use Rattle.aio_future.specs.Settled.{called}
use Rattle.aio_cancel.specs.Awaitables.{Appended}
use Rattle.aio_task.specs.View.{View, parts}
use Rattle.aio_task.specs.Keeps.{NameMap, Keeps, Kept}
use Rattle.aio_group.specs.GoesOn.{PartsGoOn}
use Rattle.aio_group.specs.Held.{Held}
use Rattle.aio_group.specs.Stands.{Belongs, IsLive, KeepsGroup, GroupSteps}
use Rattle.aio_group.proofs.Asking.{becomes}
use Rattle.aio_group.proofs.Flags.{children_same, parent_same, aborting_same, requested_same, exit_same, aborts, requests}
use Rattle.aio_group.proofs.Going.{cancel_on, request_each_on, settle_on}
use Rattle.aio_group.proofs.Laws.{kept_request, kept_settle, kept_future_of, kept_outcome}
use Rattle.aio_group.proofs.Listing.{set-set, all_filter, all_push, map_more}
use Rattle.aio_group.proofs.Standing.{There, group_same, no_step, then_steps, as_step, set_steps, parts_steps}

-- ---- cancels
pub abort_steps : (a : Held) (v w : View)
    → ((t : NameMap) (p : Parts) (by : Origin) → Keeps t v p → Kept t p w (request_each by a.children p).parts)
    → GroupSteps a v (record a { aborting = true }) w abort
abort_steps a v w kept =
    let b : Held = record a { aborting = true } in
    as_step a b v w (λ id l. ask id (mark id l)) abort
    (then_steps a b b v v w mark ask
    (set_steps a b v mark (λ p group. record group { aborting = true }) (λ id l. refl) (λ id l. refl) (λ t p group k is. aborts is))
    (parts_steps b v w ask (λ t id l h k. (
      subst (λ cs. Kept t l.parts w (request_each (ByAbort id) cs l.parts).parts) (children_same h.is) (kept t l.parts (ByAbort id) k),
      (request_each_on (ByAbort id) (group_of l id).children l.parts, refl),
    ))))
    (λ t id l h k.
    let same = group_same id (record (group_of l id) { aborting = true }) l h.at in
    (ap (λ (g : Group). (request_each (ByAbort id) g.children l.parts).parts) same, refl))
  where
    mark : ℕ → Loop → Loop
    mark id l = set_group id (record (group_of l id) { aborting = true }) l

    ask : ℕ → Loop → Loop
    ask id l = book (request_each (ByAbort id) (group_of l id).children) l

pub request_parent_steps : (a : Held) (v w : View) → parts w ≡ (cancel (future_of (parts v) a.parent) (parts v)).parts
    → Appended v.queue w.queue → w ≡ record v { queue = w.queue; futures = w.futures; tasks = w.tasks }
    → GroupSteps a v (record a { requested = true }) w request_parent
request_parent_steps a v w e q frame =
    let b : Held = record a { requested = true } in
    as_step a b v w (λ id l. ask id (mark id l)) request_parent
    (then_steps a b b v v w mark ask
    (set_steps a b v mark (λ p group. record group { requested = true }) (λ id l. refl) (λ id l. refl) (λ t p group k is. requests is))
    (parts_steps b v w ask (λ t id l h k. (asked t id l h k, (cancel_on (future_of l.parts (group_of l id).parent) l.parts, refl)))))
    (λ t id l h k.
    let same = group_same id (record (group_of l id) { requested = true }) l h.at in
    (ap (λ (g : Group). (cancel (future_of l.parts g.parent) l.parts).parts) same, refl))
  where
    mark : ℕ → Loop → Loop
    mark id l = set_group id (record (group_of l id) { requested = true }) l

    ask : ℕ → Loop → Loop
    ask id l = book (ask_cancel (ByGroup id) (future_of l.parts (group_of l id).parent)) l

    asked : (t : NameMap) (id : ℕ) (l : Loop) → There t (record a { requested = true }) id l → Keeps t v l.parts
        → Kept t l.parts w (cancel (future_of l.parts (group_of l id).parent) l.parts).parts
    asked t id l h k =
        let on = future_of l.parts (group_of l id).parent in
        let same : future_of (parts v) a.parent ≡ on =
        kept_future_of t v l.parts a.parent k ∙ ap (future_of l.parts) (parent_same h.is) in
        kept_request t v w l.parts (ByGroup id) on k
        (becomes v w (cancel on (parts v)).parts (e ∙ ap (λ (i : ℕ). (cancel i (parts v)).parts) same) q frame)

-- ---- the exit is woken
pub wake_stays : (a : Held) (v : View) → (is_empty a.children ≡ false) ⊎ (a.exit_future ≡ None) → GroupSteps a v a v wake_exit
wake_stays a v why =
    as_step a a v v (λ id l. l) wake_exit (no_step a v) (λ t id l h k. (go why l.parts (group_of l id) h.is, refl))
  where
    none : (children : List ℕ) (p : Parts) → p ≡ wake_if_last children None p
    none [] p = refl
    none (child ∷ children) p = refl

    some : (children : List ℕ) (future : Option ℕ) (p : Parts) → is_empty children ≡ false → p ≡ wake_if_last children future p
    some [] future p e = absurd (cc)
    some (child ∷ children) future p e = refl

    go : {t : NameMap} (why : (is_empty a.children ≡ false) ⊎ (a.exit_future ≡ None)) (p : Parts) (group : Group)
        → KeepsGroup t p a group → p ≡ wake_if_last group.children group.exit_future p
    go (inl e) p group is = some group.children group.exit_future p (ap is_empty (sym (children_same is)) ∙ e)
    go (inr e) p group is =
        let f : group.exit_future ≡ None = sym (exit_same is) ∙ e in
        none group.children p ∙ ap (λ o. wake_if_last group.children o p) (sym f)

pub wake_steps : (a : Held) (v w : View) (future : ℕ) → is_empty a.children ≡ true → a.exit_future ≡ Some future
    → w ≡ record v {
      futures = settled.settled future (Returned Nothing) v.futures;
      queue = soon_all (called future v.futures) v.queue;
    }
    → GroupSteps a v a w wake_exit
wake_steps a v w future empty there e = parts_steps a v w wake_exit (λ t id l h k.
    let same = woken l.parts (group_of l id) h.is in (
      subst (λ q. Kept t l.parts w q) (sym same)
          (subst (λ x. Kept t l.parts x (settle future (Returned Nothing) l.parts)) (sym e)
          (kept_settle t v l.parts future (Returned Nothing) k)),
      (subst (λ q. PartsGoOn l.parts q) (sym same) (settle_on future (Returned Nothing) l.parts), refl),
    ))
  where
    woken_by : (children : List ℕ) (p : Parts) → is_empty children ≡ true
        → wake_if_last children (Some future) p ≡ settle future (Returned Nothing) p
    woken_by [] p d = refl
    woken_by (child ∷ children) p d = absurd (cc)

    woken : {t : NameMap} (p : Parts) (group : Group) → KeepsGroup t p a group
        → wake_if_last group.children group.exit_future p ≡ settle future (Returned Nothing) p
    woken p group is =
        let f : group.exit_future ≡ Some future = sym (exit_same is) ∙ there in
        ap (λ o. wake_if_last group.children o p) f ∙ woken_by group.children p (ap is_empty (sym (children_same is)) ∙ empty)

-- ---- blame
abbrev pub blamed : ℕ → Loop → Loop
blamed id l = abort_and_request_unless ((group_of l id).aborting || (group_of l id).requested) id l

pub blame_stays : (a : Held) (v : View) → (a.aborting || a.requested) ≡ true → GroupSteps a v a v blamed
blame_stays a v e = as_step a a v v (λ id l. l) blamed (no_step a v) (λ t id l h k.
    let flags : ((group_of l id).aborting || (group_of l id).requested) ≡ true =
    rw (← aborting_same h.is, ← requested_same h.is) e in
    (rw flags refl, rw flags refl))

pub blame_steps : (a b c : Held) (v w x : View) → (a.aborting || a.requested) ≡ false → GroupSteps a v b w abort
    → GroupSteps b w c x request_parent → GroupSteps a v c x blamed
blame_steps a b c v w x e first second =
    as_step a c v x (λ id l. request_parent id (abort id l)) blamed (then_steps a b c v w x abort request_parent first second)
    (λ t id l h k.
    let flags : ((group_of l id).aborting || (group_of l id).requested) ≡ false =
    rw (← aborting_same h.is, ← requested_same h.is) e in
    (rw flags refl, rw flags refl))

-- ---- a child is done
abbrev pub without : ℕ → List ℕ → List ℕ
without child children = filter (λ other. not (other == child)) children

abbrev pub told : ℕ → Option Exc → Group → Group
told child None group = record group { children = without child group.children }
told child (Some fault) group = record group { children = without child group.children; errors = group.errors ++ fault ∷ [] }

abbrev pub hears : ℕ → ℕ → Loop → Loop
hears child id l = set_group id (told child (failure_of l.parts child) (group_of l id)) l

-- of a child the view tells how it ended
pub failure_same : (t : NameMap) (v : View) (p : Parts) (task : ℕ) → Keeps t v p → IsLive t p task
    → failure_of (parts v) task ≡ failure_of p task
failure_same t v p task k live =
    ap (λ (id : ℕ). failure_in (future_outcome (parts v) id)) (kept_future_of t v p task k)
    ∙ ap failure_in (kept_outcome t v p (future_of p task) k live.there)

live_child : (P : ℕ → Type 0) (child : ℕ) (children : List ℕ) → has_seen children child ≡ true → Each P children → P child
live_child P child [] e all = absurd (cc)
live_child P child (other ∷ children) e all = go (cases_eq child other) (λ d. live_child P child children d all.1)
  where
    go : (child ≡ other) ⊎ (child ≡ other → ⊥) → (has_seen children child ≡ true → P child) → P child
    go (inl same) later = subst P (sym same) all.0
    go (inr n) later = later (rw (ne_eqb child other n) at e)

module _ (a : Held) (v : View) (child : ℕ) (is_child : has_seen a.children child ≡ true) where
  abbrev pub heard_child : Bool → Held
  heard_child failed = record a {
    children = without child a.children;
    failed = a.failed ++ (if failed then child ∷ [] else []);
  }

  hears_keeps : (t : NameMap) (p : Parts) (group : Group) → KeepsGroup t p a group → (failure : Option Exc) → failure_of p child ≡ failure
      → KeepsGroup t p (heard_child (is_some failure)) (told child failure group)
  hears_keeps t p group is None e = record {
    same = ap (λ (g : Group). record g { children = without child g.children }) is.same;
    children = all_filter (IsLive t p) (λ other. not (other == child)) a.children is.children;
    failed = subst (λ ts. Each (IsLive t p) ts) (sym (append-nil a.failed)) is.failed;
    faults = λ going. let f = is.faults going in record {
      errors = ap (map (failure_of p)) (append-nil a.failed) ∙ f.errors;
      body = f.body;
      kept = f.kept;
    };
    early = is.early;
    late = is.late;
  }
  hears_keeps t p group is (Some fault) e = record {
    same = ap (λ (g : Group). record g { children = without child g.children }) is.same;
    children = all_filter (IsLive t p) (λ other. not (other == child)) a.children is.children;
    failed = all_push (IsLive t p) a.failed child is.failed (live_child (IsLive t p) child a.children is_child is.children);
    faults = λ going. let f = is.faults going in record {
      errors = map_more (failure_of p) a.failed child ∙ ap (λ os. os ++ failure_of p child ∷ []) f.errors
          ∙ ap (λ o. map Some group.errors ++ o ∷ []) e ∙ sym (map_more Some group.errors fault);
      body = f.body;
      kept = f.kept;
    };
    early = is.early;
    late = is.late;
  }

  pub hear_steps : GroupSteps a v (heard_child (is_some (failure_of (parts v) child))) v (hears child)
  hear_steps =
      set_steps a (heard_child (is_some (failure_of (parts v) child))) v (hears child)
      (λ p group. told child (failure_of p child) group) (λ id l. refl) (λ id l. refl)
      (λ t p group k is.
      let same = failure_same t v p child k (live_child (IsLive t p) child a.children is_child is.children) in
      subst (λ o. KeepsGroup t p (heard_child (is_some o)) (told child (failure_of p child) group)) (sym same)
      (hears_keeps t p group is (failure_of p child) refl))

  -- without a failure nothing more happens
  done_quietly : (id : ℕ) (l : Loop) → failure_of l.parts child ≡ None → wake_exit id (hears child id l) ≡ child_done id child l
  done_quietly id l e = rw e refl

  done_with : (id : ℕ) (l : Loop) (fault : Exc) → failure_of l.parts child ≡ Some fault → slice_get l.groups id ≡ Some (group_of l id)
      → blamed id (wake_exit id (hears child id l)) ≡ child_done id child l
  done_with id l fault e at =
      ap (λ (o : Option Exc). blamed id (wake_exit id (set_group id (told child o (group_of l id)) l))) e
      ∙ ap woken (group_same id two l at)
      ∙ ap after (sym (set-set l.groups id one two))
      ∙ sym (ap noted (group_same id one l at))
      ∙ sym (ap (λ (o : Option Exc). blame o id (wake_exit id (without_child id child l))) e)
    where
      one : Group
      one = told child None (group_of l id)

      two : Group
      two = told child (Some fault) (group_of l id)

      -- the group wakes its exit and is blamed, told of the failure before and after
      woken : Group → Loop
      woken g =
          abort_and_request_unless (g.aborting || g.requested) id
          (in_parts (wake_if_last g.children g.exit_future) (set_group id two l))

      noted : Group → Loop
      noted g =
          abort_and_request_unless (g.aborting || g.requested) id
          (set_group id (record g { errors = g.errors ++ fault ∷ [] })
          (in_parts (wake_if_last g.children g.exit_future) (set_group id one l)))

      after : List Group → Loop
      after groups =
          abort_and_request_unless ((group_of l id).aborting || (group_of l id).requested) id
          (in_parts (wake_if_last (without child (group_of l id).children) (group_of l id).exit_future)
          (record l { groups = groups }))

  pub done_steps : (failed : Bool) → failed ≡ is_some (failure_of (parts v) child) → (w : View)
      → GroupSteps (heard_child failed) v (heard_child failed) w wake_exit → failed ≡ false
      → GroupSteps a v (heard_child failed) w (λ id. child_done id child)
  done_steps failed is w wake quiet =
      as_step a (heard_child failed) v w (λ id l. wake_exit id (hears child id l)) (λ id. child_done id child)
      (then_steps a (heard_child failed) (heard_child failed) v v w (hears child) wake_exit
      (subst (λ b. GroupSteps a v (heard_child b) v (hears child)) (sym is) hear_steps) wake)
      (λ t id l h k.
      let live = live_child (IsLive t l.parts) child a.children is_child h.is.children in
      let none : failure_of l.parts child ≡ None =
      is_none_of (failure_of l.parts child) (ap is_some (sym (failure_same t v l.parts child k live)) ∙ sym is ∙ quiet) in
      let e = done_quietly id l none in
      (ap (λ (m : Loop). m.parts) e, ap (λ (m : Loop). m.groups) e))
    where
      is_none_of : (o : Option Exc) → is_some o ≡ false → o ≡ None
      is_none_of None e = refl
      is_none_of (Some fault) e = absurd (cc)

  pub fails_steps : (failed : Bool) → failed ≡ is_some (failure_of (parts v) child) → (w x : View) (c : Held)
      → GroupSteps (heard_child failed) v (heard_child failed) w wake_exit → GroupSteps (heard_child failed) w c x blamed → failed ≡ true
      → GroupSteps a v c x (λ id. child_done id child)
  fails_steps failed is w x c wake blame loud =
      as_step a c v x (λ id l. blamed id (wake_exit id (hears child id l))) (λ id. child_done id child)
      (then_steps a (heard_child failed) c v v x (hears child) (λ id l. blamed id (wake_exit id l))
      (subst (λ b. GroupSteps a v (heard_child b) v (hears child)) (sym is) hear_steps)
      (then_steps (heard_child failed) (heard_child failed) c v w x wake_exit blamed wake blame))
      (λ t id l h k.
      let live = live_child (IsLive t l.parts) child a.children is_child h.is.children in
      let some = some_of (failure_of l.parts child) (ap is_some (sym (failure_same t v l.parts child k live)) ∙ sym is ∙ loud) in
      let e = done_with id l some.0 some.1 h.at in
      (ap (λ (m : Loop). m.parts) e, ap (λ (m : Loop). m.groups) e))
    where
      some_of : (o : Option Exc) → is_some o ≡ true → (fault : Exc) × (o ≡ Some fault)
      some_of None e = absurd (cc)
      some_of (Some fault) e = (fault, refl)

-- what a group that was told keeps belongs to the parts
pub heard_belongs : (v : View) (a b : Held) (child : ℕ) (failed : List ℕ)
    → b ≡ record a { children = without child a.children; failed = failed } → Belongs v a → Belongs v b
heard_belongs v a b child failed e is = subst (λ h. Belongs v h) (sym e) (record {
  children = all_filter (λ task. task < length v.tasks) (λ other. not (other == child)) a.children is.children;
  exit = is.exit;
})
