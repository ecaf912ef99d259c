-- A search for a cycle finds exactly what leads there.
use Rattle.std.proofs.Common.{◌≡◌, ◌≢◌, ℕ, suc, ◌+◌, ◌<◌, ◌≤◌, ◌⊎◌, Bool, true, false, ◌||◌, List, [], ◌∷◌, ◌++◌, Option, Some, None, slice_get}
use Rattle.std.proofs.Common.{refl, ap, sym, ◌∙◌, subst, arith, inl, inr}
use Rattle.std.specs.Prelude.{◌==◌}
use Rattle.std.specs.List.{list_any}
use Rattle.std.specs.Option.{option_map, option_map_or, option_to_list}
use Rattle.std.proofs.lemmas.Bool.{eq-eqb, eqb-true, lt-ltb, le-ltb}
use Rattle.model_value.specs.Value.{Outcome}
use Rattle.model_loop.specs.Parts.{FutureKind, Plain, OfTask, Many, Future, Task, Parts}
use Rattle.model_loop.specs.Futures.{made_before}
use Rattle.model_loop.specs.Tasks.{waiter_of}
use Rattle.model_loop.specs.Cancel.{has_seen}
use Rattle.model_loop.specs.Cycles.{PassesTo, Leads, at_once, through, passes, leads}
use Rattle.law_cancel.proofs.PassCases.{passes_at, passes_until}
use Rattle.law_cancel.proofs.Seen.{has_seen-append, has_seen_last, has_seen_other}
use Rattle.law_cancel.proofs.Reach.{leads_decides}
use Rattle.algorithm_parts.specs.Shape.{stands_of, stands_at, members_at}
use Rattle.algorithm_parts.specs.Quiet.{OnlyAdds}
use Rattle.algorithm_parts.specs.Open.{passing, passing_at, CanWalk}
use Rattle.algorithm_parts.specs.declared.walk.WalkFrame.{WalkFrame}
use Rattle.algorithm_parts.specs.declared.walk.WalkFrame.TheVariants.{Waits, Members}
use Rattle.algorithm_parts.specs.declared.walk.Go.{Go}
use Rattle.algorithm_parts.specs.declared.walk.Go.TheVariants.{Visit, Next, Answer}
use Rattle.algorithm_parts.specs.declared.walk.FutureState.TheVariants as stands
use Rattle.algorithm_parts.specs.Seek.{in_rest, in_go, in_frame, in_frames, Pending, Seeks, CanSeek}
use Rattle.algorithm_parts.proofs.Leading.{leads_on, seen_split}
use Rattle.algorithm_parts.proofs.WalkLemmas.{drop_some, drop_none, or_assoc}
use Rattle.algorithm_parts.proofs.OpenLemmas.{pass_waiter, passes-task, passes-many}

any_push : {X : Type 0} (f : X → Bool) (xs : List X) (y : X) → list_any f (xs ++ y ∷ []) ≡ (list_any f xs || f y)
any_push f [] y = or_false (f y)
  where
    or_false : (b : Bool) → (b || false) ≡ b
    or_false true = refl
    or_false false = refl
any_push f (x ∷ xs) y = ap (λ b. f x || b) (any_push f xs y) ∙ or_assoc (f x) (list_any f xs) (f y)

or_split : (a b : Bool) → (a || b) ≡ true → (a ≡ true) ⊎ (b ≡ true)
or_split true b h = inl refl
or_split false b h = inr h

or_left : (a b : Bool) → a ≡ true → (a || b) ≡ true
or_left true b h = refl
or_left false b h = absurd (cc)

or_right : (a b : Bool) → b ≡ true → (a || b) ≡ true
or_right true b h = refl
or_right false b h = h

clash : (b : Bool) → b ≡ true → b ≡ false → ⊥
clash b t f = absurd (cc)

seen_grows : (s : List ℕ) (a x : ℕ) → has_seen s x ≡ true → has_seen (s ++ a ∷ []) x ≡ true
seen_grows s a x h = has_seen-append s (a ∷ []) x ∙ or_left (has_seen s x) (has_seen (a ∷ []) x) h

-- ---- one future is looked at
module _ (p : Parts) (from to id : ℕ) (seen after_seen : List ℕ) (noted after_noted : ℕ → Option Bool) (go : Go) (frames : List WalkFrame)
    (visited : List ℕ) (c : Seeks p from to visited seen noted (Visit id) frames) (ne : id ≢ to) where
  -- what was reached before was reached, or is still to be looked at
  reached : (next : ℕ) → (has_seen visited next ≡ true) ⊎ Pending p (Visit id) frames next
      → (has_seen (visited ++ id ∷ []) next ≡ true) ⊎ Pending p go frames next
  reached next (inl h) = inl (seen_grows visited id next h)
  reached next (inr (inl g)) = inl (subst (λ x. has_seen (visited ++ id ∷ []) x ≡ true) (eqb-true id next g) (has_seen_last visited id))
  reached next (inr (inr f)) = inr (inr f)

  looked : ((x : ℕ) → in_go p x go ≡ true → PassesTo p id x)
      → ((next : ℕ) → PassesTo p id next → (has_seen (visited ++ id ∷ []) next ≡ true) ⊎ Pending p go frames next)
      → ((task : ℕ) → has_seen after_seen task ≡ true
      → (x : ℕ) × (has_seen (visited ++ id ∷ []) x ≡ true) × (passing_at p x ≡ stands.OfTask task))
      → ((i : ℕ) (again : Bool) → after_noted i ≡ Some again → has_seen (visited ++ id ∷ []) i ≡ true)
      → CanSeek p from to after_seen after_noted go frames
  looked onward covered tasks notes = (
    visited ++ id ∷ [],
    record {
      led = λ x h. led x h;
      covers = reached from c.covers;
      other = has_seen_other visited id to (λ e. ne (sym e)) ∙ c.other;
      closed = λ x next h pass. closed x next (seen_split visited id x h) pass;
      tasks = tasks;
      notes = notes;
    },
  )
    where
      from_here : (x : ℕ) → PassesTo p id x → (id ≡ from) ⊎ Leads p from id → (x ≡ from) ⊎ Leads p from x
      from_here x pass (inl e) = inr (at_once (subst (λ y. PassesTo p y x) e pass))
      from_here x pass (inr l) = inr (leads_on x l pass)

      led : (x : ℕ) → Pending p go frames x → (x ≡ from) ⊎ Leads p from x
      led x (inl g) = from_here x (onward x g) (c.led id (inl (eq-eqb id id refl)))
      led x (inr f) = c.led x (inr f)

      closed : (x next : ℕ) → (has_seen visited x ≡ true) ⊎ (id ≡ x) → PassesTo p x next
          → (has_seen (visited ++ id ∷ []) next ≡ true) ⊎ Pending p go frames next
      closed x next (inl h) pass = reached next (c.closed x next h pass)
      closed x next (inr e) pass = covered next (subst (λ y. PassesTo p y next) (sym e) pass)

  old_tasks : (task : ℕ) → has_seen seen task ≡ true
      → (x : ℕ) × (has_seen (visited ++ id ∷ []) x ≡ true) × (passing_at p x ≡ stands.OfTask task)
  old_tasks task h = let t = c.tasks task h in (t.0, seen_grows visited id t.0 t.1, t.2)

  old_notes : (i : ℕ) (again : Bool) → noted i ≡ Some again → has_seen (visited ++ id ∷ []) i ≡ true
  old_notes i again h = seen_grows visited id i (c.notes i again h)

pub passes_done : (p : Parts) (id : ℕ) → passing_at p id ≡ stands.Done → passes p id ≡ []
passes_done p id h = at (slice_get p.futures id) h
  where
    until : (o : Option Outcome) (k : FutureKind) → passing (stands_of o k) ≡ stands.Done → passes_until o k id p ≡ []
    until (Some outcome) k h = refl
    until None Plain h = refl
    until None (OfTask task) h = absurd (cc)
    until None (Many members asked) h = absurd (cc)

    at : (o : Option Future) → passing (stands_at o) ≡ stands.Done → passes_at o id p ≡ []
    at None h = refl
    at (Some future) h = until future.outcome future.kind h

nowhere : {X : Type 0} (p : Parts) (id next : ℕ) → passes p id ≡ [] → PassesTo p id next → X
nowhere p id next e pass = let h : false ≡ true = rw e at pass in absurd (cc)

-- it passes nowhere
pub seek_leaf : (p : Parts) (from to id : ℕ) (seen : List ℕ) (noted : ℕ → Option Bool) (answer : Bool) (frames : List WalkFrame)
    → CanSeek p from to seen noted (Visit id) frames → id ≢ to → passes p id ≡ []
    → CanSeek p from to seen noted (Answer answer) frames
seek_leaf p from to id seen noted answer frames c ne e =
    looked p from to id seen seen noted noted (Answer answer) frames c.0 c.1 ne
    (λ x h. absurd (clash false h refl)) (λ next pass. nowhere p id next e pass)
    (old_tasks p from to id seen seen noted noted (Answer answer) frames c.0 c.1 ne)
    (old_notes p from to id seen seen noted noted (Answer answer) frames c.0 c.1 ne)

-- what it passes to was reached from another one
again : (p : Parts) (from to id x : ℕ) (seen : List ℕ) (noted : ℕ → Option Bool) (answer : Bool) (frames : List WalkFrame)
    → (c : CanSeek p from to seen noted (Visit id) frames) → id ≢ to → has_seen c.0 x ≡ true → passes p id ≡ passes p x
    → CanSeek p from to seen noted (Answer answer) frames
again p from to id x seen noted answer frames c ne h e =
    looked p from to id seen seen noted noted (Answer answer) frames c.0 c.1 ne
    (λ y g. absurd (clash false g refl))
    (λ next pass.
    reached p from to id seen seen noted noted (Answer answer) frames c.0 c.1 ne next
    (c.1.closed x next h (rw e at pass)))
    (old_tasks p from to id seen seen noted noted (Answer answer) frames c.0 c.1 ne)
    (old_notes p from to id seen seen noted noted (Answer answer) frames c.0 c.1 ne)

waiter_none : (p : Parts) (task : ℕ) → option_map (λ (it : Task). it.waiter) (slice_get p.tasks task) ≡ None → waiter_of p task ≡ None
waiter_none p task h = at (slice_get p.tasks task) h
  where
    at : (o : Option Task) → option_map (λ (it : Task). it.waiter) o ≡ None → option_map_or (λ (it : Task). it.waiter) o None ≡ None
    at None h = refl
    at (Some it) h = absurd (cc)

pub waiter_is : (p : Parts) (task : ℕ) (waiter : Option ℕ) → Some waiter ≡ option_map (λ (it : Task). it.waiter) (slice_get p.tasks task)
    → waiter_of p task ≡ waiter
waiter_is p task waiter h = at (slice_get p.tasks task) h
  where
    at : (o : Option Task) → Some waiter ≡ option_map (λ (it : Task). it.waiter) o → option_map_or (λ (it : Task). it.waiter) o None ≡ waiter
    at None h = absurd (cc)
    at (Some it) h = cc

module _ (p : Parts) (from to id task : ℕ) (seen : List ℕ) (noted : ℕ → Option Bool) (frames : List WalkFrame)
    (c : CanSeek p from to seen noted (Visit id) frames) (ne : id ≢ to) (st : stands.OfTask task ≡ stands_at (slice_get p.futures id)) where
  passes_on : passes p id ≡ option_to_list (waiter_of p task)
  passes_on = passes-task p id task (sym (ap passing st))

  pub seek_seen : (answer : Bool) → has_seen seen task ≡ true → CanSeek p from to seen noted (Answer answer) frames
  seek_seen answer h =
      let t = c.1.tasks task h in
      again p from to id t.0 seen noted answer frames c ne t.1 (passes_on ∙ sym (passes-task p t.0 task t.2))

  pub seek_no_task : (answer : Bool) → option_map (λ (it : Task). it.waiter) (slice_get p.tasks task) ≡ None
      → CanSeek p from to seen noted (Answer answer) frames
  seek_no_task answer h =
      seek_leaf p from to id seen noted answer frames c ne (passes_on ∙ ap option_to_list (waiter_none p task h))

  pub seek_no_waiter : (answer : Bool) (waiter : Option ℕ)
      → Some waiter ≡ option_map (λ (it : Task). it.waiter) (slice_get p.tasks task) → waiter ≡ None
      → CanSeek p from to seen noted (Answer answer) frames
  seek_no_waiter answer waiter h e =
      seek_leaf p from to id seen noted answer frames c ne (passes_on ∙ ap option_to_list (waiter_is p task waiter h ∙ e))

  pub seek_waiter : (w : ℕ) (waiter : Option ℕ) (after : List ℕ)
      → Some waiter ≡ option_map (λ (it : Task). it.waiter) (slice_get p.tasks task) → waiter ≡ Some w → after ≡ seen ++ task ∷ []
      → CanSeek p from to after noted (Visit w) frames
  seek_waiter w waiter after h e a =
      rw a
      (looked p from to id seen (seen ++ task ∷ []) noted noted (Visit w) frames c.0 c.1 ne
      (λ x g. subst (λ y. PassesTo p id y) (eqb-true w x g) there)
      (λ next pass. inr (inl (there_alone next pass)))
      (λ t m. tasks t (seen_split seen task t m))
      (old_notes p from to id seen (seen ++ task ∷ []) noted noted (Visit w) frames c.0 c.1 ne))
    where
      alone : passes p id ≡ w ∷ []
      alone = passes_on ∙ ap option_to_list (waiter_is p task waiter h ∙ e)

      there : PassesTo p id w
      there = rw (alone, eq-eqb w w refl) refl

      there_alone : (next : ℕ) → PassesTo p id next → (w == next) ≡ true
      there_alone next pass = or_false (w == next) (rw alone at pass)
        where
          or_false : (b : Bool) → (b || false) ≡ true → b ≡ true
          or_false true h = refl
          or_false false h = h

      tasks : (t : ℕ) → (has_seen seen t ≡ true) ⊎ (task ≡ t)
          → (x : ℕ) × (has_seen (c.0 ++ id ∷ []) x ≡ true) × (passing_at p x ≡ stands.OfTask t)
      tasks t (inl m) = old_tasks p from to id seen (seen ++ task ∷ []) noted noted (Visit w) frames c.0 c.1 ne t m
      tasks t (inr q) = (id, has_seen_last c.0 id, sym (ap passing st) ∙ ap (λ (u : ℕ). stands.OfTask u) q)

-- ---- one that stands for several
pub seek_noted : (p : Parts) (from to id : ℕ) (seen : List ℕ) (noted : ℕ → Option Bool) (answer before : Bool) (frames : List WalkFrame)
    → CanSeek p from to seen noted (Visit id) frames → id ≢ to → noted id ≡ Some before
    → CanSeek p from to seen noted (Answer answer) frames
seek_noted p from to id seen noted answer before frames c ne h =
    again p from to id id seen noted answer frames c ne (c.1.notes id before h) refl

pub seek_opens : (p : Parts) (from to id : ℕ) (seen : List ℕ) (noted after : ℕ → Option Bool) (any put : Bool) (frames : List WalkFrame)
    → CanSeek p from to seen noted (Visit id) frames → id ≢ to → stands.Many ≡ stands_at (slice_get p.futures id)
    → OnlyAdds noted id put after → CanSeek p from to seen after (Next id 0 any) frames
seek_opens p from to id seen noted after any put frames c ne st adds =
    looked p from to id seen seen noted after (Next id 0 any) frames c.0 c.1 ne
    (λ x g. rw all g) (λ next pass. inr (inl (rw all at pass)))
    (old_tasks p from to id seen seen noted after (Next id 0 any) frames c.0 c.1 ne)
    (λ i found h. notes i found (adds i found h))
  where
    all : passes p id ≡ made_before id (members_at (slice_get p.futures id))
    all = passes-many p id (sym (ap passing st))

    notes : (i : ℕ) (found : Bool) → ((i ≡ id) × (found ≡ put)) ⊎ (noted i ≡ Some found) → has_seen (c.0 ++ id ∷ []) i ≡ true
    notes i found (inl same) = subst (λ x. has_seen (c.0 ++ id ∷ []) x ≡ true) (sym same.0) (has_seen_last c.0 id)
    notes i found (inr old) = old_notes p from to id seen seen noted after (Next id 0 any) frames c.0 c.1 ne i found old

-- ---- the same futures are left, otherwise grouped
regroup : (p : Parts) (from to : ℕ) (seen : List ℕ) (noted : ℕ → Option Bool) (go after : Go) (frames frames' : List WalkFrame)
    → ((x : ℕ) → Pending p after frames' x → Pending p go frames x) → ((x : ℕ) → Pending p go frames x → Pending p after frames' x)
    → CanSeek p from to seen noted go frames → CanSeek p from to seen noted after frames'
regroup p from to seen noted go after frames frames' back on c = (
  c.0,
  record {
    led = λ x h. c.1.led x (back x h);
    covers = right c.1.covers (on from);
    other = c.1.other;
    closed = λ x next h pass. right (c.1.closed x next h pass) (on next);
    tasks = c.1.tasks;
    notes = c.1.notes;
  },
)
  where
    right : {A B C : Type 0} → A ⊎ B → (B → C) → A ⊎ C
    right (inl a) f = inl a
    right (inr b) f = inr (f b)

module _ (p : Parts) (from to id place : ℕ) (any : Bool) (seen : List ℕ) (noted : ℕ → Option Bool) (frames : List WalkFrame)
    (c : CanSeek p from to seen noted (Next id place any) frames) where
  pub seek_member : (member : ℕ) (after : List WalkFrame) → Some member ≡ slice_get (members_at (slice_get p.futures id)) place → member < id
      → after ≡ frames ++ Members id (place + 1) any ∷ [] → CanSeek p from to seen noted (Visit member) after
  seek_member member after e l a =
      rw a
      (regroup p from to seen noted (Next id place any) (Visit member) frames (frames ++ Members id (place + 1) any ∷ []) back on c)
    where
      same : (x : ℕ) → in_rest p id place x ≡ ((member == x) || in_rest p id (place + 1) x)
      same x =
          let n : place + 1 ≡ suc place = omega arith in
          rw (drop_some (members_at (slice_get p.futures id)) place member (sym e), lt-ltb member id l, n) refl

      pushed : (x : ℕ) → in_frames p x (frames ++ Members id (place + 1) any ∷ []) ≡ (in_frames p x frames || in_rest p id (place + 1) x)
      pushed x = any_push (in_frame p x) frames (Members id (place + 1) any)

      back_frames : (x : ℕ) → (in_frames p x frames ≡ true) ⊎ (in_rest p id (place + 1) x ≡ true) → Pending p (Next id place any) frames x
      back_frames x (inl f) = inr f
      back_frames x (inr r) = inl (same x ∙ or_right (member == x) (in_rest p id (place + 1) x) r)

      back : (x : ℕ) → Pending p (Visit member) (frames ++ Members id (place + 1) any ∷ []) x → Pending p (Next id place any) frames x
      back x (inl g) = inl (same x ∙ or_left (member == x) (in_rest p id (place + 1) x) g)
      back x (inr f) = back_frames x (or_split (in_frames p x frames) (in_rest p id (place + 1) x) (sym (pushed x) ∙ f))

      on_go : (x : ℕ) → ((member == x) ≡ true) ⊎ (in_rest p id (place + 1) x ≡ true)
          → Pending p (Visit member) (frames ++ Members id (place + 1) any ∷ []) x
      on_go x (inl g) = inl g
      on_go x (inr r) = inr (pushed x ∙ or_right (in_frames p x frames) (in_rest p id (place + 1) x) r)

      on : (x : ℕ) → Pending p (Next id place any) frames x → Pending p (Visit member) (frames ++ Members id (place + 1) any ∷ []) x
      on x (inl g) = on_go x (or_split (member == x) (in_rest p id (place + 1) x) (sym (same x) ∙ g))
      on x (inr f) = inr (pushed x ∙ or_left (in_frames p x frames) (in_rest p id (place + 1) x) f)

  pub seek_skips : (member : ℕ) → Some member ≡ slice_get (members_at (slice_get p.futures id)) place → id ≤ member
      → CanSeek p from to seen noted (Next id (place + 1) any) frames
  seek_skips member e l =
      regroup p from to seen noted (Next id place any) (Next id (place + 1) any) frames frames
      (λ x h. back x h) (λ x h. on x h) c
    where
      same : (x : ℕ) → in_rest p id place x ≡ in_rest p id (place + 1) x
      same x =
          let n : place + 1 ≡ suc place = omega arith in
          rw (drop_some (members_at (slice_get p.futures id)) place member (sym e), le-ltb member id l, n) refl

      back : (x : ℕ) → Pending p (Next id (place + 1) any) frames x → Pending p (Next id place any) frames x
      back x (inl g) = inl (same x ∙ g)
      back x (inr f) = inr f

      on : (x : ℕ) → Pending p (Next id place any) frames x → Pending p (Next id (place + 1) any) frames x
      on x (inl g) = inl (sym (same x) ∙ g)
      on x (inr f) = inr f

  pub seek_ends : (answer : Bool) → None ≡ slice_get (members_at (slice_get p.futures id)) place
      → CanSeek p from to seen noted (Answer answer) frames
  seek_ends answer e =
      regroup p from to seen noted (Next id place any) (Answer answer) frames frames back on c
    where
      none : (x : ℕ) → in_rest p id place x ≡ false
      none x = rw (drop_none (members_at (slice_get p.futures id)) place (sym e)) refl

      back : (x : ℕ) → Pending p (Answer answer) frames x → Pending p (Next id place any) frames x
      back x (inl g) = absurd (clash false g refl)
      back x (inr f) = inr f

      on : (x : ℕ) → Pending p (Next id place any) frames x → Pending p (Answer answer) frames x
      on x (inl g) = absurd (clash (in_rest p id place x) g (none x))
      on x (inr f) = inr f

pub seek_back : (p : Parts) (from to id place : ℕ) (any more answer : Bool) (seen : List ℕ) (noted : ℕ → Option Bool) (frames : List WalkFrame)
    → CanSeek p from to seen noted (Answer answer) (frames ++ Members id place any ∷ [])
    → CanSeek p from to seen noted (Next id place more) frames
seek_back p from to id place any more answer seen noted frames c =
    regroup p from to seen noted (Answer answer) (Next id place more) (frames ++ Members id place any ∷ []) frames back on c
  where
    pushed : (x : ℕ) → in_frames p x (frames ++ Members id place any ∷ []) ≡ (in_frames p x frames || in_rest p id place x)
    pushed x = any_push (in_frame p x) frames (Members id place any)

    back : (x : ℕ) → Pending p (Next id place more) frames x → Pending p (Answer answer) (frames ++ Members id place any ∷ []) x
    back x (inl g) = inr (pushed x ∙ or_right (in_frames p x frames) (in_rest p id place x) g)
    back x (inr f) = inr (pushed x ∙ or_left (in_frames p x frames) (in_rest p id place x) f)

    on_frames : (x : ℕ) → (in_frames p x frames ≡ true) ⊎ (in_rest p id place x ≡ true) → Pending p (Next id place more) frames x
    on_frames x (inl f) = inr f
    on_frames x (inr g) = inl g

    on : (x : ℕ) → Pending p (Answer answer) (frames ++ Members id place any ∷ []) x → Pending p (Next id place more) frames x
    on x (inl g) = absurd (clash false g refl)
    on x (inr f) = on_frames x (or_split (in_frames p x frames) (in_rest p id place x) (sym (pushed x) ∙ f))

pub seek_back_past : (p : Parts) (from to id task : ℕ) (answer again : Bool) (seen : List ℕ) (noted : ℕ → Option Bool) (frames : List WalkFrame)
    → CanSeek p from to seen noted (Answer answer) (frames ++ Waits id task ∷ [])
    → CanSeek p from to seen noted (Answer again) frames
seek_back_past p from to id task answer again seen noted frames c =
    regroup p from to seen noted (Answer answer) (Answer again) (frames ++ Waits id task ∷ []) frames back on c
  where
    pushed : (x : ℕ) → in_frames p x (frames ++ Waits id task ∷ []) ≡ (in_frames p x frames || false)
    pushed x = any_push (in_frame p x) frames (Waits id task)

    back : (x : ℕ) → Pending p (Answer again) frames x → Pending p (Answer answer) (frames ++ Waits id task ∷ []) x
    back x (inl g) = absurd (clash false g refl)
    back x (inr f) = inr (pushed x ∙ or_left (in_frames p x frames) false f)

    on_frames : (x : ℕ) → (in_frames p x frames ≡ true) ⊎ (false ≡ true) → Pending p (Answer again) frames x
    on_frames x (inl f) = inr f
    on_frames x (inr g) = absurd (clash false g refl)

    on : (x : ℕ) → Pending p (Answer answer) (frames ++ Waits id task ∷ []) x → Pending p (Answer again) frames x
    on x (inl g) = absurd (clash false g refl)
    on x (inr f) = on_frames x (or_split (in_frames p x frames) false (sym (pushed x) ∙ f))

-- ---- the beginning and the ends
pub seek_begins : (p : Parts) (from to : ℕ) (noted : ℕ → Option Bool) → ((id : ℕ) → noted id ≡ None)
    → CanSeek p from to [] noted (Visit from) []
seek_begins p from to noted none = (
  [],
  record {
    led = λ x h. led x h;
    covers = inr (inl (eq-eqb from from refl));
    other = refl;
    closed = λ x next h pass. absurd (clash false h refl);
    tasks = λ t h. absurd (clash false h refl);
    notes = λ id again h. absurd (no (noted id) again h (none id));
  },
)
  where
    no : (o : Option Bool) (again : Bool) → o ≡ Some again → o ≡ None → ⊥
    no o again a b = absurd (cc)

    led : (x : ℕ) → Pending p (Visit from) [] x → (x ≡ from) ⊎ Leads p from x
    led x (inl g) = inl (sym (eqb-true from x g))
    led x (inr f) = absurd (clash false f refl)

pub seek_found : (p : Parts) (from to : ℕ) (seen : List ℕ) (noted : ℕ → Option Bool) (frames : List WalkFrame)
    → CanSeek p from to seen noted (Visit to) frames → from ≢ to → leads p from to ≡ true
seek_found p from to seen noted frames c ne = go (c.1.led to (inl (eq-eqb to to refl)))
  where
    go : (to ≡ from) ⊎ Leads p from to → leads p from to ≡ true
    go (inl e) = absurd (ne (sym e))
    go (inr l) = (leads_decides p from to).1 l

pub seek_over : (p : Parts) (from to : ℕ) (seen : List ℕ) (noted : ℕ → Option Bool) (answer : Bool)
    → CanSeek p from to seen noted (Answer answer) [] → leads p from to ≡ false
seek_over p from to seen noted answer c = go (leads p from to) refl
  where
    none : {X : Type 0} (x : ℕ) → Pending p (Answer answer) [] x → X
    none x (inl g) = absurd (clash false g refl)
    none x (inr f) = absurd (clash false f refl)

    reached : (x next : ℕ) → has_seen c.0 x ≡ true → PassesTo p x next → has_seen c.0 next ≡ true
    reached x next h pass = pick (c.1.closed x next h pass)
      where
        pick : (has_seen c.0 next ≡ true) ⊎ Pending p (Answer answer) [] next → has_seen c.0 next ≡ true
        pick (inl s) = s
        pick (inr q) = none next q

    never : (x : ℕ) → has_seen c.0 x ≡ true → Leads p x to → ⊥
    never x h (at_once pass) = clash (has_seen c.0 to) (reached x to h pass) c.1.other
    never x h (through next pass l) = never next (reached x next h pass) l

    begun : (has_seen c.0 from ≡ true) ⊎ Pending p (Answer answer) [] from → has_seen c.0 from ≡ true
    begun (inl s) = s
    begun (inr q) = none from q

    go : (b : Bool) → leads p from to ≡ b → leads p from to ≡ false
    go false e = e
    go true e = absurd (never from (begun c.1.covers) ((leads_decides p from to).0 e))

-- ---- the room that a search needs
pub walk_on : (room marks id task w : ℕ) (frames : List WalkFrame) (p : Parts) (waiter : Option ℕ)
    → CanWalk room marks (Visit id) frames [] p → stands.OfTask task ≡ stands_at (slice_get p.futures id)
    → Some waiter ≡ option_map (λ (it : Task). it.waiter) (slice_get p.tasks task) → waiter ≡ Some w
    → CanWalk room marks (Visit w) frames [] p
walk_on room marks id task w frames p waiter c st h is =
    let a = c.1 in (
      c.0,
      record {
        no_cycle = a.no_cycle;
        row = a.row;
        chain = a.chain;
        leads = λ x q. leads_on w (a.leads x q) (pass_waiter a.row id task w waiter st h is);
        fits = a.fits;
        marked = a.marked;
      },
    )
