-- Timers are made, cancelled, and fall due.
use Rattle.std.proofs.Common.{◌≡◌, ℕ, ◌+◌, ◌<◌, ◌≤◌, ◌⊎◌, ◌==◌, Bool, true, false, cond, not, List, [], ◌∷◌, ◌++◌, Some, None, map, filter, refl, ap, sym}
use Rattle.std.proofs.Common.{subst, ◌∙◌, inl, inr, arith, append_assoc, if◌then◌else◌}
use Rattle.std.specs.Prelude.{nat_lt, nat_le, nat_eq}
use Rattle.std.specs.List.{AllByRecursion as Each}
use Rattle.std.proofs.lemmas.Bool.{cases_eq, eq-eqb, ne_eqb, eqb-true, false_from_ne_true, and_parts, and_from}
use Rattle.std.proofs.lemmas.List.{map-append}
use Rattle.std.proofs.lemmas.Option.{none-some, same_Some}
use Rattle.model_value.specs.Action.{Action}
use Rattle.model_wire.specs.declared.watch.Watch.{Watch}
use Rattle.model_loop.specs.Parts as plain
use Rattle.model_loop.specs.Parts.{Timer, Parts}
use Rattle.model_loop.specs.Handles.{later, revoke, due, fall_due, by_deadline, cancelled_if}
use Rattle.model_loop.specs.Numbered.{occurrences, IsNumbered}
use Rattle.law_changes.proofs.Falling.{due_numbers, fall_due-next}
use Rattle.law_changes.proofs.Numbering.{later_numbers, revoke_numbers, tagged, tag_of, timer_tag}
use Rattle.aio_ready.specs.declared.handle.Handle.{Handle}
use Rattle.aio_ready.specs.declared.handle.HandleName.TheVariants as name
use Rattle.aio_ready.specs.Queue.{Queue, cancelled, appended, is_empty}
use Rattle.aio_timer.specs.declared.live.TimerId.{TimerId}
use Rattle.aio_timer.specs.Schedule.{timer, placed_after, is_of, lives, without, first_when, due_at, later_than, fallen}
use Rattle.aio_task.specs.View.{View}
use Rattle.aio_task.specs.Keeps.{Known, ByHandle, ByTimer, name_of, number_of, handle_as, timer_as, IsTimer, NameMap, KeepsHandles, Keeps, Extends, Kept, Knows}
use Rattle.model_machine.specs.Turn.{least, wait_for, wait_with, wait_of, nothing_comes}
use Rattle.refine_parts.specs.Waiting.{wait_by, stalls_by}
use Rattle.aio_cancel.specs.Awaitables.{waiting}
use Rattle.refine_parts.proofs.Appending.{extends_still, waiting_kept}
use Rattle.refine_parts.proofs.Lists.{all_left, all_right, all_both, all-append, all-filter, occurrences-cons}
use Rattle.refine_parts.proofs.Naming.{tags_pending, tags_timers, all-by_deadline, handles_same, timers_same, known_as, known_new, known_same, names_more}
use Rattle.refine_parts.proofs.Naming.{timer_fresh}
use Rattle.refine_parts.proofs.Deadlining.{last-by_deadline, filter-by_deadline, filter-map, placed-map, tags-by_deadline, first_least}
use Rattle.refine_parts.proofs.Running.{handles_cancelled}

-- ---- a timer is made
module _ (t : NameMap) (v : View) (p : Parts) (k : Keeps t v p) (when : ℕ) (action : Action) where
  abbrev id : TimerId
  id = record { number = v.schedule.next; when = when }

  abbrev u : ℕ → Known
  u = known_as p.next_tag (ByTimer id) t.known

  abbrev new : Timer
  new = record { when = when; tag = p.next_tag; action = action }

  abbrev made : View
  made = record v { schedule = record { live = placed_after (timer id action) v.schedule.live; next = v.schedule.next + 1 } }

  same : (tag : ℕ) → tag < p.next_tag → u tag ≡ t.known tag
  same = known_same p.next_tag (ByTimer id) t.known

  handles_later : KeepsHandles u t.bar v.queue (later when action p)
  handles_later =
      let h = k.handles in
      let below : Each (λ (h : plain.Handle). h.tag < p.next_tag) (h.early ++ h.late) =
      subst (Each (λ (h : plain.Handle). h.tag < p.next_tag)) h.pending (tags_pending p k.numbered) in
      record {
        early = h.early;
        late = h.late;
        pending = h.pending;
        below = h.below ∙ sym (handles_same t.known u p.next_tag same h.early (all_left (λ (h : plain.Handle). h.tag < p.next_tag) h.early h.late below));
        after = h.after ∙ sym (handles_same t.known u p.next_tag same h.late (all_right (λ (h : plain.Handle). h.tag < p.next_tag) h.early h.late below));
        before_bar = h.before_bar;
        past_bar = h.past_bar;
        bar_given = h.bar_given;
      }

  timers_later : placed_after (timer id action) v.schedule.live ≡ map (timer_as u) (by_deadline (p.timers ++ new ∷ []))
  timers_later =
      let live : v.schedule.live ≡ map (timer_as u) (by_deadline p.timers) =
      k.timers
      ∙ sym (timers_same t.known u p.next_tag same (by_deadline p.timers)
      (all-by_deadline (λ (x : Timer). x.tag < p.next_tag) p.timers (tags_timers p k.numbered))) in
      let it : timer id action ≡ timer_as u new =
      ap (λ n. record { when = when; tag = n; action = action }) (sym (ap number_of (known_new p.next_tag (ByTimer id) t.known))) in
      ap (placed_after (timer id action)) live
      ∙ ap (λ x. placed_after x (map (timer_as u) (by_deadline p.timers))) it
      ∙ sym (placed-map (timer_as u) (λ x. refl) new (by_deadline p.timers))
      ∙ ap (map (timer_as u)) (sym (last-by_deadline p.timers new))

  keeps_later : Keeps (record t { known = u }) made (later when action p)
  keeps_later = record {
    time = k.time;
    handles = handles_later;
    timers = timers_later;
    deadlines =
        all-append (λ (x : Timer). IsTimer (u x.tag) x) p.timers (new ∷ [])
        (all_both (λ (x : Timer). IsTimer (t.known x.tag) x) (λ (x : Timer). x.tag < p.next_tag) (λ (x : Timer). IsTimer (u x.tag) x)
        (λ x d b. let e = same x.tag b in rw e d) p.timers k.deadlines (tags_timers p k.numbered))
        (subst (λ it. IsTimer it new) (sym (known_new p.next_tag (ByTimer id) t.known)) refl, tt);
    names =
        names_more t.known p.next_tag v.queue.given v.schedule.next v.queue.given (v.schedule.next + 1) (ByTimer id) k.names
        (omega arith) (omega arith) (omega arith) (timer_fresh v.schedule.next v.queue.given v.schedule.next (omega arith));
    futures = k.futures;
    made = k.made;
    done = k.done;
    tasks = k.tasks;
    numbered = later_numbers when action p k.numbered;
  }

  pub kept_later : (kept : Kept t p made (later when action p)) × Knows kept.name_map (later when action p) p.next_tag (ByTimer id)
  kept_later = (
    record {
      name_map = record t { known = u };
      keeps = keeps_later;
      extends = record { known = same; tags = omega arith; gone = refl; bar = refl };
    },
    record { given = omega arith; known = known_new p.next_tag (ByTimer id) t.known },
  )

-- ---- a timer is cancelled
-- what changes those of a tag alone leaves a list without it as it is
others_stay : {A : Type 0} (number : A → ℕ) (tag : ℕ) (change : List A → List A) → change [] ≡ []
    → ((x : A) (xs : List A) → (number x ≡ tag → ⊥) → change (x ∷ xs) ≡ x ∷ change xs)
    → (xs : List A) → occurrences tag (map number xs) ≡ 0 → change xs ≡ xs
others_stay number tag change ends passes [] none = ends
others_stay {A} number tag change ends passes (x ∷ xs) none = go (cases_eq (number x) tag) (others_stay number tag change ends passes xs)
  where
    c : occurrences tag (number x ∷ map number xs) ≡ cond (nat_eq tag (number x)) 1 0 + occurrences tag (map number xs)
    c = occurrences-cons tag (number x) (map number xs)

    go : (number x ≡ tag) ⊎ (number x ≡ tag → ⊥) → (occurrences tag (map number xs) ≡ 0 → change xs ≡ xs) → change (x ∷ xs) ≡ x ∷ xs
    go (inl e) more =
        let one : ◌≡◌ {A = ℕ} (cond (nat_eq tag (number x)) 1 0) 1 = rw (eq-eqb tag (number x) (sym e)) refl in
        absurd (omega (arith, none, c, one))
    go (inr n) more = passes x xs n ∙ ap (λ (ys : List A). x ∷ ys) (more (omega (arith, none, c)))

cancelled_none : (tag : ℕ) (handles : List plain.Handle) → occurrences tag (map tag_of handles) ≡ 0 → map (cancelled_if tag) handles ≡ handles
cancelled_none tag = others_stay tag_of tag (map (cancelled_if tag)) refl (λ h hs n. rw (ne_eqb h.tag tag n) refl)

abbrev Counted : ℕ → Timer → List Timer → Type 0
Counted tag x timers = occurrences tag (x.tag ∷ map timer_tag timers) ≡ cond (nat_eq tag x.tag) 1 0 + occurrences tag (map timer_tag timers)

filter_none : (tag : ℕ) (timers : List Timer) → occurrences tag (map timer_tag timers) ≡ 0
    → filter (λ (x : Timer). not (x.tag == tag)) timers ≡ timers
filter_none tag = others_stay timer_tag tag (filter (λ (x : Timer). not (x.tag == tag))) refl (λ x xs n. rw (ne_eqb x.tag tag n) refl)

-- a timer of these has this id exactly where it has this tag
module _ (t : NameMap) (v : View) (p : Parts) (k : Keeps t v p) (tag : ℕ) (id : TimerId) (knows : Knows t p tag (ByTimer id)) where
  known_tells : (it : Known) (x : Timer) → t.known x.tag ≡ it → IsTimer it x → x.tag < p.next_tag → is_of id (timer_as t.known x) ≡ (x.tag == tag)
  known_tells (ByHandle other) x e a below = absurd a
  known_tells (ByTimer other) x e a below = go (cases_eq x.tag tag)
    where
      number : number_of (t.known x.tag) ≡ other.number
      number = ap number_of e

      go : (x.tag ≡ tag) ⊎ (x.tag ≡ tag → ⊥) → is_of id (timer_as t.known x) ≡ (x.tag == tag)
      go (inl s) =
          let same : ByTimer other ≡ ByTimer id = sym e ∙ ap t.known s ∙ knows.known in
          let one : other ≡ id = cc in
          let when : id.when ≡ x.when = ap (λ (i : TimerId). i.when) (sym one) ∙ a in
          let count : id.number ≡ number_of (t.known x.tag) = ap (λ (i : TimerId). i.number) (sym one) ∙ sym number in
          and_from (id.when == x.when) (id.number == number_of (t.known x.tag)) (eq-eqb id.when x.when when)
          (eq-eqb id.number (number_of (t.known x.tag)) count)
          ∙ sym (eq-eqb x.tag tag s)
      go (inr n) =
          false_from_ne_true (is_of id (timer_as t.known x)) (λ h.
          let parts = and_parts (id.when == x.when) (id.number == number_of (t.known x.tag)) h in
          let count : id.number ≡ other.number = eqb-true id.number (number_of (t.known x.tag)) parts.1 ∙ number in
          let mine : name_of (t.known tag) ≡ name.Timer id.number = ap name_of knows.known in
          let its : name_of (t.known x.tag) ≡ name.Timer other.number = ap name_of e in
          n (sym (k.names.own tag x.tag knows.given below (rw (mine, its) (eq-eqb id.number other.number count)))))
          ∙ sym (ne_eqb x.tag tag n)

  abbrev IsLive : Timer → Type 0
  IsLive x = IsTimer (t.known x.tag) x × (x.tag < p.next_tag)

  tells : (x : Timer) → IsLive x → is_of id (timer_as t.known x) ≡ (x.tag == tag)
  tells x a = known_tells (t.known x.tag) x refl a.0 a.1

  without_kept : (timers : List Timer) → Each IsLive timers → occurrences tag (map timer_tag timers) ≤ 1
      → without id (map (timer_as t.known) timers) ≡ map (timer_as t.known) (filter (λ (x : Timer). not (x.tag == tag)) timers)
  without_kept [] a one = refl
  without_kept (x ∷ timers) a one =
      let c = occurrences-cons tag x.tag (map timer_tag timers) in
      go (cases_eq x.tag tag) c (without_kept timers a.1 (omega (arith, one, c)))
    where
      go : (x.tag ≡ tag) ⊎ (x.tag ≡ tag → ⊥) → Counted tag x timers
          → without id (map (timer_as t.known) timers) ≡ map (timer_as t.known) (filter (λ (x : Timer). not (x.tag == tag)) timers)
          → without id (map (timer_as t.known) (x ∷ timers)) ≡ map (timer_as t.known) (filter (λ (x : Timer). not (x.tag == tag)) (x ∷ timers))
      go (inl e) c more =
          let counted : ◌≡◌ {A = ℕ} (cond (nat_eq tag x.tag) 1 0) 1 = rw (eq-eqb tag x.tag (sym e)) refl in
          let here : is_of id (timer_as t.known x) ≡ true = tells x a.0 ∙ eq-eqb x.tag tag e in
          let none = filter_none tag timers (omega (arith, one, c, counted)) in
          rw (here, eq-eqb x.tag tag e, none) refl
      go (inr n) c more =
          let here : is_of id (timer_as t.known x) ≡ false = tells x a.0 ∙ ne_eqb x.tag tag n in
          rw (here, ne_eqb x.tag tag n) (ap (λ xs. timer_as t.known x ∷ xs) more)

  lives_once : (timers : List Timer) → Each IsLive timers → lives id (map (timer_as t.known) timers) ≡ true
      → 1 ≤ occurrences tag (map timer_tag timers)
  lives_once [] a h = absurd (cc)
  lives_once (x ∷ timers) a h =
      let c = occurrences-cons tag x.tag (map timer_tag timers) in
      go (cases_eq x.tag tag) c h (λ more. lives_once timers a.1 more)
    where
      go : (x.tag ≡ tag) ⊎ (x.tag ≡ tag → ⊥) → Counted tag x timers
          → lives id (map (timer_as t.known) (x ∷ timers)) ≡ true
          → (lives id (map (timer_as t.known) timers) ≡ true → 1 ≤ occurrences tag (map timer_tag timers))
          → 1 ≤ occurrences tag (map timer_tag (x ∷ timers))
      go (inl e) c h more =
          let counted : ◌≡◌ {A = ℕ} (cond (nat_eq tag x.tag) 1 0) 1 = rw (eq-eqb tag x.tag (sym e)) refl in omega (arith, c, counted)
      go (inr n) c h more =
          let here : is_of id (timer_as t.known x) ≡ false = tells x a.0 ∙ ne_eqb x.tag tag n in
          let others : lives id (map (timer_as t.known) timers) ≡ true = rw here at h in
          let m = more others in omega (arith, c, m)

  are_live : Each IsLive (by_deadline p.timers)
  are_live =
      all-by_deadline IsLive p.timers
      (all_both (λ (x : Timer). IsTimer (t.known x.tag) x) (λ (x : Timer). x.tag < p.next_tag) IsLive (λ x a b. (a, b)) p.timers
      k.deadlines (tags_timers p k.numbered))

  counted_once : occurrences tag (map tag_of p.pending) + occurrences tag (map timer_tag (by_deadline p.timers)) ≤ 1
  counted_once =
      let a = k.numbered.tags.once tag in
      let b = tagged tag p in
      let c = tags-by_deadline tag p.timers in
      omega (arith, a, b, c)

  handles_revoked : (b : Bool) → lives id v.schedule.live ≡ b
      → KeepsHandles t.known t.bar (if b then v.queue else cancelled (name.Timer id.number) v.queue) (revoke tag p)
  handles_revoked true e =
      let h = k.handles in
      let live = lives_once (by_deadline p.timers) are_live (ap (lives id) (sym k.timers) ∙ e) in
      let once = counted_once in
      let none = cancelled_none tag p.pending (omega (arith, live, once)) in
      record {
        early = h.early;
        late = h.late;
        pending = none ∙ h.pending;
        below = h.below;
        after = h.after;
        before_bar = h.before_bar;
        past_bar = h.past_bar;
        bar_given = h.bar_given;
      }
  handles_revoked false e =
      let name_is : name_of (t.known tag) ≡ name.Timer id.number = ap name_of knows.known in
      subst (λ n. KeepsHandles t.known t.bar (cancelled n v.queue) (revoke tag p)) name_is
      (handles_cancelled t v p k tag knows.given (rw name_is (eq-eqb id.number id.number refl)))

  given_same : (b : Bool) → (if b then v.queue else cancelled (name.Timer id.number) v.queue).given ≡ v.queue.given
  given_same true = refl
  given_same false = refl

  pub keeps_revoked : Keeps t
      (record v {
        schedule = record v.schedule { live = without id v.schedule.live };
        queue = (if lives id v.schedule.live then v.queue else cancelled (name.Timer id.number) v.queue);
      })
      (revoke tag p)
  keeps_revoked = record {
    time = k.time;
    handles = handles_revoked (lives id v.schedule.live) refl;
    timers =
        let once = counted_once in
        ap (without id) k.timers ∙ without_kept (by_deadline p.timers) are_live (omega (arith, once))
        ∙ ap (map (timer_as t.known)) (sym (filter-by_deadline (λ (x : Timer). not (x.tag == tag)) p.timers));
    deadlines = all-filter (λ (x : Timer). IsTimer (t.known x.tag) x) (λ (x : Timer). not (x.tag == tag)) p.timers k.deadlines;
    names = rw (given_same (lives id v.schedule.live)) k.names;
    futures = k.futures;
    made = k.made;
    done = k.done;
    tasks = k.tasks;
    numbered = revoke_numbers tag p k.numbered;
  }

-- ---- timers fall due
abbrev due_one : Timer → Parts → Parts
due_one x p =
    record p {
      pending = p.pending ++ record { stamp = p.next_stamp; tag = x.tag; action = x.action; dead = false } ∷ [];
      next_stamp = p.next_stamp + 1;
    }

fall_due-beside : (timers : List Timer) (p : Parts)
    → fall_due timers p ≡ record p { pending = (fall_due timers p).pending; next_stamp = (fall_due timers p).next_stamp }
fall_due-beside [] p = refl
fall_due-beside (x ∷ timers) p = fall_due-beside timers (due_one x p)

fallen-given : (timers : List Timer) (q : Queue) → (fallen timers q).given ≡ q.given
fallen-given [] q = refl
fallen-given (x ∷ timers) q = fallen-given timers (appended (name.Timer x.tag) x.action q)

name_is : (it : Known) (x : Timer) → IsTimer it x → name.Timer (number_of it) ≡ name_of it
name_is (ByHandle other) x a = absurd a
name_is (ByTimer other) x a = refl

module _ (known : ℕ → Known) (bar : ℕ) where
  handles_one : (x : Timer) (q : Queue) (p : Parts) → IsTimer (known x.tag) x → KeepsHandles known bar q p
      → KeepsHandles known bar (appended (name.Timer (timer_as known x).tag) x.action q) (due_one x p)
  handles_one x q p a h =
      let new : plain.Handle = record { stamp = p.next_stamp; tag = x.tag; action = x.action; dead = false } in
      let it : ◌≡◌ {A = Handle} (record { name = name.Timer (number_of (known x.tag)); action = x.action; dead = false }) (handle_as known new) =
      ap (λ n. record { name = n; action = x.action; dead = false }) (name_is (known x.tag) x a) in
      record {
        early = h.early;
        late = h.late ++ new ∷ [];
        pending = ap (λ hs. hs ++ new ∷ []) h.pending ∙ append_assoc h.early h.late (new ∷ []);
        below = h.below;
        after =
            ap (λ hs. hs ++ record { name = name.Timer (number_of (known x.tag)); action = x.action; dead = false } ∷ []) h.after
            ∙ ap (λ n. map (handle_as known) h.late ++ n ∷ []) it ∙ sym (map-append (handle_as known) h.late (new ∷ []));
        before_bar = h.before_bar;
        past_bar = all-append (λ (h : plain.Handle). bar ≤ h.stamp) h.late (new ∷ []) h.past_bar (h.bar_given, tt);
        bar_given = let b = h.bar_given in omega arith;
      }

  handles_due : (timers : List Timer) (q : Queue) (p : Parts) → Each (λ (x : Timer). IsTimer (known x.tag) x) timers → KeepsHandles known bar q p
      → KeepsHandles known bar (fallen (map (timer_as known) timers) q) (fall_due timers p)
  handles_due [] q p a h = h
  handles_due (x ∷ timers) q p a h =
      handles_due timers (appended (name.Timer (timer_as known x).tag) x.action q) (due_one x p) a.1 (handles_one x q p a.0 h)

abbrev early : Parts → List Timer
early p = filter (λ (x : Timer). nat_le x.when p.time) p.timers

abbrev late : Parts → List Timer
late p = filter (λ (x : Timer). nat_lt p.time x.when) p.timers

abbrev rest : Parts → Parts
rest p = record p { timers = late p }

module _ (t : NameMap) (v : View) (p : Parts) (k : Keeps t v p) where
  due_live : due_at p.time v.schedule.live ≡ map (timer_as t.known) (by_deadline (early p))
  due_live =
      ap (due_at p.time) k.timers
      ∙ filter-map (λ (x : Timer). nat_le x.when p.time) (timer_as t.known) (λ x. refl) (by_deadline p.timers)
      ∙ ap (map (timer_as t.known)) (sym (filter-by_deadline (λ (x : Timer). nat_le x.when p.time) p.timers))

  later_live : later_than p.time v.schedule.live ≡ map (timer_as t.known) (by_deadline (late p))
  later_live =
      ap (later_than p.time) k.timers
      ∙ filter-map (λ (x : Timer). nat_lt p.time x.when) (timer_as t.known) (λ x. refl) (by_deadline p.timers)
      ∙ ap (map (timer_as t.known)) (sym (filter-by_deadline (λ (x : Timer). nat_lt p.time x.when) p.timers))

  due_handles : KeepsHandles t.known t.bar (fallen (due_at p.time v.schedule.live) v.queue) (due p)
  due_handles =
      let h = k.handles in
      subst (λ ts. KeepsHandles t.known t.bar (fallen ts v.queue) (due p)) (sym due_live)
      (handles_due t.known t.bar (by_deadline (early p)) v.queue (rest p)
      (all-by_deadline (λ (x : Timer). IsTimer (t.known x.tag) x) (early p)
      (all-filter (λ (x : Timer). IsTimer (t.known x.tag) x) (λ (x : Timer). nat_le x.when p.time) p.timers k.deadlines))
      (record {
        early = h.early;
        late = h.late;
        pending = h.pending;
        below = h.below;
        after = h.after;
        before_bar = h.before_bar;
        past_bar = h.past_bar;
        bar_given = h.bar_given;
      }))

  abbrev fell : View
  fell = record v {
    schedule = record v.schedule { live = later_than p.time v.schedule.live };
    queue = fallen (due_at p.time v.schedule.live) v.queue;
  }

  due_is : due p ≡ record (rest p) { pending = (due p).pending; next_stamp = (due p).next_stamp }
  due_is = fall_due-beside (by_deadline (early p)) (rest p)

  keeps_due : Keeps t fell (due p)
  keeps_due =
      subst (λ x. Keeps t fell x) (sym due_is)
      (record {
        time = k.time;
        handles = subst (λ x. KeepsHandles t.known t.bar fell.queue x) due_is due_handles;
        timers = later_live;
        deadlines =
            all-filter (λ (x : Timer). IsTimer (t.known x.tag) x) (λ (x : Timer). nat_lt p.time x.when) p.timers k.deadlines;
        names = rw (fallen-given (due_at p.time v.schedule.live) v.queue) k.names;
        futures = k.futures;
        made = k.made;
        done = k.done;
        tasks = k.tasks;
        numbered = subst IsNumbered due_is (due_numbers p k.numbered);
      })

pub due_name_map : (t : NameMap) (p : Parts) → Extends p t (due p) t
due_name_map t p = extends_still t p (due p) (fall_due-next (by_deadline (early p)) (rest p))

pub keeps_fallen : (t : NameMap) (v : View) (p : Parts) (now : ℕ) → Keeps t v p → now ≡ v.time
    → Keeps t
    (record v {
      schedule = record v.schedule { live = later_than now v.schedule.live };
      queue = fallen (due_at now v.schedule.live) v.queue;
    })
    (due p)
keeps_fallen t v p now k e =
    subst (λ n. Keeps t (record v {
      schedule = record v.schedule { live = later_than n v.schedule.live };
      queue = fallen (due_at n v.schedule.live) v.queue;
    }) (due p)) (sym (e ∙ k.time)) (keeps_due t v p k)

-- ---- the earliest
abbrev is_empty_row : List plain.Handle → Bool
is_empty_row [] = true
is_empty_row (h ∷ handles) = false

first_as : (known : ℕ → Known) (timers : List Timer) → first_when (map (timer_as known) timers) ≡ first_when timers
first_as known [] = refl
first_as known (x ∷ timers) = refl

module _ (t : NameMap) (v : View) (p : Parts) (k : Keeps t v p) where
  first_kept : first_when v.schedule.live ≡ first_when (by_deadline p.timers)
  first_kept = ap first_when k.timers ∙ first_as t.known (by_deadline p.timers)

  pub none_earliest : first_when v.schedule.live ≡ None → p.timers ≡ []
  none_earliest e = go p.timers (sym first_kept ∙ e)
    where
      go : (timers : List Timer) → first_when (by_deadline timers) ≡ None → timers ≡ []
      go [] h = refl
      go (x ∷ timers) h = absurd (none-some (least x.when timers) (sym h ∙ first_least x timers))

  pub some_earliest : (when : ℕ) → first_when v.schedule.live ≡ Some when
      → (first : Timer) × (others : List Timer) × (p.timers ≡ first ∷ others) × (when ≡ least first.when others)
  some_earliest when e = go p.timers (sym first_kept ∙ e)
    where
      go : (timers : List Timer) → first_when (by_deadline timers) ≡ Some when
          → (first : Timer) × (others : List Timer) × (timers ≡ first ∷ others) × (when ≡ least first.when others)
      go [] h = absurd (cc)
      go (x ∷ timers) h =
          (x, timers, refl, same_Some when (least x.when timers) (sym h ∙ first_least x timers))

  -- how long a turn waits
  empty_as : (handles : List plain.Handle) → is_empty (map (handle_as t.known) handles) ≡ is_empty_row handles
  empty_as [] = refl
  empty_as (h ∷ handles) = refl

  seen : is_empty (waiting v.queue) ≡ is_empty_row p.pending
  seen = ap is_empty (waiting_kept t v p k) ∙ empty_as p.pending

  pub wait_kept : wait_of p ≡ wait_by (is_empty (waiting v.queue)) (first_when v.schedule.live) v.time
  wait_kept =
      go p.pending p.timers
      ∙ sym (ap (λ b. wait_by b (first_when v.schedule.live) v.time) seen
      ∙ ap (λ o. wait_by (is_empty_row p.pending) o v.time) first_kept
      ∙ ap (wait_by (is_empty_row p.pending) (first_when (by_deadline p.timers))) k.time)
    where
      timed : (timers : List Timer) → wait_for timers p.time ≡ wait_by true (first_when (by_deadline timers)) p.time
      timed [] = refl
      timed (x ∷ timers) = ap (λ o. wait_by true o p.time) (sym (first_least x timers))

      go : (handles : List plain.Handle) (timers : List Timer)
          → wait_with handles (record p { timers = timers }) ≡ wait_by (is_empty_row handles) (first_when (by_deadline timers)) p.time
      go [] timers = timed timers
      go (h ∷ handles) timers = refl

  pub stall_kept : (watched : List Watch) → nothing_comes p.pending p.timers watched
      ≡ stalls_by (is_empty (waiting v.queue)) (first_when v.schedule.live) watched
  stall_kept watched =
      go p.pending p.timers watched
      ∙ sym (ap (λ b. stalls_by b (first_when v.schedule.live) watched) seen
      ∙ ap (λ o. stalls_by (is_empty_row p.pending) o watched) first_kept)
    where
      go : (handles : List plain.Handle) (timers : List Timer) (watched : List Watch)
          → nothing_comes handles timers watched ≡ stalls_by (is_empty_row handles) (first_when (by_deadline timers)) watched
      go (h ∷ handles) timers watched = refl
      go [] (x ∷ timers) watched = ap (λ o. stalls_by true o watched) (sym (first_least x timers))
      go [] [] (entry ∷ entries) = refl
      go [] [] [] = refl
