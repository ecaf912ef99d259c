-- Handles are cancelled, stand before the bar, and are taken out.
use Rattle.std.proofs.Common.{◌≡◌, ℕ, ◌<◌, ◌≤◌, ◌⊎◌, ◌==◌, ◌||◌, Bool, true, false, cond, not, List, [], ◌∷◌, ◌++◌, drop, map, filter, refl, ap, sym, subst}
use Rattle.std.proofs.Common.{◌∙◌, inl, inr, arith, append-nil}
use Rattle.std.specs.Prelude.{length, nat_lt}
use Rattle.std.specs.List.{AllByRecursion as Each, count_by}
use Rattle.std.proofs.lemmas.List.Sums.{sum_by-cons}
use Rattle.std.proofs.Math.Bool.{or-false}
use Rattle.std.proofs.lemmas.Bool.{cases_eq, eq-eqb, ne_eqb, false_from_ne_true, or_right, lt-ltb, le-ltb}
use Rattle.std.proofs.lemmas.List.{map-append}
use Rattle.model_loop.specs.Parts as plain
use Rattle.model_loop.specs.Parts.{Timer, Parts}
use Rattle.model_loop.specs.Handles.{revoke, cancelled_if, by_deadline}
use Rattle.law_changes.proofs.Numbering.{revoke_numbers, taken_numbers, stamp_of}
use Rattle.aio_ready.specs.declared.handle.Handle.{Handle}
use Rattle.aio_ready.specs.declared.handle.HandleId.{HandleId}
use Rattle.aio_ready.specs.Names.{is_same, marked}
use Rattle.aio_ready.specs.Queue as queue
use Rattle.aio_ready.specs.Queue.{Queue, cancelled}
use Rattle.aio_cancel.specs.Awaitables.{waiting}
use Rattle.aio_task.specs.View.{View}
use Rattle.aio_task.specs.Keeps.{Known, ByHandle, name_of, handle_as, timer_as, IsTimer, NameMap, KeepsHandles, Keeps, Knows}
use Rattle.refine_parts.specs.Runs.{skipped}
use Rattle.refine_parts.proofs.Appending.{waiting_kept}
use Rattle.refine_parts.proofs.Lists.{all_left, all_right, all_below}
use Rattle.refine_parts.proofs.Naming.{tags_pending}

-- ---- a handle is cancelled
cancelled_stamps : (P : ℕ → Type 0) (tag : ℕ) (handles : List plain.Handle) → Each (λ (h : plain.Handle). P h.stamp) handles
    → Each (λ (h : plain.Handle). P h.stamp) (map (cancelled_if tag) handles)
cancelled_stamps P tag [] a = tt
cancelled_stamps P tag (h ∷ handles) a = (go (h.tag == tag), cancelled_stamps P tag handles a.1)
  where
    go : (b : Bool) → P (cond b (record h { dead = true }) h).stamp
    go true = a.0
    go false = a.0

module _ (t : NameMap) (v : View) (p : Parts) (k : Keeps t v p) (tag : ℕ) (given : tag < p.next_tag)
    (named : is_same (name_of (t.known tag)) (name_of (t.known tag)) ≡ true) where
  -- a handle has this name exactly where it has this tag
  name_tells : (other : ℕ) → other < p.next_tag → is_same (name_of (t.known tag)) (name_of (t.known other)) ≡ (other == tag)
  name_tells other below = go (cases_eq other tag)
    where
      go : (other ≡ tag) ⊎ (other ≡ tag → ⊥) → is_same (name_of (t.known tag)) (name_of (t.known other)) ≡ (other == tag)
      go (inl e) = ap (λ x. is_same (name_of (t.known tag)) (name_of (t.known x))) e ∙ named ∙ sym (eq-eqb other tag e)
      go (inr n) =
          false_from_ne_true _ (λ s. n (sym (k.names.own tag other given below s))) ∙ sym (ne_eqb other tag n)

  marks : (handles : List plain.Handle) → Each (λ (h : plain.Handle). h.tag < p.next_tag) handles
      → map (marked (name_of (t.known tag))) (map (handle_as t.known) handles) ≡ map (handle_as t.known) (map (cancelled_if tag) handles)
  marks [] below = refl
  marks (h ∷ handles) below =
      let more = marks handles below.1 in
      let here : marked (name_of (t.known tag)) (handle_as t.known h) ≡ handle_as t.known (cancelled_if tag h) =
      ap (λ b. record { name = name_of (t.known h.tag); action = h.action; dead = h.dead || b }) (name_tells h.tag below.0) ∙ go h (h.tag == tag) in
      cc
    where
      go : (h : plain.Handle) (b : Bool)
          → ◌≡◌ {A = Handle} (record { name = name_of (t.known h.tag); action = h.action; dead = h.dead || b })
          (handle_as t.known (cond b (record h { dead = true }) h))
      go h true = ap (λ d. record { name = name_of (t.known h.tag); action = h.action; dead = d }) (or_right h.dead true refl)
      go h false = ap (λ d. record { name = name_of (t.known h.tag); action = h.action; dead = d }) (or-false h.dead)

  pub handles_cancelled : KeepsHandles t.known t.bar (cancelled (name_of (t.known tag)) v.queue) (revoke tag p)
  handles_cancelled =
      let h = k.handles in
      let below : Each (λ (h : plain.Handle). h.tag < p.next_tag) (h.early ++ h.late) =
      subst (Each (λ (h : plain.Handle). h.tag < p.next_tag)) h.pending (tags_pending p k.numbered) in
      record {
        early = map (cancelled_if tag) h.early;
        late = map (cancelled_if tag) h.late;
        pending = ap (map (cancelled_if tag)) h.pending ∙ map-append (cancelled_if tag) h.early h.late;
        below =
            ap (map (marked (name_of (t.known tag)))) h.below
            ∙ marks h.early (all_left (λ (h : plain.Handle). h.tag < p.next_tag) h.early h.late below);
        after =
            ap (map (marked (name_of (t.known tag)))) h.after
            ∙ marks h.late (all_right (λ (h : plain.Handle). h.tag < p.next_tag) h.early h.late below);
        before_bar = cancelled_stamps (λ s. s < t.bar) tag h.early h.before_bar;
        past_bar = cancelled_stamps (λ s. t.bar ≤ s) tag h.late h.past_bar;
        bar_given = h.bar_given;
      }

-- no timer has the tag of what is known as a handle
timers_other : (known : ℕ → Known) (tag : ℕ) (id : HandleId) → known tag ≡ ByHandle id → (timers : List Timer)
    → Each (λ (timer : Timer). IsTimer (known timer.tag) timer) timers → filter (λ (timer : Timer). not (timer.tag == tag)) timers ≡ timers
timers_other known tag id e [] a = refl
timers_other known tag id e (timer ∷ timers) a =
    let n : (timer.tag == tag) ≡ false = ne_eqb timer.tag tag (λ s. let x = rw (s, e) at a.0 in x) in
    let more = timers_other known tag id e timers a.1 in
    rw (n, more) refl

pub keeps_cancelled : (t : NameMap) (v : View) (p : Parts) (tag : ℕ) (id : HandleId) → Keeps t v p → Knows t p tag (ByHandle id)
    → is_same id.name id.name ≡ true → Keeps t (record v { queue = cancelled id.name v.queue }) (revoke tag p)
keeps_cancelled t v p tag id k knows named =
    let same = timers_other t.known tag id knows.known p.timers k.deadlines in
    let name_is : name_of (t.known tag) ≡ id.name = ap name_of knows.known in
    record {
      time = k.time;
      handles =
          subst (λ n. KeepsHandles t.known t.bar (cancelled n v.queue) (revoke tag p)) name_is
          (handles_cancelled t v p k tag knows.given (rw name_is named));
      timers = k.timers ∙ ap (λ ts. map (timer_as t.known) (by_deadline ts)) (sym same);
      deadlines = rw same k.deadlines;
      names = k.names;
      futures = k.futures;
      made = k.made;
      done = k.done;
      tasks = k.tasks;
      numbered = revoke_numbers tag p k.numbered;
    }

-- ---- what waits
pub none_waits : (t : NameMap) (v : View) (p : Parts) → Keeps t v p → queue.is_empty (waiting v.queue) ≡ true → p.pending ≡ []
none_waits t v p k e = go p.pending (ap queue.is_empty (sym (waiting_kept t v p k)) ∙ e)
  where
    go : (handles : List plain.Handle) → queue.is_empty (map (handle_as t.known) handles) ≡ true → handles ≡ []
    go [] e = refl
    go (h ∷ handles) e = absurd (cc)

pub some_waits : (t : NameMap) (v : View) (p : Parts) → Keeps t v p → queue.is_empty (waiting v.queue) ≡ false
    → (first : plain.Handle) × (others : List plain.Handle) × (p.pending ≡ first ∷ others)
some_waits t v p k e = go p.pending (ap queue.is_empty (sym (waiting_kept t v p k)) ∙ e)
  where
    go : (handles : List plain.Handle) → queue.is_empty (map (handle_as t.known) handles) ≡ false
        → (first : plain.Handle) × (others : List plain.Handle) × (handles ≡ first ∷ others)
    go [] e = absurd (cc)
    go (h ∷ handles) e = (h, handles, refl)

-- ---- the bar
pub keeps_barred : (t : NameMap) (v : View) (p : Parts) → Keeps t v p
    → Keeps (record t { bar = p.next_stamp }) (record v { queue = queue.barred v.queue }) p
keeps_barred t v p k = record {
  time = k.time;
  handles = record {
    early = p.pending;
    late = [];
    pending = sym (append-nil p.pending);
    below = waiting_kept t v p k;
    after = refl;
    before_bar = all_below stamp_of p.next_stamp p.pending k.numbered.stamps.below;
    past_bar = tt;
    bar_given = omega arith;
  };
  timers = k.timers;
  deadlines = k.deadlines;
  names = k.names;
  futures = k.futures;
  made = k.made;
  done = k.done;
  tasks = k.tasks;
  numbered = k.numbered;
}

counted : (bar : ℕ) (known : ℕ → Known) (early late : List plain.Handle) → Each (λ (h : plain.Handle). h.stamp < bar) early
    → Each (λ (h : plain.Handle). bar ≤ h.stamp) late
    → length (map (handle_as known) early) ≡ count_by (λ (h : plain.Handle). nat_lt h.stamp bar) (early ++ late)
counted bar known [] [] a b = refl
counted bar known [] (h ∷ late) a b =
    let more = counted bar known [] late tt b.1 in
    let c = sum_by-cons (λ (x : plain.Handle). cond (nat_lt x.stamp bar) 1 0) h late in
    let none : ◌≡◌ {A = ℕ} (cond (nat_lt h.stamp bar) 1 0) 0 = rw (le-ltb h.stamp bar b.0) refl in
    omega (arith, more, c, none)
counted bar known (h ∷ early) late a b =
    let more = counted bar known early late a.1 b in
    let c = sum_by-cons (λ (x : plain.Handle). cond (nat_lt x.stamp bar) 1 0) h (early ++ late) in
    let one : ◌≡◌ {A = ℕ} (cond (nat_lt h.stamp bar) 1 0) 1 = rw (lt-ltb h.stamp bar a.0) refl in
    omega (arith, more, c, one)

pub count_early : (t : NameMap) (v : View) (p : Parts) → Keeps t v p
    → length v.queue.below ≡ count_by (λ (h : plain.Handle). nat_lt h.stamp t.bar) p.pending
count_early t v p k =
    let h = k.handles in
    ap length h.below ∙ counted t.bar t.known h.early h.late h.before_bar h.past_bar
    ∙ ap (count_by (λ (h : plain.Handle). nat_lt h.stamp t.bar)) (sym h.pending)

-- ---- the next handle
module _ (t : NameMap) (v : View) (p : Parts) (k : Keeps t v p) (first : plain.Handle) (others : List plain.Handle) (are : p.pending ≡ first ∷ others) where
  -- the first handle stands before the bar
  pub record IsEarly : Type 0 where
    pub early : List plain.Handle
    pub is : k.handles.early ≡ first ∷ early
    pub others_are : others ≡ early ++ k.handles.late

  pub first_early : first.stamp < t.bar → IsEarly
  first_early h = go k.handles.early refl k.handles.late refl
    where
      go : (early : List plain.Handle) → k.handles.early ≡ early → (late : List plain.Handle) → k.handles.late ≡ late → IsEarly
      go [] e [] l = absurd (let x = sym are ∙ k.handles.pending in let y = rw (e, l) at x in cc)
      go [] e (other ∷ late) l =
          let x = sym are ∙ k.handles.pending in
          let y : first ∷ others ≡ other ∷ late = rw (e, l) at x in
          let same : first ≡ other = cc in
          let past = k.handles.past_bar in
          let at = rw l at past in
          let bound : t.bar ≤ other.stamp = at.0 in
          absurd (omega (arith, bound, h, ap (λ (x : plain.Handle). x.stamp) same))
      go (other ∷ early) e late l =
          let x = sym are ∙ k.handles.pending in
          let y : first ∷ others ≡ other ∷ (early ++ k.handles.late) = rw e at x in
          let same : first ≡ other = cc in
          record { early = early; is = e ∙ ap (λ z. z ∷ early) (sym same); others_are = cc }

  -- the view once it was taken out
  pub keeps_taken : (early : IsEarly) (w : View) → w.time ≡ v.time → w.schedule ≡ v.schedule → w.futures ≡ v.futures → w.tasks ≡ v.tasks
      → w.queue ≡ skipped v.queue → Keeps t w (record p { pending = others })
  keeps_taken e w time schedule futures tasks queue_is = record {
    time = time ∙ k.time;
    handles = record {
      early = e.early;
      late = k.handles.late;
      pending = e.others_are;
      below =
          ap (λ (q : Queue). q.below) queue_is
          ∙ ap (drop 1) (k.handles.below ∙ ap (map (handle_as t.known)) e.is);
      after = ap (λ (q : Queue). q.after) queue_is ∙ k.handles.after;
      before_bar = (subst (Each (λ (h : plain.Handle). h.stamp < t.bar)) e.is k.handles.before_bar).1;
      past_bar = k.handles.past_bar;
      bar_given = k.handles.bar_given;
    };
    timers = ap (λ s. s.live) schedule ∙ k.timers;
    deadlines = k.deadlines;
    names = rw (schedule, queue_is) k.names;
    futures = futures ∙ k.futures;
    made = k.made;
    done = k.done;
    tasks = tasks ∙ k.tasks;
    numbered = taken_numbers first others p are k.numbered;
  }
