-- Handles that are appended.
use Rattle.std.proofs.Common.{◌≡◌, ℕ, ◌<◌, ◌≤◌, true, false, List, [], ◌∷◌, ◌++◌, None, length, map, slice_get, refl, ap, sym, ◌∙◌, arith, append_assoc}
use Rattle.std.specs.List.{AllByRecursion as Each}
use Rattle.std.proofs.lemmas.List.{map-append}
use Rattle.model_value.specs.Action.{Action}
use Rattle.model_loop.specs.Parts.{Timer, Future, Task, Parts}
use Rattle.model_loop.specs.Parts as plain
use Rattle.model_loop.specs.Handles.{soon, soon_all, by_deadline}
use Rattle.model_loop.specs.Numbered.{IsNumbered}
use Rattle.law_changes.proofs.Numbering.{soon_numbers}
use Rattle.algorithm_parts.specs.Released.{release_from}
use Rattle.algorithm_parts.specs.Quiet.{stage}
use Rattle.aio_ready.specs.Queue as queue
use Rattle.aio_ready.specs.Queue.{Queue, next_name, given_after}
use Rattle.aio_cancel.specs.Awaitables.{waiting}
use Rattle.aio_task.specs.View.{View}
use Rattle.aio_task.specs.Keeps.{Known, ByHandle, name_of, handle_as, IsTimer, NameMap, KeepsHandles, Keeps, Extends, Kept, Knows}
use Rattle.refine_parts.proofs.Lists.{all-append, all_left, all_right, all_both}
use Rattle.refine_parts.proofs.Naming.{tags_pending, tags_timers, all-by_deadline, handles_same, timers_same, known_as, known_new, known_same, names_more}
use Rattle.refine_parts.proofs.Naming.{next_given, given_rises, next_fresh}

-- ---- name maps
pub extends_same : (t : NameMap) (p : Parts) → Extends p t p t
extends_same t p = record { known = λ tag h. refl; tags = omega arith; gone = refl; bar = refl }

-- where no tag is given
pub extends_still : (t : NameMap) (p q : Parts) → q.next_tag ≡ p.next_tag → Extends p t q t
extends_still t p q e = record { known = λ tag h. refl; tags = omega arith; gone = refl; bar = refl }

pub extends_on : (t u w : NameMap) (p q r : Parts) → Extends p t q u → Extends q u r w → Extends p t r w
extends_on t u w p q r a b = record {
  known = λ tag h. let less = a.tags in b.known tag (omega arith) ∙ a.known tag h;
  tags = let x = a.tags in let y = b.tags in omega arith;
  gone = b.gone ∙ a.gone;
  bar = b.bar ∙ a.bar;
}

pub kept_same : {t : NameMap} {v : View} {p : Parts} → Keeps t v p → Kept t p v p
kept_same {t} {v} {p} k = record { name_map = t; keeps = k; extends = extends_same t p }

pub knows_on : (t u : NameMap) (p q : Parts) (tag : ℕ) (it : Known) → Extends p t q u → Knows t p tag it → Knows u q tag it
knows_on t u p q tag it e k = record {
  given = let a = e.tags in let b = k.given in omega arith;
  known = e.known tag k.given ∙ k.known;
}

-- ---- all that waits
pub waiting_kept : (t : NameMap) (v : View) (p : Parts) → Keeps t v p → waiting v.queue ≡ map (handle_as t.known) p.pending
waiting_kept t v p k =
    let h = k.handles in
    let a = h.below in
    let b = h.after in
    let c : map (handle_as t.known) p.pending ≡ map (handle_as t.known) h.early ++ map (handle_as t.known) h.late =
    ap (map (handle_as t.known)) h.pending ∙ map-append (handle_as t.known) h.early h.late in
    cc

-- ---- futures and tasks change
pub moved : (t : NameMap) (v w : View) (p : Parts) (futures : List Future) (tasks : List Task) → Keeps t v p
    → w.time ≡ v.time → w.schedule ≡ v.schedule → w.queue ≡ v.queue → w.tasks ≡ tasks → w.futures ≡ release_from t.gone 0 futures
    → ((id : ℕ) → t.gone id ≡ true → id < length futures) → ((id : ℕ) → t.gone id ≡ true → stage (slice_get futures id) ≡ None)
    → IsNumbered (record p { futures = futures; tasks = tasks })
    → Keeps t w (record p { futures = futures; tasks = tasks })
moved t v w p futures tasks k time schedule queue_is tasks_are futures_are made done numbered = record {
  time = time ∙ k.time;
  handles =
      let h = k.handles in
      record {
        early = h.early;
        late = h.late;
        pending = h.pending;
        below = ap (λ (q : Queue). q.below) queue_is ∙ h.below;
        after = ap (λ (q : Queue). q.after) queue_is ∙ h.after;
        before_bar = h.before_bar;
        past_bar = h.past_bar;
        bar_given = h.bar_given;
      };
  timers = ap (λ s. s.live) schedule ∙ k.timers;
  deadlines = k.deadlines;
  names = rw (schedule, queue_is) k.names;
  futures = futures_are;
  made = made;
  done = done;
  tasks = tasks_are;
  numbered = numbered;
}

-- ---- `soon`
module _ (t : NameMap) (v : View) (p : Parts) (k : Keeps t v p) (action : Action) where
  abbrev new : Known
  new = ByHandle (record { name = next_name v.queue })

  abbrev u : ℕ → Known
  u = known_as p.next_tag new t.known

  same : (tag : ℕ) → tag < p.next_tag → u tag ≡ t.known tag
  same = known_same p.next_tag new t.known

  abbrev handle : plain.Handle
  handle = record { stamp = p.next_stamp; tag = p.next_tag; action = action; dead = false }

  below : Each (λ (h : plain.Handle). h.tag < p.next_tag) (k.handles.early ++ k.handles.late)
  below = let a = tags_pending p k.numbered in let e = k.handles.pending in rw e at a

  handles_soon : KeepsHandles u t.bar (queue.soon action v.queue) (soon action p)
  handles_soon =
      let h = k.handles in
      let early = all_left (λ (h : plain.Handle). h.tag < p.next_tag) h.early h.late below in
      let late = all_right (λ (h : plain.Handle). h.tag < p.next_tag) h.early h.late below in
      record {
        early = h.early;
        late = h.late ++ handle ∷ [];
        pending = ap (λ hs. hs ++ handle ∷ []) h.pending ∙ append_assoc h.early h.late (handle ∷ []);
        below = h.below ∙ sym (handles_same t.known u p.next_tag same h.early early);
        after =
            ap (λ hs. hs ++ record { name = next_name v.queue; action = action; dead = false } ∷ [])
            (h.after ∙ sym (handles_same t.known u p.next_tag same h.late late))
            ∙ sym (map-append (handle_as u) h.late (handle ∷ [])
            ∙ ap (λ (it : Known). map (handle_as u) h.late ++ record { name = name_of it; action = action; dead = false } ∷ [])
            (known_new p.next_tag new t.known));
        before_bar = h.before_bar;
        past_bar = all-append (λ (h : plain.Handle). t.bar ≤ h.stamp) h.late (handle ∷ []) h.past_bar (h.bar_given, tt);
        bar_given = let b = h.bar_given in omega arith;
      }

  keeps_soon : Keeps (record t { known = u }) (record v { queue = queue.soon action v.queue }) (soon action p)
  keeps_soon = record {
    time = k.time;
    handles = handles_soon;
    timers =
        k.timers
        ∙ sym (timers_same t.known u p.next_tag same (by_deadline p.timers)
        (all-by_deadline (λ (timer : Timer). timer.tag < p.next_tag) p.timers (tags_timers p k.numbered)));
    deadlines =
        all_both (λ (timer : Timer). IsTimer (t.known timer.tag) timer) (λ (timer : Timer). timer.tag < p.next_tag)
        (λ (timer : Timer). IsTimer (u timer.tag) timer)
        (λ timer d b. let e = same timer.tag b in rw e d) p.timers k.deadlines (tags_timers p k.numbered);
    names =
        names_more t.known p.next_tag v.queue.given v.schedule.next (given_after v.queue) v.schedule.next new k.names
        (given_rises v.queue) (omega arith) (next_given v.queue v.schedule.next) (next_fresh v.queue v.schedule.next);
    futures = k.futures;
    made = k.made;
    done = k.done;
    tasks = k.tasks;
    numbered = soon_numbers action p k.numbered;
  }

  pub kept_soon : (kept : Kept t p (record v { queue = queue.soon action v.queue }) (soon action p))
      × Knows kept.name_map (soon action p) p.next_tag (ByHandle (record { name = next_name v.queue }))
  kept_soon = (
    record {
      name_map = record t { known = u };
      keeps = keeps_soon;
      extends = record { known = same; tags = omega arith; gone = refl; bar = refl };
    },
    record { given = omega arith; known = known_new p.next_tag new t.known },
  )

pub kept_soon_all : (t : NameMap) (v : View) (p : Parts) (actions : List Action) → Keeps t v p
    → Kept t p (record v { queue = queue.soon_all actions v.queue }) (soon_all actions p)
kept_soon_all t v p [] k = kept_same k
kept_soon_all t v p (action ∷ actions) k =
    let first = (kept_soon t v p k action).0 in
    let others =
    kept_soon_all first.name_map (record v { queue = queue.soon action v.queue }) (soon action p) actions first.keeps in
    record {
      name_map = others.name_map;
      keeps = others.keeps;
      extends = extends_on t first.name_map others.name_map p (soon action p) (soon_all actions (soon action p)) first.extends others.extends;
    }
