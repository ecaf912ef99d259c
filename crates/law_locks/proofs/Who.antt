-- Who waits for a lock: of the requests that wait, those that want it, in order of asking.
use Rattle.std.proofs.Common.{◌≡◌, ◌⊎◌, inl, inr, ℕ, ◌<◌, ◌≤◌, Bool, true, false, cond, List, [], ◌∷◌, ◌++◌, Some}
use Rattle.std.proofs.Common.{length, map, slice_get, slice_set}
use Rattle.std.proofs.Common.{refl, sym, ap, subst, ◌∙◌, arith, le_refl}
use Rattle.std.specs.Prelude.{◌==◌, if◌then◌else◌}
use Rattle.std.specs.List.{AllByRecursion as Each, flat_map}
use Rattle.std.specs.Map.{lookup, remove_entry, set_value}
use Rattle.std.proofs.lemmas.Bool.{cases_eq, eq-eqb, eqb-true}
use Rattle.std.proofs.lemmas.Grind.{flat_map-append}
use Rattle.std.proofs.lemmas.List.{append-nil}
use Rattle.model_loop.specs.Futures.{future_outcome, is_pending, next_future, settle}
use Rattle.model_loop.specs.Loop.{Loop}
use Rattle.model_loop.specs.Parts.{Parts}
use Rattle.model_machine.specs.Extra.{CallsLater, CallsSoon, Cancels, ExtraStep, MakesMany, MakesPlain, Registers, Releases, Revokes, Settles}
use Rattle.model_machine.specs.Extra.{Uncancels, made_by, made_by_all}
use Rattle.model_sync.specs.Queues.{Woken, next_if, wake_next}
use Rattle.model_sync.specs.Synced.{Acquires, Awaits, Event, Gets, Lock, Puts, Queue, Synced, Waiting, wake_first, wakes}
use Rattle.law_cancel.proofs.Lookups.{get-push_last, get-push_other, get-set_other, get-set_same}
use Rattle.law_sync.proofs.Lists.{each_on, each_set}
use Rattle.law_locks.proofs.Lines.{plain_more, plain_outcome, settle_made, settle_others}

abbrev pub entry_if : Bool → (place on : ℕ) → List (ℕ × ℕ)
entry_if true place on = (place, on) ∷ []
entry_if false place on = []

module _ (n : ℕ) where
  abbrev pub wants_it : (place : ℕ) → Waiting → List (ℕ × ℕ)
  wants_it place (Acquires id on) = entry_if (id == n) place on
  wants_it place (Awaits event on) = []
  wants_it place (Puts queue value on) = []
  wants_it place (Gets queue on) = []

  abbrev pub who : List (ℕ × Waiting) → List (ℕ × ℕ)
  who waiting = flat_map (λ entry. wants_it entry.0 entry.1) waiting

  pub wants_own : (place on : ℕ) → wants_it place (Acquires n on) ≡ (place, on) ∷ []
  wants_own place on = ap (λ b. entry_if b place on) (eq-eqb n n refl)

  pub wants_other : (place id on : ℕ) → (id ≡ n → ⊥) → wants_it place (Acquires id on) ≡ []
  wants_other place id on other = at (id == n) refl
    where
      at : (b : Bool) → (id == n) ≡ b → entry_if b place on ≡ []
      at true e = absurd (other (eqb-true id n e))
      at false e = refl

  pub who_last : (waiting : List (ℕ × Waiting)) (place : ℕ) (it : Waiting) → who (waiting ++ (place, it) ∷ []) ≡ who waiting ++ wants_it place it
  who_last waiting place it =
      flat_map-append (λ (entry : ℕ × Waiting). wants_it entry.0 entry.1) waiting ((place, it) ∷ [])
      ∙ ap (λ line. who waiting ++ line) (append-nil (wants_it place it))

  same_as : (x y : Waiting) → Some x ≡ Some y → x ≡ y
  same_as x y e = cc

  module _ (test : ℕ → Bool) where
    -- one that doesn't want it leaves, or waits again
    pub who_over : (waiting : List (ℕ × Waiting)) (it : Waiting) → ((place : ℕ) → wants_it place it ≡ []) → lookup test waiting ≡ Some it
        → who (remove_entry test waiting) ≡ who waiting
    who_over [] it none found = absurd (cc)
    who_over (e ∷ waiting) it none found = at (λ g. who_over waiting it none g) (test e.0) found
      where
        at : (lookup test waiting ≡ Some it → who (remove_entry test waiting) ≡ who waiting) → (b : Bool)
            → cond b (Some e.1) (lookup test waiting) ≡ Some it
            → who (cond b waiting (e ∷ remove_entry test waiting)) ≡ wants_it e.0 e.1 ++ who waiting
        at rest true is = sym (ap (λ line. line ++ who waiting) (ap (wants_it e.0) (same_as e.1 it is) ∙ none e.0))
        at rest false is = ap (λ line. wants_it e.0 e.1 ++ line) (rest is)

    pub who_again : (waiting : List (ℕ × Waiting)) (it new : Waiting) → ((place : ℕ) → wants_it place it ≡ []) → ((place : ℕ) → wants_it place new ≡ [])
        → lookup test waiting ≡ Some it → who (set_value test waiting new) ≡ who waiting
    who_again [] it new none none_now found = absurd (cc)
    who_again (e ∷ waiting) it new none none_now found = at (λ g. who_again waiting it new none none_now g) (test e.0) found
      where
        at : (lookup test waiting ≡ Some it → who (set_value test waiting new) ≡ who waiting) → (b : Bool)
            → cond b (Some e.1) (lookup test waiting) ≡ Some it
            → who (cond b ((e.0, new) ∷ waiting) (e ∷ set_value test waiting new)) ≡ wants_it e.0 e.1 ++ who waiting
        at rest true is =
            ap (λ line. line ++ who waiting) (none_now e.0) ∙ sym (ap (λ line. line ++ who waiting) (ap (wants_it e.0) (same_as e.1 it is) ∙ none e.0))
        at rest false is = ap (λ line. wants_it e.0 e.1 ++ line) (rest is)

    -- one that wants it leaves
    skips : (place : ℕ) (it : Waiting) (rest : List (ℕ × ℕ)) → test place ≡ false
        → (remove_entry test (wants_it place it ++ rest) ≡ wants_it place it ++ remove_entry test rest)
        × (lookup test (wants_it place it ++ rest) ≡ lookup test rest)
    skips place (Acquires id on) rest other = at (id == n)
      where
        at : (b : Bool)
            → (remove_entry test (entry_if b place on ++ rest) ≡ entry_if b place on ++ remove_entry test rest)
            × (lookup test (entry_if b place on ++ rest) ≡ lookup test rest)
        at true = (
          ap (λ b. cond b rest ((place, on) ∷ remove_entry test rest)) other,
          ap (λ b. cond b (Some on) (lookup test rest)) other,
        )
        at false = (refl, refl)
    skips place (Awaits event on) rest other = (refl, refl)
    skips place (Puts queue value on) rest other = (refl, refl)
    skips place (Gets queue on) rest other = (refl, refl)

    pub who_own : (waiting : List (ℕ × Waiting)) (on : ℕ) → lookup test waiting ≡ Some (Acquires n on)
        → (who (remove_entry test waiting) ≡ remove_entry test (who waiting)) × (lookup test (who waiting) ≡ Some on)
    who_own [] on found = absurd (cc)
    who_own (e ∷ waiting) on found = at (λ g. who_own waiting on g) (test e.0) refl found
      where
        at : (lookup test waiting ≡ Some (Acquires n on)
            → (who (remove_entry test waiting) ≡ remove_entry test (who waiting)) × (lookup test (who waiting) ≡ Some on)) → (b : Bool) → test e.0 ≡ b
            → cond b (Some e.1) (lookup test waiting) ≡ Some (Acquires n on)
            → (who (cond b waiting (e ∷ remove_entry test waiting)) ≡ remove_entry test (wants_it e.0 e.1 ++ who waiting))
            × (lookup test (wants_it e.0 e.1 ++ who waiting) ≡ Some on)
        at rest true here is =
            subst (λ line. (who waiting ≡ remove_entry test (line ++ who waiting)) × (lookup test (line ++ who waiting) ≡ Some on))
            (sym (ap (wants_it e.0) (same_as e.1 (Acquires n on) is) ∙ wants_own e.0 on)) (
              ap (λ b. cond b (who waiting) ((e.0, on) ∷ remove_entry test (who waiting))) (sym here),
              ap (λ b. cond b (Some on) (lookup test (who waiting))) here,
            )
        at rest false here is =
            let s = skips e.0 e.1 (who waiting) here in
            let r = rest is in
            (ap (λ line. wants_it e.0 e.1 ++ line) r.0 ∙ sym s.0, s.1 ∙ r.1)

-- ---- who waits for something else
abbrev pub IsNot : List (ℕ × ℕ) → ℕ → Type 0
IsNot line on = Each (λ e. e.1 ≡ on → ⊥) line

-- a future of somebody else, of so many
abbrev pub IsOther : List (ℕ × ℕ) → (next : ℕ) → ℕ → Type 0
IsOther line next on = IsNot line on × (on < next)

pub record QueueApart (line : List (ℕ × ℕ)) (next : ℕ) (queue : Queue) : Type 0 where
  pub getters : Each (IsOther line next) queue.getters
  pub putters : Each (IsOther line next) queue.putters

abbrev pub EventApart : List (ℕ × ℕ) → (next : ℕ) → Event → Type 0
EventApart line next event = Each (IsOther line next) event.waiters

pub record Apart (n : ℕ) (line : List (ℕ × ℕ)) (next : ℕ) (kept : Synced) : Type 0 where
  pub locks : (m : ℕ) (lock : Lock) → (m ≡ n → ⊥) → slice_get kept.locks m ≡ Some lock → Each (IsOther line next) lock.waiters
  pub events : Each (EventApart line next) kept.events
  pub queues : Each (QueueApart line next) kept.queues

-- with another line, or more futures
pub apart_on : (n : ℕ) (line more : List (ℕ × ℕ)) (next later : ℕ) (kept : Synced) → ((on : ℕ) → IsOther line next on → IsOther more later on)
    → Apart n line next kept → Apart n more later kept
apart_on n line more next later kept on a = record {
  locks = λ m lock other found. each_on (IsOther line next) (IsOther more later) on lock.waiters (a.locks m lock other found);
  events = each_on (EventApart line next) (EventApart more later)
      (λ event b. each_on (IsOther line next) (IsOther more later) on event.waiters b) kept.events a.events;
  queues = each_on (QueueApart line next) (QueueApart more later) (λ queue b. record {
    getters = each_on (IsOther line next) (IsOther more later) on queue.getters b.getters;
    putters = each_on (IsOther line next) (IsOther more later) on queue.putters b.putters;
  }) kept.queues a.queues;
}

module _ (n : ℕ) (line : List (ℕ × ℕ)) (next : ℕ) (kept now : Synced) (a : Apart n line next kept) where
  pub apart_same : now.locks ≡ kept.locks → now.events ≡ kept.events → now.queues ≡ kept.queues → Apart n line next now
  apart_same locks events queues = record {
    locks = λ m lock other found. a.locks m lock other (ap (λ ls. slice_get ls m) (sym locks) ∙ found);
    events = subst (Each (EventApart line next)) (sym events) a.events;
    queues = subst (Each (QueueApart line next)) (sym queues) a.queues;
  }

  some_same : (x y : Lock) → Some x ≡ Some y → x ≡ y
  some_same x y e = cc

  -- a lock changes, which is this one or has others alone
  pub apart_lock : (id : ℕ) (old new : Lock) → slice_get kept.locks id ≡ Some old → now.locks ≡ slice_set kept.locks id new → now.events ≡ kept.events
      → now.queues ≡ kept.queues → (id ≡ n) ⊎ Each (IsOther line next) new.waiters → Apart n line next now
  apart_lock id old new there locks events queues which = record {
    locks = λ m lock other found. at m lock other (ap (λ ls. slice_get ls m) (sym locks) ∙ found) (cases_eq id m) which;
    events = subst (Each (EventApart line next)) (sym events) a.events;
    queues = subst (Each (QueueApart line next)) (sym queues) a.queues;
  }
    where
      at : (m : ℕ) (lock : Lock) → (m ≡ n → ⊥) → slice_get (slice_set kept.locks id new) m ≡ Some lock → (id ≡ m) ⊎ (id ≡ m → ⊥)
          → (id ≡ n) ⊎ Each (IsOther line next) new.waiters → Each (IsOther line next) lock.waiters
      at m lock other found (inr not_it) which = a.locks m lock other (sym (get-set_other kept.locks id m new not_it) ∙ found)
      at m lock other found (inl same) (inl own) = absurd (other (sym same ∙ own))
      at m lock other found (inl same) (inr all) =
          subst (λ (it : Lock). Each (IsOther line next) it.waiters)
          (some_same new lock (sym (get-set_same kept.locks id old new there) ∙ ap (slice_get (slice_set kept.locks id new)) same ∙ found)) all

  -- there is one more, for which nobody waits
  pub apart_more : (new : Lock) → new.waiters ≡ [] → now.locks ≡ kept.locks ++ new ∷ [] → now.events ≡ kept.events → now.queues ≡ kept.queues
      → Apart n line next now
  apart_more new none locks events queues = record {
    locks = λ m lock other found. at m lock other (ap (λ ls. slice_get ls m) (sym locks) ∙ found) (cases_eq m (length kept.locks));
    events = subst (Each (EventApart line next)) (sym events) a.events;
    queues = subst (Each (QueueApart line next)) (sym queues) a.queues;
  }
    where
      at : (m : ℕ) (lock : Lock) → (m ≡ n → ⊥) → slice_get (kept.locks ++ new ∷ []) m ≡ Some lock
          → (m ≡ length kept.locks) ⊎ (m ≡ length kept.locks → ⊥) → Each (IsOther line next) lock.waiters
      at m lock other found (inr not_it) = a.locks m lock other (sym (get-push_other kept.locks new m not_it) ∙ found)
      at m lock other found (inl same) =
          subst (λ (it : Lock). Each (IsOther line next) it.waiters)
          (some_same new lock (sym (get-push_last kept.locks new) ∙ ap (slice_get (kept.locks ++ new ∷ [])) (sym same) ∙ found))
          (subst (Each (IsOther line next)) (sym none) tt)

  pub apart_event : (id : ℕ) (new : Event) → EventApart line next new → now.locks ≡ kept.locks → now.events ≡ slice_set kept.events id new
      → now.queues ≡ kept.queues → Apart n line next now
  apart_event id new b locks events queues = record {
    locks = λ m lock other found. a.locks m lock other (ap (λ ls. slice_get ls m) (sym locks) ∙ found);
    events = subst (Each (EventApart line next)) (sym events) (each_set (EventApart line next) kept.events id new a.events b);
    queues = subst (Each (QueueApart line next)) (sym queues) a.queues;
  }

  pub apart_queue : (id : ℕ) (new : Queue) → QueueApart line next new → now.locks ≡ kept.locks → now.events ≡ kept.events
      → now.queues ≡ slice_set kept.queues id new → Apart n line next now
  apart_queue id new b locks events queues = record {
    locks = λ m lock other found. a.locks m lock other (ap (λ ls. slice_get ls m) (sym locks) ∙ found);
    events = subst (Each (EventApart line next)) (sym events) a.events;
    queues = subst (Each (QueueApart line next)) (sym queues) (each_set (QueueApart line next) kept.queues id new a.queues b);
  }

-- ---- what steps leave
abbrev pub LeavesLine : List (ℕ × ℕ) → ExtraStep → Type 0
LeavesLine line (Settles future outcome) = IsNot line future
LeavesLine line MakesPlain = Unit {0}
LeavesLine line _ = ⊥

abbrev pub AreSame : (p q : Parts) → List (ℕ × ℕ) → Type 0
AreSame p q line = Each (λ e. future_outcome q e.1 ≡ future_outcome p e.1) line

pub record Leaves (p q : Parts) (line : List (ℕ × ℕ)) : Type 0 where
  pub same : AreSame p q line
  pub made : next_future p ≤ next_future q

all_same : (p : Parts) (line : List (ℕ × ℕ)) → AreSame p p line
all_same p [] = tt
all_same p (e ∷ line) = (refl, all_same p line)

same_then : (p q r : Parts) (line : List (ℕ × ℕ)) → AreSame p q line → AreSame q r line → AreSame p r line
same_then p q r [] a b = tt
same_then p q r (e ∷ line) a b = (b.0 ∙ a.0, same_then p q r line a.1 b.1)

plain_same : (p q : Parts) → ((on : ℕ) → future_outcome q on ≡ future_outcome p on) → (line : List (ℕ × ℕ)) → AreSame p q line
plain_same p q same [] = tt
plain_same p q same (e ∷ line) = (same e.1, plain_same p q same line)

step_leaves : (line : List (ℕ × ℕ)) (step : ExtraStep) (l : Loop) → LeavesLine line step → Leaves l.parts (made_by step l).parts line
step_leaves line MakesPlain l ok = record {
  same = plain_same l.parts (made_by MakesPlain l).parts (plain_outcome l.parts) line;
  made = let m = plain_more l.parts in omega (arith, m);
}
step_leaves line (Settles future outcome) l ok = record {
  same = each_on (λ (e : ℕ × ℕ). e.1 ≡ future → ⊥) (λ e. future_outcome (settle future outcome l.parts) e.1 ≡ future_outcome l.parts e.1)
      (λ e other. settle_others future outcome l.parts e.1 (λ same. other (sym same))) line ok;
  made = let m = settle_made future outcome l.parts in omega (arith, m);
}
step_leaves line (MakesMany members) l ok = absurd ok
step_leaves line (Releases future) l ok = absurd ok
step_leaves line (Registers future key) l ok = absurd ok
step_leaves line (CallsSoon key) l ok = absurd ok
step_leaves line (CallsLater when key) l ok = absurd ok
step_leaves line (Revokes tag) l ok = absurd ok
step_leaves line (Cancels key future) l ok = absurd ok
step_leaves line (Uncancels key task) l ok = absurd ok

pub steps_leave : (line : List (ℕ × ℕ)) (steps : List ExtraStep) (l : Loop) → Each (LeavesLine line) steps → Leaves l.parts (made_by_all steps l).parts line
steps_leave line [] l ok = record { same = all_same l.parts line; made = le_refl _ }
steps_leave line (step ∷ steps) l ok =
    let first = step_leaves line step l ok.0 in
    let next = steps_leave line steps (made_by step l) ok.1 in
    record {
      same = same_then l.parts (made_by step l).parts (made_by_all (step ∷ steps) l).parts line first.same next.same;
      made = let a = first.made in let b = next.made in omega (arith, a, b);
    }

module _ (line : List (ℕ × ℕ)) (next : ℕ) where
  pub all_wake : (waiters : List ℕ) → Each (IsOther line next) waiters → Each (LeavesLine line) (map wakes waiters)
  all_wake [] all = tt
  all_wake (waiter ∷ waiters) all = (all.0.0, all_wake waiters all.1)

  pub first_wakes : (waiters : List ℕ) → Each (IsOther line next) waiters → Each (LeavesLine line) (wake_first waiters)
  first_wakes [] all = tt
  first_wakes (waiter ∷ waiters) all = (all.0.0, tt)

  abbrev pub WakesOthers : Woken → Type 0
  WakesOthers it = Each (IsOther line next) it.left × Each (LeavesLine line) it.steps

  pub next_wakes : (p : Parts) (waiters : List ℕ) → Each (IsOther line next) waiters → WakesOthers (wake_next p waiters)
  next_wakes p [] all = (tt, tt)
  next_wakes p (waiter ∷ waiters) all = at (next_wakes p waiters all.1) (is_pending p waiter)
    where
      at : WakesOthers (wake_next p waiters) → (b : Bool)
          → WakesOthers (if b then record { left = waiters; steps = wakes waiter ∷ [] } else wake_next p waiters)
      at rest true = (all.1, (all.0.0, tt))
      at rest false = rest

  pub next_if_wakes : (is : Bool) (p : Parts) (waiters : List ℕ) → Each (IsOther line next) waiters → WakesOthers (next_if is p waiters)
  next_if_wakes true p waiters all = next_wakes p waiters all
  next_if_wakes false p waiters all = (all, tt)
