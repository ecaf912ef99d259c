-- Timers fall due: what is scheduled stays so, and tasks and groups look the same.
use Rattle.std.proofs.Common.{◌≡◌, ℕ, Bool, List, [], ap, arith, cond, false, inl, inr, nat_lt, not, refl, sym, true, ◌&&◌, ◌+◌, ◌<◌, ◌∙◌, ◌∷◌, ◌≤◌, ◌⊎◌}
use Rattle.law_steps.specs.Frames.{Follows, is_followed}
use Rattle.model_loop.specs.Deadlines.{fires_any, fires_as, others_as}
use Rattle.law_changes.proofs.Falling.{early, fall_due-futures, fall_due-next, fallen, late}
use Rattle.model_value.specs.declared.action.Action.TheVariants.{Extra, Fires, SleepDone}
use Rattle.model_loop.specs.Entries.{AreTimed, ends_sleep_on, entries, handles_where, is_timed, timers_where, untimed}
use Rattle.std.proofs.lemmas.Bool.{cases_lt, false≢true, le-leb, le-ltb, lt-leb, lt-ltb}
use Rattle.law_steps.proofs.Looks.{LooksSame, handles_look_same}
use Rattle.law_groups.specs.Tags.{IsQuiet}
use Rattle.model_loop.specs.Handles.{by_deadline, due, fall_due, placed}
use Rattle.model_loop.specs.Parts.{Handle, Parts, Timer}
use Rattle.std.proofs.lemmas.List.Sums.{sum_by-cons, sum_by_push}
use Rattle.model_value.specs.Action.{Action}
use Rattle.model_loop.specs.Totals.{pending_where}
use Rattle.law_steps.proofs.Settling.{count_fewer}

module _ (test : ℕ → Action → Bool) where
  abbrev passes : Timer → ℕ
  passes timer = cond (test timer.tag timer.action) 1 0

  timers-cons : (timer : Timer) (timers : List Timer) → timers_where test (timer ∷ timers) ≡ passes timer + timers_where test timers
  timers-cons timer timers = sum_by-cons (λ (t : Timer). cond (test t.tag t.action) 1 0) timer timers

  placed-where : (timer : Timer) (timers : List Timer) → timers_where test (placed timer timers) ≡ passes timer + timers_where test timers
  placed-where timer [] = timers-cons timer []
  placed-where timer (other ∷ others) = go (nat_lt other.when timer.when) (placed-where timer others)
    where
      go : (b : Bool) → timers_where test (placed timer others) ≡ passes timer + timers_where test others
          → timers_where test (cond b (other ∷ placed timer others) (timer ∷ other ∷ others)) ≡ passes timer + timers_where test (other ∷ others)
      go true ih =
          let a = timers-cons other (placed timer others) in
          let b = timers-cons other others in
          omega (arith, ih, a, b)
      go false ih = timers-cons timer (other ∷ others)

  by_deadline-where : (timers : List Timer) → timers_where test (by_deadline timers) ≡ timers_where test timers
  by_deadline-where [] = refl
  by_deadline-where (timer ∷ timers) =
      let a = placed-where timer (by_deadline timers) in
      let b = by_deadline-where timers in
      let c = timers-cons timer timers in
      omega (arith, a, b, c)

  -- each timer is due or isn't
  split-where : (time : ℕ) (timers : List Timer) → timers_where test (early time timers) + timers_where test (late time timers) ≡ timers_where test timers
  split-where time [] = refl
  split-where time (timer ∷ timers) = go (cases_lt time timer.when) (split-where time timers)
    where
      go : (time < timer.when) ⊎ (timer.when ≤ time)
          → timers_where test (early time timers) + timers_where test (late time timers) ≡ timers_where test timers
          → timers_where test (early time (timer ∷ timers)) + timers_where test (late time (timer ∷ timers)) ≡ timers_where test (timer ∷ timers)
      go (inl h) ih =
          let whole = timers-cons timer timers in
          let part = timers-cons timer (late time timers) in
          rw (lt-leb timer.when time h, lt-ltb time timer.when h) (omega (arith, ih, whole, part))
      go (inr h) ih =
          let whole = timers-cons timer timers in
          let part = timers-cons timer (early time timers) in
          rw (le-leb timer.when time h, le-ltb time timer.when h) (omega (arith, ih, whole, part))

  fall_due-where : (timers : List Timer) (p : Parts)
      → handles_where test (fall_due timers p).pending ≡ handles_where test p.pending + timers_where test timers
  fall_due-where [] p = omega arith
  fall_due-where (timer ∷ timers) p =
      let ih = fall_due-where timers (fallen timer p) in
      let a = sum_by_push (λ (h : Handle). cond (not h.dead && test h.tag h.action) 1 0) p.pending
      (record { stamp = p.next_stamp; tag = timer.tag; action = timer.action; dead = false }) in
      let c = timers-cons timer timers in
      omega (arith, ih, a, c)

fall_due-timers : (timers : List Timer) (p : Parts) → (fall_due timers p).timers ≡ p.timers
fall_due-timers [] p = refl
fall_due-timers (timer ∷ timers) p = fall_due-timers timers (fallen timer p)

fall_due-tasks : (timers : List Timer) (p : Parts) → (fall_due timers p).tasks ≡ p.tasks
fall_due-tasks [] p = refl
fall_due-tasks (timer ∷ timers) p = fall_due-tasks timers (fallen timer p)

abbrev without_due : Parts → Parts
without_due p = record p { timers = late p.time p.timers }

abbrev fallen_due : Parts → List Timer
fallen_due p = by_deadline (early p.time p.timers)

due-timers : (p : Parts) → (due p).timers ≡ late p.time p.timers
due-timers p = fall_due-timers (fallen_due p) (without_due p)

pub due-next : (p : Parts) → (due p).next_tag ≡ p.next_tag
due-next p = fall_due-next (fallen_due p) (without_due p)

pub due-futures : (p : Parts) → (due p).futures ≡ p.futures
due-futures p = fall_due-futures (fallen_due p) (without_due p)

pub due-tasks : (p : Parts) → (due p).tasks ≡ p.tasks
due-tasks p = fall_due-tasks (fallen_due p) (without_due p)

due-handles : (test : ℕ → Action → Bool) (p : Parts)
    → handles_where test (due p).pending + timers_where test (late p.time p.timers) ≡ entries test p
due-handles test p =
    let a = fall_due-where test (fallen_due p) (without_due p) in
    let b = by_deadline-where test (early p.time p.timers) in
    let c = split-where test p.time p.timers in
    omega (arith, a, b, c)

pub due-entries : (test : ℕ → Action → Bool) (p : Parts) → entries test (due p) ≡ entries test p
due-entries test p =
    ap (λ l. handles_where test (due p).pending + timers_where test l) (due-timers p) ∙ due-handles test p

pub late_fewer : (test : ℕ → Action → Bool) (p : Parts) → timers_where test (due p).timers ≤ timers_where test p.timers
late_fewer test p =
    let a = split-where test p.time p.timers in
    let b = ap (timers_where test) (due-timers p) in
    omega (arith, a, b)

pub due_quiet : (p : Parts) → IsQuiet p (due p)
due_quiet p = record {
  tags = record {
    next = let e = due-next p in omega (arith, e);
    any = λ id. due-entries (fires_any id) p;
    as_tag = λ id tag. due-entries (fires_as id tag) p;
    others = λ id tag h. let e = due-entries (others_as id tag) p in omega (arith, e);
  };
  times = record {
    timers = late_fewer untimed p;
    sleeps = λ id. let e = due-entries (ends_sleep_on id) p in omega (arith, e);
  };
}

-- no timer steps a task or tells a group
pub timers_followed : (p : Parts) → AreTimed p → (test : Action → Bool) → Follows test → timers_where (λ tag. test) p.timers ≡ 0
timers_followed p timed test follows =
    let a = count_fewer (λ (t : Timer). test t.action) (λ (t : Timer). not (is_timed t.action)) (λ t h. harder t.action h) p.timers in
    let b = timed.timers in
    omega (arith, a, b)
  where
    followed : (action : Action) → is_timed action ≡ true → is_followed action ≡ false
    followed (SleepDone task future) h = refl
    followed (Fires timeout) h = refl
    followed (Extra key) h = refl
    followed _ h = absurd (false≢true h)

    harder : (action : Action) → test action ≡ true → not (is_timed action) ≡ true
    harder action h = go (is_timed action) refl
      where
        go : (b : Bool) → is_timed action ≡ b → not b ≡ true
        go false e = refl
        go true e = absurd (false≢true (sym (follows action (followed action e)) ∙ h))

pub due_looks_same : (p : Parts) → AreTimed p → LooksSame p (due p)
due_looks_same p timed =
    handles_look_same p (due p) (due-futures p) (due-tasks p) pending
  where
    pending : (test : Action → Bool) → Follows test → pending_where test (due p).pending ≡ pending_where test p.pending
    pending test follows =
        let a = due-handles (λ tag. test) p in
        let b = timers_followed p timed test follows in
        let c = late_fewer (λ tag. test) p in
        let d = ap (timers_where (λ tag. test)) (due-timers p) in
        omega (arith, a, b, c, d)
