-- How many handles that aren't dead pass a test, of those that the queue holds.
use Rattle.std.proofs.Common.{◌≡◌, ℕ, suc, ◌+◌, Bool, true, false, not, ◌&&◌, ◌||◌, cond, List, [], ◌∷◌, ◌++◌, map, drop, refl, ap}
use Rattle.std.proofs.Common.{sym, ◌∙◌, arith, append_assoc, nat_lt, if◌then◌else◌}
use Rattle.std.proofs.lemmas.Bool.{false≢true}
use Rattle.std.proofs.lemmas.List.Sums.{sum_by-cons}
use Rattle.std.proofs.lemmas.List.Folds.{list_any-append}
use Rattle.std.specs.List.{list_any}
use Rattle.model_value.specs.Action.{Action}
use Rattle.model_value.specs.declared.action.Action.TheVariants.{Step, StepInCycle, Wakeup, MainDone}
use Rattle.model_loop.specs.Parts as plain
use Rattle.model_loop.specs.Parts.{Timer}
use Rattle.model_loop.specs.Totals.{pending_where}
use Rattle.law_steps.specs.Frames.{Follows}
use Rattle.aio_ready.specs.declared.handle.Handle.{Handle}
use Rattle.aio_ready.specs.declared.handle.HandleName.{HandleName}
use Rattle.aio_ready.specs.declared.handle.HandleName.TheVariants as name
use Rattle.aio_ready.specs.Names.{is_same, marked}
use Rattle.aio_ready.specs.Queue.{Queue, appended, soon, soon_all, cancelled, barred, from_live, taken, next_name, most_given}
use Rattle.aio_timer.specs.Schedule.{fallen}
use Rattle.aio_cancel.specs.Awaitables.{handles_from, waiting}
use Rattle.aio_task.specs.Bare.{bare_action, bare_handle}
use Rattle.aio_task.specs.View.{is_step, steps_as}
use Rattle.aio_task.specs.Kept.{is_timer, steps_as_timer, steps_later}

pub or_none : (a b : Bool) → (a || b) ≡ false → (a ≡ false) × (b ≡ false)
or_none false b h = (refl, h)
or_none true b h = absurd (false≢true (sym h))

pub none_or : (a b : Bool) → a ≡ false → b ≡ false → (a || b) ≡ false
none_or false b a h = h
none_or true b a h = absurd (false≢true (sym a))

-- ---- counting
abbrev one_where : Bool → ℕ
one_where counted = cond counted 1 0

abbrev counts : (Action → Bool) → Handle → ℕ
counts test handle = one_where (not handle.dead && test (bare_action handle.action))

abbrev pub live : (Action → Bool) → List Handle → ℕ
live test [] = 0
live test (handle ∷ handles) = counts test handle + live test handles

pub live-pending : (test : Action → Bool) (place : ℕ) (handles : List Handle)
    → pending_where test (map bare_handle (handles_from place handles)) ≡ live test handles
live-pending test place [] = refl
live-pending test place (handle ∷ handles) =
    sum_by-cons (λ (h : plain.Handle). cond (not h.dead && test h.action) 1 0)
    (record { stamp = place; tag = place; action = bare_action handle.action; dead = handle.dead })
    (map bare_handle (handles_from (suc place) handles))
    ∙ ap (λ n. counts test handle + n) (live-pending test (suc place) handles)

pub live-append : (test : Action → Bool) (xs ys : List Handle) → live test (xs ++ ys) ≡ live test xs + live test ys
live-append test [] ys = omega arith
live-append test (x ∷ xs) ys = let e = live-append test xs ys in omega (arith, e)

-- ---- actions that step no task
pub bare_other : (action : Action) → is_step action ≡ false → bare_action action ≡ MainDone
bare_other (Step task) h = absurd (false≢true (sym h))
bare_other (StepInCycle task cycle) h = absurd (false≢true (sym h))
bare_other (Wakeup task) h = absurd (false≢true (sym h))
bare_other _ h = refl

passes_not : (test : Action → Bool) → Follows test → (action : Action) → is_step action ≡ false → test (bare_action action) ≡ false
passes_not test follows action h = ap test (bare_other action h) ∙ follows MainDone refl

none_counts : (dead passes : Bool) → passes ≡ false → one_where (not dead && passes) ≡ 0
none_counts true passes h = refl
none_counts false passes h = rw h refl

-- ---- appended
pub live-appended : (test : Action → Bool) → Follows test → (name : HandleName) (action : Action) (q : Queue) → is_step action ≡ false
    → live test (waiting (appended name action q)) ≡ live test (waiting q)
live-appended test follows name action q h =
    let handle : Handle = record { name = name; action = action; dead = false } in
    let z : counts test handle ≡ 0 = none_counts false (test (bare_action action)) (passes_not test follows action h) in
    let e : q.below ++ (q.after ++ handle ∷ []) ≡ waiting q ++ handle ∷ [] = sym (append_assoc q.below q.after (handle ∷ [])) in
    let a = ap (live test) e in
    let b = live-append test (waiting q) (handle ∷ []) in
    omega (arith, a, b, z)

pub any-appended : (p : Handle → Bool) (name : HandleName) (action : Action) (q : Queue)
    → p (record { name = name; action = action; dead = false }) ≡ false
    → list_any p (waiting q) ≡ false → list_any p (waiting (appended name action q)) ≡ false
any-appended p name action q h none =
    let handle : Handle = record { name = name; action = action; dead = false } in
    let e : q.below ++ (q.after ++ handle ∷ []) ≡ waiting q ++ handle ∷ [] = sym (append_assoc q.below q.after (handle ∷ [])) in
    ap (list_any p) e ∙ list_any-append p (waiting q) (handle ∷ [])
    ∙ none_or (list_any p (waiting q)) (list_any p (handle ∷ [])) none (none_or (p handle) false h refl)

-- ---- cancelled
must_cancel_counts : (test : Action → Bool) → Follows test → (dead same : Bool) (action : Action) → (same && (not dead && is_step action)) ≡ false
    → one_where (not (dead || same) && test (bare_action action)) ≡ one_where (not dead && test (bare_action action))
must_cancel_counts test follows true same action h = refl
must_cancel_counts test follows false false action h = refl
must_cancel_counts test follows false true action h = rw (passes_not test follows action h) refl

pub live-marked : (test : Action → Bool) → Follows test → (name : HandleName) (handles : List Handle)
    → list_any (steps_as name) handles ≡ false → live test (map (marked name) handles) ≡ live test handles
live-marked test follows name [] none = refl
live-marked test follows name (h ∷ handles) none =
    let both = or_none (steps_as name h) (list_any (steps_as name) handles) none in
    let a = must_cancel_counts test follows h.dead (is_same name h.name) h.action both.0 in
    let b = live-marked test follows name handles both.1 in
    omega (arith, a, b)

pub live-cancelled : (test : Action → Bool) → Follows test → (name : HandleName) (q : Queue)
    → list_any (steps_as name) (waiting q) ≡ false → live test (waiting (cancelled name q)) ≡ live test (waiting q)
live-cancelled test follows name q none =
    let both = or_none (list_any (steps_as name) q.below) (list_any (steps_as name) q.after)
    (sym (list_any-append (steps_as name) q.below q.after) ∙ none) in
    let a = live-marked test follows name q.below both.0 in
    let b = live-marked test follows name q.after both.1 in
    let x = live-append test (map (marked name) q.below) (map (marked name) q.after) in
    let y = live-append test q.below q.after in
    omega (arith, a, b, x, y)

pub any-marked : (p : Handle → Bool) → ((name : HandleName) (h : Handle) → p (marked name h) ≡ p h) → (name : HandleName) (handles : List Handle)
    → list_any p (map (marked name) handles) ≡ list_any p handles
any-marked p same name [] = refl
any-marked p same name (h ∷ handles) = rw (same name h, any-marked p same name handles) refl

pub any-cancelled : (p : Handle → Bool) → ((name : HandleName) (h : Handle) → p (marked name h) ≡ p h) → (name : HandleName) (q : Queue)
    → list_any p (waiting (cancelled name q)) ≡ list_any p (waiting q)
any-cancelled p same name q =
    list_any-append p (map (marked name) q.below) (map (marked name) q.after)
    ∙ rw (any-marked p same name q.below, any-marked p same name q.after) refl
    ∙ sym (list_any-append p q.below q.after)

-- ---- a bar
append_none : (hs : List Handle) → hs ++ [] ≡ hs
append_none [] = refl
append_none (h ∷ hs) = ap (λ xs. h ∷ xs) (append_none hs)

pub waiting-barred : (q : Queue) → waiting (barred q) ≡ waiting q
waiting-barred q = append_none (q.below ++ q.after)

-- ---- the first that lives
live-from_live : (test : Action → Bool) (handles : List Handle) → live test (from_live handles) ≡ live test handles
live-from_live test [] = refl
live-from_live test (h ∷ handles) = go (live-from_live test handles) h.dead refl
  where
    go : live test (from_live handles) ≡ live test handles → (dead : Bool) → h.dead ≡ dead
        → live test (if dead then from_live handles else h ∷ handles) ≡ counts test h + live test handles
    go same true e =
        let z : counts test h ≡ 0 = ap (λ d. one_where (not d && test (bare_action h.action))) e in
        omega (arith, same, z)
    go same false e = refl

pub first_lives : (handles : List Handle) (h : Handle) (rest : List Handle) → from_live handles ≡ h ∷ rest → h.dead ≡ false
first_lives [] h rest e = absurd (cc)
first_lives (x ∷ handles) h rest e = go (first_lives handles h rest) x.dead refl e
  where
    go : (from_live handles ≡ h ∷ rest → h.dead ≡ false)
        → (dead : Bool) → x.dead ≡ dead → (if dead then from_live handles else x ∷ handles) ≡ h ∷ rest → h.dead ≡ false
    go later true d e = later e
    go later false d e = let same : x ≡ h = cc in ap (λ (y : Handle). y.dead) (sym same) ∙ d

any-from_live : (p : Handle → Bool) (handles : List Handle) → list_any p handles ≡ false → list_any p (from_live handles) ≡ false
any-from_live p [] none = refl
any-from_live p (x ∷ handles) none = go (any-from_live p handles (or_none (p x) (list_any p handles) none).1) x.dead
  where
    go : list_any p (from_live handles) ≡ false → (dead : Bool) → list_any p (if dead then from_live handles else x ∷ handles) ≡ false
    go later true = later
    go later false = none

-- what is left after the first that lives, and it
pub live-none : (test : Action → Bool) (q : Queue) → from_live q.below ≡ [] → live test (waiting (taken q)) ≡ live test (waiting q)
live-none test q e =
    let a = ap (live test) (ap (λ hs. drop 1 hs ++ q.after) e) in
    let b = live-from_live test q.below in
    let d = ap (live test) e in
    let y = live-append test q.below q.after in
    omega (arith, a, b, d, y)

pub live-taken : (test : Action → Bool) (q : Queue) (h : Handle) (rest : List Handle) → from_live q.below ≡ h ∷ rest
    → live test (h ∷ waiting (taken q)) ≡ live test (waiting q)
live-taken test q h rest e =
    let a = ap (live test) (ap (λ hs. drop 1 hs ++ q.after) e) in
    let b = live-from_live test q.below in
    let d = ap (live test) e in
    let x = live-append test rest q.after in
    let y = live-append test q.below q.after in
    omega (arith, a, b, d, x, y)

pub any-taken : (p : Handle → Bool) (q : Queue) → list_any p (waiting q) ≡ false → list_any p (waiting (taken q)) ≡ false
any-taken p q none =
    let both = or_none (list_any p q.below) (list_any p q.after) (sym (list_any-append p q.below q.after) ∙ none) in
    list_any-append p (drop 1 (from_live q.below)) q.after
    ∙ none_or (list_any p (drop 1 (from_live q.below))) (list_any p q.after)
    (rest (from_live q.below) (any-from_live p q.below both.0)) both.1
  where
    rest : (handles : List Handle) → list_any p handles ≡ false → list_any p (drop 1 handles) ≡ false
    rest [] none = refl
    rest (x ∷ handles) none = (or_none (p x) (list_any p handles) none).1

-- one that steps no task may leave
pub live-other : (test : Action → Bool) → Follows test → (h : Handle) (handles : List Handle) → is_step h.action ≡ false
    → live test (h ∷ handles) ≡ live test handles
live-other test follows h handles none =
    let z : counts test h ≡ 0 = none_counts h.dead (test (bare_action h.action)) (passes_not test follows h.action none) in
    omega (arith, z)

-- ---- timers that fall due
pub live-fallen : (test : Action → Bool) → Follows test → (timers : List Timer) (q : Queue) → list_any steps_later timers ≡ false
    → live test (waiting (fallen timers q)) ≡ live test (waiting q)
live-fallen test follows [] q none = refl
live-fallen test follows (timer ∷ timers) q none =
    let both = or_none (steps_later timer) (list_any steps_later timers) none in
    live-fallen test follows timers (appended (name.Timer timer.tag) timer.action q) both.1
    ∙ live-appended test follows (name.Timer timer.tag) timer.action q both.0

pub any-fallen : (timers : List Timer) (q : Queue) → list_any steps_later timers ≡ false
    → list_any steps_as_timer (waiting q) ≡ false → list_any steps_as_timer (waiting (fallen timers q)) ≡ false
any-fallen [] q none h = h
any-fallen (timer ∷ timers) q none h =
    let both = or_none (steps_later timer) (list_any steps_later timers) none in
    any-fallen timers (appended (name.Timer timer.tag) timer.action q) both.1
    (any-appended steps_as_timer (name.Timer timer.tag) timer.action q both.0 h)

-- ---- what is appended otherwise is no timer's
pub any-soon : (action : Action) (q : Queue) → list_any steps_as_timer (waiting q) ≡ false → list_any steps_as_timer (waiting (soon action q)) ≡ false
any-soon action q none = any-appended steps_as_timer (next_name q) action q (no_timer (nat_lt q.given most_given)) none
  where
    no_timer : (left : Bool) → (is_timer (if left then name.Given q.given else name.Nameless) && is_step action) ≡ false
    no_timer true = refl
    no_timer false = refl

pub any-soon_all : (actions : List Action) (q : Queue) → list_any steps_as_timer (waiting q) ≡ false
    → list_any steps_as_timer (waiting (soon_all actions q)) ≡ false
any-soon_all [] q none = none
any-soon_all (action ∷ actions) q none = any-soon_all actions (soon action q) (any-soon action q none)
