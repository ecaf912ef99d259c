-- A request goes on within its room.
use Rattle.std.proofs.Common.{◌≡◌, ℕ, ◌<◌, ◌≤◌, Bool, true, false, List, [], ◌∷◌, ◌++◌, Option, Some, None, length, map, reverse, slice_get, refl, ap, sym, ◌∙◌}
use Rattle.std.proofs.Common.{arith, if◌then◌else◌}
use Rattle.std.specs.Option.{option_map}
use Rattle.std.proofs.lemmas.List.{reverse-append, length-reverse}
use Rattle.model_value.specs.Value.{Outcome}
use Rattle.model_value.specs.declared.outcome.Outcome.TheVariants.{Cancelled}
use Rattle.model_loop.specs.Parts.{FutureKind, Plain, OfTask, Many, Future, Task, Parts}
use Rattle.model_loop.specs.Futures.{settle, mark_asked}
use Rattle.model_loop.specs.Tasks.{raise_count, set_must_cancel}
use Rattle.model_loop.specs.Cancel.{has_seen}
use Rattle.model_loop.specs.Cycles.{PassesTo}
use Rattle.model_loop.specs.Sound.{HasNoCycle}
use Rattle.law_cancel.proofs.Lookups.{get_within}
use Rattle.law_cancel.proofs.Trace.{Goes, begins, settles, asks, raises, sets_must_cancel as sets_must_cancel_row, goes-tasks}
use Rattle.algorithm_parts.specs.Shape.{stands_of, stands_at, members_at}
use Rattle.algorithm_parts.specs.declared.walk.WalkFrame.{WalkFrame}
use Rattle.algorithm_parts.specs.declared.walk.WalkFrame.TheVariants.{Waits, Members}
use Rattle.algorithm_parts.specs.declared.walk.Go.{Go}
use Rattle.algorithm_parts.specs.declared.walk.Go.TheVariants.{Visit, Next, Answer}
use Rattle.algorithm_parts.specs.declared.walk.FutureState.TheVariants as stands
use Rattle.algorithm_parts.specs.Open.{room_of, passing, passing_at, AllLead, id_of, frame_stands, OpenDown, CanWalk}
use Rattle.algorithm_parts.proofs.OpenLemmas.{down_count, lead_on, goes-passing, pass_waiter, pass_member}

push-reverse : (frames : List WalkFrame) (frame : WalkFrame) → reverse (frames ++ frame ∷ []) ≡ frame ∷ reverse frames
push-reverse frames frame = reverse-append frames (frame ∷ [])

-- a request begins
pub walk_begins : (room marks : ℕ) (id : ℕ) (p : Parts) → HasNoCycle p → room_of p ≤ room → length p.tasks ≤ marks
    → CanWalk room marks (Visit id) [] [] p
walk_begins room marks id p none fits marked =
    (p, record { no_cycle = none; row = begins; chain = tt; leads = λ x h. absurd (cc); fits = fits; marked = marked })

-- what is on the stack below the top fits
pub room_for : (room marks : ℕ) (go : Go) (frames : List WalkFrame) (frame : WalkFrame) (s : List ℕ) (p : Parts)
    → CanWalk room marks go (frames ++ frame ∷ []) s p → length frames < room
room_for room marks go frames frame s p c =
    let w = c.1 in
    let chain : OpenDown c.0 (frame ∷ reverse frames) = rw (push-reverse frames frame) at w.chain in
    let count = down_count c.0 (frame ∷ reverse frames) w.no_cycle chain in
    let l = length-reverse frames in
    let f = w.fits in
    omega arith

pub mark_for : (room marks : ℕ) (go : Go) (frames : List WalkFrame) (s : List ℕ) (p : Parts) (task : ℕ) (waiter : Option ℕ)
    → CanWalk room marks go frames s p → Some waiter ≡ option_map (λ (it : Task). it.waiter) (slice_get p.tasks task) → task < marks
mark_for room marks go frames s p task waiter c h = at (slice_get p.tasks task) refl h
  where
    at : (o : Option Task) → slice_get p.tasks task ≡ o → Some waiter ≡ option_map (λ (it : Task). it.waiter) o → task < marks
    at None e h = absurd (cc)
    at (Some it) e h =
        let a = get_within p.tasks task it e in
        let w = c.1 in
        let b = goes-tasks w.row in
        let m = w.marked in
        omega arith

pub walk_answers : (room marks : ℕ) (go : Go) (frames : List WalkFrame) (s : List ℕ) (p : Parts) (answer : Bool)
    → CanWalk room marks go frames s p → CanWalk room marks (Answer answer) frames s p
walk_answers room marks go frames s p answer c =
    let w = c.1 in
    (c.0, record { no_cycle = w.no_cycle; row = w.row; chain = w.chain; leads = tt; fits = w.fits; marked = w.marked })

-- the answer after a further change
answers_after : (room marks : ℕ) (go : Go) (frames : List WalkFrame) (s t : List ℕ) (p q : Parts) (answer : Bool)
    → (c : CanWalk room marks go frames s p) → Goes [] c.0 t q → CanWalk room marks (Answer answer) frames t q
answers_after room marks go frames s t p q answer c row =
    let w = c.1 in
    (c.0, record { no_cycle = w.no_cycle; row = row; chain = w.chain; leads = tt; fits = w.fits; marked = w.marked })

plain_there : {X : Type 0} (p : Parts) (id : ℕ) → stands.Plain ≡ stands_at (slice_get p.futures id)
    → ((future : Future) → slice_get p.futures id ≡ Some future → future.outcome ≡ None → future.kind ≡ Plain → X) → X
plain_there {X} p id h use_it = at (slice_get p.futures id) refl h
  where
    until : (future : Future) → slice_get p.futures id ≡ Some future → (o : Option Outcome) (k : FutureKind) → future.outcome ≡ o
        → future.kind ≡ k → stands.Plain ≡ stands_of o k → X
    until future e (Some done) k eo ek h = absurd (cc)
    until future e None Plain eo ek h = use_it future e eo ek
    until future e None (OfTask task) eo ek h = absurd (cc)
    until future e None (Many members asked) eo ek h = absurd (cc)

    at : (o : Option Future) → slice_get p.futures id ≡ o → stands.Plain ≡ stands_at o → X
    at None e h = absurd (cc)
    at (Some future) e h = until future e future.outcome future.kind refl refl h

many_there : {X : Type 0} (p : Parts) (id : ℕ) → passing_at p id ≡ stands.Many
    → ((future : Future) (members : List ℕ) (asked : Bool) → slice_get p.futures id ≡ Some future → future.outcome ≡ None
    → future.kind ≡ Many members asked → X) → X
many_there {X} p id h use_it = at (slice_get p.futures id) refl h
  where
    until : (future : Future) → slice_get p.futures id ≡ Some future → (o : Option Outcome) (k : FutureKind) → future.outcome ≡ o
        → future.kind ≡ k → passing (stands_of o k) ≡ stands.Many → X
    until future e (Some done) k eo ek h = absurd (cc)
    until future e None Plain eo ek h = absurd (cc)
    until future e None (OfTask task) eo ek h = absurd (cc)
    until future e None (Many members asked) eo ek h = use_it future members asked e eo ek

    at : (o : Option Future) → slice_get p.futures id ≡ o → passing (stands_at o) ≡ stands.Many → X
    at None e h = absurd (cc)
    at (Some future) e h = until future e future.outcome future.kind refl refl h

pub walk_settles : (room marks id : ℕ) (frames : List WalkFrame) (s : List ℕ) (p q : Parts) (answer : Bool)
    → CanWalk room marks (Visit id) frames s p → stands.Plain ≡ stands_at (slice_get p.futures id) → q ≡ settle id Cancelled p
    → CanWalk room marks (Answer answer) frames s q
walk_settles room marks id frames s p q answer c h e =
    rw e
    (plain_there p id h (λ future there pending kind.
    answers_after room marks (Visit id) frames s s p (settle id Cancelled p) answer c (settles (c.1.row) id future there pending kind)))

pub walk_opens : (room marks id : ℕ) (frames : List WalkFrame) (s : List ℕ) (p : Parts) (any : Bool)
    → CanWalk room marks (Visit id) frames s p → stands.Many ≡ stands_at (slice_get p.futures id)
    → CanWalk room marks (Next id 0 any) frames s p
walk_opens room marks id frames s p any c h =
    let w = c.1 in (
      c.0,
      record {
        no_cycle = w.no_cycle;
        row = w.row;
        chain = w.chain;
        leads = (w.leads, sym (goes-passing w.row id) ∙ sym (ap passing h));
        fits = w.fits;
        marked = w.marked;
      },
    )

-- a frame more, and what its future passes to
pushed : (room marks next : ℕ) (go : Go) (frames : List WalkFrame) (frame : WalkFrame) (s t : List ℕ) (p q : Parts)
    → (c : CanWalk room marks go frames s p) → AllLead c.0 (map id_of (reverse frames)) (id_of frame)
    → passing_at c.0 (id_of frame) ≡ frame_stands frame → PassesTo c.0 (id_of frame) next → Goes [] c.0 t q
    → CanWalk room marks (Visit next) (frames ++ frame ∷ []) t q
pushed room marks next go frames frame s t p q c lead st pass row =
    let w = c.1 in (
      c.0,
      record {
        no_cycle = w.no_cycle;
        row = row;
        chain = rw (push-reverse frames frame) (w.chain, lead, st);
        leads = rw (push-reverse frames frame) (lead_on c.0 (map id_of (reverse frames)) (id_of frame) next lead pass);
        fits = w.fits;
        marked = w.marked;
      },
    )

task_there : {X : Type 0} (p : Parts) (task : ℕ) (waiter : Option ℕ) → Some waiter ≡ option_map (λ (it : Task). it.waiter) (slice_get p.tasks task)
    → ((it : Task) → slice_get p.tasks task ≡ Some it → X) → X
task_there {X} p task waiter h use_it = at (slice_get p.tasks task) refl h
  where
    at : (o : Option Task) → slice_get p.tasks task ≡ o → Some waiter ≡ option_map (λ (it : Task). it.waiter) o → X
    at None e h = absurd (cc)
    at (Some it) e h = use_it it e

pub walk_waits : (room marks id task next : ℕ) (frames after : List WalkFrame) (s t : List ℕ) (p q : Parts) (waiter : Option ℕ)
    → CanWalk room marks (Visit id) frames s p → stands.OfTask task ≡ stands_at (slice_get p.futures id) → has_seen s task ≡ false
    → Some waiter ≡ option_map (λ (it : Task). it.waiter) (slice_get p.tasks task) → waiter ≡ Some next
    → after ≡ frames ++ Waits id task ∷ [] → t ≡ s ++ task ∷ [] → q ≡ raise_count task p
    → CanWalk room marks (Visit next) after t q
walk_waits room marks id task next frames after s t p q waiter c st unseen h is a e f =
    rw (a, e, f)
    (task_there p task waiter h (λ it there.
    pushed room marks next (Visit id) frames (Waits id task) s (s ++ task ∷ []) p (raise_count task p) c c.1.leads
    (sym (goes-passing c.1.row id) ∙ sym (ap passing st)) (pass_waiter c.1.row id task next waiter st h is)
    (raises c.1.row task it unseen there)))

pub walk_marks : (room marks id task : ℕ) (frames : List WalkFrame) (s t : List ℕ) (p q r : Parts) (waiter : Option ℕ) (answer : Bool)
    → CanWalk room marks (Visit id) frames s p → has_seen s task ≡ false
    → Some waiter ≡ option_map (λ (it : Task). it.waiter) (slice_get p.tasks task)
    → t ≡ s ++ task ∷ [] → q ≡ raise_count task p → r ≡ set_must_cancel task q
    → CanWalk room marks (Answer answer) frames t r
walk_marks room task_marks id task frames s t p q r waiter answer c unseen h e f g =
    rw (g, f, e)
    (task_there p task waiter h (λ it there.
    answers_after room task_marks (Visit id) frames s (s ++ task ∷ []) p (set_must_cancel task (raise_count task p)) answer c
    (sets_must_cancel_row (raises c.1.row task it unseen there) task)))

pub walk_member : (room marks id place next member : ℕ) (any : Bool) (frames after : List WalkFrame) (s : List ℕ) (p : Parts)
    → CanWalk room marks (Next id place any) frames s p → Some member ≡ slice_get (members_at (slice_get p.futures id)) place
    → member < id → after ≡ frames ++ Members id next any ∷ []
    → CanWalk room marks (Visit member) after s p
walk_member room marks id place next member any frames after s p c h l a =
    rw a
    (pushed room marks member (Next id place any) frames (Members id next any) s s p p c c.1.leads.0 c.1.leads.1
    (pass_member c.1.row id member place c.1.leads.1 h l) c.1.row)

pub walk_skips : (room marks id place next : ℕ) (any : Bool) (frames : List WalkFrame) (s : List ℕ) (p : Parts)
    → CanWalk room marks (Next id place any) frames s p → CanWalk room marks (Next id next any) frames s p
walk_skips room marks id place next any frames s p c =
    let w = c.1 in
    (c.0, record { no_cycle = w.no_cycle; row = w.row; chain = w.chain; leads = w.leads; fits = w.fits; marked = w.marked })

pub walk_ends : (room marks id place : ℕ) (any answer : Bool) (frames : List WalkFrame) (s : List ℕ) (p q : Parts)
    → CanWalk room marks (Next id place any) frames s p → q ≡ (if any then mark_asked id p else p)
    → CanWalk room marks (Answer answer) frames s q
walk_ends room marks id place false answer frames s p q c e = rw e (walk_answers room marks (Next id place false) frames s p answer c)
walk_ends room marks id place true answer frames s p q c e =
    rw e
    (many_there p id (goes-passing c.1.row id ∙ c.1.leads.1) (λ future members asked there pending kind.
    answers_after room marks (Next id place true) frames s s p (mark_asked id p) answer c
    (asks c.1.row id future members asked there pending kind)))

-- the answer comes back to a task
pub walk_back : (room marks id task : ℕ) (answer : Bool) (last : Bool) (frames : List WalkFrame) (s : List ℕ) (p q : Parts)
    → CanWalk room marks (Answer last) (frames ++ Waits id task ∷ []) s p → q ≡ (if last then p else set_must_cancel task p)
    → CanWalk room marks (Answer answer) frames s q
walk_back room task_marks id task answer last frames s p q c e =
    let w = c.1 in
    let chain : OpenDown c.0 (Waits id task ∷ reverse frames) = rw (push-reverse frames (Waits id task)) at w.chain in
    rw e (
      c.0,
      record {
        no_cycle = w.no_cycle;
        row = go last;
        chain = chain.0;
        leads = tt;
        fits = w.fits;
        marked = w.marked;
      },
    )
  where
    go : (b : Bool) → Goes [] c.0 s (if b then p else set_must_cancel task p)
    go true = c.1.row
    go false = sets_must_cancel_row c.1.row task

-- and to a future whose members it goes through
pub walk_back_on : (room marks id place : ℕ) (any more last : Bool) (frames : List WalkFrame) (s : List ℕ) (p : Parts)
    → CanWalk room marks (Answer last) (frames ++ Members id place any ∷ []) s p
    → CanWalk room marks (Next id place more) frames s p
walk_back_on room marks id place any more last frames s p c =
    let w = c.1 in
    let chain : OpenDown c.0 (Members id place any ∷ reverse frames) = rw (push-reverse frames (Members id place any)) at w.chain in (
      c.0,
      record {
        no_cycle = w.no_cycle;
        row = w.row;
        chain = chain.0;
        leads = (chain.1, chain.2);
        fits = w.fits;
        marked = w.marked;
      },
    )
