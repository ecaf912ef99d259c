-- What is done to futures keeps what the type keeps.
use Rattle.std.proofs.Common.{◌≡◌, ℕ, zero, suc, ◌+◌, ◌≤◌, ◌⊎◌, Bool, true, false, cond, List, [], ◌∷◌, ◌++◌, Option, Some, None, length, map, slice_get}
use Rattle.std.proofs.Common.{slice_set, nat_lt, refl, ap, sym, subst, ◌∙◌, arith, inl, inr, Result, Ok, Err, OnOk, OnErr, if◌then◌else◌}
use Rattle.std.specs.List.{list_any}
use Rattle.std.specs.Option.{option_map, option_map_or}
use Rattle.model_value.specs.Action.{Action}
use Rattle.model_value.specs.declared.action.Action.TheVariants.{MainDone}
use Rattle.model_value.specs.Value.{Outcome}
use Rattle.model_loop.specs.Parts.{FutureKind, Future, Task, Parts}
use Rattle.model_loop.specs.Handles.{soon}
use Rattle.model_loop.specs.Futures.{is_pending_at, with_future, settle, register, mark_asked}
use Rattle.model_loop.specs.Totals.{callbacks_of, callbacks_at}
use Rattle.model_loop.specs.Owning.{owner_of, owner_at, owner_in, OwnsFutures}
use Rattle.model_loop.specs.Ways.{steps}
use Rattle.model_loop.specs.Sound.{HasNoCycle, ArePartsSound}
use Rattle.model_loop.proofs.FutureCases.{registered, registered_on, settled}
use Rattle.law_cancel.proofs.PassCases.{passes_at}
use Rattle.law_cancel.proofs.Cycling.{no_cycle_kept, passes-same, register-view}
use Rattle.law_cancel.proofs.Effects.{register-tasks, mark_asked-tasks, asked_as}
use Rattle.law_cancel.proofs.Lookups.{get_within}
use Rattle.law_steps.proofs.Passing.{settle_no_cycle}
use Rattle.law_steps.proofs.Registering.{callback_sound}
use Rattle.algorithm_parts.specs.Released.{released}
use Rattle.algorithm_parts.specs.Open.{room_of, is_inner_kind}
use Rattle.algorithm_parts.proofs.RoomsKept.{settle-room, register-room, ask-room, make-room, release-room}
use Rattle.law_steps.proofs.CancelSound.{is_no_task, same_sound, settle_sound}
use Rattle.law_steps.proofs.Looks.{asked_looks_same, handles_look_same, same_no_cycle}
use Rattle.law_steps.proofs.Settling.{soon-where}
use Rattle.aio_base.specs.declared.memory.Memory.{Memory}
use Rattle.aio_ready.specs.Queue as queue
use Rattle.aio_ready.specs.Queue.{Queue}
use Rattle.aio_future.specs.Settled.{called, registered as registered_in, soon_if_done, settled as settled_in, asked, asked_at}
use Rattle.aio_cancel.specs.Awaitables as cancel
use Rattle.aio_cancel.specs.Awaitables.{Appended, waiting}
use Rattle.aio_cancel.specs.Noted.{Noted, noted}
use Rattle.aio_cancel.specs.Seen.{Marked, Stacked}
use Rattle.aio_cancel.proofs.PartsLemmas.{settle-parts}
use Rattle.aio_task.specs.Bare.{bare_action, bare_future, bare}
use Rattle.aio_task.specs.View.{View, parts, body, is_step}
use Rattle.aio_task.specs.Kept.{IsKept, HasRoom, steps_as_timer}
use Rattle.aio_task.proofs.BareLemmas.{bare_at, with-bare, settle-bare, register-bare, ask-bare}
use Rattle.aio_task.proofs.PartsLemmas.{register-parts, callback_appends}
use Rattle.aio_task.proofs.Queues.{any-soon_all, bare_other}
use Rattle.aio_task.proofs.Keeping.{at_rest, rests, bare_no_cycle, no_bare_cycle, made_kept, room_same}
use Rattle.aio_task.proofs.Sizes.{released_room, noted_less}
use Rattle.aio_task.proofs.Releasing.{release_no_cycle, release_sound}

-- handles that were appended are no timer's
pub fallen_kept : (q r : Queue) → Appended q r → list_any steps_as_timer (waiting q) ≡ false → list_any steps_as_timer (waiting r) ≡ false
fallen_kept q r a none = ap (λ (x : Queue). list_any steps_as_timer (waiting x)) a.1 ∙ any-soon_all a.0 q none

-- A call that changes the queue, the futures and the tasks as a step of the parts does.
pub moved_kept : (v : View) (b : cancel.Awaitables) (q : Parts) → v.called ≡ None → cancel.parts b ≡ q → Appended v.queue b.queue
    → HasNoCycle q → ArePartsSound v.running v.running (bare q) → IsKept v
    → IsKept (record v { queue = b.queue; futures = b.futures; tasks = b.tasks })
moved_kept v b q idle same appended none sound is = record {
  no_cycle = subst HasNoCycle (sym same) none;
  sound = rests v.running v.called (cancel.parts b) idle (subst (λ x. ArePartsSound v.running v.running (bare x)) (sym same) sound);
  timers = is.timers;
  fallen = fallen_kept v.queue b.queue appended is.fallen;
}

-- ---- an outcome
pub bare_owner : (p : Parts) (id : ℕ) → owner_of (bare p) id ≡ owner_of p id
bare_owner p id = ap owner_at (bare_at p id) ∙ at (slice_get p.futures id)
  where
    at : (o : Option Future) → owner_at (option_map bare_future o) ≡ owner_at o
    at None = refl
    at (Some future) = refl

pub bare_owns : (p : Parts) → OwnsFutures (bare p) → OwnsFutures p
bare_owns p owns id task =
    (λ h. (owns id task).0 (bare_owner p id ∙ h), λ h. sym (bare_owner p id) ∙ (owns id task).1 h)

-- each task's future is its own
pub owns_of : (v : View) → v.called ≡ None → IsKept v → OwnsFutures (parts v)
owns_of v idle is = bare_owns (parts v) (at_rest v.running v.called (parts v) idle is.sound).owns

free_sound : (running : Option ℕ) (id : ℕ) (outcome : Outcome) (p : Parts) → owner_of p id ≡ None
    → ArePartsSound running running p → ArePartsSound running running (settle id outcome p)
free_sound running id outcome p free is = at (slice_get p.futures id) refl
  where
    at : (o : Option Future) → slice_get p.futures id ≡ o → ArePartsSound running running (settle id outcome p)
    at None e = subst (ArePartsSound running running) (sym (ap (λ o. settled o id outcome p) e)) is
    at (Some f) e = settle_sound running running id outcome p (is_no_task p is.owns id free (get_within p.futures id f e)) is

pub resolve_kept : (v : View) (id : ℕ) (outcome : Outcome) → v.called ≡ None → owner_at (slice_get v.futures id) ≡ None → IsKept v
    → IsKept (record v { futures = settled_in id outcome v.futures; queue = queue.soon_all (called id v.futures) v.queue })
resolve_kept v id outcome idle free is =
    moved_kept v
    (record { queue = queue.soon_all (called id v.futures) v.queue; futures = settled_in id outcome v.futures; tasks = v.tasks })
    (settle id outcome (parts v)) idle (sym (settle-parts id outcome (body v))) (called id v.futures, refl)
    (settle_no_cycle id outcome (parts v) is.no_cycle)
    (subst (ArePartsSound v.running v.running) (settle-bare id outcome (parts v))
    (free_sound v.running id outcome (bare (parts v)) (bare_owner (parts v) id ∙ free) (at_rest v.running v.called (parts v) idle is.sound)))
    is

-- ---- a callback
register_no_cycle : (id : ℕ) (action : Action) (p : Parts) → HasNoCycle p → HasNoCycle (register id action p)
register_no_cycle id action p none =
    no_cycle_kept p (register id action p)
    (λ x. passes-same p (register id action p) x
    (register-view (λ o. passes_at o x p) (λ f a. refl) id action p x)
    (λ t. ap (λ (ts : List Task). option_map_or (λ (it : Task). it.waiter) (slice_get ts t) None) (register-tasks id action p)))
    none

steps_none : (t : ℕ) → steps t MainDone ≡ false
steps_none t = refl

callback_kept : (running : Option ℕ) (id : ℕ) (p : Parts) → ArePartsSound running running p → ArePartsSound running running (register id MainDone p)
callback_kept running id p is = at (slice_get p.futures id) refl
  where
    until : (f : Future) → slice_get p.futures id ≡ Some f → (o : Option Outcome) → f.outcome ≡ o
        → ArePartsSound running running (registered_on o id f MainDone p)
    until f e (Some done) o =
        same_sound running running p (soon MainDone p)
        (handles_look_same p (soon MainDone p) refl refl
        (λ test follows. let a = soon-where test MainDone p in let b = follows MainDone refl in a ∙ rw b (omega arith)))
        (λ t m. m) is
    until f e None o = callback_sound running running p id f MainDone e o steps_none refl is

    at : (o : Option Future) → slice_get p.futures id ≡ o → ArePartsSound running running (register id MainDone p)
    at None e = subst (ArePartsSound running running) (sym (ap (λ o. registered o id MainDone p) e)) is
    at (Some f) e = subst (ArePartsSound running running) (sym (ap (λ o. registered o id MainDone p) e)) (until f e f.outcome refl)

pub on_done_kept : (v : View) (id : ℕ) (action : Action) → v.called ≡ None → is_step action ≡ false → IsKept v
    → IsKept (record v { futures = registered_in id action v.futures; queue = soon_if_done id action v.futures v.queue })
on_done_kept v id action idle none is =
    moved_kept v
    (record { queue = soon_if_done id action v.futures v.queue; futures = registered_in id action v.futures; tasks = v.tasks })
    (register id action (parts v)) idle (sym (register-parts id action (body v))) (callback_appends id action v.futures v.queue)
    (register_no_cycle id action (parts v) is.no_cycle)
    (subst (ArePartsSound v.running v.running)
    (ap (λ a. register id a (bare (parts v))) (sym (bare_other action none)) ∙ register-bare id action (parts v))
    (callback_kept v.running id (bare (parts v)) (at_rest v.running v.called (parts v) idle is.sound)))
    is

-- ---- a note that it was asked
asked-parts : (v : View) (id : ℕ) → mark_asked id (parts v) ≡ parts (record v { futures = asked id v.futures })
asked-parts v id = at (slice_get v.futures id)
  where
    at : (o : Option Future)
        → option_map_or (λ (f : Future). with_future id (asked_as f) (parts v)) o (parts v) ≡ parts (record v { futures = asked_at o id v.futures })
    at None = refl
    at (Some f) = refl

ask_sound : (running : Option ℕ) (id : ℕ) (p : Parts) → ArePartsSound running running p → ArePartsSound running running (mark_asked id p)
ask_sound running id p is = at (slice_get p.futures id) refl
  where
    at : (o : Option Future) → slice_get p.futures id ≡ o → ArePartsSound running running (mark_asked id p)
    at None e = subst (ArePartsSound running running)
        (sym (ap (λ o. option_map_or (λ (f : Future). with_future id (asked_as f) p) o p) e)) is
    at (Some f) e =
        same_sound running running p (mark_asked id p) (asked_looks_same id p f e)
        (λ t m. sym (ap (λ (ts : List Task). option_map_or (λ (it : Task). it.must_cancel) (slice_get ts t) false) (mark_asked-tasks id p)) ∙ m)
        is

ask_no_cycle : (id : ℕ) (p : Parts) → HasNoCycle p → HasNoCycle (mark_asked id p)
ask_no_cycle id p none = at (slice_get p.futures id) refl
  where
    at : (o : Option Future) → slice_get p.futures id ≡ o → HasNoCycle (mark_asked id p)
    at None e = subst HasNoCycle (sym (ap (λ o. option_map_or (λ (f : Future). with_future id (asked_as f) p) o p) e)) none
    at (Some f) e = same_no_cycle p (mark_asked id p) (asked_looks_same id p f e) none

pub asked_kept : (v : View) (id : ℕ) → v.called ≡ None → IsKept v → IsKept (record v { futures = asked id v.futures })
asked_kept v id idle is =
    moved_kept v (record { queue = v.queue; futures = asked id v.futures; tasks = v.tasks })
    (mark_asked id (parts v)) idle (sym (asked-parts v id)) ([], refl)
    (ask_no_cycle id (parts v) is.no_cycle)
    (subst (ArePartsSound v.running v.running) (ask-bare id (parts v))
    (ask_sound v.running id (bare (parts v)) (at_rest v.running v.called (parts v) idle is.sound)))
    is

-- ---- a release
bare_calls : (p : Parts) (id : ℕ) → callbacks_of p id ≡ [] → callbacks_of (bare p) id ≡ []
bare_calls p id none = ap callbacks_at (bare_at p id) ∙ at (slice_get p.futures id) none
  where
    at : (o : Option Future) → callbacks_at o ≡ [] → callbacks_at (option_map bare_future o) ≡ []
    at None h = refl
    at (Some f) h = ap (map bare_action) h

pub released_kept : (v : View) (id : ℕ) → v.called ≡ None → owner_at (slice_get v.futures id) ≡ None
    → (is_pending_at (slice_get v.futures id) ≡ false) ⊎ (callbacks_at (slice_get v.futures id) ≡ []) → IsKept v
    → IsKept (record v { futures = if nat_lt id (length v.futures) then slice_set v.futures id released else v.futures })
released_kept v id idle free over is = there (nat_lt id (length v.futures))
  where
    sound : ArePartsSound v.running v.running (bare (parts v))
    sound = at_rest v.running v.called (parts v) idle is.sound

    bare_pending : (o : Option Future) → is_pending_at (option_map bare_future o) ≡ is_pending_at o
    bare_pending None = refl
    bare_pending (Some f) = refl

    uncalled : callbacks_of (bare (parts v)) id ≡ []
    uncalled = go over
      where
        go : (is_pending_at (slice_get v.futures id) ≡ false) ⊎ (callbacks_at (slice_get v.futures id) ≡ []) → callbacks_of (bare (parts v)) id ≡ []
        go (inl done) = sound.settled id (ap is_pending_at (bare_at (parts v) id) ∙ bare_pending (slice_get v.futures id) ∙ done)
        go (inr none) = bare_calls (parts v) id none

    past : (xs : List Future) (i : ℕ) → slice_get xs i ≡ None → slice_set xs i released ≡ xs
    past [] i e = refl
    past (x ∷ xs) zero e = absurd (cc)
    past (x ∷ xs) (suc i) e = ap (λ ys. x ∷ ys) (past xs i e)

    gone : (o : Option Future) → slice_get v.futures id ≡ o → IsKept (record v { futures = slice_set v.futures id released })
    gone None e = subst (λ fs. IsKept (record v { futures = fs })) (sym (past v.futures id e)) is
    gone (Some f) e =
        let at_bare : slice_get (bare (parts v)).futures id ≡ Some (bare_future f) = bare_at (parts v) id ∙ ap (option_map bare_future) e in
        let same : with_future id released (bare (parts v)) ≡ bare (with_future id released (parts v)) = with-bare id released (parts v) in
        moved_kept v (record { queue = v.queue; futures = slice_set v.futures id released; tasks = v.tasks })
        (with_future id released (parts v)) idle refl ([], refl)
        (no_bare_cycle (with_future id released (parts v)) (subst HasNoCycle same
        (release_no_cycle v.running id (bare (parts v)) (bare_future f) at_bare (bare_owner (parts v) id ∙ free) uncalled
        (bare_no_cycle (parts v) is.no_cycle))))
        (subst (ArePartsSound v.running v.running) same
        (release_sound v.running id (bare (parts v)) (bare_future f) at_bare (bare_owner (parts v) id ∙ free) uncalled sound))
        is

    there : (b : Bool) → IsKept (record v { futures = if b then slice_set v.futures id released else v.futures })
    there true = gone (slice_get v.futures id) refl
    there false = is

-- ---- the room that a request needs
pub resolved_room : (v : View) (id : ℕ) (outcome : Outcome)
    → room_of (parts (record v { futures = settled_in id outcome v.futures; queue = queue.soon_all (called id v.futures) v.queue }))
    ≤ room_of (parts v)
resolved_room v id outcome =
    subst (λ n. n ≤ room_of (parts v)) (ap room_of (settle-parts id outcome (body v))) (settle-room id outcome (parts v))

pub on_done_room : (v : View) (id : ℕ) (action : Action)
    → room_of (parts (record v { futures = registered_in id action v.futures; queue = soon_if_done id action v.futures v.queue }))
    ≡ room_of (parts v)
on_done_room v id action = ap room_of (sym (register-parts id action (body v))) ∙ register-room id action (parts v)

pub asked_room : (v : View) (id : ℕ) → room_of (parts (record v { futures = asked id v.futures })) ≡ room_of (parts v)
asked_room v id = ap room_of (sym (asked-parts v id)) ∙ ask-room id (parts v)

pub release_room : (v : View) (id : ℕ)
    → room_of (parts (record v { futures = if nat_lt id (length v.futures) then slice_set v.futures id released else v.futures }))
    ≤ room_of (parts v)
release_room v id = go (nat_lt id (length v.futures))
  where
    go : (b : Bool) → room_of (parts (record v { futures = if b then slice_set v.futures id released else v.futures })) ≤ room_of (parts v)
    go true = release-room id (parts v)
    go false = omega arith

pub resolved_whole : (v : View) (stack : Stacked) (seen : Marked) (notes : Noted) (id : ℕ) (outcome : Outcome) → v.called ≡ None
    → owner_at (slice_get v.futures id) ≡ None → IsKept v → HasRoom v stack seen notes
    → IsKept (record v { futures = settled_in id outcome v.futures; queue = queue.soon_all (called id v.futures) v.queue })
    × HasRoom (record v { futures = settled_in id outcome v.futures; queue = queue.soon_all (called id v.futures) v.queue }) stack seen notes
resolved_whole v stack seen notes id outcome idle free is has =
    let after : View = record v { futures = settled_in id outcome v.futures; queue = queue.soon_all (called id v.futures) v.queue } in
    (resolve_kept v id outcome idle free is, released_room v after stack seen notes notes (resolved_room v id outcome) refl has.unnoted has)

pub on_done_whole : (v : View) (stack : Stacked) (seen : Marked) (notes : Noted) (id : ℕ) (action : Action) → v.called ≡ None
    → is_step action ≡ false → IsKept v → HasRoom v stack seen notes
    → IsKept (record v { futures = registered_in id action v.futures; queue = soon_if_done id action v.futures v.queue })
    × HasRoom (record v { futures = registered_in id action v.futures; queue = soon_if_done id action v.futures v.queue }) stack seen notes
on_done_whole v stack seen notes id action idle none is has =
    (on_done_kept v id action idle none is, room_same _ _ stack seen notes (on_done_room v id action) refl has)

pub asked_whole : (v : View) (stack : Stacked) (seen : Marked) (notes : Noted) (id : ℕ) → v.called ≡ None → IsKept v
    → HasRoom v stack seen notes
    → IsKept (record v { futures = asked id v.futures }) × HasRoom (record v { futures = asked id v.futures }) stack seen notes
asked_whole v stack seen notes id idle is has = (asked_kept v id idle is, room_same _ _ stack seen notes (asked_room v id) refl has)

abbrev pub without_future : View → ℕ → View
without_future v id =
    record v { futures = if nat_lt id (length v.futures) then slice_set v.futures id released else v.futures }

pub released_whole : (v : View) (stack : Stacked) (seen : Marked) (notes after : Noted) (id : ℕ) → v.called ≡ None
    → owner_at (slice_get v.futures id) ≡ None
    → (is_pending_at (slice_get v.futures id) ≡ false) ⊎ (callbacks_at (slice_get v.futures id) ≡ [])
    → ((other : ℕ) (again : Bool) → noted after other ≡ Some again → noted notes other ≡ Some again)
    → IsKept v → HasRoom v stack seen notes → IsKept (without_future v id) × HasRoom (without_future v id) stack seen after
released_whole v stack seen notes after id idle free over less is has = (
  released_kept v id idle free over is,
  released_room v (without_future v id) stack seen notes after (release_room v id) refl (noted_less notes after less has.unnoted) has,
)

-- ---- a future is made, or memory was refused
pub made_or_not : (v : View) (kind : FutureKind) (stack : Stacked) (seen : Marked) (notes : Noted) (result : Result ℕ Memory) (futures : List Future)
    → v.called ≡ None → owner_in kind ≡ None
    → OnOk result (futures ≡ v.futures ++ record { kind = kind; outcome = None; callbacks = [] } ∷ [])
    → OnErr result (futures ≡ v.futures) → room_of (parts v) + cond (is_inner_kind kind) 1 0 ≤ stack.room
    → HasRoom v stack seen notes → IsKept v
    → IsKept (record v { futures = futures }) × HasRoom (record v { futures = futures }) stack seen notes
made_or_not v kind stack seen notes (Ok id) futures idle free made err fits has is = (
  subst (λ fs. IsKept (record v { futures = fs })) (sym made) (made_kept v kind idle free is),
  subst (λ fs. HasRoom (record v { futures = fs }) stack seen notes) (sym made) (record {
    empty = has.empty;
    unseen = has.unseen;
    unnoted = has.unnoted;
    fits = subst (λ n. n ≤ stack.room) (sym (make-room kind (parts v))) fits;
    marked = has.marked;
  }),
)
made_or_not v kind stack seen notes (Err fault) futures idle free made err fits has is = (
  subst (λ fs. IsKept (record v { futures = fs })) (sym err) is,
  subst (λ fs. HasRoom (record v { futures = fs }) stack seen notes) (sym err) has,
)
