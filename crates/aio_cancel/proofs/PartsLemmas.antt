-- The parts after handles were appended.
use Rattle.std.proofs.Common.{◌≡◌, ℕ, suc, ◌+◌, List, [], ◌∷◌, ◌++◌, Option, Some, None, length, slice_get, refl, ap, sym, ◌∙◌, arith, append_assoc}
use Rattle.std.proofs.Common.{length-append, false, ◌<◌}
use Rattle.std.specs.Option.{option_map}
use Rattle.law_cancel.proofs.Lookups.{get_within}
use Rattle.model_value.specs.Action.{Action}
use Rattle.model_value.specs.Value.{Outcome}
use Rattle.model_loop.specs.Parts.{Future, Task}
use Rattle.model_loop.specs.Handles.{soon, soon_all}
use Rattle.model_loop.specs.Futures as plain
use Rattle.model_loop.specs.Futures.{settle}
use Rattle.model_loop.proofs.FutureCases as cases
use Rattle.aio_ready.specs.declared.handle.Handle.{Handle}
use Rattle.aio_ready.specs.Queue as queue
use Rattle.aio_ready.specs.Queue.{Queue, next_name}
use Rattle.aio_future.specs.Settled.{settled, settled_at, settled_until, called, called_at, called_until}
use Rattle.aio_cancel.specs.Awaitables.{Awaitables, handles_from, waiting, parts, Appended}

handles-push : (place : ℕ) (handles : List Handle) (handle : Handle)
    → handles_from place (handles ++ handle ∷ [])
    ≡ handles_from place handles
    ++ record { stamp = place + length handles; tag = place + length handles; action = handle.action; dead = handle.dead } ∷ []
handles-push place [] handle = let e : place + 0 ≡ place = omega arith in rw e refl
handles-push place (h ∷ handles) handle =
    let e : suc place + length handles ≡ place + suc (length handles) = omega arith in
    ap (λ hs. record { stamp = place; tag = place; action = h.action; dead = h.dead } ∷ hs) (handles-push (suc place) handles handle ∙ rw e refl)

pub soon-parts : (action : Action) (v : Awaitables) → soon action (parts v) ≡ parts (record v { queue = queue.soon action v.queue })
soon-parts action v =
    let handle : Handle = record { name = next_name v.queue; action = action; dead = false } in
    let a : v.queue.below ++ (v.queue.after ++ handle ∷ []) ≡ waiting v.queue ++ handle ∷ [] =
    sym (append_assoc v.queue.below v.queue.after (handle ∷ [])) in
    let e : length (waiting v.queue ++ handle ∷ []) ≡ length (waiting v.queue) + 1 = length-append (waiting v.queue) (handle ∷ []) in
    let z : 0 + length (waiting v.queue) ≡ length (waiting v.queue) = omega arith in
    rw (a, handles-push 0 (waiting v.queue) handle, e, z) refl

pub soon_all-parts : (actions : List Action) (v : Awaitables) → soon_all actions (parts v) ≡ parts (record v { queue = queue.soon_all actions v.queue })
soon_all-parts [] v = refl
soon_all-parts (action ∷ actions) v =
    ap (soon_all actions) (soon-parts action v) ∙ soon_all-parts actions (record v { queue = queue.soon action v.queue })

pub settle-parts : (id : ℕ) (outcome : Outcome) (v : Awaitables)
    → settle id outcome (parts v)
    ≡ parts (record { queue = queue.soon_all (called id v.futures) v.queue; futures = settled id outcome v.futures; tasks = v.tasks })
settle-parts id outcome v = at (slice_get v.futures id)
  where
    until : (future : Future) (x : Option Outcome)
        → cases.settled_as x id future outcome (parts v)
        ≡ parts (record {
          queue = queue.soon_all (called_until x future.callbacks) v.queue;
          futures = settled_until x future id outcome v.futures;
          tasks = v.tasks;
        })
    until future (Some done) = refl
    until future None =
        soon_all-parts future.callbacks
        (record v { futures = (plain.with_future id (record future { outcome = Some outcome; callbacks = [] }) (parts v)).futures })

    at : (o : Option Future)
        → cases.settled o id outcome (parts v)
        ≡ parts (record {
          queue = queue.soon_all (called_at o) v.queue;
          futures = settled_at o id outcome v.futures;
          tasks = v.tasks;
        })
    at None = refl
    at (Some future) = until future future.outcome

soon_all-append : (actions more : List Action) (q : Queue) → queue.soon_all (actions ++ more) q ≡ queue.soon_all more (queue.soon_all actions q)
soon_all-append [] more q = refl
soon_all-append (action ∷ actions) more q = soon_all-append actions more (queue.soon action q)

pub nothing_appended : (q r : Queue) → r ≡ q → Appended q r
nothing_appended q r e = ([], e)

pub appended_on : (q r s : Queue) → Appended q r → Appended r s → Appended q s
appended_on q r s a b = (a.0 ++ b.0, b.1 ∙ ap (queue.soon_all b.0) a.1 ∙ sym (soon_all-append a.0 b.0 q))

pub waits_for : {o : Option Task} {waiter : Option ℕ} (found : Task) → Some found ≡ o → waiter ≡ found.waiter
    → Some waiter ≡ option_map (λ (it : Task). it.waiter) o
waits_for found h e = ap Some e ∙ ap (option_map (λ (it : Task). it.waiter)) h

pub task_within : (ts : List Task) (task : ℕ) (waiter : Option ℕ)
    → Some waiter ≡ option_map (λ (it : Task). it.waiter) (slice_get ts task) → task < length ts
task_within ts task waiter h = at (slice_get ts task) refl h
  where
    at : (o : Option Task) → slice_get ts task ≡ o → Some waiter ≡ option_map (λ (it : Task). it.waiter) o → task < length ts
    at None e h = absurd (cc)
    at (Some it) e h = get_within ts task it e
