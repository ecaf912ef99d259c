-- What requests come to, by what the calls of the parts left.
use Rattle.std.proofs.Common.{◌≡◌, ℕ, List, [], ◌∷◌, Some, None, length, ◌∙◌, refl, ap}
use Rattle.model_value.specs.Action.{Action}
use Rattle.model_value.specs.declared.action.Action.TheVariants as action
use Rattle.model_loop.specs.Ledger.{Origin, request}
use Rattle.model_loop.specs.Loop.{book, in_parts}
use Rattle.model_loop.specs.Cancel.{cancel}
use Rattle.model_loop.specs.Suspend.{suspend}
use Rattle.model_loop.specs.Tasks.{pause}
use Rattle.model_machine.specs.Replies.{waits}
use Rattle.model_machine.specs.State.{State, in_loop, unbooked_in}
use Rattle.aio_ready.specs.Queue as queue
use Rattle.aio_ready.specs.Queue.{Queue, soon_all}
use Rattle.aio_cancel.specs.Awaitables.{Appended}
use Rattle.aio_task.specs.View.{View, parts}
use Rattle.aio_extra.specs.Added.{Added, named_in}
use Rattle.aio_body.specs.declared.run_state.RunState.{RunState}
use Rattle.aio_body.specs.Asked.{IsInStep, HasSuspended}
use Rattle.aio_body.specs.Stands.{Context}
use Rattle.refine_parts.proofs.Calls.{kept_pause, kept_request, kept_suspend}
use Rattle.aio_body.proofs.Lasting.{Spares, spares_none, stands_on}
use Rattle.aio_body.proofs.Left.{leaves_pause, leaves_request, leaves_suspend}

pub below_soon_all : (actions : List Action) (q : Queue) → (soon_all actions q).below ≡ q.below
below_soon_all [] q = refl
below_soon_all (it ∷ actions) q = below_soon_all actions (queue.soon it q)

pub below_appended : (q r : Queue) → Appended q r → length r.below ≡ length q.below
below_appended q r a = ap (λ (x : Queue). length x.below) a.1 ∙ ap length (below_soon_all a.0 q)

module _ {X : Type 0} {a : Added X} where
  -- a bare `yield`
  pub pauses_so : (task : ℕ) (c : Context a) (old : RunState X) (s : State a.Kept) (v : View) → IsInStep task c old s
      → parts v ≡ pause task (parts old.parts) → v ≡ record old.parts { queue = queue.soon (action.Step task) old.parts.queue; running = None }
      → HasSuspended task c (record old { parts = v }) (unbooked_in (pause task) s)
  pauses_so task c old s v h after frame = record {
    stands =
        stands_on None (Some task) c old s v (in_parts (pause task)) h.stands
        (kept_pause h.stands.name_map old.parts v s.loop.parts h.stands.keeps task (record {
          parts = after;
          queue = (action.Step task ∷ [], ap (λ (x : View). x.queue) frame);
          time = ap (λ (x : View). x.time) frame;
          schedule = ap (λ (x : View). x.schedule) frame;
        }))
        (leaves_pause task s.loop.parts) (spares_none s.loop.parts (named_in a s)) (refl, (refl, refl)) (ap (λ (x : View). length x.queue.below) frame)
        (ap (λ (x : View). x.profile) frame);
    called = ap (λ (x : View). x.called) frame ∙ h.called;
    running = ap (λ (x : View). x.running) frame;
  }

  -- a wait
  pub waits_so : (task on : ℕ) (c : Context a) (old : RunState X) (s : State a.Kept) (v : View) → IsInStep task c old s
      → Spares (Some (task, on)) s.loop.parts (named_in a s)
      → parts v ≡ (suspend task on (parts old.parts)).parts → Appended old.parts.queue v.queue
      → v ≡ record old.parts { queue = v.queue; futures = v.futures; tasks = v.tasks; running = None }
      → HasSuspended task c (record old { parts = v }) (waits task on s)
  waits_so task on c old s v h spares after appended frame = record {
    stands =
        stands_on (Some (task, on)) (Some task) c old s v (book (suspend task on)) h.stands
        (kept_suspend h.stands.name_map old.parts v s.loop.parts h.stands.keeps task on (record {
          parts = after;
          queue = appended;
          time = ap (λ (x : View). x.time) frame;
          schedule = ap (λ (x : View). x.schedule) frame;
        }))
        (leaves_suspend task on s.loop.parts) spares (refl, (refl, refl)) (below_appended old.parts.queue v.queue appended)
        (ap (λ (x : View). x.profile) frame);
    called = ap (λ (x : View). x.called) frame ∙ h.called;
    running = ap (λ (x : View). x.running) frame;
  }

  -- a cancel request
  pub requests_so : (by : Origin) (task id : ℕ) (c : Context a) (old : RunState X) (s : State a.Kept) (v : View) → IsInStep task c old s
      → parts v ≡ (cancel id (parts old.parts)).parts → Appended old.parts.queue v.queue
      → v ≡ record old.parts { queue = v.queue; futures = v.futures; tasks = v.tasks }
      → IsInStep task c (record old { parts = v }) (in_loop (book (λ p. (request by id p).booked)) s)
  requests_so by task id c old s v h after appended frame = record {
    stands =
        stands_on None (Some task) c old s v (book (λ p. (request by id p).booked)) h.stands
        (kept_request h.stands.name_map old.parts v s.loop.parts h.stands.keeps by id (record {
          parts = after;
          queue = appended;
          time = ap (λ (x : View). x.time) frame;
          schedule = ap (λ (x : View). x.schedule) frame;
        }))
        (leaves_request by id s.loop.parts) (spares_none s.loop.parts (named_in a s)) (refl, (refl, refl)) (below_appended old.parts.queue v.queue appended)
        (ap (λ (x : View). x.profile) frame);
    called = ap (λ (x : View). x.called) frame ∙ h.called;
    running = ap (λ (x : View). x.running) frame ∙ h.running;
  }
