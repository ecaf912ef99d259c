-- A task that a script makes.
use Rattle.std.proofs.Common.{◌≡◌, ℕ, ◌+◌, ◌^◌, ◌<◌, List, [], ◌∷◌, Some, length, ◌∙◌, refl, sym, ap, subst, arith}
use Rattle.model_value.specs.Value.{Value}
use Rattle.model_value.specs.declared.action.Action.TheVariants.{Step}
use Rattle.model_loop.specs.Loop.{in_parts}
use Rattle.model_loop.specs.Parts.{Parts}
use Rattle.model_loop.specs.Tasks.{next_task, spawn}
use Rattle.model_machine.specs.State.{State, unbooked_in, with_coroutine}
use Rattle.law_replies.proofs.Counts.{own_there}
use Rattle.refine_parts.proofs.Calls.{kept_spawn}
use Rattle.aio_ready.specs.Queue as queue
use Rattle.aio_task.specs.Keeps.{Kept}
use Rattle.aio_task.specs.View.{View, parts}
use Rattle.aio_group.specs.Held.{Held}
use Rattle.aio_extra.specs.Added.{Added}
use Rattle.aio_body.specs.Asked.{IsGoing, IsInStep}
use Rattle.aio_body.specs.Slots.{HoldsMore}
use Rattle.aio_body.specs.Stands.{AreBlocks, Context}
use Rattle.aio_body.specs.declared.run_state.RunState.{RunState}
use Rattle.aio_body.proofs.Blocks.{blocks_on}
use Rattle.aio_body.proofs.Slotting.{runs_no_other}
use Rattle.aio_body.proofs.Spawned.{LeavesMore, leaves_spawn, stands_made}
use Rattle.aio_body.proofs.HasSlot.{within_going}

module _ {X : Type 0} {a : Added X} where
  pub spawns_so : (task coroutine : ℕ) (arguments : List Value) (c : Context a) (old held : RunState X) (s : State a.Kept) (v : View) → IsGoing task c old s
      → HoldsMore coroutine arguments old held → length old.slots.items + 1 < 2 ^ 32
      → parts v ≡ spawn (parts held.parts) → v.queue ≡ queue.soon (Step (length held.parts.tasks)) held.parts.queue
      → v ≡ record held.parts { queue = v.queue; futures = v.futures; tasks = v.tasks }
      → IsInStep task c (record held { parts = v }) (with_coroutine coroutine arguments (unbooked_in spawn s))
  spawns_so task coroutine arguments c old held s v h holds few after queued frame = record {
    stands =
        stands_made (Some task) c old held s v held.groups (in_parts spawn) coroutine arguments h.in_step.stands kept more blocks below holds few
        (ap (λ (x : View). x.profile) frame ∙ ap (λ (x : View). x.profile) same) refl
        (runs_no_other task (next_task p) (λ same. let within = within_going task c old s h in omega (arith, within, same)));
    called = ap (λ (x : View). x.called) frame ∙ ap (λ (x : View). x.called) same ∙ h.in_step.called;
    running = ap (λ (x : View). x.running) frame ∙ ap (λ (x : View). x.running) same ∙ h.in_step.running;
  }
    where
      p : Parts
      p = s.loop.parts

      same : held.parts ≡ old.parts
      same = ap (λ (b : RunState X). b.parts) holds.frame

      kept : Kept h.in_step.stands.name_map p v (spawn p)
      kept = kept_spawn h.in_step.stands.name_map old.parts v p h.in_step.stands.keeps (record {
        parts = after ∙ ap (λ x. spawn (parts x)) same;
        queue = (Step (length held.parts.tasks) ∷ [], queued ∙ ap (λ (x : View). queue.soon (Step (length held.parts.tasks)) x.queue) same);
        time = ap (λ (x : View). x.time) frame ∙ ap (λ (x : View). x.time) same;
        schedule = ap (λ (x : View). x.schedule) frame ∙ ap (λ (x : View). x.schedule) same;
      })

      more : LeavesMore p (spawn p)
      more = leaves_spawn p (own_there p h.sound.others.loop.parts.owns)

      blocks : AreBlocks kept.name_map old.timeouts held.groups (in_parts spawn s.loop)
      blocks =
          subst (λ (groups : List Held). AreBlocks kept.name_map old.timeouts groups (in_parts spawn s.loop))
          (sym (ap (λ (b : RunState X). b.groups) holds.frame))
          (blocks_on h.in_step.stands.name_map kept.name_map old.timeouts old.groups s.loop
          (in_parts spawn s.loop) kept.extends more.goes_on refl refl h.in_step.stands.blocks)

      below : length v.queue.below ≡ length old.parts.queue.below
      below = ap (λ (q : queue.Queue). length q.below) queued ∙ ap (λ (x : View). length x.queue.below) same
