-- Requests that change tasks' counts and events.
use Rattle.std.proofs.Common.{◌≡◌, ℕ, ◌≤◌, [], Some, None, length, ◌∙◌, refl, sym, ap, subst}
use Rattle.std.proofs.Math.Logic.{∥∥₁_elim}
use Rattle.std.specs.Coded.{le_prop}
use Rattle.model_value.specs.Number.{most}
use Rattle.model_wire.specs.Event.{Event}
use Rattle.model_loop.specs.Ledger.{Origin, ByEnd}
use Rattle.model_loop.specs.Loop.{take_one_back}
use Rattle.model_loop.specs.Parts.{Profile, profile_named}
use Rattle.model_loop.specs.Tasks.{cancelling, uncancel}
use Rattle.model_machine.specs.State.{State, in_loop, noted}
use Rattle.aio_wire.specs.EventList.{EventList}
use Rattle.aio_wire.specs.Events.{pushed}
use Rattle.aio_task.specs.View.{View, parts}
use Rattle.aio_extra.specs.Added.{Added, named_in}
use Rattle.aio_body.specs.declared.run_state.RunState.{RunState}
use Rattle.aio_body.specs.Asked.{IsInStep, SomeGoes}
use Rattle.aio_body.specs.Stands.{Context, Possible}
use Rattle.aio_body.proofs.Kept.{kept_uncancel}
use Rattle.aio_body.proofs.Lasting.{spares_none, stands_on}
use Rattle.aio_body.proofs.Left.{leaves_uncancel}
use Rattle.aio_body.proofs.Noting.{stands_noted}
use Rattle.aio_serve.proofs.Reading.{count_read}

module _ {X : Type 0} {a : Added X} where
  -- an uncancel
  pub uncancels_so : (by : Origin) (task other : ℕ) (c : Context a) (old : RunState X) (s : State a.Kept) (v : View) → IsInStep task c old s
      → parts v ≡ uncancel (profile_named old.parts.profile) other (parts old.parts) → v ≡ record old.parts { tasks = v.tasks }
      → IsInStep task c (record old { parts = v }) (in_loop (take_one_back by other) s)
  uncancels_so by task other c old s v h after frame = record {
    stands =
        stands_on None (Some task) c old s v (take_one_back by other) h.stands
        (kept_uncancel h.stands.name_map old.parts v s.loop.parts h.stands.keeps s.loop.profile other (record {
          parts = after ∙ ap (λ (r : Profile). uncancel r other (parts old.parts)) (sym h.stands.profile.rules);
          queue = ([], ap (λ (x : View). x.queue) frame);
          time = ap (λ (x : View). x.time) frame;
          schedule = ap (λ (x : View). x.schedule) frame;
        }))
        (leaves_uncancel s.loop.profile other s.loop.parts) (spares_none s.loop.parts (named_in a s)) (refl, (refl, refl)) (ap (λ (x : View). length x.queue.below) frame)
        (ap (λ (x : View). x.profile) frame);
    called = ap (λ (x : View). x.called) frame ∙ h.called;
    running = ap (λ (x : View). x.running) frame ∙ h.running;
  }

  pub few_left : (old : RunState X) (v : View) → Possible a SomeGoes old → (other : ℕ)
      → parts v ≡ uncancel (profile_named old.parts.profile) other (parts old.parts)
      → v ≡ record old.parts { tasks = v.tasks } → (task : ℕ) → cancelling (parts v) task ≤ most
  few_left old v m other after frame task =
      ∥∥₁_elim m le_prop (λ w.
      let now = uncancels_so ByEnd w.1.1.0 other w.0 old w.1.0 v w.1.1.1.in_step after frame in
      subst (λ n. n ≤ most) (sym (count_read (Some w.1.1.0) w.0 (record old { parts = v }) (in_loop (take_one_back ByEnd other) w.1.0) now.stands task))
      (now.stands.counts task))

  -- one event more
  pub notes_so : (task : ℕ) (it : Event) (c : Context a) (old : RunState X) (s : State a.Kept) (events : EventList) → events ≡ pushed old.events it
      → IsInStep task c old s → IsInStep task c (record old { events = events }) (noted it s)
  notes_so task it c old s events e h = record {
    stands = stands_noted (Some task) c old s it events e h.stands;
    called = h.called;
    running = h.running;
  }
