-- What a request comes to after its call: it answers, it raises, or its task waits for a future that was made.
use Rattle.std.proofs.Common.{◌≡◌, ℕ, ◌<◌, List, ◌++◌, Option, Some, None, Ok, Err, length, ◌∙◌, refl, sym, ap, subst}
use Rattle.model_value.specs.Action.{Action}
use Rattle.model_value.specs.Value.{Exc, Value}
use Rattle.model_wire.specs.Event.{Event}
use Rattle.model_loop.specs.Parts.{Parts}
use Rattle.model_machine.specs.Replies as plain
use Rattle.model_machine.specs.Replies.{waits}
use Rattle.model_machine.specs.State as state
use Rattle.model_machine.specs.State.{State, stands}
use Rattle.aio_wire.specs.EventList.{EventList}
use Rattle.aio_wire.specs.Outside.{Outside}
use Rattle.aio_wire.specs.Port.{ported}
use Rattle.aio_wire.specs.declared.stop.Stop.TheVariants as stop
use Rattle.aio_exchange.specs.Exchanged.{Exchange}
use Rattle.law_cases.specs.Trees.{IsMade}
use Rattle.aio_task.specs.Keeps.{NameMap}
use Rattle.aio_task.specs.View.{View, stepped}
use Rattle.aio_extra.specs.Added.{Added, named_in}
use Rattle.aio_body.specs.declared.run_state.RunState.{RunState}
use Rattle.aio_body.specs.declared.reply.RequestReply.TheVariants as said
use Rattle.aio_body.specs.Asked.{HasSuspended, IsInStep, Says}
use Rattle.aio_body.specs.Asking.{Comes, EventsGrow, Piece, before}
use Rattle.aio_body.specs.Slots.{resume_point_at}
use Rattle.aio_body.specs.Stands.{Context, StandsAt}
use Rattle.aio_body.specs.declared.resume_point.ResumePoint.{ResumePoint}
use Rattle.aio_body.proofs.Slotting.{stands_resume_point}
use Rattle.aio_body.specs.Taken.{IsAfterCallback, IsTaken}
use Rattle.aio_body.proofs.Asking.{HasCome, comes_ends, comes_starved}
use Rattle.refine_streams.specs.Alike.{AddsEvents, LeavesState}
use Rattle.refine_streams.specs.Went.{HasGone, CallsSuspend}

-- ---- whatever it says
module _ {X W M Q : Type 0} {a : Added X} (o : Outside W) (p : Piece a (State a.Kept) M Q) (out : Option ℕ) (old new : RunState X)
    (wire after : W) (Known : (first now : ℕ) → Type 0) (next : State a.Kept → M)
    (come : (had : List Exchange)
    × HasCome o p.from had (ported wire old.events) (ported after new.events) (λ c s. HasGone out Known (p.does s) next c old new s)) where
  -- `last` is the body where it ends
  pub gone_ends : (last : RunState X) (it : Q) → last.events ≡ new.events
      → ((c : Context a) (s : State a.Kept) → p.from (before come.0 c) s → (g : HasGone out Known (p.does s) next c old new s) → p.says c it (next g.now))
      → Comes o p (ported wire old.events) (ported after last.events) (Ok it)
  gone_ends last it events says =
      subst (λ (es : EventList). Comes o p (ported wire old.events) (ported after es) (Ok it)) (sym events)
      (comes_ends o p come.0 (ported wire old.events) (ported after new.events) it (record {
        exchanged = come.1.exchanged;
        told = λ c s from.
            let both = come.1.told c s from in
            (both.0, subst (p.says c it) (sym both.1.does) (says c s from both.1));
      }))

  -- memory is refused after it
  pub gone_starved : (leaves : LeavesState p) → AddsEvents leaves.left next → (last : RunState X)
      → Comes o p (ported wire old.events) (ported after last.events) (Err stop.Memory)
  gone_starved leaves adds last =
      comes_starved o p come.0 (ported wire old.events) (ported after new.events) (ported after last.events) refl (record {
        exchanged = come.1.exchanged;
        told = λ c s from.
            let both = come.1.told c s from in (
              both.0,
              subst (p.begins (c.past ++ new.events.events)) (sym both.1.does)
                  (leaves.begins (c.past ++ new.events.events) (next both.1.now)
                  (subst (λ (events : List Event). EventsGrow events (leaves.left (next both.1.now)).events) both.1.stands.events (adds both.1.now))),
            );
      })

-- ---- after a callback that steps no task
pub callback_so : {X M : Type 0} {a : Added X} (action : Action) (c d : Context a) (old new : RunState X) (s : State a.Kept) → IsTaken action c old s
    → stepped action ≡ None → (Known : (first now : ℕ) → Type 0) (machine : M) (next : State a.Kept → M)
    → (g : HasGone None Known machine next d old new s) → IsAfterCallback d new g.now
callback_so action c d old new s h none Known machine next g = record {
  stands = g.stands;
  called = g.called ∙ h.called ∙ none;
  running = g.running ∙ h.running;
}

-- ---- where a task's step ended
-- What it stands at changes, to what stands so here.
pub stands_at_it : {X : Type 0} {a : Added X} (task : ℕ) (c : Context a) (old new : RunState X) (s : State a.Kept) (code : ResumePoint)
    (resume_point : state.ResumePoint) → (h : HasSuspended task c old s) → StandsAt h.stands.name_map s.loop.parts (named_in a s) task code resume_point
    → new ≡ record old { slots = new.slots } → new.slots.items ≡ resume_point_at task code old.slots.items → task < length old.slots.items
    → HasSuspended task c new (stands resume_point task s)
stands_at_it {X} {a} task c old new s code resume_point h at_it frame items within = record {
  stands = stands_resume_point c old new s task code resume_point h.stands at_it frame items (subst (λ n. task < n) h.stands.made within);
  called = ap (λ (b : RunState X). b.parts.called) frame ∙ h.called;
  running = ap (λ (b : RunState X). b.parts.running) frame ∙ h.running;
}

-- What it stands at changes, to what stands so whatever the parts are.
pub stands_so : {X : Type 0} {a : Added X} (task : ℕ) (c : Context a) (old new : RunState X) (s : State a.Kept) (code : ResumePoint)
    (resume_point : state.ResumePoint)
    → HasSuspended task c old s → ((t : NameMap) (p : Parts) (named : ℕ → Type 0) → StandsAt t p named task code resume_point)
    → new ≡ record old { slots = new.slots } → new.slots.items ≡ resume_point_at task code old.slots.items → task < length old.slots.items
    → HasSuspended task c new (stands resume_point task s)
stands_so {X} {a} task c old new s code resume_point h at_it frame items within =
    stands_at_it task c old new s code resume_point h (at_it h.stands.name_map s.loop.parts (named_in a s)) frame items within

-- ---- a request of the task whose step goes on
module _ {X : Type 0} {a : Added X} (task : ℕ) (c : Context a) (old new : RunState X) (s : State a.Kept) (h : IsInStep task c old s) where
  module _ (Known : (first now : ℕ) → Type 0) (machine : plain.RequestReply a.Kept) (next : State a.Kept → plain.RequestReply a.Kept) (d : Context a)
      (g : HasGone (Some task) Known machine next d old new s) where
    pub goes_in_step : IsInStep task d new g.now
    goes_in_step = record { stands = g.stands; called = g.called ∙ h.called; running = g.running ∙ h.running }

    pub answers_so : (value : Value) → ((t : State a.Kept) → next t ≡ plain.Answers value t) → Says task d new (said.Answers value) (next g.now)
    answers_so value is = subst (Says task d new (said.Answers value)) (sym (is g.now)) (refl, goes_in_step)

    pub raises_so : (fault : Exc) → ((t : State a.Kept) → next t ≡ plain.Raises fault t) → Says task d new (said.Raises fault) (next g.now)
    raises_so fault is = subst (Says task d new (said.Raises fault)) (sym (is g.now)) (refl, goes_in_step)

    -- the task waits for a future that was made
    pub waits_so : (on : ℕ) (v : View) → ((first now : ℕ) → Known first now → IsMade first now on) → CallsSuspend task on new.parts v
        → HasSuspended task d (record new { parts = v }) (waits task on g.now)
    waits_so on v made it = record {
      stands = g.waiting task on v (made _ _ g.made) it;
      called = ap (λ (x : View). x.called) it.frame ∙ g.called ∙ h.called;
      running = ap (λ (x : View). x.running) it.frame;
    }

    pub suspends_so : (on : ℕ) (v : View) → ((first now : ℕ) → Known first now → IsMade first now on) → CallsSuspend task on new.parts v
        → ((t : State a.Kept) → next t ≡ plain.Suspends (waits task on t)) → Says task d (record new { parts = v }) said.Suspends (next g.now)
    suspends_so on v made it is = subst (Says task d (record new { parts = v }) said.Suspends) (sym (is g.now)) (waits_so on v made it)
