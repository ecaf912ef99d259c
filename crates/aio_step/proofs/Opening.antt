-- A step begins, as a whole: what the parts, the slot and the machine come to.
use Rattle.std.proofs.Common.{◌≡◌, ℕ, Bool, true, false, Option, Some, None, length, slice_get, ◌∙◌, refl, sym, ap, if◌then◌else◌}
use Rattle.std.proofs.lemmas.List.{length-map}
use Rattle.std.specs.Prelude.{is_some}
use Rattle.model_value.specs.Input.{Input}
use Rattle.model_value.specs.Value.{Outcome}
use Rattle.model_loop.specs.Futures.{is_pending_at, outcome_at}
use Rattle.model_loop.specs.Handles.{revoke}
use Rattle.model_loop.specs.Loop.{in_parts}
use Rattle.model_loop.specs.Owning.{OwnsFutures}
use Rattle.model_loop.specs.Parts.{Future, Task, Parts}
use Rattle.model_loop.specs.Tasks.{begin_step, set_waiter, clear_must_cancel, waiter_of}
use Rattle.model_machine.specs.Step.{given_up}
use Rattle.aio_timer.specs.Schedule as schedule
use Rattle.aio_ready.specs.declared.handle.HandleName.TheVariants as name
use Rattle.model_machine.specs.State as plain
use Rattle.model_machine.specs.State.{State, unbooked_in}
use Rattle.aio_ready.specs.Queue as queue
use Rattle.aio_ready.specs.Queue.{Queue}
use Rattle.aio_ready.specs.Names.{marked}
use Rattle.aio_ready.specs.declared.handle.HandleName.{HandleName}
use Rattle.aio_task.specs.View.{View}
use Rattle.aio_extra.specs.Added.{Added, named_in}
use Rattle.aio_body.specs.declared.run_state.RunState.{RunState}
use Rattle.aio_body.specs.declared.resume_point.ResumePoint.{ResumePoint}
use Rattle.aio_body.specs.declared.resume_point.ResumePoint.TheVariants.{Asked, Sleeping, Leaving, Serving, Connecting, Yielding, Reading, ReadingAll}
use Rattle.aio_body.specs.GivingUp.{given_up_in, release_if, timer_cancelled}
use Rattle.aio_body.specs.Stands.{Context, Stands, StandsAt}
use Rattle.aio_step.proofs.Beginning.{change_revoke, stands_released}
use Rattle.refine_parts.proofs.Telling.{pending_kept}
use Rattle.aio_body.proofs.Kept.{kept_revoked}
use Rattle.aio_body.proofs.Left.{leaves_revoke}
use Rattle.aio_body.proofs.Lasting.{own_on, spares_none, stands_on}

-- ---- the machine
pub begin_revoke : (task : ℕ) (input : Input) (tag : ℕ) (p : Parts) → (begin_step task input (revoke tag p)).parts ≡ revoke tag (begin_step task input p).parts
begin_revoke task input tag p =
    ap (λ q. cleared q) (change_revoke task waits_no_more tag p) ∙ change_revoke task no_must_cancel tag (waiting p)
  where
    waits_no_more : Task → Task
    waits_no_more it = record it { waiter = None }

    no_must_cancel : Task → Task
    no_must_cancel it = record it { must_cancel = false }

    waiting : Parts → Parts
    waiting q = set_waiter task None q

    cleared : Parts → Parts
    cleared q = clear_must_cancel task q

-- ---- the view
pub below_cancelled : (b : Bool) (name : HandleName) (q : Queue) → length (if b then q else queue.cancelled name q).below ≡ length q.below
below_cancelled true name q = refl
below_cancelled false name q = length-map q.below (marked name)

done_at : (o : Option Future) → is_some (outcome_at o) ≡ true → is_pending_at o ≡ false
done_at None e = absurd (cc)
done_at (Some future) e = at future.outcome e
  where
    at : (o : Option Outcome) → is_some o ≡ true → is_pending_at (Some (record future { outcome = o })) ≡ false
    at None e = absurd (cc)
    at (Some it) e = refl

module _ {X : Type 0} {a : Added X} where
  -- A state in which the task waits for nothing: what it stood at is given up, in code and in the machine.
  pub gives_up : (c : Context a) (body : RunState X) (s : State a.Kept) (task : ℕ) (code : ResumePoint) (resume_point : plain.ResumePoint)
      → (h : Stands None c body s)
      → OwnsFutures s.loop.parts → StandsAt h.name_map s.loop.parts (named_in a s) task code resume_point → waiter_of s.loop.parts task ≡ None
      → Stands None c (record body { parts = given_up_in code body.parts }) (unbooked_in (given_up resume_point) s)
  gives_up c body s task Asked plain.Asked h owns at none = h
  gives_up c body s task (Leaving group) (plain.Leaving id) h owns at none = h
  gives_up c body s task (Serving key) (plain.Serving kept) h owns at none = h
  gives_up c body s task (Yielding whom) (plain.Yielding drained) h owns at none = h
  gives_up c body s task (Reading from op on) (plain.Reading source asked future) h owns at none = h
  gives_up c body s task (ReadingAll from taken on) (plain.ReadingAll source had future) h owns at none = h
  gives_up c body s task (Sleeping timer future) (plain.Sleeping tag) h owns at none = go (is_some (outcome_at (slice_get body.parts.futures future))) refl
    where
      p : Parts
      p = s.loop.parts

      cancelled : View
      cancelled = timer_cancelled timer body.parts

      revoked : Stands None c (record body { parts = cancelled }) (unbooked_in (revoke tag) s)
      revoked =
          stands_on None None c body s cancelled (in_parts (revoke tag)) h (kept_revoked h.name_map body.parts p h.keeps tag timer at.0) (leaves_revoke tag p)
          (spares_none p (named_in a s)) (refl, (refl, refl))
          (below_cancelled (schedule.lives timer body.parts.schedule.live) (name.Timer timer.number) body.parts.queue) refl

      go : (b : Bool) → is_some (outcome_at (slice_get body.parts.futures future)) ≡ b
          → Stands None c (record body { parts = release_if b future cancelled }) (unbooked_in (revoke tag) s)
      go false e = revoked
      go true e =
          stands_released None c (record body { parts = cancelled }) (unbooked_in (revoke tag) s) task future revoked owns
          (own_on None p (revoke tag p) (named_in a s) (Some task) future (leaves_revoke tag p) (spares_none p (named_in a s)) at.1) none
          (sym (pending_kept h.name_map body.parts p h.keeps future) ∙ done_at (slice_get body.parts.futures future) e)
  gives_up c body s task (Connecting conn future) (plain.Connecting id) h owns at none = go (is_some (outcome_at (slice_get body.parts.futures future))) refl
    where
      go : (b : Bool) → is_some (outcome_at (slice_get body.parts.futures future)) ≡ b
          → Stands None c (record body { parts = release_if b future body.parts }) s
      go false e = h
      go true e =
          stands_released None c body s task future h owns at.1 none
          (sym (pending_kept h.name_map body.parts s.loop.parts h.keeps future) ∙ done_at (slice_get body.parts.futures future) e)
  gives_up c body s task _ _ h owns at none = absurd at
