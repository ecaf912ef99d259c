use Rattle.std.proofs.Common.{ℕ, ◌+◌, ◌<◌, ◌++◌, [], ◌∷◌, None, length, slice_get, ap, subst, sym, ◌∙◌}
use Rattle.model_value.specs.declared.action.Action.TheVariants.{SleepDone}
use Rattle.model_loop.specs.Futures.{is_pending_at}
use Rattle.model_loop.specs.Parts.{Future, Plain}
use Rattle.law_cancel.proofs.Lookups.{get-push_last}
use Rattle.refine_parts.proofs.Telling.{next_kept}
use Rattle.aio_timer.specs.Schedule.{placed_after, timer}
use Rattle.aio_body.specs.declared.run_state.RunState.{RunState}
use Rattle.aio_body.specs.declared.resume_point.ResumePoint.TheVariants.{Sleeping}
use Rattle.aio_body.specs.Slots.{resume_point_at}
use Rattle.aio_body.proofs.Asleep.{sleeps_so}
use Rattle.aio_body.proofs.May.{idle_of, running_of}
use Rattle.aio_body.proofs.Sound.{plain_named}
use Rattle.aio_body.proofs.HasSlot.{slot_there, within_going}
use Rattle.aio_serve.proofs.waiting.sleep_for.Goals as goal

pub suspend-suspension-requires-clause-idle : goal.suspend-suspension-requires-clause-idle
suspend-suspension-requires-clause-idle g c =
    ap (λ (b : RunState _). b.parts.called) c.in_ok-timer.ensures.after ∙ idle_of c.args.task c.args.body.now c.requires

pub suspend-suspension-requires-clause-running : goal.suspend-suspension-requires-clause-running
suspend-suspension-requires-clause-running g c =
    ap (λ (b : RunState _). b.parts.running) c.in_ok-timer.ensures.after ∙ running_of c.args.task c.args.body.now c.requires

pub suspend-suspension-requires-clause-pending : goal.suspend-suspension-requires-clause-pending
suspend-suspension-requires-clause-pending g c =
    let old = c.args.body.now in
    let made : Future = record { kind = Plain; outcome = None; callbacks = [] } in
    ap (λ (b : RunState _). is_pending_at (slice_get b.parts.futures c.in_ok-timer.future)) c.in_ok-timer.ensures.after
    ∙ ap (λ n. is_pending_at (slice_get (old.parts.futures ++ made ∷ []) n)) c.in_ok-timer.ensures.number
    ∙ ap is_pending_at (get-push_last old.parts.futures made)

pub stand_far-requires : goal.stand_far-requires
stand_far-requires g c =
    subst (λ (b : RunState _). c.args.task < length b.slots.items) (sym c.in_ok-timer.ensures.after)
    (slot_there c.args.task c.args.body.now c.requires)

pub returns : goal.returns
returns g c at s h =
    let old = c.args.body.now in
    let task = c.args.task in
    let p = s.loop.parts in
    let made = c.in_ok-timer.ensures in
    let id = c.in_ok-timer.timer in
    let future = c.in_ok-timer.future in
    let v = c.alarm.new.body.parts in
    let w = c.suspend-suspension.new.self in
    let stands = h.in_step.stands in
    let alarm =
    ap (λ (b : RunState _). b.parts) made.after
    ∙ ap (λ (n : ℕ). record old.parts {
      futures = old.parts.futures ++ record { kind = Plain; outcome = None; callbacks = [] } ∷ [];
      schedule = record { live = placed_after (timer id (SleepDone task n)) old.parts.schedule.live; next = old.parts.schedule.next + 1 };
    }) made.number in
    sleeps_so task c.args.delay at old c.stand_far.new.self s v w id future h.in_step h.sound.others.loop.parts.owns
    (plain_named g.X.Extra.added.meaning task s h.sound) h.sound.others.streams
    h.sound.others.kept.own h.sound.others.loop.parts.waits_made (within_going task at old s h) made.number made.id (next_kept stands.name_map old.parts p stands.keeps) alarm
    c.suspend-suspension.ensures.after c.suspend-suspension.ensures.queue c.suspend-suspension.ensures.frame
    (c.in_ok-stand_far.ensures.frame ∙ ap (λ (b : RunState _). record b { parts = w; slots = c.stand_far.new.self.slots }) made.after)
    (c.in_ok-stand_far.ensures.slots ∙ ap (λ (b : RunState _). resume_point_at task (Sleeping id future) b.slots.items) made.after)
