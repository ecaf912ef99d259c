use Rattle.std.proofs.Common.{◌∙◌, sym, ap, refl, List, ℕ, [], ◌≡◌, Bool, Option, Some, None, subst}
use Rattle.algorithm_parts.specs.declared.walk.WalkFrame.{WalkFrame}
use Rattle.algorithm_parts.specs.declared.walk.Go.{Go}
use Rattle.algorithm_parts.specs.declared.walk.Go.TheVariants.{Visit, Answer}
use Rattle.algorithm_parts.specs.Walk.{run}
use Rattle.algorithm_parts.specs.Open.{CanWalk}
use Rattle.algorithm_parts.proofs.QuietLemmas.{sound_later}
use Rattle.algorithm_parts.proofs.RoomLemmas.{walk_begins}
use Rattle.aio_cancel.specs.Noted.{noted}
use Rattle.aio_cancel.specs.Awaitables.{parts}
use Rattle.aio_cancel.proofs.PartsLemmas.{nothing_appended, appended_on}
use Rattle.aio_cancel.proofs.walk.cancel.Goals as goal

none_some : (o : Option Bool) (again : Bool) → o ≡ None → o ≡ Some again → ⊥
none_some o again a b = absurd (cc)

pub loop-go-init : goal.loop-go-init
loop-go-init c =
    let a = c.args in
    record {
      walks =
          rw (c.requires.room.empty, c.requires.room.unseen)
          (walk_begins a.stack.now.room a.seen.now.tasks a.target (parts a.body.now) c.requires.no_cycle c.requires.room.fits c.requires.room.marked);
      same =
          ap (λ (frames : List WalkFrame). run (Visit a.target) frames a.seen.now.visited (parts a.body.now)) c.requires.room.empty
          ∙ ap (λ (visited : List ℕ). run (Visit a.target) [] visited (parts a.body.now)) c.requires.room.unseen;
      sound = λ id again e. absurd (none_some (noted a.notes.now id) again (c.requires.room.unnoted id) e);
      queue = nothing_appended a.body.now.queue a.body.now.queue refl;
      room = refl;
      marks = refl;
    }

pub loop-go-preserved-in-Visit : goal.loop-go-preserved-in-Visit
loop-go-preserved-in-Visit c =
    let l = c.loop-go in
    record {
      walks = c.visit-go.ensures.walks;
      sound = c.visit-go.ensures.sound;
      same =
          c.visit-go.ensures.same
          ∙ sym (ap (λ (go : Go). run go l.stack.frames l.seen.visited (parts l.body)) c.in-Visit.is)
          ∙ l.invariant.same;
      queue = appended_on c.args.body.now.queue l.body.queue c.visit-go.new.body.queue l.invariant.queue c.visit-go.ensures.queue;
      room = c.visit-go.ensures.room ∙ l.invariant.room;
      marks = c.visit-go.ensures.marks ∙ l.invariant.marks;
    }

pub loop-go-preserved : goal.loop-go-preserved
loop-go-preserved c =
    let l = c.loop-go in
    record {
      walks =
          rw c.pop.ensures.room
          (c.back.ensures.walks l.stack.room l.seen.tasks l.seen.visited c.pop.new.self.frames
          (subst (λ (frames : List WalkFrame). CanWalk l.stack.room l.seen.tasks (Answer c.in-Answer.answer) frames l.seen.visited (parts l.body))
          c.in-Some.ensures.frames
          (subst (λ (go : Go). CanWalk l.stack.room l.seen.tasks go l.stack.frames l.seen.visited (parts l.body))
          c.in-Answer.is l.invariant.walks)));
      same =
          c.back.ensures.same l.seen.visited c.pop.new.self.frames
          ∙ sym (ap (λ (frames : List WalkFrame). run (Answer c.in-Answer.answer) frames l.seen.visited (parts l.body)) c.in-Some.ensures.frames)
          ∙ sym (ap (λ (go : Go). run go l.stack.frames l.seen.visited (parts l.body)) c.in-Answer.is)
          ∙ l.invariant.same;
      sound =
          sound_later l.seen.visited (parts l.body) l.seen.visited (parts c.back.new.body) (noted l.notes)
          (c.back.ensures.later l.seen.visited) l.invariant.sound;
      queue =
          appended_on c.args.body.now.queue l.body.queue c.back.new.body.queue l.invariant.queue
          (nothing_appended l.body.queue c.back.new.body.queue c.back.ensures.queue);
      room = c.pop.ensures.room ∙ l.invariant.room;
      marks = l.invariant.marks;
    }
