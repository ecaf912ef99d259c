use Rattle.std.proofs.Common.{refl, sym, subst, ◌∙◌, ℕ, List, []}
use Rattle.algorithm_parts.specs.declared.walk.WalkFrame.{WalkFrame}
use Rattle.algorithm_parts.specs.declared.walk.Go.{Go}
use Rattle.algorithm_parts.specs.declared.walk.Go.TheVariants.{Visit, Answer}
use Rattle.algorithm_parts.specs.Open.{CanWalk}
use Rattle.algorithm_parts.specs.Seek.{CanSeek}
use Rattle.algorithm_parts.proofs.RoomLemmas.{walk_begins}
use Rattle.algorithm_parts.proofs.SeekLemmas.{seek_begins, seek_found, seek_over}
use Rattle.aio_cancel.specs.Awaitables.{parts}
use Rattle.aio_cancel.specs.Noted.{noted}
use Rattle.aio_cancel.proofs.cycle.search.Goals as goal

pub loop-go-init : goal.loop-go-init
loop-go-init c =
    let a = c.args in
    record {
      seeks = rw (c.requires.room.empty, c.requires.room.unseen) (seek_begins (parts a.body.now) a.from a.to (noted a.notes.now) c.requires.room.unnoted);
      walks =
          rw c.requires.room.empty
          (walk_begins a.stack.now.room a.seen.now.tasks a.from (parts a.body.now) c.requires.no_cycle c.requires.room.fits c.requires.room.marked);
      room = refl;
      marks = refl;
    }

pub returns-then-id-to-clause-answer : goal.returns-then-id-to-clause-answer
returns-then-id-to-clause-answer c =
    let a = c.args in
    let l = c.loop-go in
    let p = parts a.body.now in
    sym (seek_found p a.from a.to l.seen.visited (noted l.notes) l.stack.frames
    (subst (λ (id : ℕ). CanSeek p a.from a.to l.seen.visited (noted l.notes) (Visit id) l.stack.frames) c.if-id-to.true
    (subst (λ (go : Go). CanSeek p a.from a.to l.seen.visited (noted l.notes) go l.stack.frames) c.in-Visit.is l.invariant.seeks))
    c.requires.differ)

pub returns-in-None-clause-answer : goal.returns-in-None-clause-answer
returns-in-None-clause-answer c =
    let a = c.args in
    let l = c.loop-go in
    let p = parts a.body.now in
    sym (seek_over p a.from a.to l.seen.visited (noted l.notes) c.in-Answer.field-0
    (subst (λ (frames : List WalkFrame). CanSeek p a.from a.to l.seen.visited (noted l.notes) (Answer c.in-Answer.field-0) frames)
    c.in-None.ensures.frames.0
    (subst (λ (go : Go). CanSeek p a.from a.to l.seen.visited (noted l.notes) go l.stack.frames) c.in-Answer.is l.invariant.seeks)))

pub loop-go-preserved : goal.loop-go-preserved
loop-go-preserved c =
    let a = c.args in
    let l = c.loop-go in
    let p = parts a.body.now in
    record {
      seeks =
          c.after.ensures.seeks p a.from a.to c.in-Answer.field-0 l.seen.visited (noted l.notes) c.pop.new.self.frames
          (subst (λ (frames : List WalkFrame). CanSeek p a.from a.to l.seen.visited (noted l.notes) (Answer c.in-Answer.field-0) frames)
          c.in-Some.ensures.frames
          (subst (λ (go : Go). CanSeek p a.from a.to l.seen.visited (noted l.notes) go l.stack.frames) c.in-Answer.is l.invariant.seeks));
      walks =
          rw c.pop.ensures.room
          (c.after.ensures.walks p l.stack.room l.seen.tasks c.in-Answer.field-0 c.pop.new.self.frames
          (subst (λ (frames : List WalkFrame). CanWalk l.stack.room l.seen.tasks (Answer c.in-Answer.field-0) frames [] p)
          c.in-Some.ensures.frames
          (subst (λ (go : Go). CanWalk l.stack.room l.seen.tasks go l.stack.frames [] p) c.in-Answer.is l.invariant.walks)));
      room = c.pop.ensures.room ∙ l.invariant.room;
      marks = l.invariant.marks;
    }
