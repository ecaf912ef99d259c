use Rattle.std.proofs.Common.{sym, ap, ◌∙◌, true, false, slice_get}
use Rattle.model_value.specs.declared.outcome.Outcome.TheVariants.{Cancelled}
use Rattle.algorithm_parts.specs.declared.walk.FutureState.TheVariants as stands
use Rattle.algorithm_parts.specs.Walk.{resume}
use Rattle.algorithm_parts.proofs.WalkLemmas.{visited_as}
use Rattle.algorithm_parts.proofs.WeightLemmas.{weigh_answer, weigh_settle, weigh_many}
use Rattle.algorithm_parts.proofs.RoomLemmas.{walk_settles, walk_opens}
use Rattle.algorithm_parts.proofs.QuietLemmas.{sound_later, settled_later, stage_plain, again_is}
use Rattle.aio_cancel.specs.Noted.{noted}
use Rattle.aio_cancel.specs.Awaitables.{parts}
use Rattle.aio_cancel.proofs.walk.visit.Goals as goal

pub returns-in-OfTask-clause-same : goal.returns-in-OfTask-clause-same
returns-in-OfTask-clause-same c =
    let a = c.args in
    c.visit_task.ensures.same
    ∙ sym (ap (resume a.stack.now.frames)
    (visited_as a.id a.seen.now.visited (parts a.body.now) (stands.OfTask c.in-OfTask.task) c.in-OfTask.ensures))

pub returns-in-Done-clause-falls : goal.returns-in-Done-clause-falls
returns-in-Done-clause-falls c = weigh_answer c.args.id false c.args.stack.now.frames c.args.seen.now.visited (parts c.args.body.now)

pub returns-in-Plain-clause-falls : goal.returns-in-Plain-clause-falls
returns-in-Plain-clause-falls c =
    weigh_settle c.args.id true c.args.stack.now.frames c.args.seen.now.visited (parts c.args.body.now) (parts c.settle.new.self)
    Cancelled c.settle.ensures.after

pub returns-in-Plain-clause-walks : goal.returns-in-Plain-clause-walks
returns-in-Plain-clause-walks c =
    let a = c.args in
    walk_settles a.stack.now.room a.seen.now.tasks a.id a.stack.now.frames a.seen.now.visited (parts a.body.now)
    (parts c.settle.new.self) true c.requires.can c.in-Plain.ensures c.settle.ensures.after

pub returns-in-None-clause-same : goal.returns-in-None-clause-same
returns-in-None-clause-same c =
    let a = c.args in
    sym (ap (resume a.stack.now.frames) (visited_as a.id a.seen.now.visited (parts a.body.now) stands.Many c.in-Many.ensures))

pub returns-in-None-clause-falls : goal.returns-in-None-clause-falls
returns-in-None-clause-falls c = weigh_many c.args.id false c.args.stack.now.frames c.args.seen.now.visited (parts c.args.body.now)

pub returns-in-None-clause-walks : goal.returns-in-None-clause-walks
returns-in-None-clause-walks c =
    let a = c.args in
    walk_opens a.stack.now.room a.seen.now.tasks a.id a.stack.now.frames a.seen.now.visited (parts a.body.now) false c.requires.can
    c.in-Many.ensures

pub returns-in-Some-clause-same : goal.returns-in-Some-clause-same
returns-in-Some-clause-same c =
    sym (ap (resume c.args.stack.now.frames) (again_is (c.requires.sound c.args.id c.in-Some.again (sym c.in-Some.ensures))))

pub returns-in-Some-clause-falls : goal.returns-in-Some-clause-falls
returns-in-Some-clause-falls c =
    weigh_answer c.args.id c.in-Some.again c.args.stack.now.frames c.args.seen.now.visited (parts c.args.body.now)

pub returns-in-OfTask-clause-sound : goal.returns-in-OfTask-clause-sound
returns-in-OfTask-clause-sound c =
    let a = c.args in
    sound_later a.seen.now.visited (parts a.body.now) c.visit_task.new.seen.visited (parts c.visit_task.new.body) (noted a.notes.now)
    c.visit_task.ensures.later c.requires.sound

pub returns-in-Plain-clause-sound : goal.returns-in-Plain-clause-sound
returns-in-Plain-clause-sound c =
    let a = c.args in
    rw c.settle.ensures.after
    (sound_later a.seen.now.visited (parts a.body.now) a.seen.now.visited _ (noted a.notes.now)
    (settled_later a.seen.now.visited (parts a.body.now) a.id (stage_plain (slice_get a.body.now.futures a.id) c.in-Plain.ensures))
    c.requires.sound)
