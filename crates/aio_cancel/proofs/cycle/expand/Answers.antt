use Rattle.std.proofs.Common.{sym, ap, false}
use Rattle.algorithm_parts.specs.Open.{passing}
use Rattle.algorithm_parts.proofs.WeightLemmas.{weigh_answer}
use Rattle.algorithm_parts.proofs.SeekLemmas.{seek_leaf, passes_done}
use Rattle.aio_cancel.specs.Awaitables.{parts}
use Rattle.aio_cancel.specs.Noted.{noted}
use Rattle.aio_cancel.proofs.cycle.expand.Goals as goal

pub returns-in-Done-clause-seeks : goal.returns-in-Done-clause-seeks
returns-in-Done-clause-seeks c = λ from to frames can ne.
    seek_leaf (parts c.args.body.now) from to c.args.id c.args.seen.now.visited (noted c.args.notes.now) false frames can ne
    (passes_done (parts c.args.body.now) c.args.id (sym (ap passing c.in-Done.ensures)))

pub returns-in-Done-clause-falls : goal.returns-in-Done-clause-falls
returns-in-Done-clause-falls c = λ frames. weigh_answer c.args.id false frames c.args.seen.now.visited (parts c.args.body.now)

pub returns-in-Plain-clause-seeks : goal.returns-in-Plain-clause-seeks
returns-in-Plain-clause-seeks c = λ from to frames can ne.
    seek_leaf (parts c.args.body.now) from to c.args.id c.args.seen.now.visited (noted c.args.notes.now) false frames can ne
    (passes_done (parts c.args.body.now) c.args.id (sym (ap passing c.in-Plain.ensures)))

pub returns-in-Plain-clause-falls : goal.returns-in-Plain-clause-falls
returns-in-Plain-clause-falls c = λ frames. weigh_answer c.args.id false frames c.args.seen.now.visited (parts c.args.body.now)

pub returns-in-OfTask-clause-seeks : goal.returns-in-OfTask-clause-seeks
returns-in-OfTask-clause-seeks c = λ from to frames can ne.
    c.expand_task.ensures.seeks from to frames (noted c.args.notes.now) can ne

pub returns-in-Many-clause-seeks : goal.returns-in-Many-clause-seeks
returns-in-Many-clause-seeks c = λ from to frames can ne.
    c.expand_many.ensures.seeks (parts c.args.body.now) from to c.args.seen.now.visited frames c.in-Many.ensures can ne

pub returns-in-Many-clause-walks : goal.returns-in-Many-clause-walks
returns-in-Many-clause-walks c = λ room marks frames can.
    c.expand_many.ensures.walks (parts c.args.body.now) room marks frames c.in-Many.ensures can

pub returns-in-Many-clause-falls : goal.returns-in-Many-clause-falls
returns-in-Many-clause-falls c = λ frames.
    c.expand_many.ensures.falls (parts c.args.body.now) c.args.seen.now.visited frames
