use Rattle.std.proofs.Common.{sym, ap, ◌∙◌, false, arith}
use Rattle.std.specs.Option.{option_map}
use Rattle.model_loop.specs.Parts.{Task}
use Rattle.algorithm_parts.proofs.WeightLemmas.{weigh_answer, weigh_on}
use Rattle.algorithm_parts.proofs.SeekLemmas.{seek_seen, seek_no_task, seek_no_waiter, seek_waiter, walk_on}
use Rattle.aio_cancel.specs.Seen.{Marked}
use Rattle.aio_cancel.specs.Awaitables.{parts}
use Rattle.aio_cancel.proofs.PartsLemmas.{task_within, waits_for}
use Rattle.aio_cancel.proofs.cycle.expand_task.Goals as goal

pub returns-then-has-clause-seeks : goal.returns-then-has-clause-seeks
returns-then-has-clause-seeks c = λ from to frames said can ne.
    seek_seen (parts c.args.body.now) from to c.args.id c.args.task c.args.seen.now.visited said frames can ne c.requires.task false
    (sym c.has.ensures ∙ c.if-has.true)

pub returns-then-has-clause-falls : goal.returns-then-has-clause-falls
returns-then-has-clause-falls c = λ frames.
    weigh_answer c.args.id false frames c.args.seen.now.visited (parts c.args.body.now)

pub returns-in_default-clause-seeks : goal.returns-in_default-clause-seeks
returns-in_default-clause-seeks c = λ from to frames said can ne.
    seek_no_task (parts c.args.body.now) from to c.args.id c.args.task c.args.seen.now.visited said frames can ne c.requires.task false
    (ap (option_map (λ (it : Task). it.waiter)) (sym c.in_default.ensures))

pub returns-in_default-clause-falls : goal.returns-in_default-clause-falls
returns-in_default-clause-falls c = λ frames.
    weigh_answer c.args.id false frames c.args.seen.now.visited (parts c.args.body.now)

pub add-requires-clause-there : goal.add-requires-clause-there
add-requires-clause-there c =
    let a = task_within c.args.body.now.tasks c.args.task _ (waits_for c.in-Some.found.now c.in-Some.ensures c.waiter-waiter.ensures) in
    let b = c.requires.marked in
    omega arith

pub returns-in-Some-waiter-clause-seeks : goal.returns-in-Some-waiter-clause-seeks
returns-in-Some-waiter-clause-seeks c = λ from to frames said can ne.
    seek_waiter (parts c.args.body.now) from to c.args.id c.args.task c.args.seen.now.visited said frames can ne c.requires.task
    c.in-Some-waiter.waiter _ c.add.new.self.visited (waits_for c.in-Some.found.now c.in-Some.ensures c.waiter-waiter.ensures) c.in-Some-waiter.is
    (ap (λ (x : Marked). x.visited) c.add.ensures)

pub returns-in-Some-waiter-clause-walks : goal.returns-in-Some-waiter-clause-walks
returns-in-Some-waiter-clause-walks c = λ room marks frames can.
    walk_on room marks c.args.id c.args.task c.in-Some-waiter.waiter frames (parts c.args.body.now) _ can c.requires.task
    (waits_for c.in-Some.found.now c.in-Some.ensures c.waiter-waiter.ensures) c.in-Some-waiter.is

pub returns-in-Some-waiter-clause-falls : goal.returns-in-Some-waiter-clause-falls
returns-in-Some-waiter-clause-falls c = λ frames.
    weigh_on c.args.task c.in-Some-waiter.waiter c.args.id frames c.args.seen.now.visited c.add.new.self.visited (parts c.args.body.now)
    _ (ap (λ (x : Marked). x.visited) c.add.ensures) (sym c.has.ensures ∙ c.if-has.false)
    (waits_for c.in-Some.found.now c.in-Some.ensures c.waiter-waiter.ensures)

pub returns-in-None-clause-seeks : goal.returns-in-None-clause-seeks
returns-in-None-clause-seeks c = λ from to frames said can ne.
    seek_no_waiter (parts c.args.body.now) from to c.args.id c.args.task c.args.seen.now.visited said frames can ne c.requires.task false
    _ (waits_for c.in-Some.found.now c.in-Some.ensures c.waiter-waiter.ensures) c.in-None.is

pub returns-in-None-clause-falls : goal.returns-in-None-clause-falls
returns-in-None-clause-falls c = λ frames.
    weigh_answer c.args.id false frames c.args.seen.now.visited (parts c.args.body.now)
