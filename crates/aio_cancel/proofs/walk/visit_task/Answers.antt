use Rattle.std.proofs.Common.{sym, ap, ◌∙◌, refl, true, ◌++◌, ◌∷◌, []}
use Rattle.model_loop.specs.Tasks.{raise_count}
use Rattle.algorithm_parts.specs.declared.walk.WalkFrame.TheVariants.{Waits}
use Rattle.algorithm_parts.specs.declared.walk.Go.TheVariants.{Visit}
use Rattle.algorithm_parts.proofs.WalkLemmas.{visit_waits}
use Rattle.algorithm_parts.proofs.WeightLemmas.{weigh_answer, weigh_must_cancel, weigh_waits}
use Rattle.algorithm_parts.proofs.RoomLemmas.{room_for, mark_for, walk_waits, walk_marks}
use Rattle.aio_cancel.specs.Seen.{Stacked, Marked}
use Rattle.aio_cancel.specs.Awaitables.{parts}
use Rattle.aio_cancel.proofs.PartsLemmas.{waits_for}
use Rattle.aio_cancel.proofs.walk.visit_task.Goals as goal

pub returns-then-has-clause-falls : goal.returns-then-has-clause-falls
returns-then-has-clause-falls c = weigh_answer c.args.id true c.args.stack.now.frames c.args.seen.now.visited (parts c.args.body.now)

pub returns-in_default-clause-falls : goal.returns-in_default-clause-falls
returns-in_default-clause-falls c = weigh_answer c.args.id true c.args.stack.now.frames c.args.seen.now.visited (parts c.args.body.now)

pub add-requires-clause-there : goal.add-requires-clause-there
add-requires-clause-there c =
    let a = c.args in
    mark_for a.stack.now.room a.seen.now.tasks (Visit a.id) a.stack.now.frames a.seen.now.visited (parts a.body.now) a.task
    _ c.requires.can (waits_for c.in-Some.found.now c.in-Some.ensures c.waiter-waiter.ensures)

pub push-requires : goal.push-requires
push-requires c =
    let a = c.args in
    let p = parts a.body.now in
    room_for a.stack.now.room a.seen.now.tasks (Visit c.in-Some-waiter.waiter) a.stack.now.frames (Waits a.id a.task)
    (a.seen.now.visited ++ a.task ∷ []) (raise_count a.task p)
    (walk_waits a.stack.now.room a.seen.now.tasks a.id a.task c.in-Some-waiter.waiter a.stack.now.frames
    (a.stack.now.frames ++ Waits a.id a.task ∷ []) a.seen.now.visited (a.seen.now.visited ++ a.task ∷ []) p (raise_count a.task p)
    _ c.requires.can c.requires.task (sym c.has.ensures ∙ c.if-has.false)
    (waits_for c.in-Some.found.now c.in-Some.ensures c.waiter-waiter.ensures) c.in-Some-waiter.is
    refl refl refl)

pub returns-in-Some-waiter-clause-walks : goal.returns-in-Some-waiter-clause-walks
returns-in-Some-waiter-clause-walks c =
    let a = c.args in
    rw (ap (λ (x : Stacked). x.room) c.push.ensures, ap (λ (x : Marked). x.tasks) c.add.ensures)
    (walk_waits a.stack.now.room a.seen.now.tasks a.id a.task c.in-Some-waiter.waiter a.stack.now.frames c.push.new.self.frames
    a.seen.now.visited c.add.new.self.visited (parts a.body.now) (parts c.raise.new.self)
    _ c.requires.can c.requires.task (sym c.has.ensures ∙ c.if-has.false)
    (waits_for c.in-Some.found.now c.in-Some.ensures c.waiter-waiter.ensures) c.in-Some-waiter.is
    (ap (λ (x : Stacked). x.frames) c.push.ensures) (ap (λ (x : Marked). x.visited) c.add.ensures) c.raise.ensures.after)

pub returns-in-Some-waiter-clause-same : goal.returns-in-Some-waiter-clause-same
returns-in-Some-waiter-clause-same c =
    let a = c.args in
    visit_waits a.stack.now.frames c.push.new.self.frames a.id a.task c.in-Some-waiter.waiter a.seen.now.visited
    c.add.new.self.visited (parts a.body.now) (parts c.raise.new.self) _
    (ap (λ (x : Stacked). x.frames) c.push.ensures) (ap (λ (x : Marked). x.visited) c.add.ensures) c.raise.ensures.after
    (sym c.has.ensures ∙ c.if-has.false) (waits_for c.in-Some.found.now c.in-Some.ensures c.waiter-waiter.ensures) c.in-Some-waiter.is

pub returns-in-Some-waiter-clause-falls : goal.returns-in-Some-waiter-clause-falls
returns-in-Some-waiter-clause-falls c =
    let a = c.args in
    weigh_waits a.id a.task c.in-Some-waiter.waiter a.id a.stack.now.frames c.push.new.self.frames a.seen.now.visited
    c.add.new.self.visited (parts a.body.now) (parts c.raise.new.self) _
    (ap (λ (x : Stacked). x.frames) c.push.ensures) (ap (λ (x : Marked). x.visited) c.add.ensures) c.raise.ensures.after
    (sym c.has.ensures ∙ c.if-has.false) (waits_for c.in-Some.found.now c.in-Some.ensures c.waiter-waiter.ensures)

pub returns-in-None-clause-walks : goal.returns-in-None-clause-walks
returns-in-None-clause-walks c =
    let a = c.args in
    rw (ap (λ (x : Marked). x.tasks) c.add.ensures)
    (walk_marks a.stack.now.room a.seen.now.tasks a.id a.task a.stack.now.frames a.seen.now.visited c.add.new.self.visited
    (parts a.body.now) (parts c.raise.new.self) (parts c.set_must_cancel.new.self) _ true c.requires.can
    (sym c.has.ensures ∙ c.if-has.false)
    (waits_for c.in-Some.found.now c.in-Some.ensures c.waiter-waiter.ensures) (ap (λ (x : Marked). x.visited) c.add.ensures)
    c.raise.ensures.after c.set_must_cancel.ensures.after)

pub returns-in-None-clause-falls : goal.returns-in-None-clause-falls
returns-in-None-clause-falls c =
    let a = c.args in
    weigh_must_cancel a.task a.id true a.stack.now.frames a.seen.now.visited c.add.new.self.visited (parts a.body.now)
    (parts c.raise.new.self) (parts c.set_must_cancel.new.self) (ap (λ (x : Marked). x.visited) c.add.ensures)
    c.raise.ensures.after c.set_must_cancel.ensures.after
