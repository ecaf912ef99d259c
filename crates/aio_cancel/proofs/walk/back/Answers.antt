use Rattle.std.proofs.Common.{refl, true}
use Rattle.algorithm_parts.proofs.WalkLemmas.{back_waits, resume-push}
use Rattle.algorithm_parts.proofs.WeightLemmas.{weigh_back, weigh_back_must_cancel, weigh_members}
use Rattle.algorithm_parts.proofs.RoomLemmas.{walk_back}
use Rattle.aio_cancel.specs.Awaitables.{parts}
use Rattle.aio_cancel.proofs.walk.back.Goals as goal

pub returns-then-not-answer-clause-walks : goal.returns-then-not-answer-clause-walks
returns-then-not-answer-clause-walks c = λ room marks seen stack can.
    walk_back room marks _ c.in-Waits.task true c.args.answer stack seen (parts c.args.body.now) (parts c.set_must_cancel.new.self)
    (rw c.in-Waits.is at can) (rw c.if-not-answer.true c.set_must_cancel.ensures.after)

pub returns-then-not-answer-clause-same : goal.returns-then-not-answer-clause-same
returns-then-not-answer-clause-same c = λ seen stack.
    rw c.in-Waits.is
    (back_waits _ c.in-Waits.task c.args.answer stack seen (parts c.args.body.now) (parts c.set_must_cancel.new.self)
    (rw c.if-not-answer.true c.set_must_cancel.ensures.after))

pub returns-else-not-answer-clause-same : goal.returns-else-not-answer-clause-same
returns-else-not-answer-clause-same c = λ seen stack.
    rw c.in-Waits.is
    (back_waits _ c.in-Waits.task c.args.answer stack seen (parts c.args.body.now) (parts c.args.body.now)
    (rw c.if-not-answer.false refl))

pub returns-in-Members-clause-same : goal.returns-in-Members-clause-same
returns-in-Members-clause-same c = λ seen stack. rw (c.in-Members.is, resume-push) refl

pub returns-then-not-answer-clause-falls : goal.returns-then-not-answer-clause-falls
returns-then-not-answer-clause-falls c = λ seen stack.
    rw c.in-Waits.is
    (weigh_back_must_cancel _ c.in-Waits.task true c.args.answer stack seen (parts c.args.body.now) (parts c.set_must_cancel.new.self)
    c.set_must_cancel.ensures.after)

pub returns-else-not-answer-clause-falls : goal.returns-else-not-answer-clause-falls
returns-else-not-answer-clause-falls c = λ seen stack.
    rw c.in-Waits.is (weigh_back _ c.in-Waits.task true c.args.answer stack seen (parts c.args.body.now))

pub returns-in-Members-clause-falls : goal.returns-in-Members-clause-falls
returns-in-Members-clause-falls c = λ seen stack.
    rw c.in-Members.is
    (weigh_members c.in-Members.id c.in-Members.place c.in-Members.any _ c.args.answer stack seen (parts c.args.body.now))
