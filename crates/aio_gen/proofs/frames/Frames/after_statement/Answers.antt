-- Each operation is done as its own function says.
use Rattle.std.proofs.Common.{◌≡◌, IfOk, sym, subst}
use Rattle.std.proofs.lemmas.Result.{IfOk-weaker}
use Rattle.algorithm_flat.specs.Ops.{Op}
use Rattle.algorithm_flat.specs.Moves.{after_statement}
use Rattle.aio_flat.specs.Code.{codes_of}
use Rattle.aio_gen.specs.Plain.{plain_frames, plain_move}
use Rattle.aio_gen.proofs.frames.Frames.after_statement.Goals as goal

pub returns-in-Assign : goal.returns-in-Assign
returns-in-Assign c =
    subst
    (λ (o : Op).
    IfOk c.assign.result
    (λ moving. plain_move moving c.assign.new.self ≡ after_statement (codes_of c.args.code.now) o (plain_frames c.args.self.now)))
    (sym c.in-Assign.is) (IfOk-weaker c.assign.result _ _ (λ moving all. all (codes_of c.args.code.now)) c.assign.ensures)

pub returns-in-Print : goal.returns-in-Print
returns-in-Print c =
    subst
    (λ (o : Op).
    IfOk c.print.result
    (λ moving. plain_move moving c.print.new.self ≡ after_statement (codes_of c.args.code.now) o (plain_frames c.args.self.now)))
    (sym c.in-Print.is) (IfOk-weaker c.print.result _ _ (λ moving all. all (codes_of c.args.code.now)) c.print.ensures)

pub returns-in-Raise : goal.returns-in-Raise
returns-in-Raise c =
    subst
    (λ (o : Op).
    IfOk c.raise.result
    (λ moving. plain_move moving c.raise.new.self ≡ after_statement (codes_of c.args.code.now) o (plain_frames c.args.self.now)))
    (sym c.in-Raise.is) (IfOk-weaker c.raise.result _ _ (λ moving all. all (codes_of c.args.code.now)) c.raise.ensures)

pub returns-in-Return : goal.returns-in-Return
returns-in-Return c =
    subst
    (λ (o : Op).
    IfOk c.return_value.result
    (λ moving. plain_move moving c.return_value.new.self ≡ after_statement (codes_of c.args.code.now) o (plain_frames c.args.self.now)))
    (sym c.in-Return.is) (IfOk-weaker c.return_value.result _ _ (λ moving all. all (codes_of c.args.code.now)) c.return_value.ensures)

pub returns-in-Await : goal.returns-in-Await
returns-in-Await c =
    subst
    (λ (o : Op).
    IfOk c.await_name.result
    (λ moving. plain_move moving c.await_name.new.self ≡ after_statement (codes_of c.args.code.now) o (plain_frames c.args.self.now)))
    (sym c.in-Await.is) (IfOk-weaker c.await_name.result _ _ (λ moving all. all (codes_of c.args.code.now)) c.await_name.ensures)

pub returns-in-Ask : goal.returns-in-Ask
returns-in-Ask c =
    subst
    (λ (o : Op).
    IfOk c.ask.result
    (λ moving. plain_move moving c.ask.new.self ≡ after_statement (codes_of c.args.code.now) o (plain_frames c.args.self.now)))
    (sym c.in-Ask.is) (IfOk-weaker c.ask.result _ _ (λ moving all. all (codes_of c.args.code.now)) c.ask.ensures)

pub returns-in-Spawn : goal.returns-in-Spawn
returns-in-Spawn c =
    subst
    (λ (o : Op).
    IfOk c.spawn.result
    (λ moving. plain_move moving c.spawn.new.self ≡ after_statement (codes_of c.args.code.now) o (plain_frames c.args.self.now)))
    (sym c.in-Spawn.is) (IfOk-weaker c.spawn.result _ _ (λ moving all. all (codes_of c.args.code.now)) c.spawn.ensures)

pub returns-in-Create : goal.returns-in-Create
returns-in-Create c =
    subst
    (λ (o : Op).
    IfOk c.create.result
    (λ moving. plain_move moving c.create.new.self ≡ after_statement (codes_of c.args.code.now) o (plain_frames c.args.self.now)))
    (sym c.in-Create.is) (IfOk-weaker c.create.result _ _ (λ moving all. all (codes_of c.args.code.now)) c.create.ensures)

pub returns-in-Listen : goal.returns-in-Listen
returns-in-Listen c =
    subst
    (λ (o : Op).
    IfOk c.listen.result
    (λ moving. plain_move moving c.listen.new.self ≡ after_statement (codes_of c.args.code.now) o (plain_frames c.args.self.now)))
    (sym c.in-Listen.is) (IfOk-weaker c.listen.result _ _ (λ moving all. all (codes_of c.args.code.now)) c.listen.ensures)

pub returns-in-Test : goal.returns-in-Test
returns-in-Test c =
    subst
    (λ (o : Op).
    IfOk c.test.result
    (λ moving. plain_move moving c.test.new.self ≡ after_statement (codes_of c.args.code.now) o (plain_frames c.args.self.now)))
    (sym c.in-Test.is) (IfOk-weaker c.test.result _ _ (λ moving all. all (codes_of c.args.code.now)) c.test.ensures)

pub returns-in-Repeat : goal.returns-in-Repeat
returns-in-Repeat c =
    subst
    (λ (o : Op).
    IfOk c.repeat.result
    (λ moving. plain_move moving c.repeat.new.self ≡ after_statement (codes_of c.args.code.now) o (plain_frames c.args.self.now)))
    (sym c.in-Repeat.is) (IfOk-weaker c.repeat.result _ _ (λ moving all. all (codes_of c.args.code.now)) c.repeat.ensures)

pub returns-in-Guard : goal.returns-in-Guard
returns-in-Guard c =
    subst
    (λ (o : Op).
    IfOk c.guard.result
    (λ moving. plain_move moving c.guard.new.self ≡ after_statement (codes_of c.args.code.now) o (plain_frames c.args.self.now)))
    (sym c.in-Guard.is) (IfOk-weaker c.guard.result _ _ (λ moving all. all (codes_of c.args.code.now)) c.guard.ensures)

pub returns-in-EnterGroup : goal.returns-in-EnterGroup
returns-in-EnterGroup c =
    subst
    (λ (o : Op).
    IfOk c.enter_group.result
    (λ moving. plain_move moving c.enter_group.new.self ≡ after_statement (codes_of c.args.code.now) o (plain_frames c.args.self.now)))
    (sym c.in-EnterGroup.is) (IfOk-weaker c.enter_group.result _ _ (λ moving all. all (codes_of c.args.code.now)) c.enter_group.ensures)

pub returns-in-EnterTimeout : goal.returns-in-EnterTimeout
returns-in-EnterTimeout c =
    subst
    (λ (o : Op).
    IfOk c.enter_timeout.result
    (λ moving. plain_move moving c.enter_timeout.new.self ≡ after_statement (codes_of c.args.code.now) o (plain_frames c.args.self.now)))
    (sym c.in-EnterTimeout.is) (IfOk-weaker c.enter_timeout.result _ _ (λ moving all. all (codes_of c.args.code.now)) c.enter_timeout.ensures)

pub returns-in-Pause : goal.returns-in-Pause
returns-in-Pause c =
    subst
    (λ (o : Op).
    plain_move c.pause.result c.pause.new.self ≡ after_statement (codes_of c.args.code.now) o (plain_frames c.args.self.now))
    (sym c.in-Pause.is) (c.pause.ensures (codes_of c.args.code.now))
