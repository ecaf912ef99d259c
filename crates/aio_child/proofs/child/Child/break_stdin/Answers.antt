use Rattle.std.proofs.Common.{◌∙◌, sym}
use Rattle.std.proofs.lemmas.Result.{on_ok_weaker}
use Rattle.aio_child.proofs.Calling.{broken_before, broken_now}
use Rattle.aio_child.proofs.child.Child.break_stdin.Goals as goal

pub returns-then-stdin_ended-clause-tells : goal.returns-then-stdin_ended-clause-tells
returns-then-stdin_ended-clause-tells c =
    broken_before c.args.self.now c.args.id c.args.parts.now (sym c.stdin_ended.ensures ∙ c.if-stdin_ended.true)

pub returns-clause-tells : goal.returns-clause-tells
returns-clause-tells c =
    on_ok_weaker c.schedule_loss.result
    (broken_now c.args.self.now c.args.id c.has_unsent-broken.result c.schedule_loss.new.self c.args.parts.now c.schedule_loss.new.parts
    (sym c.stdin_ended.ensures ∙ c.if-stdin_ended.false) c.has_unsent-broken.ensures)
    c.schedule_loss.ensures.tells
