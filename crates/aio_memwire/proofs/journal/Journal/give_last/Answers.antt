use Rattle.std.proofs.Common.{◌≡◌, ◌<◌, None, length, ap, ◌∙◌, arith}
use Rattle.std.proofs.lemmas.Result.{IfOk-weaker}
use Rattle.aio_memwire.specs.Unread.{Unread}
use Rattle.aio_memwire.proofs.Giving.{first_last, given, given_ends, given_few, given_sure, line_last, on_ok, whole_ended}
use Rattle.aio_memwire.proofs.journal.Journal.give_last.Goals as goal

pub returns-clause-left : goal.returns-clause-left
returns-clause-left c =
    let it = c.args.self.now in
    let size = c.len-size.result in
    let all : size ≡ length it.held = c.len-size.ensures.value ∙ ap (λ (u : Unread). length u.held) c.self.view_is in
    let some : 0 < size = omega (arith, c.if-size-eq0.false) in
    IfOk-weaker c.give.result _ _
    (λ reply gives. given None it c.give.new.self size size reply (first_last None it size c.requires.0 c.requires.1 all some) gives) c.give.ensures

pub returns-clause-ends : goal.returns-clause-ends
returns-clause-ends c =
    let it = c.args.self.now in
    let size = c.len-size.result in
    let all : size ≡ length it.held = c.len-size.ensures.value ∙ ap (λ (u : Unread). length u.held) c.self.view_is in
    let some : 0 < size = omega (arith, c.if-size-eq0.false) in
    IfOk-weaker c.give.result _ _
    (λ reply gives. given_ends it c.give.new.self size size reply (whole_ended it c.requires.0) (line_last it size c.requires.1 all some) gives)
    c.give.ensures

pub returns-clause-sure : goal.returns-clause-sure
returns-clause-sure c =
    IfOk-weaker c.give.result _ _ (λ reply gives. given_sure c.args.self.now c.give.new.self c.len-size.result c.len-size.result reply gives) c.give.ensures

pub returns-clause-few : goal.returns-clause-few
returns-clause-few c =
    on_ok c.give.result (λ reply gives. given_few c.args.self.now c.give.new.self c.len-size.result c.len-size.result reply gives) c.give.ensures
