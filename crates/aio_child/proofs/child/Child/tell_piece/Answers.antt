use Rattle.std.proofs.Common.{◌∙◌, sym}
use Rattle.std.proofs.lemmas.Result.{on_ok_weaker}
use Rattle.model_stream.specs.Children.{its_pipe}
use Rattle.model_stream.specs.Receivers.{receive}
use Rattle.aio_child.proofs.Calling.{takes_open, told_nothing, told_so}
use Rattle.aio_child.proofs.child.Child.tell_piece.Goals as goal

pub returns-then-not-takes_more-clause-tells : goal.returns-then-not-takes_more-clause-tells
returns-then-not-takes_more-clause-tells c =
    told_nothing c.args.self.now c.args.pipe (receive c.args.piece.now) c.args.parts.now (sym c.takes_more.ensures ∙ c.if-not-takes_more.true)

pub receive-requires-clause-not_ended : goal.receive-requires-clause-not_ended
receive-requires-clause-not_ended c =
    takes_open ((its_pipe c.args.pipe).get c.args.self.now) (sym c.takes_more.ensures ∙ c.if-not-takes_more.false)

pub returns-clause-tells : goal.returns-clause-tells
returns-clause-tells c =
    on_ok_weaker c.receive.result
    (told_so c.args.self.now c.args.pipe (receive c.args.piece.now) c.receive.new.self c.args.parts.now c.receive.new.parts
    (sym c.takes_more.ensures ∙ c.if-not-takes_more.false))
    c.receive.ensures.tells
