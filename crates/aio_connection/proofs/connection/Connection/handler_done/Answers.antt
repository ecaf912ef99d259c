use Rattle.std.proofs.lemmas.Result.{on_ok_weaker}
use Rattle.aio_connection.proofs.Calling.{handler_failed, handler_fine}
use Rattle.aio_connection.proofs.connection.Connection.handler_done.Goals as goal

pub returns-then-returned-clause-tells : goal.returns-then-returned-clause-tells
returns-then-returned-clause-tells c = handler_fine c.args.id c.args.self.now c.args.returned c.args.parts.now c.if-returned.true

pub returns-clause-tells : goal.returns-clause-tells
returns-clause-tells c =
    on_ok_weaker c.close.result
    (handler_failed c.args.id c.args.self.now c.args.returned c.close.new.self c.args.parts.now c.close.new.parts c.if-returned.false)
    c.close.ensures.tells
