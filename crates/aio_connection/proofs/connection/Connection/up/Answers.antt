use Rattle.std.proofs.Common.{◌∙◌, sym}
use Rattle.std.proofs.lemmas.Result.{on_ok_weaker}
use Rattle.aio_connection.proofs.Calling.{up_before, up_now}
use Rattle.aio_connection.proofs.connection.Connection.up.Goals as goal

pub returns-in-None-clause-tells : goal.returns-in-None-clause-tells
returns-in-None-clause-tells c = up_before c.args.id c.args.self.now c.args.parts.now (sym c.in-None.is ∙ c.making.ensures)

pub returns-in-Some-clause-tells : goal.returns-in-Some-clause-tells
returns-in-Some-clause-tells c =
    on_ok_weaker c.stand_up.result
    (up_now c.args.id c.args.self.now c.in-Some.on c.stand_up.new.self c.args.parts.now c.stand_up.new.parts (sym c.in-Some.is ∙ c.making.ensures))
    c.stand_up.ensures.tells
