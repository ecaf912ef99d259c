use Rattle.std.proofs.Common.{◌∙◌, sym, ap, subst}
use Rattle.std.proofs.lemmas.Result.{on_ok_weaker}
use Rattle.model_wire.specs.declared.answer.Answer.TheVariants as answer
use Rattle.model_wire.specs.Call.{Answer}
use Rattle.model_stream.specs.Connections.{received}
use Rattle.aio_exchange.specs.Tells.{Tells}
use Rattle.aio_change.specs.Seen.{seen_changed}
use Rattle.aio_connection.proofs.Calling.{reads_open}
use Rattle.aio_connection.proofs.connection.Connection.received.Goals as goal

pub receive-requires-clause-not_ended : goal.receive-requires-clause-not_ended
receive-requires-clause-not_ended c = reads_open c.args.self.now c.requires.reads

pub returns-in-Data-clause-tells : goal.returns-in-Data-clause-tells
returns-in-Data-clause-tells c =
    on_ok_weaker c.receive.result
    (λ told. subst (λ (it : Answer). Tells seen_changed (received c.args.id c.args.self.now it) c.args.parts.now c.receive.new.parts c.receive.new.self)
    (sym (c.in-Data.is ∙ ap answer.Data (sym c.items.ensures))) told)
    c.receive.ensures.tells
