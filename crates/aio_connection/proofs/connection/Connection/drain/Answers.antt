use Rattle.std.proofs.Common.{◌∙◌, length, sym, ap}
use Rattle.std.specs.Option.{option_copied}
use Rattle.std.proofs.lemmas.Result.{IfOk-weaker}
use Rattle.aio_connection.proofs.Calling.{drain_whole, drain_yielded}
use Rattle.aio_connection.proofs.connection.Connection.drain.Goals as goal

pub returns-then-yielded-clause-tells : goal.returns-then-yielded-clause-tells
returns-then-yielded-clause-tells c =
    IfOk-weaker c.drain_sender.result _ _ (λ next told.
    drain_yielded c.args.yielded (length c.args.parts.now.futures) c.args.self.now c.args.parts.now c.drain_sender.new.parts
    (c.drain_sender.new.self, next) c.if-yielded.true told)
    c.drain_sender.ensures.tells

pub returns-clause-tells : goal.returns-clause-tells
returns-clause-tells c =
    IfOk-weaker c.drain_sender-2.result _ _ (λ next told.
    drain_whole c.args.yielded (length c.args.parts.now.futures) c.args.self.now c.args.parts.now c.drain_sender-2.new.parts
    (c.drain_sender-2.new.self, next) (sym (ap option_copied c.in_default.is) ∙ c.failed.ensures) told)
    c.drain_sender-2.ensures.tells
