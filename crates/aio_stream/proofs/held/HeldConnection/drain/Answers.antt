use Rattle.std.proofs.Common.{IfOk, length, subst, ◌∙◌}
use Rattle.model_stream.specs.Connections.{drain_of}
use Rattle.aio_exchange.specs.Tells.{Tells}
use Rattle.aio_change.specs.Seen.{seen_changed}
use Rattle.aio_stream.proofs.held.HeldConnection.drain.Goals as goal

pub returns-clause-tells : goal.returns-clause-tells
returns-clause-tells c =
    rw c.lay.ensures
    (subst (λ it. IfOk c.drain-done.result (λ next. Tells seen_changed (drain_of c.args.yielded (length c.args.parts.now.futures) it)
    c.args.parts.now c.drain-done.new.parts (c.drain-done.new.self, next)))
    (c.deref_mut.ensures.value ∙ c.in_ok-connection.ensures) c.drain-done.ensures.tells)

pub returns-clause-own : goal.returns-clause-own
returns-clause-own c = rw (c.lay.ensures, ← c.in_ok-connection.ensures, ← c.deref_mut.ensures.value) c.drain-done.ensures.own
