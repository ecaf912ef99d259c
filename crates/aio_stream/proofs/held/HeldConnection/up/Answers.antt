use Rattle.std.proofs.Common.{OnOk, sym, subst, ◌∙◌}
use Rattle.model_stream.specs.Connections.{up}
use Rattle.aio_exchange.specs.Tells.{Tells}
use Rattle.aio_change.specs.Seen.{seen_changed}
use Rattle.aio_connection.specs.Owned.{OwnsConnection}
use Rattle.aio_stream.proofs.held.HeldConnection.up.Goals as goal

pub up-done-requires-clause-own : goal.up-done-requires-clause-own
up-done-requires-clause-own c =
    subst (OwnsConnection c.args.parts.now) (sym (c.deref_mut.ensures.value ∙ c.in_ok-connection.ensures)) c.requires.own

pub returns-clause-tells : goal.returns-clause-tells
returns-clause-tells c =
    rw c.lay.ensures
    (subst (λ it. OnOk c.up-done.result (Tells seen_changed (up c.args.id it) c.args.parts.now c.up-done.new.parts c.up-done.new.self))
    (c.deref_mut.ensures.value ∙ c.in_ok-connection.ensures) c.up-done.ensures.tells)

pub returns-clause-own : goal.returns-clause-own
returns-clause-own c = rw c.lay.ensures c.up-done.ensures.own
