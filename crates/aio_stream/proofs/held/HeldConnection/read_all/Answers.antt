use Rattle.std.proofs.Common.{IfOk, length, subst, ◌∙◌}
use Rattle.model_stream.specs.Connections.{its_receiver}
use Rattle.model_stream.specs.Doing.{asked_on}
use Rattle.model_stream.specs.Receivers.{read_all}
use Rattle.aio_exchange.specs.Tells.{Tells}
use Rattle.aio_change.specs.Seen.{seen_changed}
use Rattle.aio_connection.specs.Gotten.{all_got}
use Rattle.aio_stream.proofs.held.HeldConnection.read_all.Goals as goal

pub returns-clause-tells : goal.returns-clause-tells
returns-clause-tells c =
    rw c.lay.ensures
    (subst (λ it. IfOk c.read_all-done.result (λ said. Tells seen_changed (asked_on its_receiver (read_all (length c.args.parts.now.futures)) it)
    c.args.parts.now c.read_all-done.new.parts (c.read_all-done.new.self, all_got said)))
    (c.deref_mut.ensures.value ∙ c.in_ok-connection.ensures) c.read_all-done.ensures.tells)

pub returns-clause-own : goal.returns-clause-own
returns-clause-own c = rw (c.lay.ensures, ← c.in_ok-connection.ensures, ← c.deref_mut.ensures.value) c.read_all-done.ensures.own
