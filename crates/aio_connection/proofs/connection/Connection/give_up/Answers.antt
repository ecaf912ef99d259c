use Rattle.std.proofs.Common.{sym, subst}
use Rattle.model_stream.specs.Connections.{Connection}
use Rattle.model_stream.specs.Receivers.{Receiver}
use Rattle.aio_change.specs.Owned.{IsOwnIfAny}
use Rattle.aio_connection.specs.Owned.{OwnsConnection}
use Rattle.aio_connection.proofs.Owning.{own_given_up}
use Rattle.aio_connection.proofs.connection.Connection.give_up.Goals as goal

pub returns-clause-own : goal.returns-clause-own
returns-clause-own c v own =
    let i = c.self.inside in
    let before : Connection = record { making = i.making; handler = i.handler; began = i.began; sender = i.sender; receiver = i.receiver } in
    let was : OwnsConnection v before = subst (OwnsConnection v) (sym c.self.view_is) own in
    record {
      making = was.making;
      sender = was.sender;
      waiter = subst (λ (r : Receiver). IsOwnIfAny v r.waiter) (sym c.give_up.ensures) (own_given_up v c.args.on i.receiver was.waiter);
    }
