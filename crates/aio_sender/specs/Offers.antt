-- What is unsent is offered, at a write.
use Rattle.model_stream.specs.Doing.{Doing, Asks}
use Rattle.model_stream.specs.Senders.{Sender, Outlet, offered}
use Rattle.model_stream.specs.Sending.{offer}

abbrev pub offers : Outlet → Sender → Doing Sender
offers outlet s = Asks (outlet.sends (offer s.writer)) (offered outlet s)
