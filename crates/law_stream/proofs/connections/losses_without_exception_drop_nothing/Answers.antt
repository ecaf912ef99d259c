use Rattle.law_stream.proofs.Losses.{closes, sends, breaks}
use Rattle.law_stream.proofs.connections.losses_without_exception_drop_nothing.Goals as goal

pub returns : goal.returns
returns c = record { closes = closes; sends = sends; breaks = breaks }
