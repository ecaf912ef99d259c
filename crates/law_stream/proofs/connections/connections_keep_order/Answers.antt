use Rattle.law_stream.proofs.ConnectionOrder.{connections_keep}
use Rattle.law_stream.proofs.connections.connections_keep_order.Goals as goal

pub returns : goal.returns
returns g = connections_keep
