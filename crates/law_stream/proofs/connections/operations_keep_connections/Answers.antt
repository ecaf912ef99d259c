use Rattle.law_stream.proofs.SoundConnections.{conn_readable, conn_writable, conn_loses, conn_closes}
use Rattle.law_stream.proofs.SoundConnections.{conn_handled, conn_ends, conn_writes, conn_drains, conn_limits}
use Rattle.law_stream.proofs.connections.operations_keep_connections.Goals as goal

pub returns : goal.returns
returns c = record {
  reads = conn_readable;
  sends = conn_writable;
  loses = conn_loses;
  closes = conn_closes;
  handled = conn_handled;
  ends = conn_ends;
  writes = conn_writes;
  drains = conn_drains;
  limits = conn_limits;
}
