use Rattle.aio_poller.proofs.Told.{endpoint-read, port-read, datagram-read}
use Rattle.aio_poller.proofs.datagrams.told_is_read.Goals as goal

pub returns-clause-endpoint : goal.returns-clause-endpoint
returns-clause-endpoint c = endpoint-read

pub returns-clause-port : goal.returns-clause-port
returns-clause-port c = port-read

pub returns-clause-datagram : goal.returns-clause-datagram
returns-clause-datagram c = datagram-read
