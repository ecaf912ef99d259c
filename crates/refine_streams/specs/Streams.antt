-- Streams that stand for what is kept: those where nothing was written.
use Rattle.std.specs.Prelude.{[]}
use Rattle.model_stream.specs.Streams.{Streams}
use Rattle.aio_transports.specs.Kept.{Kept}
use Rattle.aio_transports.specs.Standing.{TransportsStandFor}

abbrev pub streams_of : Kept → Streams
streams_of k = record {
  servers = k.streams.servers;
  connections = k.streams.connections;
  children = k.children.children;
  opened = k.streams.opened;
  written = [];
  most = k.streams.most;
}

-- they stand for it
abbrev pub HasStreams : Kept → Type 0
HasStreams k = TransportsStandFor k (streams_of k)
