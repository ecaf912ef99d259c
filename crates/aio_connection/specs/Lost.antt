-- The connection that a lost one stands for.
use Rattle.std.specs.Prelude.{None}
use Rattle.model_stream.specs.Connections.{Connection}
use Rattle.aio_receiver.specs.Bare.{receiver_of}
use Rattle.aio_sender.specs.Lost.{sender_of}
use Rattle.aio_connection.specs.declared.lost.LostConnection.{LostConnection}

abbrev pub connection_of : LostConnection → Connection
connection_of lost = record {
  making = None;
  handler = lost.handler;
  began = lost.began;
  sender = sender_of lost.sender;
  receiver = receiver_of lost.receiver;
}
