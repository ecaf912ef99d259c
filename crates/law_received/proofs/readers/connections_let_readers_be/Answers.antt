use Rattle.law_received.proofs.Own as own
use Rattle.law_received.proofs.readers.connections_let_readers_be.Goals as goal

pub returns : goal.returns
returns c = record {
  sends = own.writable_apart;
  loses = own.lose_conn;
  stands = own.up_apart;
  falls = own.down_apart;
  closes = own.close_conn;
  handled = own.handled_apart;
  drops = own.drop_apart;
  ends = own.eof_apart;
  writes = own.write_to_apart;
  drains = own.drain_of_apart;
}
