use Rattle.model_stream.specs.Receivers as receiver
use Rattle.model_stream.specs.Receivers.{AllGot, StreamGot}
use Rattle.law_order.proofs.Framed as framed
use Rattle.law_order.proofs.frames.connections_are_no_matter_of_others.Goals as goal

pub returns : goal.returns
returns c = record {
  reads = framed.readable_framed;
  sends = framed.writable_framed;
  stands = framed.up_framed;
  falls = framed.down_framed;
  loses = framed.lose_framed;
  closes = framed.close_framed;
  handled = framed.handled_framed;
  drops = framed.drop_framed;
  writes = framed.write_to_framed;
  ends = framed.eof_framed;
  drains = framed.drain_of_framed;
  limits = λ id high low c. tt;
  takes = λ id next op. framed.conn_asks id {R = StreamGot} (receiver.read next op) (framed.quiet_read next op);
  takes_all = λ id next. framed.conn_asks id {R = AllGot} (receiver.read_all next) (framed.quiet_all next);
}
