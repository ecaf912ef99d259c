use Rattle.model_stream.specs.Receivers as receiver
use Rattle.model_stream.specs.Receivers.{AllGot, StreamGot}
use Rattle.law_order.proofs.Framed as framed
use Rattle.law_order.proofs.Mildly as mildly
use Rattle.law_order.proofs.frames.connections_end_well_by_a_close_alone.Goals as goal

pub returns : goal.returns
returns c = record {
  reads = mildly.readable_mild;
  sends = mildly.writable_mild;
  stands = mildly.up_mild;
  falls = mildly.down_mild;
  loses = mildly.lose_mild;
  writes = mildly.write_to_mild;
  ends = mildly.eof_mild;
  drains = mildly.drain_of_mild;
  limits = λ high low c. tt;
  takes = λ next op. mildly.conn_asks 0 {R = StreamGot} (receiver.read next op) (framed.quiet_read next op);
  takes_all = λ next. mildly.conn_asks 0 {R = AllGot} (receiver.read_all next) (framed.quiet_all next);
}
