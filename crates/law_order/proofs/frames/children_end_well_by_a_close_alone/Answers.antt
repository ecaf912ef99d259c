use Rattle.model_stream.specs.Receivers as receiver
use Rattle.model_stream.specs.Receivers.{AllGot, StreamGot}
use Rattle.law_order.proofs.Framed as framed
use Rattle.law_order.proofs.Mildly as mildly
use Rattle.law_order.proofs.frames.children_end_well_by_a_close_alone.Goals as goal

pub returns : goal.returns
returns c = record {
  sends = mildly.feed_mild;
  told = mildly.tell_mild;
  loses = mildly.child_lose_mild;
  writes = mildly.child_write_mild;
  drains = mildly.child_drain_mild;
  limits = λ high low p. tt;
  waits = mildly.child_wait_mild 0;
  kills = mildly.kill_mild;
  takes = λ pipe next op. mildly.pipe_asks 0 {R = StreamGot} pipe (receiver.read next op) (framed.quiet_read next op);
  takes_all = λ pipe next. mildly.pipe_asks 0 {R = AllGot} pipe (receiver.read_all next) (framed.quiet_all next);
}
