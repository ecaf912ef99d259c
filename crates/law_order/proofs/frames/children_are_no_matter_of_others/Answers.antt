use Rattle.model_stream.specs.Receivers as receiver
use Rattle.model_stream.specs.Receivers.{AllGot, StreamGot}
use Rattle.law_order.proofs.Framed as framed
use Rattle.law_order.proofs.frames.children_are_no_matter_of_others.Goals as goal

pub returns : goal.returns
returns c = record {
  sends = framed.feed_framed;
  told = framed.tell_framed;
  loses = framed.child_lose_framed;
  closes = framed.child_close_framed;
  writes = framed.child_write_framed;
  drains = framed.child_drain_framed;
  limits = λ id high low p. tt;
  waits = framed.child_wait_framed;
  kills = framed.kill_framed;
  takes = λ id pipe next op. framed.pipe_asks id {R = StreamGot} pipe (receiver.read next op) (framed.quiet_read next op);
  takes_all = λ id pipe next. framed.pipe_asks id {R = AllGot} pipe (receiver.read_all next) (framed.quiet_all next);
}
