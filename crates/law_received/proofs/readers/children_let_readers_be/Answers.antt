use Rattle.law_received.proofs.Own as own
use Rattle.law_received.proofs.readers.children_let_readers_be.Goals as goal

pub returns : goal.returns
returns c = record {
  sends = own.feed_apart;
  loses = own.child_lose_apart;
  breaks = own.break_apart;
  exits = own.exit_apart 0;
  closes = own.child_close_apart;
  kills = own.kill_apart;
  writes = own.child_write_apart;
  drains = own.child_drain_apart 0;
  waits = own.child_wait_apart 0;
}
