use Rattle.law_received.proofs.Replies.{all_next, given_up_next, reads_next}
use Rattle.law_received.proofs.received.a_read_gives_what_comes_next.Goals as goal

pub returns : goal.returns
returns c laws = record {
  reads = reads_next;
  all = all_next;
  resumed = given_up_next;
}
