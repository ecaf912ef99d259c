use Rattle.law_stream.proofs.SenderRuns.{all_keep, unsent_rest, unsent_dropped, handed_front, losses_ran, closes_once}
use Rattle.law_stream.proofs.senders.senders_keep_order.Goals as goal

pub returns : goal.returns
returns c = record {
  keeps = all_keep;
  unsent = unsent_rest;
  dropped = unsent_dropped;
  handed = handed_front;
  losses = losses_ran;
  closes = closes_once;
}
