use Rattle.law_order.proofs.Beginning.{handed_front, unsent_dropped, unsent_rest}
use Rattle.law_order.proofs.order.what_is_handed_is_a_front.Goals as goal

pub returns : goal.returns
returns c laws = record {
  handed = handed_front;
  unsent = unsent_rest;
  dropped = unsent_dropped;
}
