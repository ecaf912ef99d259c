use Rattle.law_order.proofs.OwnOrder as order
use Rattle.law_order.proofs.own.children_keep_their_order.Goals as goal

pub returns : goal.returns
returns c = record {
  told = order.tell_front;
  closes = order.child_close_front;
  loses = order.child_lose_front;
}
