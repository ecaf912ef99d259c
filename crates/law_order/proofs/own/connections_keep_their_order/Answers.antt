use Rattle.law_order.proofs.OwnOrder as order
use Rattle.law_order.proofs.own.connections_keep_their_order.Goals as goal

pub returns : goal.returns
returns c = record {
  stands = order.up_front;
  falls = order.down_front;
  drops = order.drop_front;
  closes = order.close_front;
  handled = order.handled_front;
  loses = order.lose_front;
}
