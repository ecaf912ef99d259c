use Rattle.law_order.proofs.AllSides as all
use Rattle.law_order.proofs.sides.callbacks_keep_each_in_order.Goals as goal

pub returns : goal.returns
returns c = record {
  acts = all.acts;
  listens = all.listens;
  closes = all.closes_server;
  connects = all.connects;
  launches = all.launches;
}
