use Rattle.law_order.proofs.AllSides as all
use Rattle.law_order.proofs.Writing.{writes}
use Rattle.law_order.proofs.sides.requests_keep_each_in_order.Goals as goal

pub returns : goal.returns
returns c = record {
  write = writes;
  write_eof = all.ends;
  drain = all.drains;
  limits = all.limits_keep;
  close = all.closes;
  drop_connect = all.drops;
  read = all.reads;
  read_all = all.reads_all;
  give_up = all.gives_up;
  wait = all.waits;
  kill = all.kills;
}
