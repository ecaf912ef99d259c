use Rattle.law_over.proofs.Staying.{gone_acts, gone_closes_server, gone_connects, gone_launches, gone_listens}
use Rattle.law_over.proofs.streams.callbacks_leave_gone.Goals as goal

pub returns : goal.returns
returns c = record {
  acts = gone_acts;
  listens = gone_listens;
  closes = gone_closes_server;
  connects = gone_connects;
  launches = gone_launches;
}
