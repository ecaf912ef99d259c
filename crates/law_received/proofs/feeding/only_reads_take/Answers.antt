use Rattle.law_received.proofs.AllFed as fed
use Rattle.law_received.proofs.feeding.only_reads_take.Goals as goal

pub returns : goal.returns
returns c = record {
  acts = fed.acts_fed;
  listens = fed.listens;
  closes_server = fed.closes_server;
  connects = fed.connects;
  launches = fed.launches;
  writes = fed.writes;
  ends = fed.ends;
  drains = fed.drains;
  limits = fed.limits_keep;
  closes = fed.closes;
  drops = fed.drops;
  gives_up = fed.given_up_fed;
  waits = fed.waits;
  kills = fed.kills;
}
