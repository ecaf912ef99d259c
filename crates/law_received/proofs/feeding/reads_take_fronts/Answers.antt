use Rattle.law_received.proofs.AllLooks.{all_look, read_look}
use Rattle.law_received.proofs.feeding.reads_take_fronts.Goals as goal

pub returns : goal.returns
returns c = record {
  reads = read_look;
  reads_all = all_look;
}
