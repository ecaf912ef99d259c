use Rattle.law_walk.proofs.Beginning.{begins_here, begins_walk}
use Rattle.law_walk.proofs.Turning.{below_ordered, run_ordered, turn_ordered}
use Rattle.law_walk.proofs.walk.what_happened_stays.Goals as goal

pub returns : goal.returns
returns c laws = record {
  run = λ limit added turns s. run_ordered (begins_walk s.events) limit added turns s (begins_here s);
  turn = λ limit added s. turn_ordered (begins_walk s.events) limit added s (begins_here s);
  callbacks = λ limit added bar count s. below_ordered (begins_walk s.events) limit added bar count s (begins_here s);
}
