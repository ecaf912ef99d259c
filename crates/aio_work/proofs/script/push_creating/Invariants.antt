use Rattle.std.proofs.Common.{◌≡◌, ◌+◌, ◌<◌, ◌++◌, flat_map}
use Rattle.model_work.specs.Work.{draw, delay, numbers_from, create_text}
use Rattle.aio_work.proofs.script.push_creating.Given as goal

abbrev pub invariant-loop-made : goal.invariant-loop-made
invariant-loop-made l = record {
  drawn : l.number ≡ draw l.seed (l.made + 1);
  below : l.number < 2147483647;
  text : l.out.items ≡ l.initial.out.items ++ flat_map (λ task. create_text task (delay l.seed task)) (numbers_from 1 l.made);
}
