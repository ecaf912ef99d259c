use Rattle.std.proofs.Common.{refl}
use Rattle.model_machine.specs.State.{start}
use Rattle.law_promises.proofs.GroupsEntered.{none_entered, run_enters}
use Rattle.law_promises.proofs.entered.every_group_is_entered.Goals as goal

pub returns : goal.returns
returns c laws = record {
  run = λ limit added turns most state program answers.
      let s = start most state program answers in run_enters limit added turns s (none_entered s.loop refl);
  any = run_enters;
}
