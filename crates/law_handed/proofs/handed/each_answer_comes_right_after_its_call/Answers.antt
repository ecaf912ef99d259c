use Rattle.std.proofs.Common.{refl}
use Rattle.model_says.specs.Says.{step_limit}
use Rattle.model_machine.specs.Replies.{most_ids}
use Rattle.model_machine.specs.State.{start}
use Rattle.law_handed.proofs.Following.{row_follows, run_follows}
use Rattle.law_handed.proofs.handed.each_answer_comes_right_after_its_call.Goals as goal

pub returns : goal.returns
returns c laws = record {
  run = λ extra first program answers turns. run_follows step_limit extra turns turns (start most_ids first program answers) refl;
  any = run_follows;
  row = row_follows;
}
