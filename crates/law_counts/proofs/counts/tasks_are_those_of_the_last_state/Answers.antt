use Rattle.model_says.specs.Says.{step_limit}
use Rattle.model_machine.specs.Replies.{most_ids}
use Rattle.model_machine.specs.State.{start}
use Rattle.law_counts.proofs.Counting.{run_counts}
use Rattle.law_counts.proofs.counts.tasks_are_those_of_the_last_state.Goals as goal

pub returns : goal.returns
returns c laws = record {
  counts = λ extra first program answers allowed. run_counts step_limit extra allowed allowed (start most_ids first program answers);
  any = λ limit extra allowed left s. run_counts limit extra allowed left s;
}
