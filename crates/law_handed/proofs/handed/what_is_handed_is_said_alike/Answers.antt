use Rattle.std.proofs.Common.{refl}
use Rattle.model_says.specs.Says.{step_limit}
use Rattle.model_machine.specs.Replies.{most_ids}
use Rattle.model_machine.specs.State.{start}
use Rattle.model_program.specs.Added.{added, first_added}
use Rattle.model_program.specs.Runs.{run, run_over}
use Rattle.law_handed.proofs.Following.{handed_alike, run_follows}
use Rattle.law_handed.proofs.handed.what_is_handed_is_said_alike.Goals as goal

pub returns : goal.returns
returns c laws = record {
  run = λ extra first program answers turns whom.
      handed_alike (run_over extra first program answers turns).events
      (run_follows step_limit extra turns turns (start most_ids first program answers) refl) whom;
  program = λ program answers turns whom.
      handed_alike (run program answers turns).events (run_follows step_limit added turns turns (start most_ids first_added program answers) refl) whom;
  events = handed_alike;
}
