use Rattle.std.specs.Fmt.{digits}
use Rattle.std.proofs.Common.{refl}
use Rattle.model_text.specs.Tokens.{tokens_of, piece_tokens}
use Rattle.model_text.specs.Pieces.{piece_at}
use Rattle.model_text.specs.Levels.{term_of}
use Rattle.model_text.specs.Forms.{form_of}
use Rattle.model_text.specs.FirstPass.{forms_from}
use Rattle.model_text.specs.SecondPass.{second_pass}
use Rattle.model_text.specs.Bodies.{statements_in}
use Rattle.model_text.specs.Scripts.{script_of}
use Rattle.model_says.specs.Says.{course}
use Rattle.model_machine.specs.Replies.{reply}
use Rattle.model_machine.specs.Step.{serve, step}
use Rattle.model_machine.specs.Turn.{effect, run_below, turn}
use Rattle.model_machine.specs.Run.{run_on}
use Rattle.row_reach.proofs.jobs.a_job_is_done.Goals as goal

-- the number of a job is written as well
pub returns : goal.returns
unfolding tokens_of piece_at piece_tokens term_of form_of forms_from second_pass statements_in script_of course reply serve step effect run_below turn run_on digits
returns c = refl
