use Rattle.model_says.specs.Says.{course}
use Rattle.law_says.proofs.Bodies.{course_extends}
use Rattle.law_says.proofs.Ends.{extends_says}
use Rattle.law_says.proofs.tapes.what_is_over_stays_over.Goals as goal

pub returns : goal.returns
returns c = λ limit program place arguments tape more.
    extends_says more (course limit program place arguments tape) _ (course_extends limit program place arguments tape more)
