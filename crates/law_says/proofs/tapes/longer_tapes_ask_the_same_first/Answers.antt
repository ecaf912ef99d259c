use Rattle.model_says.specs.Says.{course}
use Rattle.law_says.proofs.Bodies.{course_extends}
use Rattle.law_says.proofs.Ends.{extends_asks}
use Rattle.law_says.proofs.tapes.longer_tapes_ask_the_same_first.Goals as goal

pub returns : goal.returns
returns c = λ limit program place arguments tape more.
    extends_asks more (course limit program place arguments tape) _ (course_extends limit program place arguments tape more)
