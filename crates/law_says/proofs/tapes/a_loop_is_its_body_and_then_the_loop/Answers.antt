use Rattle.law_says.proofs.Ends.{loop_as_body}
use Rattle.law_says.proofs.tapes.a_loop_is_its_body_and_then_the_loop.Goals as goal

pub returns : goal.returns
returns c = loop_as_body
