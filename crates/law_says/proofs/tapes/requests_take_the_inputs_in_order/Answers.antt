use Rattle.model_says.specs.Asked.{inputs_of}
use Rattle.model_says.specs.Says.{course}
use Rattle.law_says.proofs.Bodies.{course_here}
use Rattle.law_says.proofs.Ends.{all_answered}
use Rattle.law_says.proofs.tapes.requests_take_the_inputs_in_order.Goals as goal

pub returns-clause-in_order : goal.returns-clause-in_order
returns-clause-in_order c = λ limit program place arguments tape. (course_here limit program place arguments tape).takes

pub returns-clause-all : goal.returns-clause-all
returns-clause-all c = λ limit program place arguments tape request is.
    let here = course_here limit program place arguments tape in
    all_answered (course limit program place arguments tape) request (inputs_of tape) here.empties is here.takes
