use Rattle.algorithm_locals.proofs.Bodies.{says-same}
use Rattle.algorithm_locals.proofs.numbers.numbers_say_what_names_say.Goals as goal

pub returns : goal.returns
returns c = says-same
