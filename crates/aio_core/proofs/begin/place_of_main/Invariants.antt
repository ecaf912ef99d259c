-- None so far is main.
use Rattle.model_text.specs.SecondPass.{main_text}
use Rattle.aio_core.proofs.Placing.{Passed}
use Rattle.aio_core.proofs.begin.place_of_main.Given as goal

abbrev pub invariant-loop-at : goal.invariant-loop-at
invariant-loop-at l = Passed l.coroutines main_text l.at
