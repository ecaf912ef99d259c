use Rattle.refine_streams.proofs.Doing.{does_ends, does_misfit, does_over, does_refused}
use Rattle.refine_streams.proofs.machine.trees_are_done.Goals as goal

pub returns-clause-goes : goal.returns-clause-goes
returns-clause-goes g c = does_ends

pub returns-clause-over : goal.returns-clause-over
returns-clause-over g c = λ halts next tree way call rest s h fit. does_over halts next tree way call rest s h fit

pub returns-clause-refused : goal.returns-clause-refused
returns-clause-refused g c = λ halts next tree way call rest s line cause left h fit. does_refused halts next tree way call rest s h fit line cause left

pub returns-clause-misfit : goal.returns-clause-misfit
returns-clause-misfit g c = λ halts next tree way call rest s answer left h fit. does_misfit halts next tree way call rest s h fit answer left
