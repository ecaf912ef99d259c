use Rattle.law_promises.proofs.Raising.{begun_raises, woken_raises}
use Rattle.law_promises.proofs.exits.an_exit_raises_what_failed.Goals as goal

pub returns-clause-begins : goal.returns-clause-begins
returns-clause-begins c = λ running told raised id l within entered outside sound. begun_raises running told id raised l within entered outside sound

pub returns-clause-woken : goal.returns-clause-woken
returns-clause-woken c = λ running told input id l within exiting open_ sound. woken_raises running told id input l within exiting open_ sound
