use Rattle.law_changes.proofs.StepNumbers.{begin_step_numbers, pause_numbers, suspend_numbers, finish_numbers}
use Rattle.law_changes.proofs.numbers.stay_given_once_in_steps.Goals as goal

pub returns-clause-begin : goal.returns-clause-begin
returns-clause-begin c = begin_step_numbers

pub returns-clause-pause : goal.returns-clause-pause
returns-clause-pause c = pause_numbers

pub returns-clause-suspend : goal.returns-clause-suspend
returns-clause-suspend c = suspend_numbers

pub returns-clause-finish : goal.returns-clause-finish
returns-clause-finish c = finish_numbers
