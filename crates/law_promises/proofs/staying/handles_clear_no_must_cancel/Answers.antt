use Rattle.law_promises.proofs.MustCancelStays.{due_keeps, spawn_keeps}
use Rattle.law_promises.proofs.staying.handles_clear_no_must_cancel.Goals as goal

pub returns-clause-soon : goal.returns-clause-soon
returns-clause-soon c = λ action p task m. m

pub returns-clause-later : goal.returns-clause-later
returns-clause-later c = λ when action p task m. m

pub returns-clause-revoke : goal.returns-clause-revoke
returns-clause-revoke c = λ tag p task m. m

pub returns-clause-due : goal.returns-clause-due
returns-clause-due c = due_keeps

pub returns-clause-make : goal.returns-clause-make
returns-clause-make c = λ kind p task m. m

pub returns-clause-spawn : goal.returns-clause-spawn
returns-clause-spawn c = spawn_keeps

pub returns-clause-pause : goal.returns-clause-pause
returns-clause-pause c = λ id p task m. m
