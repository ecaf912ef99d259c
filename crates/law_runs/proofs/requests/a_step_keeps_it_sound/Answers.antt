use Rattle.law_runs.proofs.Callbacks.{serve_in, step_in}
use Rattle.law_runs.proofs.requests.a_step_keeps_it_sound.Goals as goal

pub returns-clause-whole : goal.returns-clause-whole
returns-clause-whole g c = λ added keeps s task input handle rest first live mine sound given_.
    step_in added keeps task s input handle rest first live mine sound given_

pub returns-clause-rest : goal.returns-clause-rest
returns-clause-rest g c = λ added keeps task answers s step. serve_in added keeps task answers s step
