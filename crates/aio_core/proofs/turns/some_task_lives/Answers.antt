use Rattle.std.proofs.Common.{◌∙◌}
use Rattle.aio_core.proofs.turns.some_task_lives.Goals as goal

pub returns-then-lives_from : goal.returns-then-lives_from
returns-then-lives_from g c = λ d s h. c.if-lives_from.true ∙ c.lives_from.ensures c.if-lives_from.true d s h
