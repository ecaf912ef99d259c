use Rattle.refine_parts.proofs.Telling.{future_of_kept, lives_kept}
use Rattle.refine_parts.proofs.tasks.told_tasks_are_kept.Goals as goal

pub returns-clause-future : goal.returns-clause-future
returns-clause-future c = λ t v p task k. future_of_kept t v p k task

pub returns-clause-life : goal.returns-clause-life
returns-clause-life c = λ t v p task k. lives_kept t v p k task
