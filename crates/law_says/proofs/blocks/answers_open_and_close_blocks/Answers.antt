use Rattle.model_says.specs.Says.{exchanges_along}
use Rattle.law_says.proofs.Growing.{answered_more, opened_grows, same_blocks}
use Rattle.law_says.proofs.blocks.answers_open_and_close_blocks.Goals as goal

pub returns-clause-answers : goal.returns-clause-answers
returns-clause-answers c = answered_more

pub returns-clause-blocks : goal.returns-clause-blocks
returns-clause-blocks c = opened_grows

pub returns-clause-defined : goal.returns-clause-defined
returns-clause-defined c = λ program place arguments tape. same_blocks (exchanges_along program place arguments tape)
