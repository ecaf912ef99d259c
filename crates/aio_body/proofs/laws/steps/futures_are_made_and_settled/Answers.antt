use Rattle.aio_body.proofs.Making.{makes_so, settles_so}
use Rattle.aio_body.proofs.laws.steps.futures_are_made_and_settled.Goals as goal

pub returns-clause-made : goal.returns-clause-made
returns-clause-made g c = makes_so

pub returns-clause-settled : goal.returns-clause-settled
returns-clause-settled g c = settles_so
