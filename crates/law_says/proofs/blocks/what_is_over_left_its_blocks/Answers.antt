use Rattle.law_says.proofs.Growing.{over_returned, over_raised}
use Rattle.law_says.proofs.blocks.what_is_over_left_its_blocks.Goals as goal

pub returns-clause-returned : goal.returns-clause-returned
returns-clause-returned c = over_returned

pub returns-clause-raised : goal.returns-clause-raised
returns-clause-raised c = over_raised
