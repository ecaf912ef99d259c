use Rattle.law_says.proofs.Growing.{leaves_innermost}
use Rattle.law_says.proofs.blocks.exits_are_of_the_innermost_block.Goals as goal

pub returns : goal.returns
returns c = leaves_innermost
