use Rattle.law_says.specs.Given.{IsIn}
use Rattle.law_says.proofs.Growing.{said_of_given}
use Rattle.law_says.proofs.blocks.what_is_handed_on_was_given.Goals as goal

pub returns : goal.returns
returns c = λ test closed limit program place arguments tape all given_.
    said_of_given limit program place arguments tape (IsIn test) closed all given_
