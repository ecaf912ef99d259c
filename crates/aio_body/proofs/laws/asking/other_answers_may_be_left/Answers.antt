use Rattle.aio_body.proofs.Answering.{asking_again, between_again, going_again}
use Rattle.aio_body.proofs.laws.asking.other_answers_may_be_left.Goals as goal

pub returns : goal.returns
returns g c = record { between = between_again; going = going_again; asking = asking_again }
