use Rattle.law_steps.proofs.Making.{make_sound}
use Rattle.law_steps.proofs.made.a_new_future_keeps_parts_sound.Goals as goal

pub returns : goal.returns
returns c = λ kind free running excused p is. make_sound kind free running excused p is
