use Rattle.law_sound.proofs.GroupSteps.{make_group_sound, enter_group_sound, create_sound}
use Rattle.law_sound.proofs.groups.a_group_grows.Goals as goal

pub returns-clause-make : goal.returns-clause-make
returns-clause-make c = make_group_sound

pub returns-clause-enter : goal.returns-clause-enter
returns-clause-enter c = enter_group_sound

pub returns-clause-create : goal.returns-clause-create
returns-clause-create c = create_sound
