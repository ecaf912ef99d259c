use Rattle.law_groups.proofs.SpawnHolds.{spawn_holds}
use Rattle.law_groups.proofs.MakingHolds.{make_holds}
use Rattle.law_groups.proofs.telling.what_is_made_keeps_groups.Goals as goal

pub returns-clause-spawn : goal.returns-clause-spawn
returns-clause-spawn c = λ running excused told groups p is. spawn_holds running excused told groups p is

pub returns-clause-make : goal.returns-clause-make
returns-clause-make c = λ kind free running excused told heard groups p h. make_holds kind free running excused p h.parts told heard groups h
