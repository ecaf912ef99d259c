use Rattle.law_groups.proofs.Entering.{made_holds, entered_holds}
use Rattle.law_groups.proofs.Creating.{create_holds}
use Rattle.law_groups.proofs.groups.a_group_grows_soundly.Goals as goal

pub returns-clause-make : goal.returns-clause-make
returns-clause-make c = made_holds

pub returns-clause-enter : goal.returns-clause-enter
returns-clause-enter c = λ running excused told id l within living h. entered_holds id l within running excused told living h

pub returns-clause-create : goal.returns-clause-create
returns-clause-create c = create_holds
