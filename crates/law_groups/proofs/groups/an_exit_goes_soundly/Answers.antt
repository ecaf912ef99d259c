use Rattle.law_groups.proofs.ExitBegins.{begin_well}
use Rattle.law_groups.proofs.Exits.{exit_woken_sound}
use Rattle.law_groups.proofs.groups.an_exit_goes_soundly.Goals as goal

pub returns-clause-begins : goal.returns-clause-begins
returns-clause-begins c = λ running excused covers told raised id l within entered outside h all.
    let w = begin_well running excused covers told id raised l h all within entered outside in (w.sound, w.orderly)

pub returns-clause-woken : goal.returns-clause-woken
returns-clause-woken c = exit_woken_sound
