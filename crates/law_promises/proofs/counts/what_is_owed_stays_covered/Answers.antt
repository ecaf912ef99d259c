use Rattle.law_promises.proofs.OwedByExits.{begin_covers, woken_covers}
use Rattle.law_promises.proofs.OwedByGroups.{child_covers}
use Rattle.law_promises.proofs.Loops.{all_good, exit_covers, fire_covers}
use Rattle.law_promises.proofs.counts.what_is_owed_stays_covered.Goals as goal

pub returns-clause-fires : goal.returns-clause-fires
returns-clause-fires c = λ id l owns right is. fire_covers id l owns right is

pub returns-clause-left : goal.returns-clause-left
returns-clause-left c = λ raised id l living right is. exit_covers raised id l living right is

pub returns-clause-told : goal.returns-clause-told
returns-clause-told c = λ id task l owns right is. child_covers id task l owns right is

pub returns-clause-begins : goal.returns-clause-begins
returns-clause-begins c = λ raised id l within entered outside living right is. begin_covers raised id l within entered outside living right is

pub returns-clause-woken : goal.returns-clause-woken
returns-clause-woken c =
    λ input id l within entered open_ living right is.
    woken_covers id input l (λ two. record { within = within; entered = entered; open_ = open_; living = λ none. living }) right is

pub returns-clause-added : goal.returns-clause-added
returns-clause-added c = λ steps l right is. (all_good steps l (record { right = right; covered = is })).covered
