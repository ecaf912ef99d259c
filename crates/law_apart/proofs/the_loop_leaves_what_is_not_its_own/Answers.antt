use Rattle.law_apart.proofs.Loops.{child_done_safe, end_safe, finish_safe, fire_safe, woken_safe}
use Rattle.law_apart.proofs.the_loop_leaves_what_is_not_its_own.Goals as goal

pub returns-clause-ends : goal.returns-clause-ends
returns-clause-ends c = λ ours made below task end l a.
    let b = finish_safe ours made below task end l a in record { apart = b.apart; leaves = b.leaves }

pub returns-clause-fires : goal.returns-clause-fires
returns-clause-fires c = λ ours made below id l a.
    let b = fire_safe ours made below id l a in record { apart = b.apart; leaves = b.leaves }

pub returns-clause-told : goal.returns-clause-told
returns-clause-told c = λ ours made below group task l a.
    let b = child_done_safe ours made below group task l a in record { apart = b.apart; leaves = b.leaves }

pub returns-clause-begins : goal.returns-clause-begins
returns-clause-begins c = λ ours made below answer l a.
    let b = woken_safe ours made below answer l a in record { apart = b.apart; leaves = b.leaves }

pub returns-clause-over : goal.returns-clause-over
returns-clause-over c = λ ours made below l a.
    let b = end_safe ours made below l a in record { apart = b.apart; leaves = b.leaves }
