use Rattle.law_promises.proofs.entered.a_groups_parent_lives_until_its_exit_has_ended.Goals as goal

pub returns : goal.returns
returns c = λ running told l sound all id h open_. (sound.groups id).tellings.parent_lives (all id h) open_
