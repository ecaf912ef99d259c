use Rattle.std.specs.Prelude.{[]}
use Rattle.law_sound.proofs.Steps.{many_step_sound, plain_step_sound}
use Rattle.model_machine.specs.Extra.{Cancels, Uncancels}
use Rattle.law_runs.proofs.Handles.{later_sound, register_sound, soon_sound}
use Rattle.law_runs.proofs.Steps.{all_sound, revoke_sound, settles_sound, step_sound}
use Rattle.law_runs.specs.Allowed.{Owns}
use Rattle.law_runs.proofs.extras.each_step_keeps_the_loop_sound.Goals as goal

nothing_own : Owns
nothing_own = record {
  futures = [];
  tags = [];
  next_future = 0;
  next_tag = 0;
  ids = record { tasks = 0; futures = 0; timeouts = 0; groups = 0; servers = 0; connections = 0; children = 0 };
}

pub returns-clause-plain : goal.returns-clause-plain
returns-clause-plain c = λ running told l s. plain_step_sound running told l s

pub returns-clause-many : goal.returns-clause-many
returns-clause-many c = λ running told l members there s. many_step_sound running told members l there s

pub returns-clause-settles : goal.returns-clause-settles
returns-clause-settles c = λ running told l future outcome within none s. settles_sound running told future outcome l within none s

pub returns-clause-registers : goal.returns-clause-registers
returns-clause-registers c = λ running told l future key s. register_sound running told future key l s

pub returns-clause-soon : goal.returns-clause-soon
returns-clause-soon c = λ running told l key s. soon_sound running told key l s

pub returns-clause-later : goal.returns-clause-later
returns-clause-later c = λ running told l when key s. later_sound running told when key l s

pub returns-clause-revokes : goal.returns-clause-revokes
returns-clause-revokes c = λ running told l tag none s. revoke_sound running told tag l none s

pub returns-clause-cancels : goal.returns-clause-cancels
returns-clause-cancels c = λ running told l key future s. step_sound running told nothing_own (Cancels key future) l tt s

pub returns-clause-uncancels : goal.returns-clause-uncancels
returns-clause-uncancels c = λ running told l key task s. step_sound running told nothing_own (Uncancels key task) l tt s

pub returns-clause-several : goal.returns-clause-several
returns-clause-several c = λ running told own l steps may s. all_sound running told own steps l may s
