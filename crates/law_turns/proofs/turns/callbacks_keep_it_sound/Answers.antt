use Rattle.law_turns.proofs.Turning.{dead_handle, main_done_handle, sleep_done_handle, fires_handle, group_done_handle}
use Rattle.law_turns.proofs.turns.callbacks_keep_it_sound.Goals as goal

pub returns-clause-dead : goal.returns-clause-dead
returns-clause-dead g c = λ limit added s handle rest first sound. dead_handle limit added s handle rest first sound

pub returns-clause-main_done : goal.returns-clause-main_done
returns-clause-main_done g c = λ limit added s handle rest first sound. main_done_handle limit added s handle rest first sound

pub returns-clause-sleep : goal.returns-clause-sleep
returns-clause-sleep g c = λ limit added s handle rest first sound. sleep_done_handle limit added s handle rest first sound

pub returns-clause-timeout : goal.returns-clause-timeout
returns-clause-timeout g c = λ limit added s handle rest first sound. fires_handle limit added s handle rest first sound

pub returns-clause-group : goal.returns-clause-group
returns-clause-group g c = λ limit added s handle rest first sound. group_done_handle limit added s handle rest first sound
