use Rattle.law_runs.proofs.Callbacks.{callback_in}
use Rattle.law_runs.proofs.Turning.{noted_in, woken_in, pending_in, ended_in}
use Rattle.law_runs.proofs.runs.the_pieces_of_a_turn_keep_it_sound.Goals as goal

pub returns-clause-noted : goal.returns-clause-noted
returns-clause-noted g c = noted_in

pub returns-clause-woken : goal.returns-clause-woken
returns-clause-woken g c = woken_in

pub returns-clause-callback : goal.returns-clause-callback
returns-clause-callback g c = λ added keeps s handle rest first sound. callback_in added keeps s handle rest first sound

pub returns-clause-pending : goal.returns-clause-pending
returns-clause-pending g c = λ added keeps s sound. pending_in added keeps s sound

pub returns-clause-over : goal.returns-clause-over
returns-clause-over g c = ended_in
