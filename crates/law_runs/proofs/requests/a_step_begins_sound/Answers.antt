use Rattle.std.proofs.Common.{refl}
use Rattle.model_value.specs.Value.{Nothing}
use Rattle.model_value.specs.declared.input.Input.TheVariants.{Send}
use Rattle.model_machine.specs.State.{generator_of}
use Rattle.law_runs.proofs.Beginning.{stepped_lives, resume_point_fit, begun_asked, begins_in}
use Rattle.law_runs.proofs.Callbacks.{woken_made}
use Rattle.law_runs.proofs.requests.a_step_begins_sound.Goals as goal

pub returns-clause-lives : goal.returns-clause-lives
returns-clause-lives g c = λ added s task handle rest first live mine sound. stepped_lives added s task (Send Nothing) handle rest first live mine sound

pub returns-clause-resume_point : goal.returns-clause-resume_point
returns-clause-resume_point g c = λ added s task handle rest first live mine sound no.
    resume_point_fit added s task (Send Nothing) handle rest first live mine sound (generator_of task s).resume_point refl no

pub returns-clause-asked : goal.returns-clause-asked
returns-clause-asked g c = λ added s task input handle rest first live mine sound asked says.
    begun_asked added s task input handle rest first live mine sound asked says

pub returns-clause-answered : goal.returns-clause-answered
returns-clause-answered g c = λ added keeps s task input handle rest first live mine sound given_.
    begins_in added s task input handle rest first live mine sound keeps given_

pub returns-clause-woken : goal.returns-clause-woken
returns-clause-woken g c = λ added s task sound. woken_made added s sound task
