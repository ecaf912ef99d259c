use Rattle.std.proofs.Common.{refl}
use Rattle.model_machine.specs.Extra.{NamesNothing}
use Rattle.model_sync.specs.Synced.{none_synced}
use Rattle.model_sync.specs.Serving.{sync_means}
use Rattle.model_exec.specs.Execed.{none_execed}
use Rattle.model_exec.specs.Serving.{exec_means}
use Rattle.model_dgram.specs.Endpoints.{none_opened}
use Rattle.model_dgram.specs.Serving.{dgram_means}
use Rattle.model_gather.specs.Serving.{gather_means}
use Rattle.model_program.specs.Added.{added, first_added}
use Rattle.law_gather.proofs.Allowed.{gather_allowed}
use Rattle.law_gather.proofs.Keys.{of_gather}
use Rattle.law_exec.proofs.Allowed.{exec_allowed}
use Rattle.law_exec.proofs.Keys.{of_exec}
use Rattle.law_dgram.proofs.Allowed.{dgram_allowed}
use Rattle.law_dgram.proofs.Keys.{of_dgram}
use Rattle.law_heeded.proofs.Synced.{sync_keeps_to}
use Rattle.law_heeded.proofs.Jobs.{exec_keeps_to}
use Rattle.law_heeded.proofs.Datagrams.{dgram_keeps_to}
use Rattle.law_keys.proofs.Keys.{sync_keeps_to_keys}
use Rattle.law_keys.proofs.Jobs.{exec_keeps_to_keys}
use Rattle.law_keys.proofs.Datagrams.{dgram_keeps_to_keys}
use Rattle.law_parted.proofs.Reaching.{reach_allowed}
use Rattle.law_replies.specs.Added.{KeepsSound}
use Rattle.law_runs.proofs.Calls.{allowed_keeps}
use Rattle.law_sync.proofs.Allowed.{sync_allowed}
use Rattle.law_sync.proofs.Keys.{of_sync}
use Rattle.law_outcomes.proofs.Ending.{futures_come}
use Rattle.law_outcomes.proofs.futures_come_to_what_was_gathered.Goals as goal

added_sound : KeepsSound added
added_sound =
    allowed_keeps added
    (reach_allowed gather_means sync_means exec_means dgram_means of_gather of_sync of_exec of_dgram gather_allowed sync_allowed exec_allowed
    dgram_allowed)

names_nothing : NamesNothing (added.keeps first_added)
names_nothing = record { tasks = refl; futures = refl; own = refl; tags = refl; values = refl }

pub returns : goal.returns
returns c laws = record {
  of_the_program = λ most program answers turns.
      futures_come sync_means exec_means dgram_means sync_keeps_to_keys exec_keeps_to_keys dgram_keeps_to_keys sync_keeps_to exec_keeps_to
      dgram_keeps_to added_sound none_synced none_execed none_opened names_nothing most program answers turns;
  beside_others = λ sync exec dgram of_sync of_exec of_dgram its_sync its_exec its_dgram keeps b c d nothing most program answers turns.
      futures_come sync exec dgram of_sync of_exec of_dgram its_sync its_exec its_dgram keeps b c d nothing most program answers turns;
}
