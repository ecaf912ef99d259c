use Rattle.model_program.specs.Added.{added, first_added}
use Rattle.law_replay.proofs.Added.{added_foresees}
use Rattle.law_replay.proofs.Turning.{reads_alone}
use Rattle.law_replay.proofs.what_is_not_read_does_not_matter.Goals as goal

pub returns-clause-program : goal.returns-clause-program
returns-clause-program g c = reads_alone added added_foresees first_added

pub returns-clause-any : goal.returns-clause-any
returns-clause-any g c = reads_alone
