use Rattle.model_program.specs.Added.{added, first_added}
use Rattle.law_replay.proofs.Added.{added_foresees}
use Rattle.law_replay.proofs.Turning.{replays_itself}
use Rattle.law_replay.proofs.a_record_replays_its_run.Goals as goal

pub returns-clause-program : goal.returns-clause-program
returns-clause-program g c = replays_itself added added_foresees first_added c.what_is_recorded_is_read.ensures

pub returns-clause-any : goal.returns-clause-any
returns-clause-any g c = λ extra foresees first. replays_itself extra foresees first c.what_is_recorded_is_read.ensures
