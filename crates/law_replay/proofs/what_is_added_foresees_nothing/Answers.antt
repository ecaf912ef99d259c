use Rattle.law_replay.proofs.Added.{added_foresees}
use Rattle.law_replay.proofs.what_is_added_foresees_nothing.Goals as goal

pub returns : goal.returns
returns c = added_foresees
