use Rattle.law_parted.proofs.Missing.{missing_allowed, missing_falls, missing_keys, missing_same}
use Rattle.law_parted.proofs.a_missing_part_does_nothing.Goals as goal

pub returns-clause-allowed : goal.returns-clause-allowed
returns-clause-allowed c = missing_allowed

pub returns-clause-part : goal.returns-clause-part
returns-clause-part c = missing_keys

pub returns-clause-falls : goal.returns-clause-falls
returns-clause-falls c = missing_falls

pub returns-clause-keys : goal.returns-clause-keys
returns-clause-keys c = missing_same
