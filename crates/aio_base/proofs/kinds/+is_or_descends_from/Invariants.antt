use Rattle.std.proofs.Common.{length}
use Rattle.model_value.specs.Kinds.{lineage}
use Rattle.aio_base.proofs.kinds.+is_or_descends_from.Given as goal

abbrev pub decreases-is_or_descends_from : goal.decreases-is_or_descends_from
decreases-is_or_descends_from l = length (lineage l.of)
