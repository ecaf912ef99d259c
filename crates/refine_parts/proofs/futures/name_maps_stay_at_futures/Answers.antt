use Rattle.refine_parts.proofs.Only.{ask_name_map, make_name_map}
use Rattle.model_loop.specs.Parts.{Plain, Many}
use Rattle.std.proofs.Common.{false}
use Rattle.refine_parts.proofs.futures.name_maps_stay_at_futures.Goals as goal

pub returns-clause-ask : goal.returns-clause-ask
returns-clause-ask c = ask_name_map

pub returns-clause-plain : goal.returns-clause-plain
returns-clause-plain c = λ t p. make_name_map t Plain p

pub returns-clause-many : goal.returns-clause-many
returns-clause-many c = λ t p members. make_name_map t (Many members false) p
