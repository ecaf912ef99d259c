use Rattle.refine_parts.proofs.Naming.{next_named}
use Rattle.refine_parts.proofs.handles.an_id_names_a_handle.Goals as goal

pub returns : goal.returns
returns c = next_named
