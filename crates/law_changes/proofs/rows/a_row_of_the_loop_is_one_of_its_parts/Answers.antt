use Rattle.law_changes.proofs.Parts.{parts_of}
use Rattle.law_changes.proofs.rows.a_row_of_the_loop_is_one_of_its_parts.Goals as goal

pub returns : goal.returns
returns c runner l m row = parts_of row
