use Rattle.law_lines.proofs.MeantLines.{accepted-back, taken-back}
use Rattle.law_lines.proofs.written.meant_lines_are_well_written.Goals as goal

pub returns-clause-written : goal.returns-clause-written
returns-clause-written c = λ scope text tokens form line t f m. (accepted-back scope text tokens form line t f m).1

pub returns-clause-same : goal.returns-clause-same
returns-clause-same c = λ scope text tokens form line t f m. (accepted-back scope text tokens form line t f m).0

pub returns-clause-taken : goal.returns-clause-taken
returns-clause-taken c = taken-back
