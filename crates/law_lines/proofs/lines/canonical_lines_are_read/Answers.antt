use Rattle.law_lines.proofs.FormReads.{form-read, line-read, line-inside}
use Rattle.law_lines.proofs.lines.canonical_lines_are_read.Goals as goal

pub returns-clause-form : goal.returns-clause-form
returns-clause-form c = form-read

pub returns-clause-behind : goal.returns-clause-behind
returns-clause-behind c = line-read

pub returns-clause-inside : goal.returns-clause-inside
returns-clause-inside c = line-inside
