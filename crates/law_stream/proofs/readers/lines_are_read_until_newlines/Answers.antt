use Rattle.law_stream.proofs.LinesByUntil.{failed_is, line_is}
use Rattle.law_stream.proofs.readers.lines_are_read_until_newlines.Goals as goal

pub returns-clause-turns : goal.returns-clause-turns
returns-clause-turns g = line_is

pub returns-clause-fails : goal.returns-clause-fails
returns-clause-fails g = failed_is
