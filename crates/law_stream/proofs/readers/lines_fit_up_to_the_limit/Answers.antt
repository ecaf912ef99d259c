use Rattle.law_stream.proofs.LineEnds.{line_fits, line_is_too_long}
use Rattle.law_stream.proofs.readers.lines_fit_up_to_the_limit.Goals as goal

pub returns : goal.returns
returns c = record { fits = line_fits; is_too_long = line_is_too_long }
