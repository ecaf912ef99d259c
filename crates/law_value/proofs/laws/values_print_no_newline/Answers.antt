use Rattle.law_value.proofs.Newlines.{shown_printed, exc_printed}
use Rattle.law_value.proofs.laws.values_print_no_newline.Goals as goal

pub returns : goal.returns
returns c = record { values = shown_printed; exceptions = exc_printed }
