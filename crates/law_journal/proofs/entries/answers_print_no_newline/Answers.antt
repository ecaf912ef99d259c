use Rattle.law_journal.proofs.Newlines.{answer-printed}
use Rattle.law_journal.proofs.entries.answers_print_no_newline.Goals as goal

pub returns : goal.returns
returns c = answer-printed
