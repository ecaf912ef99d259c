use Rattle.law_value.proofs.Quotes.{text_ends, bytes_end}
use Rattle.law_value.proofs.laws.literals_end_where_they_close.Goals as goal

pub returns : goal.returns
returns c = record { texts = text_ends; bytes = bytes_end }
