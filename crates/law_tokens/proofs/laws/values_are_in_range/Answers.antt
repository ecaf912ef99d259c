use Rattle.law_tokens.proofs.LineLemmas.{Reads-tokens_of}
use Rattle.law_tokens.proofs.RangeLemmas.{each_in_range}
use Rattle.law_tokens.proofs.laws.values_are_in_range.Goals as goal

pub returns : goal.returns
returns c = λ line tokens e. each_in_range 1 line tokens (Reads-tokens_of line tokens e)
