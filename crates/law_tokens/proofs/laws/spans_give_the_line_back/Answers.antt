use Rattle.std.proofs.Common.{arith}
use Rattle.law_tokens.proofs.LineLemmas.{Reads-tokens_of}
use Rattle.law_tokens.proofs.SpanLemmas.{GivesBack-Reads}
use Rattle.law_tokens.proofs.laws.spans_give_the_line_back.Goals as goal

pub returns : goal.returns
returns c = λ line tokens e.
    GivesBack-Reads line 1 tokens (omega arith) (omega arith) (Reads-tokens_of line tokens e)
