use Rattle.law_tokens.proofs.FaultLemmas.{FirstFault-tokens_of, tokens_of-FirstFault}
use Rattle.law_tokens.proofs.laws.refusals_are_first_faults.Goals as goal

pub returns-clause-first : goal.returns-clause-first
returns-clause-first c = FirstFault-tokens_of

pub returns-clause-refused : goal.returns-clause-refused
returns-clause-refused c = tokens_of-FirstFault
