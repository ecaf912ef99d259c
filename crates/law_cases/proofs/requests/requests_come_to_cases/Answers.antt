use Rattle.law_cases.proofs.Cases.{reply_is}
use Rattle.law_cases.proofs.requests.requests_come_to_cases.Goals as goal

pub returns : goal.returns
returns g c = reply_is
