use Rattle.law_cases.proofs.Closed.{refused}
use Rattle.law_cases.proofs.requests.requests_to_nothing_are_refused.Goals as goal

pub returns : goal.returns
returns g c = λ added task s asked closed is. refused s closed added task asked is
