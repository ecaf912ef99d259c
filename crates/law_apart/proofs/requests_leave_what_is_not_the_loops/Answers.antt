use Rattle.law_apart.proofs.Requests.{decides_goes, reply_goes}
use Rattle.law_apart.proofs.requests_leave_what_is_not_the_loops.Goals as goal

pub returns-clause-request : goal.returns-clause-request
returns-clause-request c laws = λ ours made below added task asked s other a.
    let b = reply_goes ours made below added task asked s other a in record { apart = b.apart; leaves = b.leaves }

pub returns-clause-resumed : goal.returns-clause-resumed
returns-clause-resumed c laws = λ ours made below added task resume_point input s other a.
    let b = decides_goes ours made below added task resume_point input s other a in record { apart = b.apart; leaves = b.leaves }
