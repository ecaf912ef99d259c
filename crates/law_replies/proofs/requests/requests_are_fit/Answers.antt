use Rattle.law_replies.proofs.Answering.{plain_futures}
use Rattle.law_replies.proofs.Replying.{fits_in, reply_in}
use Rattle.law_replies.proofs.requests.requests_are_fit.Goals as goal

pub returns-clause-fit : goal.returns-clause-fit
returns-clause-fit g c = λ added task s step asked says own. fits_in added task s step asked says own

pub returns-clause-futures : goal.returns-clause-futures
returns-clause-futures g c = λ added task s step. plain_futures s step.others.futures

pub returns-clause-answered : goal.returns-clause-answered
returns-clause-answered g c = λ added keeps task s step asked says. reply_in added keeps task s step asked says
