use Rattle.law_cases.proofs.Going.{effect_is}
use Rattle.law_cases.proofs.Replying.{streams_reply}
use Rattle.law_cases.proofs.opened.streams_come_to_cases.Goals as goal

pub returns-clause-requests : goal.returns-clause-requests
returns-clause-requests g c = λ added task s kept asked is. streams_reply added task s kept asked is

pub returns-clause-callbacks : goal.returns-clause-callbacks
returns-clause-callbacks g c = λ limit added s kept it is. effect_is s kept limit added it is
