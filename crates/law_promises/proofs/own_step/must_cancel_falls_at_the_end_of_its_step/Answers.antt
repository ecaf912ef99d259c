use Rattle.law_promises.proofs.OwnRequests.{asks_falls, resumed_falls, rest_falls}
use Rattle.law_promises.proofs.OwnStep.{begins_without}
use Rattle.law_promises.proofs.own_step.must_cancel_falls_at_the_end_of_its_step.Goals as goal

pub returns : goal.returns
returns c laws = record {
  begins = begins_without;
  resumed = λ added resume_point task input s must. resumed_falls added task resume_point input s must;
  asks = λ added task asked s must. asks_falls added task asked s must;
  rest = λ limit added answers task s must. rest_falls added task limit answers s must;
}
