use Rattle.law_kept.proofs.Requests.{decides_goes, reply_goes}
use Rattle.law_kept.proofs.kept.requests_of_the_loop_leave_it_alone.Goals as goal

pub returns : goal.returns
returns c laws = record {
  request = λ added task asked s other. reply_goes added task asked s other;
  resumed = λ added task resume_point input s other. decides_goes added task resume_point input s other;
}
