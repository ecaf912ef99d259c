use Rattle.aio_transports.proofs.Endings.{answers_gone, follows_gone, tells_answer_gone, tells_gone}
use Rattle.aio_transports.proofs.laws.calls_leave_gone.Goals as goal

pub returns : goal.returns
returns g c = record {
  follows = λ change. follows_gone change g.W.Wire.outside;
  answers = λ change. answers_gone change g.W.Wire.outside;
  tells = λ change. tells_gone change;
  tells_answer = λ change. tells_answer_gone change;
}
