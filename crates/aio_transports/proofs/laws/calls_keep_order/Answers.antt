use Rattle.aio_transports.proofs.Endings.{answers_grown, follows_grown, tells_answer_grown, tells_grown}
use Rattle.aio_transports.proofs.laws.calls_keep_order.Goals as goal

pub returns : goal.returns
returns g c = record {
  follows = λ change. follows_grown change g.W.Wire.outside;
  answers = λ change. answers_grown change g.W.Wire.outside;
  tells = λ change. tells_grown change;
  tells_answer = λ change. tells_answer_grown change;
}
