use Rattle.std.proofs.Common.{◌∙◌, ap}
use Rattle.model_dgram.specs.Endpoints.{Sends, wait_again}
use Rattle.aio_extra.specs.declared.asked.Asked.TheVariants.{Wait}
use Rattle.aio_dgram.specs.Seen.{kept_of}
use Rattle.aio_dgram.proofs.dgram.Dgram.wait_again.Goals as goal

pub returns : goal.returns
returns c = λ id it on e. (
  ap (λ n. Wait n c.args.key) c.in_ok-on.ensures.number,
  c.wait_on.ensures (Sends id it on) e ∙ ap (λ n. wait_again c.args.place (Sends id it n) (kept_of c.args.self.now)) c.in_ok-on.ensures.number,
  c.in_ok-on.ensures.after,
)
