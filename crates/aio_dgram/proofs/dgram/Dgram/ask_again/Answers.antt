use Rattle.std.proofs.Common.{pos, ap}
use Rattle.model_dgram.specs.Endpoints.{Sends}
use Rattle.aio_extra.specs.declared.asked.Asked.TheVariants.{Outside}
use Rattle.aio_dgram.proofs.dgram.Dgram.ask_again.Goals as goal

pub returns : goal.returns
returns c = λ id it on e. (
  ap (λ bytes. Outside (pos 401) bytes c.args.key) (c.in_ok-bytes.ensures.text id it on e),
  c.in_ok-bytes.ensures.after (Sends id it on) e,
)
