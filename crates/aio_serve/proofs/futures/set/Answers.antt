use Rattle.std.proofs.Common.{sym}
use Rattle.std.proofs.lemmas.Result.{IfOk-weaker}
use Rattle.std.proofs.Common.{subst}
use Rattle.aio_body.specs.Asked.{Says}
use Rattle.aio_serve.proofs.Meaning.{set_means}
use Rattle.aio_serve.proofs.futures.set.Goals as goal

pub returns : goal.returns
returns g c task =
    IfOk-weaker c.settle.result _ _ (λ said says at s h.
    subst (Says task at c.settle.new.body said) (sym (set_means g.X.Extra.added.meaning task s c.args.future.now c.args.value)) (says at s h.going))
    (c.settle.ensures task)
