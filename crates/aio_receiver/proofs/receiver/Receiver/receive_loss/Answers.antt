use Rattle.std.proofs.Common.{Option, sym, subst}
use Rattle.model_value.specs.Value.{Exc}
use Rattle.model_stream.specs.Reading.{fail}
use Rattle.model_stream.specs.Receivers.{receive_loss}
use Rattle.aio_exchange.specs.Tells.{Tells}
use Rattle.aio_change.specs.Seen.{seen_changed}
use Rattle.aio_receiver.proofs.Waking.{woken_after}
use Rattle.aio_receiver.proofs.receiver.Receiver.receive_loss.Goals as goal

pub returns-in-Some-clause-tells : goal.returns-in-Some-clause-tells
returns-in-Some-clause-tells c =
    let r = c.args.self.now in
    subst (λ (loss : Option Exc). Tells seen_changed (receive_loss loss r) c.args.parts.now c.wake.new.parts c.wake.new.self) (sym c.in-Some.is)
    (woken_after (fail c.in-Some.fault r.reader) r c.fail.new.self c.wake.new.self c.args.parts.now c.wake.new.parts c.fail.ensures
    c.wake.ensures.after c.wake.ensures.parts)
