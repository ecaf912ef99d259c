use Rattle.std.proofs.Common.{◌∙◌, List, ℕ, length, sym, ap}
use Rattle.std.specs.Option.{option_copied}
use Rattle.model_stream.specs.Receivers.{Receiver, AllGot}
use Rattle.aio_receiver.proofs.Taking.{all_waits}
use Rattle.aio_receiver.proofs.receiver.Receiver.read_all.Goals as goal

pub returns-in-Ok-clause-tells : goal.returns-in-Ok-clause-tells
returns-in-Ok-clause-tells c =
    let r = c.args.self.now in
    let after = c.wait_for_data.new.self in
    let said : List ℕ → Receiver × AllGot = λ bytes. (after, record { taken = bytes; got = c.in-Ok.got }) in
    all_waits (length c.args.parts.now.futures) r c.args.parts.now c.wait_for_data.new.parts c.take_all.new.self after c.in-Ok.got
    (said c.in_ok-taken.taken) (sym (ap option_copied c.in_default.is) ∙ c.failed.ensures) (sym c.eof-ended.ensures ∙ c.if-ended.false)
    c.in_ok-taken.ensures.after c.in-Ok.ensures.tells (ap said c.in_ok-taken.ensures.bytes)
