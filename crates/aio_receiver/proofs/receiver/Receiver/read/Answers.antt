use Rattle.std.proofs.Common.{◌∙◌, length, sym, subst}
use Rattle.std.proofs.lemmas.Result.{IfOk-weaker, on_ok_weaker}
use Rattle.model_stream.specs.Receivers.{Receiver}
use Rattle.aio_change.specs.Owned.{IsOwnIfAny}
use Rattle.aio_receiver.proofs.Taking.{read_gives, read_raises, read_waits, same_read}
use Rattle.aio_receiver.proofs.receiver.Receiver.read.Goals as goal

pub returns-in-Bytes-clause-tells : goal.returns-in-Bytes-clause-tells
returns-in-Bytes-clause-tells c =
    read_gives (length c.args.parts.now.futures) c.args.op.now c.args.self.now c.in-Bytes.bytes c.take.new.self c.args.parts.now
    (sym c.in-Bytes.is ∙ c.in_ok-bytes.ensures.answer) c.in_ok-bytes.ensures.after

pub returns-in-Raises-clause-tells : goal.returns-in-Raises-clause-tells
returns-in-Raises-clause-tells c =
    read_raises (length c.args.parts.now.futures) c.args.op.now c.args.self.now c.in-Raises.fault c.take.new.self c.args.parts.now
    (sym c.in-Raises.is ∙ c.in_ok-bytes.ensures.answer) c.in_ok-bytes.ensures.after

pub returns-in-Needs-clause-tells : goal.returns-in-Needs-clause-tells
returns-in-Needs-clause-tells c =
    IfOk-weaker c.wait_for_data.result _ _ (λ got told.
    read_waits (length c.args.parts.now.futures) c.args.op.now c.args.self.now c.take.new.self c.args.parts.now c.wait_for_data.new.parts
    (c.wait_for_data.new.self, got) (sym c.in-Needs.is ∙ c.in_ok-bytes.ensures.answer) c.in_ok-bytes.ensures.after told)
    c.wait_for_data.ensures.tells

pub returns-in-Needs-clause-own : goal.returns-in-Needs-clause-own
returns-in-Needs-clause-own c =
    let same = same_read (length c.args.parts.now.futures) c.args.op.now c.args.self.now c.take.new.self
    (sym c.in-Needs.is ∙ c.in_ok-bytes.ensures.answer) c.in_ok-bytes.ensures.after in
    on_ok_weaker c.wait_for_data.result
    (λ keeps own. keeps (subst (λ (r : Receiver). IsOwnIfAny c.args.parts.now r.waiter) (sym same) own)) c.wait_for_data.ensures.own
