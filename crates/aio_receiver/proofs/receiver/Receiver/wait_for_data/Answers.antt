use Rattle.std.proofs.Common.{◌∙◌, ℕ, Some, length, sym, ap}
use Rattle.model_stream.specs.declared.answers.StreamGot.TheVariants as got_as
use Rattle.model_stream.specs.Reading.{resume}
use Rattle.model_stream.specs.Receivers.{Receiver}
use Rattle.aio_receiver.proofs.Taking.{first_waits, waiter_own}
use Rattle.aio_receiver.proofs.receiver.Receiver.wait_for_data.Goals as goal

pub returns-clause-tells : goal.returns-clause-tells
returns-clause-tells c =
    let r = c.args.self.now in
    first_waits (length c.args.parts.now.futures) r c.args.parts.now c.make_future.new.parts
    (c.wait_on.new.self, got_as.Waits c.in_ok-future.future) (sym c.is_waiting.ensures ∙ c.if-is_waiting.false) c.in_ok-future.ensures.after
    (ap (λ (a : Receiver). (a, got_as.Waits c.in_ok-future.future)) c.wait_on.ensures
    ∙ ap (λ (n : ℕ). (record r { reader = resume r.reader; waiter = Some n }, got_as.Waits n)) c.in_ok-future.ensures.number)

pub returns-clause-own : goal.returns-clause-own
returns-clause-own c =
    λ own. waiter_own c.args.parts.now c.make_future.new.parts c.wait_on.new.self c.in_ok-future.future c.in_ok-future.ensures.after
    c.in_ok-future.ensures.number (ap (λ (a : Receiver). a.waiter) c.wait_on.ensures)
