use Rattle.std.proofs.Common.{◌≡◌, ◌∙◌, ℕ, false, not, ◌&&◌, [], ◌∷◌, ◌++◌, length, inl, inr, sym, ap}
use Rattle.model_stream.specs.declared.answers.Drain.TheVariants as drain_as
use Rattle.model_stream.specs.Senders.{Sender, Drain, is_closing}
use Rattle.aio_sender.proofs.Telling.{drain_own, drain_waits, yields_not}
use Rattle.aio_sender.proofs.sender.Sender.drain.Goals as goal
use Rattle.aio_sender.proofs.sender.Sender.drain.Goals.{else-is_closing-via-then-is_closing+else-not-yielded, else-is_closing-via-else-is_closing}

pub returns-clause-tells : goal.returns-clause-tells
returns-clause-tells c =
    let s = c.args.self.now in
    let test : (is_closing s && not c.args.yielded) ≡ false = elim c.else-is_closing.branch [
      | else-is_closing-via-then-is_closing+else-not-yielded w ↦ yields_not (is_closing s) c.args.yielded (inr w.if-not-yielded.false)
      | else-is_closing-via-else-is_closing w ↦ yields_not (is_closing s) c.args.yielded (inl (sym c.is_closing.ensures ∙ w.if-is_closing.false))
    ] in
    drain_waits c.args.yielded (length c.args.parts.now.futures) s c.args.parts.now c.make_future.new.parts
    (c.push_drain.new.self, drain_as.Waits c.in_ok-future.future) test (sym c.is_lost.ensures ∙ c.if-is_lost.false)
    (sym c.paused.ensures ∙ c.if-not-paused.false) c.in_ok-future.ensures.after
    (ap (λ (a : Sender). (a, drain_as.Waits c.in_ok-future.future)) c.in_ok-push_drain.ensures
    ∙ ap (λ (n : ℕ). (record s { drains = s.drains ++ n ∷ [] }, drain_as.Waits n)) c.in_ok-future.ensures.number)

pub returns-clause-own : goal.returns-clause-own
returns-clause-own c =
    drain_own c.args.self.now c.push_drain.new.self c.args.parts.now c.make_future.new.parts c.in_ok-future.future c.in_ok-future.ensures.after
    c.in_ok-future.ensures.number c.in_ok-push_drain.ensures
