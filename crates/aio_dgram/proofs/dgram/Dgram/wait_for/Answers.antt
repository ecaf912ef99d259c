use Rattle.std.proofs.Common.{ℕ, ◌<◌, ap, sym, subst, ◌∙◌}
use Rattle.std.specs.List.{AllByRecursion as Each}
use Rattle.model_dgram.specs.Endpoints.{Waiting, wait_last}
use Rattle.aio_dgram.specs.Seen.{kept_of}
use Rattle.aio_dgram.proofs.Answering.{both, waits_on, waits_taken}
use Rattle.aio_dgram.proofs.dgram.Dgram.wait_for.Goals as goal

pub returns-then-is_waited_for : goal.returns-then-is_waited_for
returns-then-is_waited_for c =
    let a = c.args in
    both c.raise.result c.raise.ensures.answer c.raise.ensures.after
    (λ asked raised after. λ endpoint at.
    waits_taken (kept_of a.self.now) a.parts.now a.id endpoint at (kept_of c.raise.new.self) asked (sym (c.is_waited_for.ensures endpoint at) ∙ c.if-is_waited_for.true)
    after raised)

pub wait-requires-clause-places : goal.wait-requires-clause-places
wait-requires-clause-places c =
    let same = c.set_receiver.ensures.same in
    subst (λ n. Each (λ (entry : ℕ × Waiting). entry.0 < n) c.set_receiver.new.self.waiting.entries) (sym same.0)
    (subst (λ ws. Each (λ (entry : ℕ × Waiting). entry.0 < c.args.self.now.drawn) ws.entries) (sym same.1) c.requires.tidy.places)

pub returns : goal.returns
returns c = λ endpoint at.
    let a = c.args in
    waits_on (kept_of a.self.now) a.parts.now a.id endpoint at (kept_of c.wait.new.self) (kept_of c.set_receiver.new.self) c.new_plain.new.self c.in_ok-on.on
    c.in_ok-key.key (sym (c.is_waited_for.ensures endpoint at) ∙ c.if-is_waited_for.false) c.set_receiver.ensures.after
    (c.in_ok-key.ensures.after ∙ ap (λ it. wait_last it (kept_of c.set_receiver.new.self)) c.receives.ensures)
    c.in_ok-on.ensures.number c.in_ok-key.ensures.key c.in_ok-on.ensures.after
