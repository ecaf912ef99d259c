use Rattle.std.proofs.Common.{Bool, [], sym, subst, ◌∙◌}
use Rattle.std.specs.Prelude.{if◌then◌else◌}
use Rattle.model_dgram.specs.Endpoints.{Endpoint, wakes_first}
use Rattle.model_sync.specs.Synced.{without}
use Rattle.aio_dgram.specs.Keeps.{waits}
use Rattle.aio_dgram.specs.Woken.{Sees}
use Rattle.aio_dgram.proofs.endpoint.Endpoint.leave_line.Goals as goal

pub returns-then-first-clause-steps : goal.returns-then-first-clause-steps
returns-then-first-clause-steps c =
    let a = c.args in
    let kept = waits a.waiting.now.entries in
    let left = without a.place a.self.now.senders in
    subst (λ (b : Bool). Sees (if b then wakes_first kept left else []) a.parts.now c.wake_first.new.parts)
    (sym (sym c.is_first-first.ensures ∙ c.if-first.true))
    (subst (λ (e : Endpoint). Sees (wakes_first kept e.senders) a.parts.now c.wake_first.new.parts) c.leave.ensures c.wake_first.ensures)
