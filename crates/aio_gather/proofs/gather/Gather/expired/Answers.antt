use Rattle.std.proofs.Common.{subst}
use Rattle.std.specs.Prelude.{if◌then◌else◌}
use Rattle.model_loop.specs.Timeouts.{timeout_exception}
use Rattle.model_machine.specs.Extra.{Raises}
use Rattle.model_reach.specs.Part.{key_at, passes}
use Rattle.model_gather.specs.Gathered.{gather_part}
use Rattle.aio_gather.specs.Seen.{Says}
use Rattle.aio_gather.proofs.Acted.{expired_seen, uncancelled}
use Rattle.aio_gather.proofs.gather.Gather.expired.Goals as goal

pub returns : goal.returns
returns c = λ tags.
    let a = c.args in
    expired_seen tags a.self.now c.set_state.new.self a.parts.now c.revoke.new.parts c.uncancel-left.new.self a.place a.it a.input c.timed_out.result
    c.requires.there c.set_state.ensures c.revoke.ensures.steps
    (uncancelled c.revoke.new.parts c.uncancel-left.new.self (key_at gather_part a.place) a.it.task c.uncancel-left.ensures.after
    c.uncancel-left.ensures.frame)
    (subst (λ b. Says c.timed_out.result (if b then Raises timeout_exception else passes a.input)) c.is_timed_out-over.ensures c.timed_out.ensures)
