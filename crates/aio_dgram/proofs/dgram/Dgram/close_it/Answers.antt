use Rattle.std.proofs.Common.{ap, ◌∙◌}
use Rattle.model_dgram.specs.Endpoints.{wait_last}
use Rattle.aio_dgram.specs.Seen.{kept_of}
use Rattle.aio_dgram.proofs.Answering.{both, close_seen}
use Rattle.aio_dgram.proofs.dgram.Dgram.close_it.Goals as goal

pub returns : goal.returns
returns c =
    let a = c.args in
    both c.ask.result c.ask.ensures.answer c.ask.ensures.after
    (λ asked is after. λ endpoint at.
    close_seen (kept_of a.self.now) (kept_of c.ask.new.self) a.parts.now c.wake_all.new.parts a.id c.remove.new.self.entries c.in-Some.endpoint asked
    c.in_ok-bytes.bytes c.in-Some.ensures.value c.in-Some.ensures.entries c.wake_all.ensures c.in_ok-bytes.ensures is (after ∙ ap (λ it. wait_last it (record (kept_of a.self.now) { endpoints = c.remove.new.self.entries })) c.closes.ensures) endpoint at)
