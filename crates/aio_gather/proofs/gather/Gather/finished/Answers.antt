use Rattle.aio_gather.proofs.Acted.{finished_seen}
use Rattle.aio_gather.proofs.gather.Gather.finished.Goals as goal

pub returns : goal.returns
returns c = λ tags.
    let a = c.args in
    finished_seen tags a.self.now c.set_state.new.self a.parts.now c.revoke.new.parts a.place a.it a.input c.passed.result c.requires.there
    c.set_state.ensures c.revoke.ensures.steps c.passed.ensures
