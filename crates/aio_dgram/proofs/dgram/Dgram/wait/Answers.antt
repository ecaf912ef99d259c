use Rattle.std.proofs.Common.{ap, ◌∙◌, ◌+◌}
use Rattle.aio_dgram.proofs.Places.{insert_at}
use Rattle.aio_dgram.proofs.dgram.Dgram.wait.Goals as goal

pub returns-clause-after : goal.returns-clause-after
returns-clause-after c =
    let x = c.args.self.now in
    ap (λ waiting. record { drawn = x.drawn + 1; waiting = waiting; opened = x.opened; endpoints = x.endpoints.entries })
    (c.in_ok-insert.ensures.entries ∙ insert_at x.drawn c.args.it x.waiting.entries c.requires.places)
