use Rattle.std.proofs.Common.{ap, ◌∙◌, ◌+◌, ◌++◌, ◌∷◌, []}
use Rattle.aio_dgram.proofs.Places.{insert_at}
use Rattle.aio_dgram.proofs.dgram.Dgram.open.Goals as goal

pub returns-clause-after : goal.returns-clause-after
returns-clause-after c =
    let x = c.args.self.now in
    ap (λ es. record { drawn = x.drawn; waiting = x.waiting.entries; opened = x.opened + 1; endpoints = es })
    (c.in_ok-insert.ensures.entries ∙ insert_at x.opened _ x.endpoints.entries c.requires.numbers
    ∙ ap (λ it. x.endpoints.entries ++ (x.opened, it) ∷ []) c.new.ensures)
