use Rattle.std.proofs.Common.{ℕ, ◌∙◌, ap, nat_lt}
use Rattle.aio_transports.proofs.Known.{numbers_conn}
use Rattle.aio_transports.proofs.transports.Transports.has_conn.Goals as goal

pub returns : goal.returns
returns c s stands =
    ap (λ (n : ℕ). nat_lt c.args.id n) c.opened.ensures
    ∙ numbers_conn c.self.inside.streams c.self.inside.children c.self.inside.remaining c.args.self.now c.self.view_is s stands
    c.args.id
