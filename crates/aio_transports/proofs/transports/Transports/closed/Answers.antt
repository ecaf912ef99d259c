use Rattle.std.proofs.Common.{◌∙◌, sym, ap}
use Rattle.model_stream.specs.Requests.{closed_future}
use Rattle.aio_transports.proofs.Known.{closed_of_child, closed_of_conn}
use Rattle.aio_transports.proofs.transports.Transports.closed.Goals as goal

pub returns-in-Conn : goal.returns-in-Conn
returns-in-Conn c s stands =
    c.closed.ensures
    ∙ closed_of_conn c.self.inside.streams c.self.inside.children c.self.inside.remaining c.args.self.now c.self.view_is s stands c.in-Conn.id
    ∙ ap (λ whom. closed_future whom s) (sym c.in-Conn.is)

pub returns-in-Child : goal.returns-in-Child
returns-in-Child c s stands =
    c.closed-in-Child.ensures
    ∙ closed_of_child c.self.inside.streams c.self.inside.children c.self.inside.remaining c.args.self.now c.self.view_is s stands c.in-Child.id
    ∙ ap (λ whom. closed_future whom s) (sym c.in-Child.is)
