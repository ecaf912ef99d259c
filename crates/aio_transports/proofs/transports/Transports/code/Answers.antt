use Rattle.std.proofs.Common.{◌∙◌}
use Rattle.aio_transports.proofs.Known.{code_of_child}
use Rattle.aio_transports.proofs.transports.Transports.code.Goals as goal

pub returns : goal.returns
returns c s stands =
    c.code.ensures
    ∙ code_of_child c.self.inside.streams c.self.inside.children c.self.inside.remaining c.args.self.now c.self.view_is s stands c.args.child
