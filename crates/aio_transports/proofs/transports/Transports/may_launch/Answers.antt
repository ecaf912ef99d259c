use Rattle.std.proofs.Common.{◌≡◌, ◌<◌, ◌^◌, true, length, ◌∙◌, subst}
use Rattle.aio_transports.specs.Kept.{Kept}
use Rattle.aio_transports.proofs.Known.{children_few}
use Rattle.aio_transports.proofs.transports.Transports.may_launch.Goals as goal

pub returns-clause-is : goal.returns-clause-is
returns-clause-is c s stands =
    c.may_launch.ensures.is
    ∙ children_few c.self.inside.streams c.self.inside.children c.self.inside.remaining c.args.self.now c.self.view_is s stands

pub returns-clause-room : goal.returns-clause-room
returns-clause-room c =
    subst (λ (k : Kept). c.may_launch.result ≡ true → length k.children.children < 2 ^ 32) c.self.view_is c.may_launch.ensures.room
