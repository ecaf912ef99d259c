use Rattle.std.proofs.Common.{Some, None, ap, sym, ◌∙◌, if◌then◌else◌}
use Rattle.aio_opened.proofs.opened.child.Goals as goal

pub returns-then-has_child : goal.returns-then-has_child
returns-then-has_child g c = λ s at. ap (λ b. if b then Some c.args.id else None) (sym c.if-has_child.true ∙ c.has_child.ensures s.streams at)

pub returns-else-has_child : goal.returns-else-has_child
returns-else-has_child g c = λ s at. ap (λ b. if b then Some c.args.id else None) (sym c.if-has_child.false ∙ c.has_child.ensures s.streams at)
