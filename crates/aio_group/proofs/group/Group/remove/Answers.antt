use Rattle.std.proofs.Common.{refl, ◌∙◌}
use Rattle.aio_group.proofs.Listing.{remove_only}
use Rattle.aio_group.proofs.group.Group.remove.Goals as goal

pub returns : goal.returns
returns c =
    rw (c.remove-was_there.ensures.keys ∙ remove_only c.self.inside.children.keys c.args.task c.self.invariant.1, ← c.self.view_is) refl
