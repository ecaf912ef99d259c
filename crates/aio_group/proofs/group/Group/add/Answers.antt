use Rattle.std.proofs.Common.{◌≡◌, ◌++◌, ◌∷◌, [], refl, ◌∙◌}
use Rattle.aio_group.proofs.Listing.{insert_last}
use Rattle.aio_group.proofs.group.Group.add.Goals as goal

pub returns-clause-after : goal.returns-clause-after
returns-clause-after c =
    let below = rw (← c.self.view_is) at c.requires in
    let keys : c.insert.new.self.keys ≡ c.self.inside.children.keys ++ c.args.task ∷ [] =
    c.in_ok-insert.ensures.keys ∙ insert_last c.self.inside.children.keys c.args.task below in
    rw (keys, c.reserve.ensures.items, ← c.self.view_is) refl
