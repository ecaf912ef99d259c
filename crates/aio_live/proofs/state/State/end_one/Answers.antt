use Rattle.aio_postbox.specs.Fours.{seats_in}
use Rattle.aio_lanes.specs.Given.{seen_of}
use Rattle.aio_live.proofs.Keeping.{kept_state}
use Rattle.aio_live.proofs.state.State.end_one.Goals as goal

pub invariant_of-self : goal.invariant_of-self
invariant_of-self g c =
    kept_state c.self.inside.pumped.roster.children c.end.new.roster.children (seats_in c.self.inside.free.items)
    (seen_of c.self.inside.lanes) (seen_of c.end.new.heads) c.self.invariant c.end.ensures.lent c.end.ensures.lanes
    c.end.ensures.ended.commands.few
