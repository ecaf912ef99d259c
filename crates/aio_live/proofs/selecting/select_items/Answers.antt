use Rattle.std.proofs.Common.{sym}
use Rattle.aio_postbox.specs.Fours.{seats_in}
use Rattle.aio_lanes.specs.Given.{seen_of}
use Rattle.aio_live.proofs.Noting.{state_noted}
use Rattle.aio_live.proofs.selecting.select_items.Goals as goal

pub invariant_of-state : goal.invariant_of-state
invariant_of-state g c =
    state_noted c.state.inside.pumped.roster.children c.select.new.pumps.roster.children c.state.inside.pumped.postbox.taken
    c.select.new.pumps.postbox.taken (seats_in c.state.inside.free.items) (seen_of c.state.inside.lanes) c.state.invariant c.select.ensures.noted

pub invariant_of-state-in-Err : goal.invariant_of-state-in-Err
invariant_of-state-in-Err g c =
    state_noted c.state.inside.pumped.roster.children c.select.new.pumps.roster.children c.state.inside.pumped.postbox.taken
    c.select.new.pumps.postbox.taken (seats_in c.state.inside.free.items) (seen_of c.state.inside.lanes) c.state.invariant c.select.ensures.noted

pub returns-after-is_starved-clause-posts : goal.returns-after-is_starved-clause-posts
returns-after-is_starved-clause-posts g c = rw (sym c.state.view_is) (c.select.ensures.noted.posts, c.select.ensures.noted.takes)

pub returns-in-Err-clause-posts : goal.returns-in-Err-clause-posts
returns-in-Err-clause-posts g c = rw (sym c.state.view_is) (c.select.ensures.noted.posts, c.select.ensures.noted.takes)
