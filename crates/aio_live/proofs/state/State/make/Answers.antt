use Rattle.std.proofs.Common.{ap}
use Rattle.aio_inbox.specs.declared.view.TakerView.{TakerView}
use Rattle.aio_postbox.specs.Fours.{seats_in}
use Rattle.aio_roster.specs.Rosters.{RosterSeen}
use Rattle.aio_live.proofs.AllFree.{new_state, hub_is}
use Rattle.aio_live.proofs.state.State.make.Goals as goal

pub invariant_of-result-2 : goal.invariant_of-result-2
invariant_of-result-2 g c =
    let fours = c.in_ok-postbox.ensures.fours in
    new_state c.in_ok-roster.roster.children (seats_in c.in_ok-postbox.free.items) c.new-2.result fours.count fours.is
    (ap (λ (r : RosterSeen). r.children) c.in_ok-roster.ensures) fours.all c.new-2.ensures

pub returns : goal.returns
returns g c =
    let fours = c.in_ok-postbox.ensures.fours in
    record {
      count = fours.count;
      is = fours.is;
      hub =
          hub_is c.in_ok-roster.roster.children c.new-3.result.items (seats_in c.in_ok-postbox.free.items) _ c.in_ok-postbox.postbox.taken
          (ap (λ (r : RosterSeen). r.children) c.in_ok-roster.ensures) c.new-3.ensures.items fours.all
          (ap (λ (t : TakerView). t.taken) c.in_ok-postbox.ensures.postbox);
      nones = ap (λ (t : TakerView). t.nones) c.in_ok-postbox.ensures.postbox;
      lanes = c.new-2.ensures;
    }
