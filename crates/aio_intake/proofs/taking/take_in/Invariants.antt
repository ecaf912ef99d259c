use Rattle.std.proofs.Common.{◌≡◌, ◌≤◌}
use Rattle.aio_hub.specs.Launches.{StartsNone}
use Rattle.aio_lanes.specs.Given.{seen_of}
use Rattle.aio_postbox.specs.Fours.{seats_in}
use Rattle.aio_commands.specs.Served.{HaveLanes}
use Rattle.aio_roster.specs.Rosters.{Numbered}
use Rattle.aio_intake.specs.Homes.{KeepsPosts}
use Rattle.aio_intake.specs.Taken.{AreInHand, KeepsLanes}
use Rattle.aio_intake.proofs.Passing.{Going}
use Rattle.aio_intake.proofs.taking.take_in.Given as goal

abbrev pub invariant-loop-n : goal.invariant-loop-n
invariant-loop-n g l =
    record {
      going :
          Going l.initial.postbox.taken l._n l.k l.initial.roster.children l.roster.children (seats_in l.initial.free.items)
          (seats_in l.free.items);
      few : l.k ≤ l._n;
      numbered : Numbered l.initial.roster.children;
      numbered_now : Numbered l.roster.children;
      keeps : KeepsLanes l.roster.children l.initial.lanes l.lanes;
      lanes : HaveLanes l.roster.children (seen_of l.lanes);
      hand : AreInHand l.roster.children (seats_in l.free.items);
      posts : KeepsPosts l.initial.postbox l.postbox;
      noted : l.roster.noted ≡ l.initial.roster.noted;
      none : StartsNone (g.L.Launcher.seen l.initial.launcher) (g.L.Launcher.seen l.launcher);
      monotone : (g.L.Launcher.seen l.initial.launcher).faults ≤ (g.L.Launcher.seen l.launcher).faults;
    }
