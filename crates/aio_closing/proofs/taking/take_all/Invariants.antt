use Rattle.std.proofs.Common.{◌≡◌, ◌*◌, ◌≤◌, false, take}
use Rattle.aio_hub.specs.Launches.{StartsNone}
use Rattle.aio_closing.specs.Kills.{running_in}
use Rattle.aio_closing.specs.Ends.{AreEnds, HaveRuns, SettlesMore}
use Rattle.aio_closing.proofs.taking.take_all.Given as goal

abbrev pub invariant-loop-k : goal.invariant-loop-k
invariant-loop-k g l =
    record {
      told : l.telling.short ≡ false → AreEnds (take l.k (running_in l.roster.children)) l.telling.ends.items;
      settled : SettlesMore (4 * l.k) l.initial.postbox l.postbox;
      runs : HaveRuns l.k l.roster l.lanes;
      none : StartsNone (g.L.Launcher.seen l.initial.launcher) (g.L.Launcher.seen l.launcher);
      monotone : (g.L.Launcher.seen l.initial.launcher).faults ≤ (g.L.Launcher.seen l.launcher).faults;
    }
