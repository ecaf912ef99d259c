use Rattle.std.proofs.Common.{◌≡◌, ◌≤◌, drop}
use Rattle.aio_closing.specs.Kills.{running_in, kills_in, with_kills}
use Rattle.aio_closing.proofs.killing.kill_all.Given as goal

abbrev pub invariant-loop-k : goal.invariant-loop-k
invariant-loop-k g l =
    record {
      kills : with_kills (kills_in (drop l.k (running_in l.roster.children))) (g.L.Launcher.seen l.launcher).kills
          ≡ with_kills (kills_in (running_in l.roster.children)) (g.L.Launcher.seen l.initial.launcher).kills;
      launches : (g.L.Launcher.seen l.launcher).launches ≡ (g.L.Launcher.seen l.initial.launcher).launches;
      monotone : (g.L.Launcher.seen l.initial.launcher).faults ≤ (g.L.Launcher.seen l.launcher).faults;
    }
