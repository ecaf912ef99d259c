use Rattle.std.proofs.Common.{◌∙◌, arith}
use Rattle.aio_closing.proofs.Pass.{kill_step}
use Rattle.aio_closing.proofs.killing.kill_all.Goals as goal

pub loop-k-preserved : goal.loop-k-preserved
loop-k-preserved g c =
    record {
      kills =
          kill_step c.args.roster.now c.loop-k.k (g.L.Launcher.seen c.args.launcher.now).kills (g.L.Launcher.seen c.loop-k.launcher).kills
          (g.L.Launcher.seen c.kill_one.new.launcher).kills c.count_running-count.ensures.numbered c.kill_one.ensures.kills
          c.loop-k.invariant.kills;
      launches = c.kill_one.ensures.launches ∙ c.loop-k.invariant.launches;
      monotone = omega (arith, c.kill_one.ensures.monotone, c.loop-k.invariant.monotone);
    }
