use Rattle.std.proofs.Common.{◌∙◌, arith}
use Rattle.std.proofs.lemmas.List.{length-map}
use Rattle.model_hub.specs.Closing.{number_of}
use Rattle.aio_roster.proofs.Running.{within}
use Rattle.aio_closing.specs.Kills.{running_in}
use Rattle.aio_closing.proofs.Stopped.{stopped_step, waits_step}
use Rattle.aio_closing.proofs.stopping.stop_all.Goals as goal

pub loop-k-preserved : goal.loop-k-preserved
loop-k-preserved g c =
    let before = c.loop-k.invariant in
    let one = c.stop_one.ensures in
    record {
      stopped =
          stopped_step c.args.roster.now c.count_running-count.ensures.numbered (g.H.Heads.seen c.args.heads.now)
          (g.H.Heads.seen c.loop-k.heads) (g.H.Heads.seen c.stop_one.new.heads) c.loop-k.k one before.stopped before.waits;
      waits =
          waits_step c.args.roster.now c.count_running-count.ensures.numbered (g.H.Heads.seen c.args.heads.now)
          (g.H.Heads.seen c.loop-k.heads) (g.H.Heads.seen c.stop_one.new.heads) c.loop-k.k one before.stopped before.waits;
      has = λ n. one.stops.has n ∙ before.has n;
    }

pub returns-clause-stopped : goal.returns-clause-stopped
returns-clause-stopped g c k child is at =
    let less = within (running_in c.args.roster.now.children) k child is in
    let count = length-map (running_in c.args.roster.now.children) number_of in
    c.loop-k.invariant.stopped k child is (omega (arith, less, count, c.count_running-count.ensures.count, c.loop-k-test.false)) at
