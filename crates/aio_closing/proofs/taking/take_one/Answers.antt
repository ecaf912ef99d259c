use Rattle.std.proofs.Common.{length, ap, arith}
use Rattle.aio_closing.proofs.Pass.{runs_later}
use Rattle.aio_closing.proofs.taking.take_one.Goals as goal

pub returns-clause-runs : goal.returns-clause-runs
returns-clause-runs g c =
    runs_later c.args.roster.now c.args.lanes.now c.taken-run.new.lanes c.args.k c.running_child-child.result c.requires.numbered
    c.running_child-child.ensures c.taken-run.ensures c.requires.runs

pub returns-clause-settled : goal.returns-clause-settled
returns-clause-settled g c = omega (arith, c.tell_all.ensures.settled, ap length c.make_room.ensures)
