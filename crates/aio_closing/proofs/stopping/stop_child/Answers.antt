use Rattle.aio_closing.proofs.Stopped.{stops_child}
use Rattle.aio_closing.proofs.stopping.stop_child.Goals as goal

pub returns : goal.returns
returns g c =
    stops_child c.args.child.now (g.H.Heads.seen c.args.heads.now) (g.H.Heads.seen c.stop_stdin.new.heads) (g.H.Heads.seen c.stop.new.heads)
    (g.H.Heads.seen c.stop-2.new.heads) c.stop_stdin.ensures c.stop.ensures c.stop-2.ensures
