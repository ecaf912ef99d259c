use Rattle.aio_serving.proofs.Giving.{serves}
use Rattle.aio_serving.proofs.serving.serve_child.Goals as goal

pub returns : goal.returns
returns g c =
    serves c.args.watch.now c.args.child c.with_go-child.result c.with_go-child-2.result c.with_close.result
    (g.H.Heads.seen c.args.heads.now) (g.H.Heads.seen c.with_go-child.new.heads) (g.H.Heads.seen c.with_go-child-2.new.heads)
    (g.H.Heads.seen c.with_close.new.heads) c.with_go-child.ensures c.with_go-child-2.ensures c.with_close.ensures
