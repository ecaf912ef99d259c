use Rattle.std.proofs.Common.{[]}
use Rattle.aio_live.proofs.Later.{plainly_posts}
use Rattle.aio_asked.proofs.Replying.{same_faults}
use Rattle.aio_asked.proofs.OnSockets.{kill_asks}
use Rattle.aio_asked.proofs.hub.Hub.kill.Goals as goal

pub returns-clause-asks : goal.returns-clause-asks
returns-clause-asks g c =
    kill_asks c.args.self.now.state c.serve.new.self c.serve.ensures c.args.number (g.P.Poller.seen c.args.self.now.poller)
    (g.L.Launcher.seen c.args.self.now.launcher) (g.L.Launcher.seen c.kill.new.self) c.kill.ensures.killed c.kill.ensures.launches

pub returns-clause-posts : goal.returns-clause-posts
returns-clause-posts g c =
    same_faults c.args.self.now.state.hub.taken c.serve.new.self.hub.taken
    (plainly_posts [] c.args.self.now.state c.serve.new.self c.serve.ensures)
