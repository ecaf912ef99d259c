use Rattle.std.proofs.Common.{[], ◌∙◌}
use Rattle.aio_live.proofs.Later.{plainly_posts}
use Rattle.aio_asked.proofs.Replying.{same_faults, starved_posts}
use Rattle.aio_asked.proofs.OnSockets.{net_asks}
use Rattle.aio_asked.proofs.hub.Hub.net.Goals as goal

pub returns-in-Ok-clause-asks : goal.returns-in-Ok-clause-asks
returns-in-Ok-clause-asks g c going =
    net_asks c.args.self.now.state c.serve.new.self c.serve.ensures (g.P.Poller.seen c.args.self.now.poller)
    (g.P.Poller.seen c.net.new.self) (g.L.Launcher.seen c.args.self.now.launcher) c.in-Ok.reply going c.args.call.now c.requires
    c.in-Ok.ensures.net

pub returns-in-Ok-clause-posts : goal.returns-in-Ok-clause-posts
returns-in-Ok-clause-posts g c =
    same_faults c.args.self.now.state.hub.taken c.serve.new.self.hub.taken
    (plainly_posts [] c.args.self.now.state c.serve.new.self c.serve.ensures)

pub returns-in-Err-clause-posts : goal.returns-in-Err-clause-posts
returns-in-Err-clause-posts g c =
    same_faults c.args.self.now.state.hub.taken c.starve.new.self.hub.taken
    (starved_posts c.serve.new.self c.starve.new.self c.starve.ensures
    ∙ plainly_posts [] c.args.self.now.state c.serve.new.self c.serve.ensures)
