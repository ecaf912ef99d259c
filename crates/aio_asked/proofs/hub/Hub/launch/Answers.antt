use Rattle.aio_asked.proofs.Replying.{same_faults}
use Rattle.aio_asked.proofs.hub.Hub.launch.Goals as goal

pub returns-clause-posts : goal.returns-clause-posts
returns-clause-posts g c =
    same_faults c.args.self.now.state.hub.taken c.launch.new.self.hub.taken c.launch.ensures.posts
