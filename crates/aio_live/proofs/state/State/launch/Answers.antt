use Rattle.std.proofs.Common.{[], ◌∙◌}
use Rattle.aio_live.proofs.Launched.{launch_all}
use Rattle.aio_live.proofs.Later.{plainly_posts}
use Rattle.aio_live.proofs.state.State.launch.Goals as goal

pub returns-clause-posts : goal.returns-clause-posts
returns-clause-posts g c =
    c.launch_next.ensures.posts ∙ plainly_posts [] c.args.self.now c.serve.new.self c.serve.ensures

pub returns-clause-asks : goal.returns-clause-asks
returns-clause-asks g c =
    launch_all c.args.words.now c.launch_next.result c.args.self.now c.serve.new.self c.launch_next.new.self
    (g.L.Launcher.seen c.args.launcher.now) (g.L.Launcher.seen c.launch_next.new.launcher) c.serve.ensures c.launch_next.ensures.launches
    c.launch_next.ensures.told
