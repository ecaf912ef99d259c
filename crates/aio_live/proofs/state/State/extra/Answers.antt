use Rattle.std.proofs.Common.{[]}
use Rattle.aio_live.proofs.Alone.{extra_asks}
use Rattle.aio_live.proofs.Later.{plainly_posts}
use Rattle.aio_live.proofs.state.State.extra.Goals as goal

pub returns-clause-posts : goal.returns-clause-posts
returns-clause-posts g c = plainly_posts [] c.args.self.now c.serve.new.self c.serve.ensures

pub returns-clause-asks : goal.returns-clause-asks
returns-clause-asks g c code bytes other = extra_asks c.args.self.now c.serve.new.self code bytes other c.serve.ensures
