use Rattle.std.proofs.Common.{ap}
use Rattle.model_hub.specs.Hub.{Hub}
use Rattle.aio_live.proofs.Alone.{feed_asks}
use Rattle.aio_live.proofs.state.State.feed.Goals as goal

pub returns-clause-posts : goal.returns-clause-posts
returns-clause-posts g c = ap (λ (h : Hub). h.taken) c.feed_one.ensures.rests.hub

pub returns-clause-asks : goal.returns-clause-asks
returns-clause-asks g c =
    feed_asks c.args.self.now c.feed_one.new.self c.args.number c.args.bytes c.feed_one.result c.feed_one.ensures
