use Rattle.std.proofs.Common.{ap}
use Rattle.model_hub.specs.Hub.{Hub}
use Rattle.aio_live.proofs.Alone.{end_asks}
use Rattle.aio_live.proofs.state.State.end.Goals as goal

pub returns-clause-posts : goal.returns-clause-posts
returns-clause-posts g c = ap (λ (h : Hub). h.taken) c.end_one.ensures.rests.hub

pub returns-clause-asks : goal.returns-clause-asks
returns-clause-asks g c = end_asks c.args.self.now c.end_one.new.self c.args.number c.end_one.ensures
