use Rattle.std.proofs.Common.{None}
use Rattle.std.proofs.lemmas.Result.{on_ok_weaker}
use Rattle.aio_gather.proofs.Ran.{acts_at, idle, own_free}
use Rattle.aio_gather.proofs.serving.GatherExtra.act.Goals as goal

pub act_at-requires-clause-idle : goal.act_at-requires-clause-idle
act_at-requires-clause-idle c = idle None c.args.self.now c.args.parts.now c.requires.serves

pub act_at-requires-clause-own : goal.act_at-requires-clause-own
act_at-requires-clause-own c = own_free None c.args.self.now c.args.parts.now c.requires.serves

pub returns : goal.returns
returns c =
    on_ok_weaker c.act_at.result
    (λ seen. λ t s h. acts_at t s c.args.self.now c.args.parts.now h c.args.key c.place_of-place.result c.place_of-place.ensures c.act_at.new.self
    c.act_at.new.parts seen) c.act_at.ensures
