use Rattle.std.proofs.Common.{refl}
use Rattle.aio_task.proofs.Keeping.{at_or_not, room_same}
use Rattle.aio_task.proofs.parts.Parts.at.Goals as goal

pub invariant_of-self : goal.invariant_of-self
invariant_of-self c =
    let old = c.self.invariant in (
      at_or_not _ c.at.new.self c.args.action c.at.result c.requires.no_step c.at.ensures.after c.at.ensures.err old.0,
      room_same _ _ _ _ _ refl refl old.1,
    )
