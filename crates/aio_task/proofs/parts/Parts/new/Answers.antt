use Rattle.std.proofs.Common.{refl, arith}
use Rattle.aio_task.proofs.Nothing.{nothing_kept, nothing_needed}
use Rattle.aio_task.proofs.parts.Parts.new.Goals as goal

pub invariant_of-result : goal.invariant_of-result
invariant_of-result c =
    rw (c.in_ok-body.ensures, c.in_ok-timers.ensures, c.new-3.ensures, c.new-4.ensures) (
      nothing_kept c.args.profile,
      record {
        empty = refl;
        unseen = refl;
        unnoted = c.new-5.ensures;
        fits = nothing_needed c.args.profile;
        marked = omega arith;
      },
    )
