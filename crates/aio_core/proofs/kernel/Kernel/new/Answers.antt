use Rattle.std.proofs.Common.{[], refl}
use Rattle.std.proofs.Math.Logic.{∥∥₁_map}
use Rattle.model_machine.specs.Replies.{most_ids}
use Rattle.model_machine.specs.State.{start}
use Rattle.aio_core.specs.Turning.{resting}
use Rattle.aio_core.proofs.Keeping.{stands_up}
use Rattle.aio_core.proofs.kernel.Kernel.new.Goals as goal

pub invariant_of-result : goal.invariant_of-result
invariant_of-result g c = record {
  alive = ∥∥₁_map c.requires.fresh (λ w.
      let begun = c.in_ok-body.ensures w.0 w.1 [] in
      ∣ (resting g.X.Extra.added [] [] begun.0, (start most_ids w.0 c.args.program.now [], begun.1)) ∣₁);
}

pub returns : goal.returns
returns g c = λ kept fresh answers. stands_up [] answers _ (start most_ids kept c.args.program.now answers) refl
    (c.in_ok-body.ensures kept fresh answers)
