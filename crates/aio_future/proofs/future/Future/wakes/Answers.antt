use Rattle.std.proofs.Common.{◌≡◌, false, subst}
use Rattle.std.specs.List.{list_any}
use Rattle.model_loop.specs.Parts as plain
use Rattle.aio_future.specs.Awaited.{is_step}
use Rattle.aio_future.proofs.future.Future.wakes.Goals as goal

pub returns : goal.returns
returns c = λ h. subst (λ (f : plain.Future). list_any is_step f.callbacks ≡ false) c.self.view_is (c.self.invariant h)
