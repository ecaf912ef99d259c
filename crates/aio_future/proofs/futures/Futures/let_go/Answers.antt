use Rattle.std.proofs.Common.{◌∙◌}
use Rattle.aio_future.proofs.Puts.{let_go_same}
use Rattle.aio_future.proofs.futures.Futures.let_go.Goals as goal

pub returns-then-is_released : goal.returns-then-is_released
returns-then-is_released c =
    c.release.ensures ∙ let_go_same c.args.self.now c.args.id (c.is_released.ensures c.if-is_released.true)
