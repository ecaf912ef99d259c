use Rattle.refine_parts.proofs.Telling.{keeps_release}
use Rattle.refine_parts.proofs.futures.a_released_future_is_kept.Goals as goal

pub returns : goal.returns
returns c = λ t v p id k made done. keeps_release t v p k id made done
