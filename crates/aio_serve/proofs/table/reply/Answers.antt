use Rattle.std.proofs.Common.{refl}
use Rattle.aio_serve.proofs.Serving.{alone}
use Rattle.aio_serve.proofs.table.reply.Goals as goal

pub returns-then-is_own : goal.returns-then-is_own
returns-then-is_own g c = alone c.serve.result refl c.serve.ensures c.or_stop.ensures
