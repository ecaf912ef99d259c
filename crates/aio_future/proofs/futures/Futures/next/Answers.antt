use Rattle.std.proofs.Common.{refl}
use Rattle.aio_future.proofs.TableLemmas.{length-table}
use Rattle.aio_future.proofs.futures.Futures.next.Goals as goal

pub returns : goal.returns
returns c = rw (← c.self.view_is, length-table) refl
