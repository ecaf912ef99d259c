use Rattle.std.proofs.Common.{refl}
use Rattle.std.proofs.lemmas.Bool.{lt-ltb, le-ltb}
use Rattle.aio_future.proofs.TableLemmas.{length-table}
use Rattle.aio_future.proofs.futures.Futures.released_at.Goals as goal

pub returns-then-id-self : goal.returns-then-id-self
returns-then-id-self c = rw (← c.self.view_is, length-table, lt-ltb _ _ c.if-id-self.true, c.self.invariant.1.0) refl

pub returns-else-id-self : goal.returns-else-id-self
returns-else-id-self c = rw (← c.self.view_is, length-table, le-ltb _ _ c.if-id-self.false) refl
