use Rattle.aio_stream.proofs.held.HeldConnection.close.Goals as goal

pub returns-clause-tells : goal.returns-clause-tells
returns-clause-tells c = rw (c.lay.ensures, ← c.in_ok-connection.ensures, ← c.deref_mut.ensures.value) c.close-done.ensures.tells

pub returns-clause-own : goal.returns-clause-own
returns-clause-own c = rw (c.lay.ensures, ← c.in_ok-connection.ensures, ← c.deref_mut.ensures.value) c.close-done.ensures.own
