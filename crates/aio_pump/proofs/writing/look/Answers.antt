use Rattle.std.proofs.Common.{inl, inr, refl}
use Rattle.aio_pump.proofs.writing.look.Goals as goal

pub returns-else-put : goal.returns-else-put
returns-else-put g c =
    let put = c.if-put.ensures in
    ((put.0, put.1), put.2, inr (rw c.in-Broken.is at c.look_at-looked.ensures), refl)

pub returns-else-put-2 : goal.returns-else-put-2
returns-else-put-2 g c =
    let put = c.if-put-2.ensures in
    ((put.0, put.1), put.2, inl (rw c.in-Starved.is at c.look_at-looked.ensures), refl)
