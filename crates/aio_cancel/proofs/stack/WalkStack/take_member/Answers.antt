use Rattle.std.proofs.Common.{refl, arith}
use Rattle.aio_cancel.proofs.stack.WalkStack.take_member.Goals as goal

pub returns-then-member-id : goal.returns-then-member-id
returns-then-member-id c =
    let less = c.if-member-id.true in
    record { enters = λ l. (refl, c.push.ensures); passes = λ m. absurd (omega (arith, m, less)) }

pub returns-else-member-id : goal.returns-else-member-id
returns-else-member-id c =
    let more = c.if-member-id.false in
    record { enters = λ l. absurd (omega (arith, l, more)); passes = λ m. (refl, refl) }
