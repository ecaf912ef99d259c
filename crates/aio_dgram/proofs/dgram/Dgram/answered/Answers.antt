use Rattle.std.proofs.Common.{sym, ◌∙◌}
use Rattle.aio_dgram.specs.Seen.{kept_of}
use Rattle.aio_dgram.proofs.Answering.{answered_again}
use Rattle.aio_dgram.proofs.dgram.Dgram.answered.Goals as goal

pub returns-then-is_answer-2 : goal.returns-then-is_answer-2
returns-then-is_answer-2 c = λ it waits.
    let a = c.args in
    answered_again (kept_of a.self.now) a.parts.now c.new_plain.new.self a.key a.place a.id it (kept_of c.wait_on.new.self) c.in_ok-on.on a.value.now
    waits (sym c.is_answer.ensures ∙ c.if-is_answer.false) (sym c.is_answer-2.ensures ∙ c.if-is_answer-2.true) c.wait_on.ensures
    c.in_ok-on.ensures.number c.in_ok-on.ensures.after
