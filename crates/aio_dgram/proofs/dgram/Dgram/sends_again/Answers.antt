use Rattle.std.proofs.Common.{sym, subst, ◌∙◌}
use Rattle.std.proofs.lemmas.Result.{IfOk-weaker}
use Rattle.model_dgram.specs.Sending.{sends_again}
use Rattle.aio_task.specs.View.{parts}
use Rattle.aio_dgram.specs.Seen.{kept_of}
use Rattle.aio_dgram.specs.Woken.{SaysSeen}
use Rattle.aio_dgram.proofs.Answering.{sends_seen}
use Rattle.aio_dgram.proofs.dgram.Dgram.sends_again.Goals as goal

pub returns-then-is_open : goal.returns-then-is_open
returns-then-is_open c =
    let a = c.args in
    let x = kept_of a.self.now in
    let y = kept_of c.asks_again.new.self in
    IfOk-weaker c.asks_again.result _ _
    (λ asked seen. λ it on waits.
    subst (λ input. SaysSeen y a.parts.now c.asks_again.new.parts asked (sends_again a.key a.place a.id it input (parts a.parts.now) x)) (sym c.in-Send.is)
    (sends_seen x y a.parts.now c.asks_again.new.parts a.key a.place a.id it c.in-Send.value asked (sym c.is_open.ensures ∙ c.if-is_open.true)
    (λ endpoint at. seen it on endpoint waits at))) c.asks_again.ensures
