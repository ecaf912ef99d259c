use Rattle.std.proofs.Common.{subst}
use Rattle.aio_dgram.specs.Seen.{kept_of}
use Rattle.aio_dgram.proofs.Answering.{received_first, received_waits}
use Rattle.aio_dgram.proofs.Kept.{TakesOf}
use Rattle.aio_dgram.proofs.dgram.Dgram.received.Goals as goal

pub returns-in_ok-told-in-Some : goal.returns-in_ok-told-in-Some
returns-in_ok-told-in-Some c = λ on endpoint is at.
    let a = c.args in
    let x = kept_of a.self.now in
    let took = subst (λ o. TakesOf o a.id endpoint x (kept_of c.take.new.self)) c.in-Some.is (c.take.ensures.first endpoint at) in
    received_first x a.parts.now a.id endpoint at a.key a.place (kept_of c.end.new.self) (kept_of c.take.new.self) (kept_of c.set_receiver.new.self)
    c.in-Some.it took.0 c.in_ok-told-in-Some.field-0 took.1 took.2 c.set_receiver.ensures.after c.end.ensures c.in_ok-told-in-Some.ensures

pub returns-in_ok-on-in-None : goal.returns-in_ok-on-in-None
returns-in_ok-on-in-None c = λ on endpoint is at.
    let a = c.args in
    let x = kept_of a.self.now in
    let took = subst (λ o. TakesOf o a.id endpoint x (kept_of c.take.new.self)) c.in-None.is (c.take.ensures.first endpoint at) in
    received_waits x a.parts.now a.id endpoint at a.key a.place (kept_of c.wait_on.new.self) (kept_of c.take.new.self) c.new_plain.new.self
    c.in_ok-on-in-None.on on took.0 took.1 is c.wait_on.ensures c.in_ok-on-in-None.ensures.number c.in_ok-on-in-None.ensures.after
