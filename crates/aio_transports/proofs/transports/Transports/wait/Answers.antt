use Rattle.std.proofs.Common.{IfOk, length, sym, subst}
use Rattle.model_stream.specs.declared.answers.ChildWait.{ChildWait}
use Rattle.model_stream.specs.Requests.{wait}
use Rattle.aio_transports.specs.Kept.{Kept, kept_all}
use Rattle.aio_transports.specs.Owned.{OwnsTransports}
use Rattle.aio_transports.specs.Standing.{ToldWith}
use Rattle.aio_transports.proofs.Lifting.{said_on_children, own_said_children}
use Rattle.aio_transports.proofs.Lasting.{wait_keeps}
use Rattle.aio_transports.proofs.transports.Transports.wait.Goals as goal

pub wait-requires-clause-own : goal.wait-requires-clause-own
wait-requires-clause-own c =
    (subst (OwnsTransports c.args.parts.now) (sym c.self.view_is) c.requires.own).1

pub returns-clause-told : goal.returns-clause-told
returns-clause-told c =
    let i = c.self.inside in
    let next = length c.args.parts.now.futures in
    subst (λ (k : Kept). IfOk c.wait.result (λ said. ToldWith (wait next c.args.child) k
    (kept_all i.streams c.wait.new.self i.remaining) c.args.parts.now c.wait.new.parts said)) c.self.view_is
    (said_on_children i.streams i.children i.remaining c.args.parts.now c.wait.new.parts (wait next c.args.child)
    (wait_keeps next c.args.child)
    (λ (said : ChildWait). said) c.wait.result c.wait.new.self
    c.wait.ensures.told)

pub returns-clause-own : goal.returns-clause-own
returns-clause-own c =
    let i = c.self.inside in
    let next = length c.args.parts.now.futures in
    own_said_children i.streams i.children i.remaining c.args.parts.now c.wait.new.parts (wait next c.args.child)
    (wait_keeps next c.args.child)
    (λ (said : ChildWait). said) c.wait.result c.wait.new.self
    c.wait.ensures.told c.wait.ensures.own (subst (OwnsTransports c.args.parts.now) (sym c.self.view_is) c.requires.own)
