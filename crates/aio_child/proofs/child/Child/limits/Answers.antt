use Rattle.std.proofs.Common.{◌≡◌, sym, ap, subst}
use Rattle.model_stream.specs.Children.{Child, its_stdin, limits_child}
use Rattle.model_stream.specs.Doing.{Ends, and_then}
use Rattle.model_stream.specs.declared.put.Limited.{Limited}
use Rattle.model_stream.specs.Senders.{Sender}
use Rattle.aio_sender.specs.Owned.{OwnsSender}
use Rattle.aio_child.specs.Owned.{OwnsChild}
use Rattle.aio_child.proofs.child.Child.limits.Goals as goal

pub returns-clause-is : goal.returns-clause-is
returns-clause-is c =
    let i = c.self.inside in
    let before : Child = record { stdin = i.stdin; out = i.out; errs = i.errs; code = i.code; waits = i.waits.items } in
    subst (λ (v : Child). limits_child c.args.high c.args.low v ≡ Ends (record before { stdin = c.limits.new.self }, c.limits.result))
    c.self.view_is
    (ap (λ d. and_then {A = Sender × Limited} {B = Child × Limited} d (λ done. Ends (its_stdin.put done.0 before, done.1))) c.limits.ensures.is)

pub returns-clause-frame : goal.returns-clause-frame
returns-clause-frame c =
    let i = c.self.inside in
    let before : Child = record { stdin = i.stdin; out = i.out; errs = i.errs; code = i.code; waits = i.waits.items } in
    subst (λ (v : Child). record before { stdin = c.limits.new.self } ≡ record v { stdin = record v.stdin { writer = c.limits.new.self.writer } })
    c.self.view_is (ap (λ (s : Sender). record before { stdin = s }) c.limits.ensures.frame)

pub returns-clause-own : goal.returns-clause-own
returns-clause-own c v own =
    let i = c.self.inside in
    let before : Child = record { stdin = i.stdin; out = i.out; errs = i.errs; code = i.code; waits = i.waits.items } in
    let was : OwnsChild v before = subst (OwnsChild v) (sym c.self.view_is) own in
    record { stdin = subst (OwnsSender v) (sym c.limits.ensures.frame) was.stdin; out = was.out; errs = was.errs; waits = was.waits }
