use Rattle.std.proofs.Common.{subst, OnOk, IfOk, length}
use Rattle.std.proofs.lemmas.Result.{IfOk-weaker}
use Rattle.model_stream.specs.Children.{Child, its_stdin}
use Rattle.model_stream.specs.Doing.{asked_on}
use Rattle.model_stream.specs.Senders.{Drain, drain_sender}
use Rattle.aio_exchange.specs.Tells.{Tells}
use Rattle.aio_change.specs.Seen.{seen_changed}
use Rattle.aio_change.proofs.ByPart.{told_asked_on}
use Rattle.aio_child.specs.Owned.{OwnsChild}
use Rattle.aio_child.proofs.Owning.{own_if_said}
use Rattle.aio_child.proofs.child.Child.drain.Goals as goal

pub returns-clause-tells : goal.returns-clause-tells
returns-clause-tells c =
    let i = c.self.inside in
    let before : Child = record { stdin = i.stdin; out = i.out; errs = i.errs; code = i.code; waits = i.waits.items } in
    subst (λ (v : Child). IfOk c.drain.result
    (λ said. Tells {A = Child × Drain} seen_changed (asked_on its_stdin (drain_sender c.args.yielded (length c.args.parts.now.futures)) v)
    c.args.parts.now c.drain.new.parts (record before { stdin = c.drain.new.self }, said)))
    c.self.view_is
    (IfOk-weaker c.drain.result _ _
    (λ said it. told_asked_on its_stdin before c.drain.new.self
    (drain_sender c.args.yielded (length c.args.parts.now.futures)) said c.args.parts.now c.drain.new.parts it)
    c.drain.ensures.tells)

pub returns-clause-own : goal.returns-clause-own
returns-clause-own c =
    let i = c.self.inside in
    let before : Child = record { stdin = i.stdin; out = i.out; errs = i.errs; code = i.code; waits = i.waits.items } in
    subst (λ (v : Child). OnOk c.drain.result (OwnsChild c.args.parts.now v
    → OwnsChild c.drain.new.parts (record before { stdin = c.drain.new.self })))
    c.self.view_is
    (own_if_said before c.args.parts.now c.drain.new.parts c.drain.new.self
    (drain_sender c.args.yielded (length c.args.parts.now.futures) before.stdin) c.drain.result c.drain.ensures.tells
    c.drain.ensures.own)
