use Rattle.std.proofs.Common.{sym, subst, OnOk, IfOk, length}
use Rattle.std.proofs.lemmas.Result.{IfOk-weaker}
use Rattle.model_pump.specs.declared.stream.Stream.{Stream}
use Rattle.model_pump.specs.declared.stream.Stream.TheVariants as stream
use Rattle.model_stream.specs.Children.{Child, its_pipe}
use Rattle.model_stream.specs.Doing.{asked_on}
use Rattle.model_stream.specs.Receivers.{StreamGot, read}
use Rattle.aio_exchange.specs.Tells.{Tells}
use Rattle.aio_change.specs.Seen.{seen_changed}
use Rattle.aio_change.proofs.ByPart.{told_asked_on}
use Rattle.aio_child.specs.Owned.{OwnsChild}
use Rattle.aio_child.proofs.Owning.{own_if_read}
use Rattle.aio_child.proofs.child.Child.read.Goals as goal

pub returns-in-Out-clause-tells : goal.returns-in-Out-clause-tells
returns-in-Out-clause-tells c =
    let i = c.self.inside in
    let before : Child = record { stdin = i.stdin; out = i.out; errs = i.errs; code = i.code; waits = i.waits.items } in
    subst (λ (pipe : Stream). IfOk c.read.result (λ said. Tells {A = Child × StreamGot} seen_changed
    (asked_on (its_pipe pipe) (read (length c.args.parts.now.futures) c.args.op.now) c.args.self.now)
    c.args.parts.now c.read.new.parts (record before { out = c.read.new.self }, said)))
    (sym c.in-Out.is)
    (subst (λ (v : Child). IfOk c.read.result (λ said. Tells {A = Child × StreamGot} seen_changed
    (asked_on (its_pipe stream.Out) (read (length c.args.parts.now.futures) c.args.op.now) v)
    c.args.parts.now c.read.new.parts (record before { out = c.read.new.self }, said)))
    c.self.view_is
    (IfOk-weaker c.read.result _ _
    (λ said it. told_asked_on (its_pipe stream.Out) before c.read.new.self (read (length c.args.parts.now.futures) c.args.op.now)
    (said) c.args.parts.now c.read.new.parts it)
    c.read.ensures.tells))

pub returns-in-Out-clause-own : goal.returns-in-Out-clause-own
returns-in-Out-clause-own c =
    let i = c.self.inside in
    let before : Child = record { stdin = i.stdin; out = i.out; errs = i.errs; code = i.code; waits = i.waits.items } in
    subst (λ (v : Child). OnOk c.read.result (OwnsChild c.args.parts.now v
    → OwnsChild c.read.new.parts (record before { out = c.read.new.self })))
    c.self.view_is
    (own_if_read before c.args.parts.now c.read.new.parts stream.Out (λ (got : StreamGot). got) c.read.new.self
    (read (length c.args.parts.now.futures) c.args.op.now before.out) c.read.result c.read.ensures.tells c.read.ensures.own)

pub returns-in-Errs-clause-tells : goal.returns-in-Errs-clause-tells
returns-in-Errs-clause-tells c =
    let i = c.self.inside in
    let before : Child = record { stdin = i.stdin; out = i.out; errs = i.errs; code = i.code; waits = i.waits.items } in
    subst (λ (pipe : Stream). IfOk c.read-in-Errs.result (λ said. Tells {A = Child × StreamGot} seen_changed
    (asked_on (its_pipe pipe) (read (length c.args.parts.now.futures) c.args.op.now) c.args.self.now)
    c.args.parts.now c.read-in-Errs.new.parts (record before { errs = c.read-in-Errs.new.self }, said)))
    (sym c.in-Errs.is)
    (subst (λ (v : Child). IfOk c.read-in-Errs.result (λ said. Tells {A = Child × StreamGot} seen_changed
    (asked_on (its_pipe stream.Errs) (read (length c.args.parts.now.futures) c.args.op.now) v)
    c.args.parts.now c.read-in-Errs.new.parts (record before { errs = c.read-in-Errs.new.self }, said)))
    c.self.view_is
    (IfOk-weaker c.read-in-Errs.result _ _
    (λ said it. told_asked_on (its_pipe stream.Errs) before c.read-in-Errs.new.self (read (length c.args.parts.now.futures) c.args.op.now)
    (said) c.args.parts.now c.read-in-Errs.new.parts it)
    c.read-in-Errs.ensures.tells))

pub returns-in-Errs-clause-own : goal.returns-in-Errs-clause-own
returns-in-Errs-clause-own c =
    let i = c.self.inside in
    let before : Child = record { stdin = i.stdin; out = i.out; errs = i.errs; code = i.code; waits = i.waits.items } in
    subst (λ (v : Child). OnOk c.read-in-Errs.result (OwnsChild c.args.parts.now v
    → OwnsChild c.read-in-Errs.new.parts (record before { errs = c.read-in-Errs.new.self })))
    c.self.view_is
    (own_if_read before c.args.parts.now c.read-in-Errs.new.parts stream.Errs (λ (got : StreamGot). got) c.read-in-Errs.new.self
    (read (length c.args.parts.now.futures) c.args.op.now before.errs) c.read-in-Errs.result c.read-in-Errs.ensures.tells c.read-in-Errs.ensures.own)
