use Rattle.std.proofs.Common.{sym, subst, OnOk, IfOk, length}
use Rattle.std.proofs.lemmas.Result.{IfOk-weaker}
use Rattle.model_pump.specs.declared.stream.Stream.{Stream}
use Rattle.model_pump.specs.declared.stream.Stream.TheVariants as stream
use Rattle.model_stream.specs.Children.{Child, its_pipe}
use Rattle.model_stream.specs.Doing.{asked_on}
use Rattle.model_stream.specs.Receivers.{AllGot, read_all}
use Rattle.aio_exchange.specs.Tells.{Tells}
use Rattle.aio_change.specs.Seen.{seen_changed}
use Rattle.aio_change.proofs.ByPart.{told_asked_on}
use Rattle.aio_receiver.specs.Gotten.{all_got}
use Rattle.aio_child.specs.Owned.{OwnsChild}
use Rattle.aio_child.proofs.Owning.{own_if_read}
use Rattle.aio_child.proofs.child.Child.read_all.Goals as goal

pub returns-in-Out-clause-tells : goal.returns-in-Out-clause-tells
returns-in-Out-clause-tells c =
    let i = c.self.inside in
    let before : Child = record { stdin = i.stdin; out = i.out; errs = i.errs; code = i.code; waits = i.waits.items } in
    subst (λ (pipe : Stream). IfOk c.read_all.result (λ said. Tells {A = Child × AllGot} seen_changed
    (asked_on (its_pipe pipe) (read_all (length c.args.parts.now.futures)) c.args.self.now)
    c.args.parts.now c.read_all.new.parts (record before { out = c.read_all.new.self }, all_got said)))
    (sym c.in-Out.is)
    (subst (λ (v : Child). IfOk c.read_all.result (λ said. Tells {A = Child × AllGot} seen_changed
    (asked_on (its_pipe stream.Out) (read_all (length c.args.parts.now.futures)) v)
    c.args.parts.now c.read_all.new.parts (record before { out = c.read_all.new.self }, all_got said)))
    c.self.view_is
    (IfOk-weaker c.read_all.result _ _
    (λ said it. told_asked_on (its_pipe stream.Out) before c.read_all.new.self (read_all (length c.args.parts.now.futures))
    (all_got said) c.args.parts.now c.read_all.new.parts it)
    c.read_all.ensures.tells))

pub returns-in-Out-clause-own : goal.returns-in-Out-clause-own
returns-in-Out-clause-own c =
    let i = c.self.inside in
    let before : Child = record { stdin = i.stdin; out = i.out; errs = i.errs; code = i.code; waits = i.waits.items } in
    subst (λ (v : Child). OnOk c.read_all.result (OwnsChild c.args.parts.now v
    → OwnsChild c.read_all.new.parts (record before { out = c.read_all.new.self })))
    c.self.view_is
    (own_if_read before c.args.parts.now c.read_all.new.parts stream.Out all_got c.read_all.new.self
    (read_all (length c.args.parts.now.futures) before.out) c.read_all.result c.read_all.ensures.tells c.read_all.ensures.own)

pub returns-in-Errs-clause-tells : goal.returns-in-Errs-clause-tells
returns-in-Errs-clause-tells c =
    let i = c.self.inside in
    let before : Child = record { stdin = i.stdin; out = i.out; errs = i.errs; code = i.code; waits = i.waits.items } in
    subst (λ (pipe : Stream). IfOk c.read_all-in-Errs.result (λ said. Tells {A = Child × AllGot} seen_changed
    (asked_on (its_pipe pipe) (read_all (length c.args.parts.now.futures)) c.args.self.now)
    c.args.parts.now c.read_all-in-Errs.new.parts (record before { errs = c.read_all-in-Errs.new.self }, all_got said)))
    (sym c.in-Errs.is)
    (subst (λ (v : Child). IfOk c.read_all-in-Errs.result (λ said. Tells {A = Child × AllGot} seen_changed
    (asked_on (its_pipe stream.Errs) (read_all (length c.args.parts.now.futures)) v)
    c.args.parts.now c.read_all-in-Errs.new.parts (record before { errs = c.read_all-in-Errs.new.self }, all_got said)))
    c.self.view_is
    (IfOk-weaker c.read_all-in-Errs.result _ _
    (λ said it. told_asked_on (its_pipe stream.Errs) before c.read_all-in-Errs.new.self (read_all (length c.args.parts.now.futures))
    (all_got said) c.args.parts.now c.read_all-in-Errs.new.parts it)
    c.read_all-in-Errs.ensures.tells))

pub returns-in-Errs-clause-own : goal.returns-in-Errs-clause-own
returns-in-Errs-clause-own c =
    let i = c.self.inside in
    let before : Child = record { stdin = i.stdin; out = i.out; errs = i.errs; code = i.code; waits = i.waits.items } in
    subst (λ (v : Child). OnOk c.read_all-in-Errs.result (OwnsChild c.args.parts.now v
    → OwnsChild c.read_all-in-Errs.new.parts (record before { errs = c.read_all-in-Errs.new.self })))
    c.self.view_is
    (own_if_read before c.args.parts.now c.read_all-in-Errs.new.parts stream.Errs all_got c.read_all-in-Errs.new.self
    (read_all (length c.args.parts.now.futures) before.errs) c.read_all-in-Errs.result c.read_all-in-Errs.ensures.tells c.read_all-in-Errs.ensures.own)
