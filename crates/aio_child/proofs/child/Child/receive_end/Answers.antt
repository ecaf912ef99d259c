use Rattle.std.proofs.Common.{sym, subst}
use Rattle.model_pump.specs.declared.stream.Stream.{Stream}
use Rattle.model_pump.specs.declared.stream.Stream.TheVariants as stream
use Rattle.model_stream.specs.Children.{Child, its_pipe}
use Rattle.model_stream.specs.Doing.{on}
use Rattle.model_stream.specs.Receivers.{receive_end}
use Rattle.aio_exchange.specs.Tells.{Tells}
use Rattle.aio_change.specs.Seen.{seen_changed}
use Rattle.aio_change.proofs.ByPart.{told_on}
use Rattle.aio_child.specs.Owned.{OwnsChild}
use Rattle.aio_child.proofs.Owning.{own_received}
use Rattle.aio_child.proofs.child.Child.receive_end.Goals as goal

pub returns-in-Out-clause-tells : goal.returns-in-Out-clause-tells
returns-in-Out-clause-tells c =
    let i = c.self.inside in
    let before : Child = record { stdin = i.stdin; out = i.out; errs = i.errs; code = i.code; waits = i.waits.items } in
    subst (λ (pipe : Stream). Tells seen_changed (on (its_pipe pipe) receive_end c.args.self.now)
    c.args.parts.now c.receive_end.new.parts (record before { out = c.receive_end.new.self }))
    (sym c.in-Out.is)
    (subst (λ (v : Child). Tells seen_changed (on (its_pipe stream.Out) receive_end v)
    c.args.parts.now c.receive_end.new.parts (record before { out = c.receive_end.new.self }))
    c.self.view_is
    (told_on (its_pipe stream.Out) before c.receive_end.new.self receive_end c.args.parts.now c.receive_end.new.parts c.receive_end.ensures.tells))

pub returns-in-Out-clause-own : goal.returns-in-Out-clause-own
returns-in-Out-clause-own c =
    let i = c.self.inside in
    let before : Child = record { stdin = i.stdin; out = i.out; errs = i.errs; code = i.code; waits = i.waits.items } in
    own_received before c.args.parts.now c.receive_end.new.parts stream.Out c.receive_end.new.self (receive_end before.out)
    c.receive_end.ensures.tells c.receive_end.ensures.nobody (subst (OwnsChild c.args.parts.now) (sym c.self.view_is) c.requires.own)

pub returns-in-Errs-clause-tells : goal.returns-in-Errs-clause-tells
returns-in-Errs-clause-tells c =
    let i = c.self.inside in
    let before : Child = record { stdin = i.stdin; out = i.out; errs = i.errs; code = i.code; waits = i.waits.items } in
    subst (λ (pipe : Stream). Tells seen_changed (on (its_pipe pipe) receive_end c.args.self.now)
    c.args.parts.now c.receive_end-in-Errs.new.parts (record before { errs = c.receive_end-in-Errs.new.self }))
    (sym c.in-Errs.is)
    (subst (λ (v : Child). Tells seen_changed (on (its_pipe stream.Errs) receive_end v)
    c.args.parts.now c.receive_end-in-Errs.new.parts (record before { errs = c.receive_end-in-Errs.new.self }))
    c.self.view_is
    (told_on (its_pipe stream.Errs) before c.receive_end-in-Errs.new.self receive_end c.args.parts.now c.receive_end-in-Errs.new.parts
    c.receive_end-in-Errs.ensures.tells))

pub returns-in-Errs-clause-own : goal.returns-in-Errs-clause-own
returns-in-Errs-clause-own c =
    let i = c.self.inside in
    let before : Child = record { stdin = i.stdin; out = i.out; errs = i.errs; code = i.code; waits = i.waits.items } in
    own_received before c.args.parts.now c.receive_end-in-Errs.new.parts stream.Errs c.receive_end-in-Errs.new.self (receive_end before.errs)
    c.receive_end-in-Errs.ensures.tells c.receive_end-in-Errs.ensures.nobody (subst (OwnsChild c.args.parts.now) (sym c.self.view_is) c.requires.own)
