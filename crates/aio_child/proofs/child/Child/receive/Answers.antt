use Rattle.std.proofs.Common.{◌≡◌, false, sym, subst, OnOk}
use Rattle.std.proofs.lemmas.Result.{on_ok_weaker}
use Rattle.model_pump.specs.declared.stream.Stream.{Stream}
use Rattle.model_pump.specs.declared.stream.Stream.TheVariants as stream
use Rattle.model_stream.specs.Children.{Child, its_pipe}
use Rattle.model_stream.specs.Doing.{on}
use Rattle.model_stream.specs.Receivers.{receive}
use Rattle.aio_exchange.specs.Tells.{Tells}
use Rattle.aio_change.specs.Seen.{seen_changed}
use Rattle.aio_change.proofs.ByPart.{told_on}
use Rattle.aio_child.specs.Owned.{OwnsChild}
use Rattle.aio_child.proofs.Owning.{own_if_received}
use Rattle.aio_child.proofs.child.Child.receive.Goals as goal

pub receive-requires-clause-not_ended : goal.receive-requires-clause-not_ended
receive-requires-clause-not_ended c =
    subst (λ (v : Child). v.out.reader.eof ≡ false) (sym c.self.view_is)
    (subst (λ (pipe : Stream). ((its_pipe pipe).get c.args.self.now).reader.eof ≡ false) c.in-Out.is c.requires.not_ended)

pub returns-in-Out-clause-tells : goal.returns-in-Out-clause-tells
returns-in-Out-clause-tells c =
    let i = c.self.inside in
    let before : Child = record { stdin = i.stdin; out = i.out; errs = i.errs; code = i.code; waits = i.waits.items } in
    subst (λ (pipe : Stream). OnOk c.receive.result (Tells seen_changed (on (its_pipe pipe) (receive c.args.piece.now) c.args.self.now)
    c.args.parts.now c.receive.new.parts (record before { out = c.receive.new.self })))
    (sym c.in-Out.is)
    (subst (λ (v : Child). OnOk c.receive.result (Tells seen_changed (on (its_pipe stream.Out) (receive c.args.piece.now) v)
    c.args.parts.now c.receive.new.parts (record before { out = c.receive.new.self })))
    c.self.view_is
    (on_ok_weaker c.receive.result (told_on (its_pipe stream.Out) before c.receive.new.self (receive c.args.piece.now) c.args.parts.now c.receive.new.parts)
    c.receive.ensures.tells))

pub returns-in-Out-clause-own : goal.returns-in-Out-clause-own
returns-in-Out-clause-own c =
    let i = c.self.inside in
    let before : Child = record { stdin = i.stdin; out = i.out; errs = i.errs; code = i.code; waits = i.waits.items } in
    own_if_received before c.args.parts.now c.receive.new.parts stream.Out c.receive.new.self (receive c.args.piece.now before.out) c.receive.result
    c.receive.ensures.tells c.receive.ensures.nobody (subst (OwnsChild c.args.parts.now) (sym c.self.view_is) c.requires.own)

pub receive-requires-in-Errs-clause-not_ended : goal.receive-requires-in-Errs-clause-not_ended
receive-requires-in-Errs-clause-not_ended c =
    subst (λ (v : Child). v.errs.reader.eof ≡ false) (sym c.self.view_is)
    (subst (λ (pipe : Stream). ((its_pipe pipe).get c.args.self.now).reader.eof ≡ false) c.in-Errs.is c.requires.not_ended)

pub returns-in-Errs-clause-tells : goal.returns-in-Errs-clause-tells
returns-in-Errs-clause-tells c =
    let i = c.self.inside in
    let before : Child = record { stdin = i.stdin; out = i.out; errs = i.errs; code = i.code; waits = i.waits.items } in
    subst (λ (pipe : Stream). OnOk c.receive-in-Errs.result (Tells seen_changed (on (its_pipe pipe) (receive c.args.piece.now) c.args.self.now)
    c.args.parts.now c.receive-in-Errs.new.parts (record before { errs = c.receive-in-Errs.new.self })))
    (sym c.in-Errs.is)
    (subst (λ (v : Child). OnOk c.receive-in-Errs.result (Tells seen_changed (on (its_pipe stream.Errs) (receive c.args.piece.now) v)
    c.args.parts.now c.receive-in-Errs.new.parts (record before { errs = c.receive-in-Errs.new.self })))
    c.self.view_is
    (on_ok_weaker c.receive-in-Errs.result
    (told_on (its_pipe stream.Errs) before c.receive-in-Errs.new.self (receive c.args.piece.now) c.args.parts.now c.receive-in-Errs.new.parts)
    c.receive-in-Errs.ensures.tells))

pub returns-in-Errs-clause-own : goal.returns-in-Errs-clause-own
returns-in-Errs-clause-own c =
    let i = c.self.inside in
    let before : Child = record { stdin = i.stdin; out = i.out; errs = i.errs; code = i.code; waits = i.waits.items } in
    own_if_received before c.args.parts.now c.receive-in-Errs.new.parts stream.Errs c.receive-in-Errs.new.self
    (receive c.args.piece.now before.errs) c.receive-in-Errs.result c.receive-in-Errs.ensures.tells c.receive-in-Errs.ensures.nobody
    (subst (OwnsChild c.args.parts.now) (sym c.self.view_is) c.requires.own)
