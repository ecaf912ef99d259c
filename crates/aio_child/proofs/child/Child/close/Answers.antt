use Rattle.std.proofs.Common.{subst, OnOk}
use Rattle.std.proofs.lemmas.Result.{on_ok_weaker}
use Rattle.model_stream.specs.Children.{Child, its_stdin, inlet}
use Rattle.model_stream.specs.Doing.{on}
use Rattle.model_stream.specs.Senders.{close_sender}
use Rattle.aio_exchange.specs.Tells.{Tells}
use Rattle.aio_change.specs.Seen.{seen_changed}
use Rattle.aio_change.proofs.ByPart.{told_on}
use Rattle.aio_child.specs.Owned.{OwnsChild}
use Rattle.aio_child.proofs.Owning.{own_if_told}
use Rattle.aio_child.proofs.child.Child.close.Goals as goal

pub returns-clause-tells : goal.returns-clause-tells
returns-clause-tells c =
    let i = c.self.inside in
    let before : Child = record { stdin = i.stdin; out = i.out; errs = i.errs; code = i.code; waits = i.waits.items } in
    subst (λ (v : Child). OnOk c.close.result (Tells seen_changed (on its_stdin (close_sender (inlet c.args.id)) v)
    c.args.parts.now c.close.new.parts (record before { stdin = c.close.new.self })))
    c.self.view_is
    (on_ok_weaker c.close.result (told_on its_stdin before c.close.new.self (close_sender (inlet c.args.id)) c.args.parts.now c.close.new.parts)
    c.close.ensures.tells)

pub returns-clause-own : goal.returns-clause-own
returns-clause-own c =
    let i = c.self.inside in
    let before : Child = record { stdin = i.stdin; out = i.out; errs = i.errs; code = i.code; waits = i.waits.items } in
    subst (λ (v : Child). OnOk c.close.result (OwnsChild c.args.parts.now v
    → OwnsChild c.close.new.parts (record before { stdin = c.close.new.self })))
    c.self.view_is
    (own_if_told before c.args.parts.now c.close.new.parts c.close.new.self (close_sender
    (inlet c.args.id) before.stdin) c.close.result c.close.ensures.tells
    c.close.ensures.own)
