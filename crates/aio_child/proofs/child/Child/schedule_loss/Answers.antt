use Rattle.std.proofs.Common.{subst, OnOk}
use Rattle.std.proofs.lemmas.Result.{on_ok_weaker}
use Rattle.model_stream.specs.Children.{Child, its_stdin, inlet}
use Rattle.model_stream.specs.Doing.{on}
use Rattle.model_stream.specs.Senders.{schedule_loss}
use Rattle.aio_exchange.specs.Tells.{Tells}
use Rattle.aio_change.specs.Seen.{seen_changed}
use Rattle.aio_change.proofs.ByPart.{told_on}
use Rattle.aio_child.specs.Owned.{OwnsChild}
use Rattle.aio_child.proofs.Owning.{own_if_told}
use Rattle.aio_child.proofs.child.Child.schedule_loss.Goals as goal

pub returns-clause-tells : goal.returns-clause-tells
returns-clause-tells c =
    let i = c.self.inside in
    let before : Child = record { stdin = i.stdin; out = i.out; errs = i.errs; code = i.code; waits = i.waits.items } in
    subst (λ (v : Child). OnOk c.schedule_loss.result (Tells seen_changed (on its_stdin (schedule_loss (inlet c.args.id) c.args.broken) v)
    c.args.parts.now c.schedule_loss.new.parts (record before { stdin = c.schedule_loss.new.self })))
    c.self.view_is
    (on_ok_weaker c.schedule_loss.result
    (told_on its_stdin before c.schedule_loss.new.self (schedule_loss (inlet c.args.id) c.args.broken) c.args.parts.now c.schedule_loss.new.parts)
    c.schedule_loss.ensures.tells)

pub returns-clause-own : goal.returns-clause-own
returns-clause-own c =
    let i = c.self.inside in
    let before : Child = record { stdin = i.stdin; out = i.out; errs = i.errs; code = i.code; waits = i.waits.items } in
    subst (λ (v : Child). OnOk c.schedule_loss.result (OwnsChild c.args.parts.now v
    → OwnsChild c.schedule_loss.new.parts (record before { stdin = c.schedule_loss.new.self })))
    c.self.view_is
    (own_if_told before c.args.parts.now c.schedule_loss.new.parts c.schedule_loss.new.self
    (schedule_loss (inlet c.args.id) c.args.broken before.stdin) c.schedule_loss.result c.schedule_loss.ensures.tells c.schedule_loss.ensures.own)
