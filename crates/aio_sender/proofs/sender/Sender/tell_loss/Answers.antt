use Rattle.std.proofs.Common.{[], ◌∷◌, sym, subst}
use Rattle.std.proofs.lemmas.Result.{on_ok_weaker}
use Rattle.aio_task.specs.View.{View}
use Rattle.aio_change.specs.Owned.{settled_way}
use Rattle.aio_change.proofs.Owning.{are_own_along}
use Rattle.aio_sender.specs.Owned.{OwnsSender, futures_of}
use Rattle.aio_sender.proofs.sender.Sender.tell_loss.Goals as goal

pub returns-clause-own : goal.returns-clause-own
returns-clause-own c =
    let s = c.args.self.now in
    let mid = c.settle_closed.new.parts in
    let between : OwnsSender mid s =
    subst (λ (v : View). OwnsSender v s) (sym c.in_ok-settle_closed.ensures.after)
    (are_own_along (settled_way c.args.outcome.now (s.closed_future ∷ [])) c.args.parts.now (futures_of s) c.requires.own) in
    on_ok_weaker c.settle_drains.result
    (λ is. subst (λ (v : View). OwnsSender v s) (sym is) (are_own_along (settled_way c.args.outcome.now s.drains) mid (futures_of s) between))
    c.settle_drains.ensures.after
