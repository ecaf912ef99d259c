use Rattle.std.proofs.Common.{◌≡◌, ◌∙◌, true, not, ◌&&◌, [], sym, ap, subst}
use Rattle.std.proofs.lemmas.Result.{on_ok_weaker}
use Rattle.model_value.specs.Value.{Nothing}
use Rattle.model_value.specs.declared.outcome.Outcome.TheVariants.{Value as Returned}
use Rattle.model_stream.specs.Senders.{Sender, sent}
use Rattle.model_stream.specs.Sending.{took}
use Rattle.aio_exchange.specs.Tells.{Tells}
use Rattle.aio_exchange.specs.Ways.{changed_on}
use Rattle.aio_change.specs.Owned.{settled_way}
use Rattle.aio_change.specs.Seen.{seen_changed}
use Rattle.aio_change.proofs.Owning.{told_own}
use Rattle.aio_sender.specs.Owned.{OwnsSender, futures_of}
use Rattle.aio_sender.proofs.Telling.{resumes_so}
use Rattle.aio_sender.proofs.sender.Sender.sent.Goals as goal

tells_so : (c : goal.After-clear_drains)
    → c.settle_drains-told.new.parts
    ≡ changed_on seen_changed (settled_way (Returned c.nothing.result) c.took.new.self.drains) c.args.parts.now
    → Tells seen_changed (sent c.args.count c.args.self.now) c.args.parts.now c.settle_drains-told.new.parts c.clear_drains.new.self
tells_so c is =
    let s = c.args.self.now in
    let old = c.args.parts.now in
    let on : (s.writer.paused && not (took c.args.count s.writer).paused) ≡ true =
    ap (λ b. b && not (took c.args.count s.writer).paused) (sym c.paused-paused.ensures)
    ∙ ap (λ (a : Sender). c.paused-paused.result && not a.writer.paused) (sym c.took.ensures) ∙ sym c.resumes-resumes.ensures ∙ c.if-not-resumes.false in
    resumes_so s c.args.count c.clear_drains.new.self old c.settle_drains-told.new.parts on
    (is ∙ ap (λ v. changed_on seen_changed (settled_way (Returned v) c.took.new.self.drains) old) c.nothing.ensures
    ∙ ap (λ (a : Sender). changed_on seen_changed (settled_way (Returned Nothing) a.drains) old) c.took.ensures)
    (c.clear_drains.ensures ∙ ap (λ (a : Sender). record a { drains = [] }) c.took.ensures)

pub returns-clause-tells : goal.returns-clause-tells
returns-clause-tells c = on_ok_weaker c.settle_drains-told.result (tells_so c) c.settle_drains-told.ensures.after

pub returns-clause-own : goal.returns-clause-own
returns-clause-own c =
    let s = c.args.self.now in
    let new = c.settle_drains-told.new.parts in
    on_ok_weaker c.settle_drains-told.result
    (λ is. subst (OwnsSender new) (sym (c.clear_drains.ensures ∙ ap (λ (a : Sender). record a { drains = [] }) c.took.ensures))
    ((told_own (sent c.args.count s) c.args.parts.now new c.clear_drains.new.self (tells_so c is) (futures_of s) c.requires.own).0, tt))
    c.settle_drains-told.ensures.after
