use Rattle.std.proofs.Common.{◌≡◌, [], ◌∷◌, ◌∙◌, sym, ap, subst, get_or}
use Rattle.model_stream.specs.Doing.{Settle}
use Rattle.aio_exchange.specs.Ways.{Did}
use Rattle.aio_task.specs.View.{View}
use Rattle.aio_change.specs.Owned.{AreOwn}
use Rattle.aio_change.specs.Seen.{seen_changed}
use Rattle.aio_change.proofs.Owning.{are_own_along}
use Rattle.aio_change.proofs.InOrder.{settled_more}
use Rattle.aio_change.proofs.settling.settle_all.Goals as goal

pub loop-future-preserved : goal.loop-future-preserved
loop-future-preserved c =
    let id = get_or c.args.futures.now c.loop-future.future-index 0 in
    let outcome = c.args.outcome.now in
    let after : c.resolve-was_pending.new.self ≡ seen_changed (Settle id outcome) c.loop-future.parts =
    c.resolve-was_pending.ensures.after
    ∙ ap (λ told. seen_changed (Settle id told) c.loop-future.parts) c.in_ok-told.ensures in
    record {
      parts =
          settled_more outcome c.args.futures.now c.loop-future.future-index c.args.parts.now c.loop-future.parts
          c.resolve-was_pending.new.self c.loop-future-test.true c.loop-future.invariant.parts after;
      own =
          subst (λ (v : View). AreOwn v c.args.futures.now) (sym after)
          (are_own_along (Did (Settle id outcome) ∷ []) c.loop-future.parts c.args.futures.now c.loop-future.invariant.own);
      idle = ap (λ (v : View). v.called) after ∙ c.loop-future.invariant.idle;
    }
