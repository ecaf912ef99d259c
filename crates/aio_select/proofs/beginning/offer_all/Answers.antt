use Rattle.std.proofs.Common.{◌≡◌, length, rules, refl}
use Rattle.std.specs.Vec.Iter.{into_iter_len}
use Rattle.std.proofs.lemmas.Iterator.Adapters.{YieldsList-from_vec}
use Rattle.std.proofs.lemmas.Iterator.Consumers.{YieldsList-at, YieldsList-end}
use Rattle.aio_select.proofs.Offering.{offers_more, offers_whole}
use Rattle.aio_select.proofs.beginning.offer_all.Goals as goal

pub loop-item-init : goal.loop-item-init
loop-item-init c = (tt, tt, c.requires, λ children taken count halt. refl)

pub offer-requires : goal.offer-requires
offer-requires c = c.loop-item.invariant.2

pub loop-item-preserved : goal.loop-item-preserved
loop-item-preserved c = (
  tt,
  tt,
  c.offer.ensures.fits,
  offers_more c.args.watch.now c.args.answering.now.items.items c.args.answering.now.kept.items c.loop-item.yielded
      c.in-Some.item c.loop-item.answering.items.items c.loop-item.answering.kept.items c.offer.new.self.items.items
      c.offer.new.self.kept.items c.loop-item.invariant.3 c.in_ok-offer.ensures.offered,
)

pub returns : goal.returns
returns c =
    let len : into_iter_len c.into_iter-rest.result ≡ length c.args.items.items = search rules in
    let seen = YieldsList-end
    (YieldsList-at c.into_iter-item-iterator.ensures.into_iter_gives
    (YieldsList-from_vec c.args.items.items c.into_iter-rest.ensures.rest len))
    c.loop-item.yielded c.loop-item.item-iterator c.loop-item.yielded_by _ c.next.new.self c.in-None.is c.next.ensures.steps in
    record {
      offered =
          offers_whole c.args.watch.now c.args.answering.now.items.items c.args.answering.now.kept.items c.loop-item.yielded
          c.args.items.items c.loop-item.answering.items.items c.loop-item.answering.kept.items c.loop-item.invariant.3 seen.0;
      fits = c.loop-item.invariant.2;
    }
