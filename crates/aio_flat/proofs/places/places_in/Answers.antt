use Rattle.std.proofs.Common.{◌≡◌, ◌+◌, ◌-◌, drop, subst, sym, ◌∙◌, arith}
use Rattle.aio_flat.specs.Places.{HasPlaces}
use Rattle.aio_flat.proofs.PlaceLemmas.{HasPlaces-insert, drop-before}
use Rattle.aio_flat.proofs.places.places_in.Goals as goal

pub loop-at-preserved : goal.loop-at-preserved
loop-at-preserved c =
    let coroutines = c.args.coroutines.now in
    let l = c.loop-at in
    let coroutine = c.index-coroutines-at.result in
    let next : l.at ≡ l.at - 1 + 1 = omega arith in
    record {
      in_range = omega (arith, l.invariant.in_range);
      has =
          subst (HasPlaces c.insert.new.self c.args.count (l.at - 1))
          (sym (drop-before coroutines l.at coroutine c.loop-at-test.true l.invariant.in_range c.index-coroutines-at.is))
          (HasPlaces-insert l.places c.insert.new.self c.as_str.result c.args.count (l.at - 1) coroutine (drop l.at coroutines)
          (sym (c.as_str.ensures.value ∙ c.name.ensures)) c.in_ok-insert.ensures.updates
          (subst (λ n. HasPlaces l.places c.args.count n (drop l.at coroutines)) next l.invariant.has));
    }
