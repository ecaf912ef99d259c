use Rattle.std.proofs.Common.{◌≡◌, refl, replicate}
use Rattle.aio_postbox.proofs.Counting.{none_counted}
use Rattle.aio_postbox.proofs.postbox.Postbox.make.Goals as goal

pub invariant_of-result : goal.invariant_of-result
invariant_of-result g c =
    let zeros : c.in_ok-counts.counts.items ≡ replicate 1024 0 = c.in_ok-counts.ensures.items_if_clones_equal (λ y h. h) in
    none_counted 1024 c.in_ok-counts.counts.items c.in_ok-inbox.taker refl zeros c.in_ok-inbox.ensures.taker
