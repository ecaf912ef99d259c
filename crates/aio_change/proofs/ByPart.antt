-- A part of a whole changes, by a tree of its own.
use Rattle.std.proofs.Common.{Result, Ok, Err}
use Rattle.model_stream.specs.Doing.{Doing, Ends, Part, asked_on, on}
use Rattle.aio_wire.specs.Outside.{Outside}
use Rattle.aio_wire.specs.declared.stop.Stop.{Stop}
use Rattle.aio_exchange.specs.Follows.{Follows, Reach, after_of, with_after}
use Rattle.aio_exchange.specs.Tells.{Tells}
use Rattle.aio_exchange.proofs.Following.{follows_ends, follows_stopped, follows_then}
use Rattle.aio_exchange.proofs.Telling.{tells_ends, tells_then}
use Rattle.aio_task.specs.View.{View}
use Rattle.aio_change.specs.Seen.{seen_changed}

module _ {Whole Inner : Type 0} (part : Part Whole Inner) (whole : Whole) (inner : Inner) where
  pub told_on : (change : Inner → Doing Inner) (old new : View) → Tells seen_changed (change (part.get whole)) old new inner
      → Tells seen_changed (on part change whole) old new (part.put inner whole)
  told_on change old new told =
      tells_then seen_changed (change (part.get whole)) (λ after. Ends (part.put after whole)) inner old new new (part.put inner whole) told
      (tells_ends seen_changed (part.put inner whole) new)

  pub told_asked_on : {R : Type 0} (change : Inner → Doing (Inner × R)) (result : R) (old new : View)
      → Tells seen_changed (change (part.get whole)) old new (inner, result)
      → Tells seen_changed (asked_on part change whole) old new (part.put inner whole, result)
  told_asked_on {R} change result old new told =
      tells_then seen_changed (change (part.get whole)) (λ done. Ends (part.put done.0 whole, done.1)) (inner, result) old new new
      (part.put inner whole, result) told (tells_ends seen_changed {A = Whole × R} (part.put inner whole, result) new)

  module _ {W : Type 0} (o : Outside W) (old new : Reach View W) where
    pub went_on : {R : Type 0} (change : Inner → Doing Inner) (result : Result R Stop)
        → Follows o seen_changed (change (part.get whole)) old new (after_of inner result)
        → Follows o seen_changed (on part change whole) old new (after_of (part.put inner whole) result)
    went_on change (Ok done) f =
        follows_then o seen_changed (change (part.get whole)) (λ after. Ends (part.put after whole)) inner old new new
        (Ok (part.put inner whole)) f (follows_ends o seen_changed (part.put inner whole) new)
    went_on change (Err why) f =
        follows_stopped o seen_changed (change (part.get whole)) (λ after. Ends (part.put after whole)) why old new f

    pub went_asked_on : {R : Type 0} (change : Inner → Doing (Inner × R)) (result : Result R Stop)
        → Follows o seen_changed (change (part.get whole)) old new (with_after inner result)
        → Follows o seen_changed (asked_on part change whole) old new (with_after (part.put inner whole) result)
    went_asked_on {R} change (Ok done) f =
        follows_then o seen_changed (change (part.get whole)) (λ it. Ends (part.put it.0 whole, it.1)) (inner, done) old new new
        (Ok (part.put inner whole, done)) f (follows_ends o seen_changed {A = Whole × R} (part.put inner whole, done) new)
    went_asked_on change (Err why) f =
        follows_stopped o seen_changed (change (part.get whole)) (λ it. Ends (part.put it.0 whole, it.1)) why old new f
