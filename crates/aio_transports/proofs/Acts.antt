-- Calls that ask nothing, as ones that may ask; and which callbacks are no child's.
use Rattle.std.proofs.Common.{◌≡◌, ◌⊎◌, inl, inr, Ok, Err}
use Rattle.model_stream.specs.Doing.{Doing}
use Rattle.model_stream.specs.Streams.{Streams}
use Rattle.aio_wire.specs.Outside.{Outside}
use Rattle.aio_wire.specs.declared.stop.Stop.TheVariants as stop
use Rattle.aio_exchange.specs.Follows.{Reach}
use Rattle.aio_exchange.proofs.Following.{follows_starved}
use Rattle.aio_exchange.proofs.Telling.{tells_follow}
use Rattle.aio_task.specs.View.{View}
use Rattle.aio_change.specs.Seen.{seen_changed}
use Rattle.aio_transports.specs.Kept.{Kept}
use Rattle.aio_transports.specs.Standing.{Comes, Told}

module _ {W : Type 0} (o : Outside W) (tree : Streams → Doing Streams) (k after : Kept) (old new : Reach View W)
    (port : new.port ≡ old.port) where
  pub told_comes : Told tree k after old.parts new.parts → Comes {R = Unit {0}} o tree k after old new (Ok tt)
  told_comes told s h =
      let it = told s h in
      (it.0, (tells_follow seen_changed o (tree s) old new it.0 it.1.0 port, it.1.1))

  -- memory was refused
  pub starved_comes : Comes {R = Unit {0}} o tree k after old new (Err stop.Memory)
  starved_comes s h = (s, (follows_starved o seen_changed (tree s) old new port, tt))

-- of one that is this or another
pub or_else : {A B P : Type 0} → A ⊎ B → (A → P) → (B → P) → P
or_else (inl a) this other = this a
or_else (inr b) this other = other b
