-- An ask, and what follows it that asks nothing.
use Rattle.std.proofs.Common.{◌≡◌, Result, Ok, Err, subst}
use Rattle.model_wire.specs.Call.{Call, Answer}
use Rattle.model_stream.specs.Doing.{Doing, Asks}
use Rattle.aio_wire.specs.Outside.{Outside}
use Rattle.aio_wire.specs.declared.stop.Stop.{Stop}
use Rattle.aio_wire.specs.declared.stop.Stop.TheVariants as stop
use Rattle.aio_exchange.specs.Exchanged.{AsksOne}
use Rattle.aio_exchange.specs.Follows.{Follows, Reach}
use Rattle.aio_exchange.specs.Tells.{Tells}
use Rattle.aio_exchange.proofs.Following.{follows_asked, follows_met, follows_starved}
use Rattle.aio_exchange.proofs.Telling.{tells_follow}
use Rattle.aio_task.specs.View.{View}
use Rattle.aio_change.specs.Seen.{seen_changed}

module _ {W : Type 0} (o : Outside W) where
  module _ {A : Type 0} (asked call : Call) (rest : Answer → Doing A) (same : asked ≡ call) where
    -- no answer came that fits
    pub asks_met : (why : Stop) (old new : Reach View W) → AsksOne o asked old.port new.port (Err why) → new.parts ≡ old.parts
        → Follows o seen_changed (Asks call rest) old new (Err why)
    asks_met why old new one parts =
        follows_met o seen_changed call why rest old new (subst (λ it. AsksOne o it old.port new.port (Err why)) same one) parts

    -- one came, and more was done
    pub asks_on : (came : Answer) (old mid new : Reach View W) (result : Result A Stop) → AsksOne o asked old.port mid.port (Ok came)
        → mid.parts ≡ old.parts → Follows o seen_changed (rest came) mid new result
        → Follows o seen_changed (Asks call rest) old new result
    asks_on came old mid new result one parts f =
        follows_asked o seen_changed call came rest old mid new result
        (subst (λ it. AsksOne o it old.port mid.port (Ok came)) same one) parts f

    pub asks_told : (came : Answer) (old mid new : Reach View W) (after : A) → AsksOne o asked old.port mid.port (Ok came)
        → mid.parts ≡ old.parts → new.port ≡ mid.port → Tells seen_changed (rest came) mid.parts new.parts after
        → Follows o seen_changed (Asks call rest) old new (Ok after)
    asks_told came old mid new after one parts port told =
        asks_on came old mid new (Ok after) one parts (tells_follow seen_changed o (rest came) mid new after told port)

    -- then memory was refused
    pub asks_starved : (came : Answer) (old mid new : Reach View W) → AsksOne o asked old.port mid.port (Ok came)
        → mid.parts ≡ old.parts → new.port ≡ mid.port → Follows o seen_changed (Asks call rest) old new (Err stop.Memory)
    asks_starved came old mid new one parts port =
        asks_on came old mid new (Err stop.Memory) one parts (follows_starved o seen_changed (rest came) mid new port)
