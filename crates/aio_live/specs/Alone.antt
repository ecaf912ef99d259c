-- A call that asks nothing of the poller or the launcher.
use Rattle.std.specs.Prelude.{◌≡◌, false}
use Rattle.model_wire.specs.Call.{Call}
use Rattle.model_hub.specs.Others.{Said}
use Rattle.model_hub.specs.Told.{PollerSeen, LauncherSeen}
use Rattle.model_hub.specs.Asked.{Asks}
use Rattle.aio_live.specs.States.{StateSeen}
use Rattle.aio_live.specs.Seen.{hub_seen}

-- Whatever is seen of poller and launcher, and stays so: this is what the record of a call says, where memory wasn't refused
-- before.
abbrev pub AsksAlone : {Run : Type 0} → Call → Said → (old new : StateSeen Run) → Type 0
AsksAlone asks said old new =
    (poller : PollerSeen) (launcher : LauncherSeen) → old.hub.starved ≡ false
    → Asks asks (hub_seen poller launcher old) (hub_seen poller launcher new) said
