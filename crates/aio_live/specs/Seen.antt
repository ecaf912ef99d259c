-- What is seen of a hub.
use Rattle.model_hub.specs.Told.{PollerSeen, LauncherSeen}
use Rattle.model_hub.specs.Asked.{HubSeen, faults_of}
use Rattle.aio_live.specs.States.{StateSeen, heads_of}

abbrev pub hub_seen : {Run : Type 0} → PollerSeen → LauncherSeen → StateSeen Run → HubSeen
hub_seen poller launcher state =
    record {
      hub = state.hub;
      nones = state.nones;
      given = (heads_of state).given;
      fulls = (heads_of state).fulls;
      poller = poller;
      launcher = launcher;
      faults = faults_of poller state.hub;
    }
