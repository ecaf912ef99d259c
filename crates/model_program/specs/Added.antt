-- What is added to the loop's own requests where the program runs a script, and what it keeps as a run begins. No other
-- definition names it.
use Rattle.model_machine.specs.Extra.{Extra}
use Rattle.model_reach.specs.Reach.{Parted, reach}
use Rattle.model_gather.specs.Gathered.{Gathered, none_gathered}
use Rattle.model_gather.specs.Serving.{gather_means}
use Rattle.model_sync.specs.Synced.{Synced, none_synced}
use Rattle.model_sync.specs.Serving.{sync_means}
use Rattle.model_exec.specs.Execed.{Execed, none_execed}
use Rattle.model_exec.specs.Serving.{exec_means}
use Rattle.model_dgram.specs.Endpoints.{Endpoints, none_opened}
use Rattle.model_dgram.specs.Serving.{dgram_means}

-- what is kept of it
abbrev pub AddedState : Type 0
AddedState = Parted Gathered Synced Execed Endpoints

-- Waits for several futures; locks, events and queues; jobs beside the loop; datagrams.
abbrev pub added : Extra AddedState
added = reach gather_means sync_means exec_means dgram_means

-- nothing was asked
abbrev pub first_added : AddedState
first_added = record { gather = none_gathered; sync = none_synced; exec = none_execed; dgram = none_opened }
