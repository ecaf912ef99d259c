-- The four parts.
use Rattle.model_reach.specs.Reach.{Parted}
use Rattle.model_gather.specs.Gathered.{Gathered, none_gathered}
use Rattle.model_sync.specs.Synced.{Synced, none_synced}
use Rattle.model_exec.specs.Execed.{Execed, none_execed}
use Rattle.model_dgram.specs.Endpoints.{Endpoints, none_opened}
use Rattle.law_gather.proofs.Falling.{gather_same}
use Rattle.law_gather.proofs.Keys.{of_gather}
use Rattle.law_sync.proofs.Falling.{sync_same}
use Rattle.law_sync.proofs.Keys.{of_sync}
use Rattle.law_exec.proofs.Falling.{exec_same}
use Rattle.law_exec.proofs.Keys.{of_exec}
use Rattle.law_dgram.proofs.Falling.{dgram_same}
use Rattle.law_dgram.proofs.Keys.{of_dgram}
use Rattle.aio_extra.specs.Added.{Added}
use Rattle.aio_gather.specs.Added.{gather_added}
use Rattle.aio_gather.specs.declared.gather.Gather.{Gather}
use Rattle.aio_sync.specs.Added.{sync_added}
use Rattle.aio_sync.specs.declared.requests.Sync.{Sync}
use Rattle.aio_exec.specs.Added.{exec_added}
use Rattle.aio_exec.specs.declared.exec.Exec.{Exec}
use Rattle.aio_dgram.specs.Added.{dgram_added}
use Rattle.aio_dgram.specs.declared.dgram.Dgram.{Dgram}
use Rattle.aio_reach.specs.declared.four.Four.{Four}
use Rattle.aio_reach.specs.Fours.{AreKeyed, four_added}

pub keyed : AreKeyed gather_added sync_added exec_added dgram_added
keyed = record {
  gather = of_gather;
  sync = of_sync;
  exec = of_exec;
  dgram = of_dgram;
  gather_keys = gather_same;
  sync_keys = sync_same;
  exec_keys = exec_same;
  dgram_keys = dgram_same;
}

abbrev pub routed : Added (Four Gather Sync Exec Dgram)
routed = four_added gather_added sync_added exec_added dgram_added keyed

-- nothing was asked
abbrev pub first_reached : Parted Gathered Synced Execed Endpoints
first_reached = record { gather = none_gathered; sync = none_synced; exec = none_execed; dgram = none_opened }
