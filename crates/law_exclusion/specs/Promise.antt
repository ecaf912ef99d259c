-- What users of locks rely on, of a state of a run: its tries are its calls of locks, events and queues, which the events tell.
-- `A`, `C` and `D` are what the other parts keep, whatever these are.
use Rattle.std.specs.Prelude.{ℕ}
use Rattle.model_machine.specs.Extra.{Extra}
use Rattle.model_machine.specs.State.{State}
use Rattle.model_reach.specs.Reach.{Parted, reach}
use Rattle.model_sync.specs.Serving.{sync_means}
use Rattle.model_sync.specs.Synced.{Synced, none_synced}
use Rattle.law_calls.specs.Told.{HasHappened, first_told}
use Rattle.law_locks.specs.Locks.{LocksKeep}
use Rattle.law_locks.specs.Runs.{tries_of}
use Rattle.law_locks.specs.Tries.{replies}

pub record KeepsLocks {A C D : Type 0} (limit : ℕ) (gather : Extra A) (exec : Extra C) (dgram : Extra D) (first : Parted A Synced C D)
    (s : State (Parted A Synced C D)) : Type 0 where
  pub happened : HasHappened limit (reach gather sync_means exec dgram) (first_told first) s.extra s.events
  pub promise : LocksKeep (replies (tries_of happened.history) none_synced) s.loop.parts s.extra.sync
