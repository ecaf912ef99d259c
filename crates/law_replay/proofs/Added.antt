-- What is added where the program runs a script goes by no answer that is still to come.
use Rattle.std.proofs.Common.{refl}
use Rattle.model_gather.specs.Serving.{gather_means}
use Rattle.model_sync.specs.Serving.{sync_means}
use Rattle.model_exec.specs.Serving.{exec_means}
use Rattle.model_dgram.specs.Serving.{dgram_means}
use Rattle.model_program.specs.Added.{added}
use Rattle.law_replay.specs.Foreseeing.{ForeseesNothing}
use Rattle.law_replay.proofs.Gathering.{gather_foresees}
use Rattle.law_replay.proofs.Routing.{reach_foresees}

-- of the state, locks, events and queues read the loop's parts, and what they keep
sync_foresees : ForeseesNothing sync_means
sync_foresees = record {
  ask = λ task code arguments s left. refl;
  wake = λ key input s left. refl;
  act = λ key s left. refl;
  item = λ code bytes s left. refl;
}

-- jobs make their futures in the loop's parts
exec_foresees : ForeseesNothing exec_means
exec_foresees = record {
  ask = λ task code arguments s left. refl;
  wake = λ key input s left. refl;
  act = λ key s left. refl;
  item = λ code bytes s left. refl;
}

-- and so do datagrams
dgram_foresees : ForeseesNothing dgram_means
dgram_foresees = record {
  ask = λ task code arguments s left. refl;
  wake = λ key input s left. refl;
  act = λ key s left. refl;
  item = λ code bytes s left. refl;
}

pub added_foresees : ForeseesNothing added
added_foresees =
    reach_foresees gather_means sync_means exec_means dgram_means gather_foresees sync_foresees exec_foresees dgram_foresees
