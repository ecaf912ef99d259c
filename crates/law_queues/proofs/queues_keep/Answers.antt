use Rattle.model_reach.specs.Part.{place_of}
use Rattle.model_sync.specs.Synced.{sync_part, waiting_at}
use Rattle.model_sync.specs.Serving.{wanted_of}
use Rattle.law_queues.proofs.Sizes.{asked_said, woken_said}
use Rattle.law_queues.proofs.queues_keep.Goals as goal

pub returns-clause-asked : goal.returns-clause-asked
returns-clause-asked c = λ task code arguments s h. asked_said s.loop.parts s.extra h code (wanted_of code arguments)

pub returns-clause-woken : goal.returns-clause-woken
returns-clause-woken c = λ key input s h.
    woken_said s.loop.parts s.extra h (waiting_at (place_of sync_part key) s.extra) key (place_of sync_part key) input
