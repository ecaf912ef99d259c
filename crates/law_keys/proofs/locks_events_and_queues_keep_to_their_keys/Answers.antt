use Rattle.law_keys.proofs.Keys.{sync_keeps_to_keys}
use Rattle.law_keys.proofs.locks_events_and_queues_keep_to_their_keys.Goals as goal

pub returns : goal.returns
returns c = sync_keeps_to_keys
