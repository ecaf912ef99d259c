use Rattle.std.proofs.Common.{None, Some}
use Rattle.model_machine.specs.Replies.{Halts}
use Rattle.model_machine.specs.Went.{Stops}
use Rattle.law_turns.specs.Replied.{RepliesSound}
use Rattle.law_turns.specs.SoundState.{LeavesSoundLoop}
use Rattle.law_turns.proofs.TreeSteps.{done_sound}
use Rattle.law_turns.proofs.trees.trees_keep_it_sound.Goals as goal

pub returns-clause-callback : goal.returns-clause-callback
returns-clause-callback g c = done_sound None LeavesSoundLoop Stops (λ how t. tt)

pub returns-clause-request : goal.returns-clause-request
returns-clause-request g c task = done_sound (Some task) (RepliesSound task) Halts (λ how t. tt)
