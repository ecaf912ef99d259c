-- What a row of changes of the state does to the loop.
use Rattle.std.proofs.Common.{ℕ, Option}
use Rattle.model_machine.specs.Extra.{Extra}
use Rattle.model_machine.specs.State.{State}
use Rattle.law_changes.specs.Reaches.{LoopReaches, stays, goes}
use Rattle.law_reach.specs.Changes.{OfLoop, Says, MakesCoroutine, SetsResumePoint, Resumes, NamesFuture, EndsMain, ChangesExtra, ChangesStreams}
use Rattle.law_reach.specs.Changes.{Runs, Hears, Calls}
use Rattle.law_reach.specs.Reaches.{InCallback}

pub loop_of : {S : Type 0} (added : Extra S) {r : Option ℕ} {s t : State S} → InCallback added r s t → LoopReaches r s.loop t.loop
loop_of added stays = stays
loop_of added (goes row (OfLoop change) may) = goes (loop_of added row) change may
loop_of added (goes row (Says task text) may) = loop_of added row
loop_of added (goes row (MakesCoroutine coroutine arguments) may) = loop_of added row
loop_of added (goes row (SetsResumePoint resume_point task) may) = loop_of added row
loop_of added (goes row (Resumes fresh task input) may) = loop_of added row
loop_of added (goes row (NamesFuture future) may) = loop_of added row
loop_of added (goes row EndsMain may) = loop_of added row
loop_of added (goes row (ChangesExtra extra) may) = loop_of added row
loop_of added (goes row (ChangesStreams streams) may) = loop_of added row
loop_of added (goes row (Runs it) may) = loop_of added row
loop_of added (goes row (Calls call) may) = loop_of added row
loop_of added (goes row (Hears call answer left) may) = loop_of added row
