-- A port, and what an ask of it does: it asks the wire once, and notes the call and the answer.
use Rattle.std.specs.Prelude.{◌≡◌, ℕ, List, ◌++◌, Result, Ok, Err, if◌then◌else◌, ◌⊎◌}
use Rattle.model_wire.specs.declared.event.Event.TheVariants as event
use Rattle.model_wire.specs.Call.{Call, Answer}
use Rattle.model_wire.specs.Event.{Event}
use Rattle.model_wire.specs.Fits.{fits}
use Rattle.aio_wire.specs.EventList.{EventList}
use Rattle.aio_wire.specs.Events.{pushed}
use Rattle.aio_wire.specs.Outside.{Outside}
use Rattle.aio_wire.specs.Replied.{MayHaveReplied, Replied, Stays}
use Rattle.aio_wire.specs.declared.stop.Stop.{Stop}
use Rattle.aio_wire.specs.declared.stop.Stop.TheVariants as stop
use Rattle.aio_wire.specs.declared.wire.Reply.{Reply}
use Rattle.aio_wire.specs.declared.wire.Reply.TheVariants as reply

-- a wire with the events of the run, as a port has them
pub record Ported (W : Type 0) : Type 0 where
  pub wire : W
  pub events : EventList

abbrev pub ported : {W : Type 0} → W → EventList → Ported W
ported wire events = record { wire = wire; events = events }

-- the events after a call with this reply; an answer is noted whether it fits or not
abbrev pub events_after : EventList → Call → Reply → EventList
events_after list call (reply.Got answer) = pushed (pushed list (event.Called call)) (event.Got answer)
events_after list call reply.Over = pushed list (event.Called call)
events_after list call (reply.Bad fault) = pushed list (event.Called call)
events_after list call reply.Failed = pushed list (event.Called call)

-- what the port answers, by the number of answers of the run with this one
abbrev pub outcome_of : Call → ℕ → Reply → Result Answer Stop
outcome_of call count (reply.Got answer) = if fits call answer then Ok answer else Err (stop.Mismatch count call)
outcome_of call count reply.Over = Err (stop.Over call)
outcome_of call count (reply.Bad fault) = Err (stop.Bad fault)
outcome_of call count reply.Failed = Err (stop.Failed call)

-- The wire was asked once, and what it replied was noted and answered.
abbrev pub Exchanges : Call → EventList → EventList → Result Answer Stop → Reply → Type 0
Exchanges call old new result said = (new ≡ events_after old call said) × (result ≡ outcome_of call new.answers said)

-- Memory was refused: no event is lost.
abbrev pub StopsShort : EventList → EventList → Result Answer Stop → Type 0
StopsShort old new result = (result ≡ Err stop.Memory) × ((more : List Event) × (new.events ≡ old.events ++ more))

-- each answer is that the wire failed, but where memory was refused
abbrev pub AlwaysFails : Call → Result Answer Stop → Type 0
AlwaysFails call result = (result ≡ Err (stop.Failed call)) ⊎ (result ≡ Err stop.Memory)

-- a fact that holds unless the wire failed
abbrev pub UnlessStopped : Type 0 → Result Answer Stop → Type 0
UnlessStopped fact (Ok answer) = fact
UnlessStopped fact (Err (stop.Over call)) = fact
UnlessStopped fact (Err (stop.Bad fault)) = fact
UnlessStopped fact (Err (stop.Mismatch count call)) = fact
UnlessStopped fact (Err (stop.Failed call)) = Unit {0}
UnlessStopped fact (Err stop.Memory) = fact

-- A port was asked.
pub record PortAsked {W : Type 0} (o : Outside W) (call : Call) (old new : Ported W) (result : Result Answer Stop) : Type 0 where
  -- the wire was asked once, and what it replied was noted and answered; or memory was refused
  pub asks : ((said : Reply) × Exchanges call old.events new.events result said × Replied call (o.seen old.wire) (o.seen new.wire) said)
      ⊎ (StopsShort old.events new.events result × MayHaveReplied call (o.seen old.wire) (o.seen new.wire))
  -- whether it is fitting stays, and its count didn't fall
  pub stays : Stays (o.seen old.wire) (o.seen new.wire)
  -- where each of its calls fails this one does
  pub fails : o.fails old.wire → AlwaysFails call result
  -- what stays from call to call
  pub keeps : o.keeps old.wire new.wire
  -- what stays as long as it doesn't fail
  pub quiet : UnlessStopped (o.quiet old.wire new.wire) result
