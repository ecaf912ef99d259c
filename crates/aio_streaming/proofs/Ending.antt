-- A request whose call has no answer.
use Rattle.std.proofs.Common.{◌≡◌, ℕ, length, Result, Ok, Err, ◌∙◌, refl, sym, ap}
use Rattle.model_value.specs.Request.{Request}
use Rattle.model_value.specs.Value.{Nothing}
use Rattle.model_loop.specs.Futures.{next_future}
use Rattle.model_stream.specs.Doing.{Doing}
use Rattle.model_stream.specs.Streams.{Streams}
use Rattle.model_machine.specs.Replies as plain
use Rattle.model_machine.specs.Replies.{reply, streams_change}
use Rattle.model_machine.specs.Sound.{AreStreamsFutures}
use Rattle.model_machine.specs.State.{State}
use Rattle.aio_wire.specs.Outside.{Outside}
use Rattle.aio_wire.specs.Port.{ported}
use Rattle.aio_wire.specs.declared.stop.Stop.{Stop}
use Rattle.aio_exchange.specs.Follows.{reach}
use Rattle.law_cases.specs.TreeEnd.{owned_in as plain_in}
use Rattle.law_cases.specs.Trees.{Keeping, KeepsStreams}
use Rattle.aio_transports.specs.Standing.{Comes as Changes}
use Rattle.aio_extra.specs.Added.{Added}
use Rattle.aio_body.specs.declared.run_state.RunState.{RunState}
use Rattle.aio_body.specs.Asked.{IsAskingFor}
use Rattle.aio_body.specs.Asking.{Comes, serving}
use Rattle.aio_body.specs.Stands.{Possible, Context}
use Rattle.refine_streams.specs.Alike.{ForgetsWritten}
use Rattle.refine_streams.proofs.Nexts.{answers_add}
use Rattle.refine_streams.proofs.Served.{changing_answers, changing_fails}
use Rattle.aio_streaming.specs.Done.{done_as}

-- what changes the events alone changes nothing but the parts, the events and the transports
pub events_beside : {X : Type 0} (old new : RunState X) → new ≡ record old { events = new.events }
    → new ≡ record old { parts = new.parts; events = new.events; transports = new.transports }
events_beside {X} old new is =
    is
    ∙ ap (λ (b : RunState X). record old { parts = b.parts; events = new.events; transports = b.transports }) (sym is)

-- and so does what changes them and the transports
pub told_beside : {X : Type 0} (old new : RunState X) → new ≡ record old { events = new.events; transports = new.transports }
    → new ≡ record old { parts = new.parts; events = new.events; transports = new.transports }
told_beside {X} old new is =
    is ∙ ap (λ (b : RunState X). record old { parts = b.parts; events = new.events; transports = new.transports }) (sym is)

-- It answers with none where the machine does this tree, and then answers so.
module _ {X W R : Type 0} {a : Added X} (task : ℕ) (request : Request) (old : RunState X) (o : Outside W)
    (possible : Possible a (IsAskingFor task request) old) (new : RunState X) (wire after : W) (tree : ℕ → Streams → Doing Streams)
    (means : (c : Context a) (s : State a.Kept) → IsAskingFor task request c old s
    → reply a.meaning task request s ≡ streams_change (tree (next_future s.loop.parts) s.streams) (plain.Answers Nothing) s)
    (forgets : ForgetsWritten (tree (length old.parts.futures)))
    (keeping : (s : State a.Kept) → AreStreamsFutures s
    → Keeping (KeepsStreams (plain_in s) (next_future s.loop.parts) s.streams) (plain_in s) (next_future s.loop.parts)
    (tree (next_future s.loop.parts) s.streams))
    (frame : new ≡ record old { parts = new.parts; events = new.events; transports = new.transports }) where
  pub done_so : (result : Result R Stop)
      → Changes o (tree (length old.parts.futures)) old.transports new.transports (reach old.parts wire old.events) (reach new.parts after new.events) result
      → Comes o (serving a task request old new) (ported wire old.events) (ported after new.events) (done_as result)
  done_so (Ok it) call =
      changing_answers task request old o possible new wire after tree (plain.Answers Nothing) means it call keeping frame Nothing (λ t. refl)
  done_so (Err why) call =
      changing_fails task request old o possible new wire after tree (plain.Answers Nothing) means R (answers_add Nothing) forgets why call
