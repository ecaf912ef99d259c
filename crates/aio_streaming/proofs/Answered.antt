-- A request whose call has an answer that is a value or an exception.
use Rattle.std.proofs.Common.{◌≡◌, ℕ, length, Result, Ok, Err, inl, inr, refl, sym, ap, subst, ◌∙◌}
use Rattle.model_value.specs.Request.{Request}
use Rattle.model_loop.specs.Futures.{next_future}
use Rattle.model_stream.specs.Doing.{Doing}
use Rattle.model_stream.specs.Streams.{Streams}
use Rattle.model_machine.specs.Replies as plain
use Rattle.model_machine.specs.Replies.{reply, streams_do}
use Rattle.model_machine.specs.Sound.{AreStreamsFutures}
use Rattle.model_machine.specs.State.{State}
use Rattle.aio_wire.specs.Outside.{Outside}
use Rattle.aio_wire.specs.Port.{ported}
use Rattle.aio_wire.specs.declared.stop.Stop.{Stop}
use Rattle.aio_exchange.specs.Follows.{reach}
use Rattle.law_reach.specs.Reaches.{left_by}
use Rattle.law_cases.specs.TreeEnd.{owned_in as plain_in}
use Rattle.law_cases.specs.Trees.{AnswersStreams, Keeping}
use Rattle.aio_transports.specs.Standing.{Answers as AnswersTree}
use Rattle.aio_extra.specs.Added.{Added}
use Rattle.aio_body.specs.declared.run_state.RunState.{RunState}
use Rattle.aio_body.specs.declared.reply.RequestReply.{RequestReply}
use Rattle.aio_body.specs.Asked.{IsAskingFor}
use Rattle.aio_body.specs.Asking.{Comes, serving}
use Rattle.aio_body.specs.Stands.{Possible, Context}
use Rattle.refine_streams.specs.Alike.{AddsEvents, ForgetsWritten}
use Rattle.refine_streams.proofs.Served.{serving_answers, serving_fails, serving_raises, serving_starves}
use Rattle.aio_streaming.specs.Answered.{Answered, AnsweredAs, ComesAs, Raising, With, answered_by}

-- `said` is what the call's answer is to the request, and `next` the same in the machine.
module _ {X W R : Type 0} {a : Added X} (task : ℕ) (request : Request) (old : RunState X) (o : Outside W)
    (possible : Possible a (IsAskingFor task request) old) (new : RunState X) (wire after : W) (tree : ℕ → Streams → Doing (Streams × R))
    (said : R → Answered) (next : R → State a.Kept → plain.RequestReply a.Kept)
    (is : (it : R) (t : State a.Kept) → next it t ≡ answered_by (said it) t) (adds : (it : R) → AddsEvents left_by (next it))
    (means : (c : Context a) (s : State a.Kept) → IsAskingFor task request c old s
    → reply a.meaning task request s ≡ streams_do (tree (next_future s.loop.parts) s.streams) next s)
    (forgets : ForgetsWritten (tree (length old.parts.futures))) (Waits : (ℕ → Type 0) → R → Type 0)
    (keeping : (s : State a.Kept) → AreStreamsFutures s
    → Keeping (AnswersStreams Waits (plain_in s) (next_future s.loop.parts) s.streams) (plain_in s) (next_future s.loop.parts)
    (tree (next_future s.loop.parts) s.streams))
    (frame : new ≡ record old { parts = new.parts; events = new.events; transports = new.transports }) where
  abbrev ComesTo : Result RequestReply Stop → Type 0
  ComesTo result = Comes o (serving a task request old new) (ported wire old.events) (ported after new.events) result

  pub answered_so : (called : Result R Stop) (result : Result RequestReply Stop)
      → AnswersTree o (tree (length old.parts.futures)) old.transports new.transports (reach old.parts wire old.events)
      (reach new.parts after new.events) called
      → AnsweredAs said called result → ComesTo result
  answered_so (Ok it) result call comes = at (said it) refl comes
    where
      at : (y : Answered) → said it ≡ y → ComesAs y result → ComesTo result
      at (With value) e same =
          subst ComesTo (sym same)
          (serving_answers task request old o possible new wire after tree next means Waits it call keeping frame value
          (λ t. is it t ∙ ap (λ y. answered_by y t) e))
      at (Raising fault) e (inl same) =
          subst ComesTo (sym same)
          (serving_raises task request old o possible new wire after tree next means Waits it call keeping frame fault
          (λ t. is it t ∙ ap (λ y. answered_by y t) e))
      at (Raising fault) e (inr same) =
          subst ComesTo (sym same)
          (serving_starves task request old o possible new wire after tree next means Waits it call keeping frame new (adds it))
  answered_so (Err why) result call comes =
      subst ComesTo (sym comes) (serving_fails task request old o possible new wire after tree next means adds forgets why call)
