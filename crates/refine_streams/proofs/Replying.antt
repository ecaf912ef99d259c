-- A request of a task, by its call of streams: what it comes to, by what the machine does with the call's answer.
use Rattle.std.proofs.Common.{◌≡◌, ℕ, ◌<◌, List, Some, length, Ok, Err, ap, sym, subst}
use Rattle.model_value.specs.Value.{Exc, Value}
use Rattle.model_loop.specs.Futures.{next_future}
use Rattle.model_stream.specs.Doing.{Doing}
use Rattle.model_stream.specs.Streams.{Streams}
use Rattle.model_machine.specs.Replies as plain
use Rattle.model_machine.specs.Replies.{streams_change, streams_do, waits}
use Rattle.model_machine.specs.Sound.{AreStreamsFutures}
use Rattle.model_machine.specs.State as state
use Rattle.model_machine.specs.State.{State, stands}
use Rattle.aio_wire.specs.Outside.{Outside}
use Rattle.aio_wire.specs.Port.{ported}
use Rattle.aio_wire.specs.declared.stop.Stop.{Stop}
use Rattle.aio_wire.specs.declared.stop.Stop.TheVariants as stop
use Rattle.aio_exchange.specs.Exchanged.{Exchange}
use Rattle.aio_exchange.specs.Follows.{reach}
use Rattle.law_reach.specs.Reaches.{left_by}
use Rattle.law_cases.specs.TreeEnd.{owned_in as plain_in}
use Rattle.law_cases.specs.Trees.{AnswersStreams, IsMade, Keeping, KeepsStreams}
use Rattle.aio_task.specs.Keeps.{NameMap}
use Rattle.aio_task.specs.View.{View}
use Rattle.aio_transports.specs.Standing.{Answers, Comes as Changes}
use Rattle.aio_extra.specs.Added.{Added, named_in}
use Rattle.aio_body.specs.declared.run_state.RunState.{RunState}
use Rattle.aio_body.specs.declared.reply.RequestReply.{RequestReply}
use Rattle.aio_body.specs.declared.reply.RequestReply.TheVariants as said
use Rattle.aio_body.specs.Asked.{IsInStep, Says}
use Rattle.aio_body.specs.Asking.{Comes, Piece, ReplyBegins, before}
use Rattle.aio_body.specs.Slots.{resume_point_at}
use Rattle.aio_body.specs.Stands.{Context, StandsAt}
use Rattle.aio_body.specs.declared.resume_point.ResumePoint.{ResumePoint}
use Rattle.aio_body.proofs.Asking.{HasCome}
use Rattle.refine_streams.specs.Alike.{AddsEvents, ForgetsWritten}
use Rattle.refine_streams.specs.Streams.{HasStreams}
use Rattle.refine_streams.specs.Went.{HasGone, MayCall, CallsSuspend}
use Rattle.refine_streams.proofs.Answering.{answers_so, gone_ends, gone_starved, raises_so, suspends_so, stands_at_it, waits_so}
use Rattle.refine_streams.proofs.Nexts.{reply_leaves}
use Rattle.refine_streams.proofs.Requests.{change_fails, change_goes, do_fails, do_goes}

-- In a task's step, where `from` says, the machine makes `makes` of its request. `last` is the body in the end.
module _ {X W : Type 0} {a : Added X} (o : Outside W) (task : ℕ) (old new last : RunState X) (wire after : W)
    (from : Context a → State a.Kept → Type 0) (makes : State a.Kept → plain.RequestReply a.Kept)
    (may : (c : Context a) (s : State a.Kept) → from c s → MayCall (Some task) c old s)
    (in_step : (c : Context a) (s : State a.Kept) → from c s → IsInStep task c old s) where
  abbrev pub replying : Piece a (State a.Kept) (plain.RequestReply a.Kept) RequestReply
  replying = record { from = from; does = makes; ends = plain.Halts; says = λ c it machine. Says task c last it machine; begins = ReplyBegins }

  -- the call is made, and then comes what its answer says
  module _ (Known : (first now : ℕ) → Type 0) (next : State a.Kept → plain.RequestReply a.Kept)
      (come : (had : List Exchange) × HasCome o replying.from had (ported wire old.events) (ported after new.events)
      (λ c s. HasGone (Some task) Known (replying.does s) next c old new s)) where
    pub answers_go : last ≡ new → (value : Value) → ((t : State a.Kept) → next t ≡ plain.Answers value t)
        → Comes o replying (ported wire old.events) (ported after last.events) (Ok (said.Answers value))
    answers_go same value is =
        gone_ends o replying (Some task) old new wire after Known next come last (said.Answers value) (ap (λ (b : RunState X). b.events) same)
        (λ c s began g.
        subst (λ (b : RunState X). Says task c b (said.Answers value) (next g.now)) (sym same)
        (answers_so task (before come.0 c) old new s (in_step (before come.0 c) s began) Known (replying.does s) next c g value is))

    pub raises_go : last ≡ new → (fault : Exc) → ((t : State a.Kept) → next t ≡ plain.Raises fault t)
        → Comes o replying (ported wire old.events) (ported after last.events) (Ok (said.Raises fault))
    raises_go same fault is =
        gone_ends o replying (Some task) old new wire after Known next come last (said.Raises fault) (ap (λ (b : RunState X). b.events) same)
        (λ c s began g.
        subst (λ (b : RunState X). Says task c b (said.Raises fault) (next g.now)) (sym same)
        (raises_so task (before come.0 c) old new s (in_step (before come.0 c) s began) Known (replying.does s) next c g fault is))

    pub suspends_go : (on : ℕ) (v : View) → last ≡ record new { parts = v } → CallsSuspend task on new.parts v
        → ((first now : ℕ) → Known first now → IsMade first now on) → ((t : State a.Kept) → next t ≡ plain.Suspends (waits task on t))
        → Comes o replying (ported wire old.events) (ported after last.events) (Ok said.Suspends)
    suspends_go on v same suspends made is =
        gone_ends o replying (Some task) old new wire after Known next come last said.Suspends (ap (λ (b : RunState X). b.events) same)
        (λ c s began g.
        subst (λ (b : RunState X). Says task c b said.Suspends (next g.now)) (sym same)
        (suspends_so task (before come.0 c) old new s (in_step (before come.0 c) s began) Known (replying.does s) next c g on v made suspends is))

    -- and stands at this, by what is known where the call was made
    pub stands_go : (on : ℕ) (v : View) (code : ResumePoint) (resume_point : state.ResumePoint) → last ≡ record new { parts = v; slots = last.slots }
        → last.slots.items ≡ resume_point_at task code new.slots.items → task < length new.slots.items
        → ((c d : Context a) (s : State a.Kept) → from d s → (g : HasGone (Some task) Known (makes s) next c old new s) → (t : NameMap)
        → StandsAt t (waits task on g.now).loop.parts (named_in a (waits task on g.now)) task code resume_point) → CallsSuspend task on new.parts v
        → ((first now : ℕ) → Known first now → IsMade first now on)
        → ((t : State a.Kept) → next t ≡ plain.Suspends (stands resume_point task (waits task on t)))
        → Comes o replying (ported wire old.events) (ported after last.events) (Ok said.Suspends)
    stands_go on v code resume_point frame items within at_it suspends made is =
        gone_ends o replying (Some task) old new wire after Known next come last said.Suspends (ap (λ (b : RunState X). b.events) frame)
        (λ c s began g.
        subst (Says task c last said.Suspends) (sym (is g.now))
        (let suspended = waits_so task (before come.0 c) old new s (in_step (before come.0 c) s began) Known (replying.does s) next c g on v made suspends in
        stands_at_it task c (record new { parts = v }) last (waits task on g.now) code resume_point suspended
        (at_it c (before come.0 c) s began g suspended.stands.name_map) frame items within))

    -- memory is refused after it
    pub starves_go : AddsEvents left_by next → Comes o replying (ported wire old.events) (ported after last.events) (Err stop.Memory)
    starves_go adds =
        gone_starved o replying (Some task) old new wire after Known next come
        (reply_leaves from makes (λ c it machine. Says task c last it machine)) adds last

  -- ---- by a call with an answer
  module _ {R : Type 0} (tree : ℕ → Streams → Doing (Streams × R)) (next : R → State a.Kept → plain.RequestReply a.Kept)
      (means : (c : Context a) (s : State a.Kept) → from c s → makes s ≡ streams_do (tree (next_future s.loop.parts) s.streams) next s)
      (has : HasStreams old.transports) where
    pub asked_fails : ((it : R) → AddsEvents left_by (next it)) → ForgetsWritten (tree (length old.parts.futures)) → (why : Stop)
        → Answers {R = R} o (tree (length old.parts.futures)) old.transports new.transports (reach old.parts wire old.events)
        (reach new.parts after new.events) (Err why)
        → Comes o replying (ported wire old.events) (ported after new.events) (Err why)
    asked_fails adds forgets why call =
        do_fails o replying (Some task) old new wire after may has tree next means (reply_leaves from makes (λ c it machine. Says task c last it machine))
        adds forgets why call

    module _ (Waits : (ℕ → Type 0) → R → Type 0) (it : R) where
      pub asked_goes : (call : Answers o (tree (length old.parts.futures)) old.transports new.transports (reach old.parts wire old.events)
          (reach new.parts after new.events) (Ok it))
          → ((s : State a.Kept) → AreStreamsFutures s
          → Keeping (AnswersStreams Waits (plain_in s) (next_future s.loop.parts) s.streams) (plain_in s) (next_future s.loop.parts)
          (tree (next_future s.loop.parts) s.streams))
          → new ≡ record old { parts = new.parts; events = new.events; transports = new.transports }
          → (had : List Exchange) × HasCome o replying.from had (ported wire old.events) (ported after new.events)
          (λ c s. HasGone (Some task) (λ first now. Waits (IsMade first now) it) (replying.does s) (next it) c old new s)
      asked_goes call keeping frame =
          do_goes o replying (Some task) old new wire after may has tree next means Waits it call keeping frame

  -- ---- by one with none
  module _ (tree : ℕ → Streams → Doing Streams) (next : State a.Kept → plain.RequestReply a.Kept)
      (means : (c : Context a) (s : State a.Kept) → from c s → makes s ≡ streams_change (tree (next_future s.loop.parts) s.streams) next s)
      (has : HasStreams old.transports) where
    pub changed_fails : (R : Type 0) → AddsEvents left_by next → ForgetsWritten (tree (length old.parts.futures)) → (why : Stop)
        → Changes {R = R} o (tree (length old.parts.futures)) old.transports new.transports (reach old.parts wire old.events)
        (reach new.parts after new.events) (Err why)
        → Comes o replying (ported wire old.events) (ported after new.events) (Err why)
    changed_fails R adds forgets why call =
        change_fails o replying (Some task) old new wire after may has tree next means R
        (reply_leaves from makes (λ c it machine. Says task c last it machine)) adds forgets why call

    pub changed_goes : {R : Type 0} (it : R)
        → Changes o (tree (length old.parts.futures)) old.transports new.transports (reach old.parts wire old.events)
        (reach new.parts after new.events) (Ok it)
        → ((s : State a.Kept) → AreStreamsFutures s
        → Keeping (KeepsStreams (plain_in s) (next_future s.loop.parts) s.streams) (plain_in s) (next_future s.loop.parts)
        (tree (next_future s.loop.parts) s.streams))
        → new ≡ record old { parts = new.parts; events = new.events; transports = new.transports }
        → (had : List Exchange) × HasCome o replying.from had (ported wire old.events) (ported after new.events)
        (λ c s. HasGone (Some task) (λ first now. Unit {0}) (replying.does s) next c old new s)
    changed_goes it call keeping frame =
        change_goes o replying (Some task) old new wire after may has tree next means it call keeping frame
