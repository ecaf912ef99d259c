-- A request that was asked, by its call of streams, as its clause says it: what `Replying` says where nothing but the request is
-- known.
use Rattle.std.proofs.Common.{◌≡◌, ℕ, ◌<◌, true, List, Some, None, length, slice_get, Ok, Err, refl}
use Rattle.model_value.specs.Request.{Request}
use Rattle.model_value.specs.Value.{Exc, Value}
use Rattle.model_loop.specs.Futures.{is_pending_at, next_future}
use Rattle.model_stream.specs.Doing.{Doing}
use Rattle.model_stream.specs.Streams.{Streams}
use Rattle.model_machine.specs.Replies as plain
use Rattle.model_machine.specs.Replies.{reply, streams_change, streams_do, waits}
use Rattle.model_machine.specs.Sound.{AreStreamsFutures}
use Rattle.model_machine.specs.State as state
use Rattle.model_machine.specs.State.{State, stands}
use Rattle.aio_wire.specs.Outside.{Outside}
use Rattle.aio_wire.specs.Port.{ported}
use Rattle.aio_wire.specs.declared.stop.Stop.{Stop}
use Rattle.aio_wire.specs.declared.stop.Stop.TheVariants as stop
use Rattle.aio_exchange.specs.Exchanged.{Exchange}
use Rattle.aio_exchange.specs.Follows.{reach}
use Rattle.law_reach.specs.Reaches.{left_by}
use Rattle.law_cases.specs.TreeEnd.{owned_in as plain_in}
use Rattle.law_cases.specs.Trees.{AnswersStreams, IsMade, Keeping, KeepsStreams}
use Rattle.aio_task.specs.Keeps.{NameMap}
use Rattle.aio_task.specs.View.{View}
use Rattle.aio_transports.specs.Owned.{OwnsTransports}
use Rattle.aio_transports.specs.Standing.{Answers, Comes as Changes, ToldWith}
use Rattle.aio_extra.specs.Added.{Added, named_in}
use Rattle.aio_body.specs.declared.run_state.RunState.{RunState}
use Rattle.aio_body.specs.declared.reply.RequestReply.TheVariants as said
use Rattle.aio_body.specs.Asked.{IsAskingFor, IsInStep, Serves}
use Rattle.aio_body.specs.Asking.{Comes, serving}
use Rattle.aio_body.specs.Slots.{resume_point_at}
use Rattle.aio_body.specs.Stands.{Possible, Context, StandsAt}
use Rattle.aio_body.specs.declared.resume_point.ResumePoint.{ResumePoint}
use Rattle.aio_body.proofs.Asking.{HasCome}
use Rattle.aio_body.proofs.May.{going_of, idle_of}
use Rattle.refine_streams.specs.Alike.{AddsEvents, ForgetsWritten}
use Rattle.refine_streams.specs.Streams.{HasStreams}
use Rattle.refine_streams.specs.Went.{HasGone, MayCall, CallsSuspend}
use Rattle.refine_streams.proofs.May.{may_asking}
use Rattle.refine_streams.proofs.Possible.{has_streams, transports_owned}
use Rattle.refine_streams.proofs.Unasking.{tells_answers, tells_pending, tells_raises, tells_suspends, tells_running}
use Rattle.refine_streams.proofs.Replying.{answers_go, asked_fails, asked_goes, changed_fails, changed_goes, raises_go, suspends_go, stands_go, starves_go}

module _ {X : Type 0} {a : Added X} (task : ℕ) (request : Request) (old : RunState X) where
  may : (c : Context a) (s : State a.Kept) → IsAskingFor task request c old s → MayCall (Some task) c old s
  may c s from = may_asking c old s task request from

  in_step : (c : Context a) (s : State a.Kept) → IsAskingFor task request c old s → IsInStep task c old s
  in_step c s from = from.going.in_step

  -- ---- what the call requires before it
  module _ (possible : Possible a (IsAskingFor task request) old) where
    pub asking_streams : HasStreams old.transports
    asking_streams = has_streams (Some task) (IsAskingFor task request) old may possible

    pub asking_owned : OwnsTransports old.parts old.transports
    asking_owned = transports_owned (Some task) (IsAskingFor task request) old may possible

    pub asking_idle : old.parts.called ≡ None
    asking_idle = idle_of task old (going_of task request old possible)

  module _ {W : Type 0} (o : Outside W) (possible : Possible a (IsAskingFor task request) old) (new : RunState X) (wire after : W) where
    abbrev Asks : Context a → State a.Kept → Type 0
    Asks = λ c s. IsAskingFor task request c old s

    abbrev makes : State a.Kept → plain.RequestReply a.Kept
    makes = reply a.meaning task request

    -- ---- by a call with an answer
    module _ {R : Type 0} (tree : ℕ → Streams → Doing (Streams × R)) (next : R → State a.Kept → plain.RequestReply a.Kept)
        (means : (c : Context a) (s : State a.Kept) → IsAskingFor task request c old s
        → reply a.meaning task request s ≡ streams_do (tree (next_future s.loop.parts) s.streams) next s) where
      pub serving_fails : ((it : R) → AddsEvents left_by (next it)) → ForgetsWritten (tree (length old.parts.futures)) → (why : Stop)
          → Answers {R = R} o (tree (length old.parts.futures)) old.transports new.transports (reach old.parts wire old.events)
          (reach new.parts after new.events) (Err why)
          → Comes o (serving a task request old new) (ported wire old.events) (ported after new.events) (Err why)
      serving_fails adds forgets why call =
          asked_fails o task old new new wire after Asks makes may in_step tree next means (asking_streams possible) adds forgets why call

      module _ (Waits : (ℕ → Type 0) → R → Type 0) (it : R)
          (call : Answers o (tree (length old.parts.futures)) old.transports new.transports (reach old.parts wire old.events)
          (reach new.parts after new.events) (Ok it))
          (keeping : (s : State a.Kept) → AreStreamsFutures s
          → Keeping (AnswersStreams Waits (plain_in s) (next_future s.loop.parts) s.streams) (plain_in s) (next_future s.loop.parts)
          (tree (next_future s.loop.parts) s.streams))
          (frame : new ≡ record old { parts = new.parts; events = new.events; transports = new.transports }) where
        abbrev Known : (first now : ℕ) → Type 0
        Known = λ first now. Waits (IsMade first now) it

        pub serving_goes : (had : List Exchange) × HasCome o Asks had (ported wire old.events) (ported after new.events)
            (λ c s. HasGone (Some task) Known (makes s) (next it) c old new s)
        serving_goes =
            asked_goes o task old new new wire after Asks makes may in_step tree next means (asking_streams possible) Waits it call keeping frame

        pub serving_answers : (value : Value) → ((t : State a.Kept) → next it t ≡ plain.Answers value t)
            → Comes o (serving a task request old new) (ported wire old.events) (ported after new.events) (Ok (said.Answers value))
        serving_answers value is =
            answers_go o task old new new wire after Asks makes may in_step Known (next it) serving_goes refl value is

        pub serving_raises : (fault : Exc) → ((t : State a.Kept) → next it t ≡ plain.Raises fault t)
            → Comes o (serving a task request old new) (ported wire old.events) (ported after new.events) (Ok (said.Raises fault))
        serving_raises fault is = raises_go o task old new new wire after Asks makes may in_step Known (next it) serving_goes refl fault is

        module _ (last : RunState X) where
          pub serving_suspends : (on : ℕ) (v : View) → last ≡ record new { parts = v } → CallsSuspend task on new.parts v
              → ((first now : ℕ) → Known first now → IsMade first now on) → ((t : State a.Kept) → next it t ≡ plain.Suspends (waits task on t))
              → Comes o (serving a task request old last) (ported wire old.events) (ported after last.events) (Ok said.Suspends)
          serving_suspends = suspends_go o task old new last wire after Asks makes may in_step Known (next it) serving_goes

          pub serving_stands : (on : ℕ) (v : View) (code : ResumePoint) (resume_point : state.ResumePoint)
              → last ≡ record new { parts = v; slots = last.slots } → last.slots.items ≡ resume_point_at task code new.slots.items
              → task < length new.slots.items
              → ((c d : Context a) (s : State a.Kept) → Asks d s → (g : HasGone (Some task) Known (makes s) (next it) c old new s) → (t : NameMap)
              → StandsAt t (waits task on g.now).loop.parts (named_in a (waits task on g.now)) task code resume_point) → CallsSuspend task on new.parts v
              → ((first now : ℕ) → Known first now → IsMade first now on)
              → ((t : State a.Kept) → next it t ≡ plain.Suspends (stands resume_point task (waits task on t)))
              → Comes o (serving a task request old last) (ported wire old.events) (ported after last.events) (Ok said.Suspends)
          serving_stands = stands_go o task old new last wire after Asks makes may in_step Known (next it) serving_goes

          -- memory is refused after it
          pub serving_starves : AddsEvents left_by (next it)
              → Comes o (serving a task request old last) (ported wire old.events) (ported after last.events) (Err stop.Memory)
          serving_starves = starves_go o task old new last wire after Asks makes may in_step Known (next it) serving_goes

    -- ---- by one with none
    module _ (tree : ℕ → Streams → Doing Streams) (next : State a.Kept → plain.RequestReply a.Kept)
        (means : (c : Context a) (s : State a.Kept) → IsAskingFor task request c old s
        → reply a.meaning task request s ≡ streams_change (tree (next_future s.loop.parts) s.streams) next s) where
      pub changing_fails : (R : Type 0) → AddsEvents left_by next → ForgetsWritten (tree (length old.parts.futures)) → (why : Stop)
          → Changes {R = R} o (tree (length old.parts.futures)) old.transports new.transports (reach old.parts wire old.events)
          (reach new.parts after new.events) (Err why)
          → Comes o (serving a task request old new) (ported wire old.events) (ported after new.events) (Err why)
      changing_fails R adds forgets why call =
          changed_fails o task old new new wire after Asks makes may in_step tree next means (asking_streams possible) R adds forgets why call

      pub changing_answers : {R : Type 0} (it : R)
          → Changes o (tree (length old.parts.futures)) old.transports new.transports (reach old.parts wire old.events)
          (reach new.parts after new.events) (Ok it)
          → ((s : State a.Kept) → AreStreamsFutures s
          → Keeping (KeepsStreams (plain_in s) (next_future s.loop.parts) s.streams) (plain_in s) (next_future s.loop.parts)
          (tree (next_future s.loop.parts) s.streams))
          → new ≡ record old { parts = new.parts; events = new.events; transports = new.transports }
          → (value : Value) → ((t : State a.Kept) → next t ≡ plain.Answers value t)
          → Comes o (serving a task request old new) (ported wire old.events) (ported after new.events) (Ok (said.Answers value))
      changing_answers it call keeping frame value is =
          answers_go o task old new new wire after Asks makes may in_step (λ first now. Unit {0}) next
          (changed_goes o task old new new wire after Asks makes may in_step tree next means (asking_streams possible) it call keeping frame) refl
          value is

  -- ---- by a call that asks nothing
  module _ (possible : Possible a (IsAskingFor task request) old) (new : RunState X) (events : new.events ≡ old.events)
      (frame : new ≡ record old { parts = new.parts; events = new.events; transports = new.transports }) {R : Type 0}
      (tree : ℕ → Streams → Doing (Streams × R)) (next : R → State a.Kept → plain.RequestReply a.Kept)
      (means : (c : Context a) (s : State a.Kept) → IsAskingFor task request c old s
      → reply a.meaning task request s ≡ streams_do (tree (next_future s.loop.parts) s.streams) next s)
      (Waits : (ℕ → Type 0) → R → Type 0) (it : R)
      (told : ToldWith (tree (length old.parts.futures)) old.transports new.transports old.parts new.parts it)
      (keeping : (s : State a.Kept) → AreStreamsFutures s
      → Keeping (AnswersStreams Waits (plain_in s) (next_future s.loop.parts) s.streams) (plain_in s) (next_future s.loop.parts)
      (tree (next_future s.loop.parts) s.streams)) where
    abbrev Begins : Context a → State a.Kept → Type 0
    Begins = λ c s. IsAskingFor task request c old s

    pub asking_answers : (value : Value) → ((t : State a.Kept) → next it t ≡ plain.Answers value t)
        → Serves a task request old new (Ok (said.Answers value))
    asking_answers =
        tells_answers task old new Begins (reply a.meaning task request) may in_step (asking_streams possible) events frame tree next means Waits it told
        keeping

    pub asking_raises : (fault : Exc) → ((t : State a.Kept) → next it t ≡ plain.Raises fault t) → Serves a task request old new (Ok (said.Raises fault))
    asking_raises =
        tells_raises task old new Begins (reply a.meaning task request) may in_step (asking_streams possible) events frame tree next means Waits it told
        keeping

    module _ (on : ℕ) (made : (first now : ℕ) → Waits (IsMade first now) it → IsMade first now on) where
      -- what the wait requires
      pub asking_running : new.parts.running ≡ Some task
      asking_running =
          tells_running task old new Begins (reply a.meaning task request) may in_step (asking_streams possible) events frame tree next means Waits it told
          keeping possible

      pub asking_pending : is_pending_at (slice_get new.parts.futures on) ≡ true
      asking_pending =
          tells_pending task old new Begins (reply a.meaning task request) may in_step (asking_streams possible) events frame tree next means Waits it told
          keeping possible on made

      pub asking_suspends : (v : View) → CallsSuspend task on new.parts v → ((t : State a.Kept) → next it t ≡ plain.Suspends (waits task on t))
          → Serves a task request old (record new { parts = v }) (Ok said.Suspends)
      asking_suspends v =
          tells_suspends task old new Begins (reply a.meaning task request) may in_step (asking_streams possible) events frame tree next means Waits it told
          keeping on v made
