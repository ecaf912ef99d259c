-- A writer is closed, and limits and drains come to what the machine does with their answers.
use Rattle.std.proofs.Common.{◌≡◌, ℕ, ◌<◌, Bool, true, Some, None, codes, Result, Ok, Err, length, slice_get, refl, sym, ap}
use Rattle.std.proofs.Common.{subst, ◌∙◌}
use Rattle.std.proofs.lemmas.Bool.{eq-eqb}
use Rattle.std.specs.Prelude.{IfOk, OnOk}
use Rattle.std.proofs.lemmas.Result.{IfOk-weaker}
use Rattle.std.proofs.Math.Logic.{∥∥₁_elim}
use Rattle.std.proofs.Props.{props}
use Rattle.model_value.specs.Request.{Request}
use Rattle.model_value.specs.Value.{Exc, Nothing, exception_of}
use Rattle.model_value.specs.declared.action.Action.TheVariants.{Step}
use Rattle.model_value.specs.declared.kind.Kind.TheVariants.{ValueError}
use Rattle.model_wire.specs.declared.event.Handed.{Handed}
use Rattle.model_loop.specs.Futures.{is_pending_at, next_future}
use Rattle.model_loop.specs.Tasks.{pause}
use Rattle.model_stream.specs.declared.answers.Drain.TheVariants as drain_as
use Rattle.model_stream.specs.declared.put.Limited.{Limited}
use Rattle.model_stream.specs.declared.put.Limited.TheVariants as limited
use Rattle.model_stream.specs.Doing.{Doing}
use Rattle.model_stream.specs.Requests.{drain}
use Rattle.model_stream.specs.Senders.{Drain}
use Rattle.model_stream.specs.Streams.{Streams}
use Rattle.model_machine.specs.Replies as plain
use Rattle.model_machine.specs.Replies.{drains_as, limits_as, reply, streams_change, streams_do}
use Rattle.model_machine.specs.Sound.{AreStreamsFutures}
use Rattle.model_machine.specs.State as state
use Rattle.model_machine.specs.State.{State, unbooked_in}
use Rattle.law_replies.proofs.Counts.{lives_within}
use Rattle.law_cases.specs.TreeEnd.{owned_in as plain_in}
use Rattle.law_cases.specs.Trees.{AnswersStreams, DrainWaits, IsMade, Keeping, KeepsStreams, WaitsNever}
use Rattle.law_cases.proofs.Asking.{drains}
use Rattle.aio_base.specs.declared.memory.Memory.{Memory}
use Rattle.aio_wire.specs.Outside.{Outside}
use Rattle.aio_wire.specs.Port.{ported}
use Rattle.aio_ready.specs.Queue as queue
use Rattle.aio_task.specs.View.{View, parts}
use Rattle.aio_transports.specs.Owned.{OwnsTransports}
use Rattle.aio_transports.specs.Standing.{Told, ToldWith}
use Rattle.aio_extra.specs.Added.{Added}
use Rattle.aio_body.specs.declared.run_state.RunState.{RunState}
use Rattle.aio_body.specs.declared.reply.RequestReply.{RequestReply}
use Rattle.aio_body.specs.declared.reply.RequestReply.TheVariants as said
use Rattle.aio_body.specs.declared.resume_point.ResumePoint.TheVariants.{Yielding}
use Rattle.aio_body.specs.Asked.{IsAskingFor, IsInStep, Says, Serves}
use Rattle.aio_body.specs.Asking.{Comes, or_stop, serving}
use Rattle.aio_body.specs.Slots.{resume_point_at}
use Rattle.aio_body.specs.Stands.{Possible, Context}
use Rattle.aio_body.proofs.Alone.{serves_without}
use Rattle.aio_body.proofs.May.{same_prop}
use Rattle.aio_body.proofs.Rooms.{pauses_so}
use Rattle.refine_streams.specs.Alike.{ForgetsWritten}
use Rattle.refine_streams.specs.Streams.{HasStreams}
use Rattle.refine_streams.specs.Went.{MayCall, CallsSuspend}
use Rattle.refine_streams.proofs.Answering.{goes_in_step, stands_so}
use Rattle.refine_streams.proofs.Possible.{has_streams, transports_owned}
use Rattle.refine_streams.proofs.Requests.{told_changes}
use Rattle.refine_streams.proofs.Served.{asking_answers, asking_raises}
use Rattle.refine_streams.proofs.Unasking.{tells_answers, tells_gone, tells_pending, tells_raises, tells_suspends, tells_running}
use Rattle.aio_streaming.specs.Done.{done_as}
use Rattle.aio_streaming.specs.Going.{RepliesOn, RunsOn}
use Rattle.aio_streaming.specs.Written.{limited_as}
use Rattle.aio_streaming.proofs.Ending.{done_so}

-- ---- a call that asks nothing and has no answer
module _ {X W R : Type 0} {a : Added X} (task : ℕ) (request : Request) (old : RunState X) (o : Outside W)
    (possible : Possible a (IsAskingFor task request) old) (new : RunState X) (wire : W) (tree : ℕ → Streams → Doing Streams)
    (means : (c : Context a) (s : State a.Kept) → IsAskingFor task request c old s
    → reply a.meaning task request s ≡ streams_change (tree (next_future s.loop.parts) s.streams) (plain.Answers Nothing) s)
    (forgets : ForgetsWritten (tree (length old.parts.futures)))
    (keeping : (s : State a.Kept) → AreStreamsFutures s
    → Keeping (KeepsStreams (plain_in s) (next_future s.loop.parts) s.streams) (plain_in s)
    (next_future s.loop.parts) (tree (next_future s.loop.parts) s.streams))
    (frame : new ≡ record old { parts = new.parts; events = new.events; transports = new.transports })
    (events : new.events ≡ old.events) where
  pub told_so : (result : Result R Memory)
      → OnOk result (Told (tree (length old.parts.futures)) old.transports new.transports old.parts new.parts)
      → Comes o (serving a task request old new) (ported wire old.events) (ported wire new.events) (done_as (or_stop result))
  told_so (Ok it) told =
      done_so task request old o possible new wire wire tree means forgets keeping frame (Ok it)
      (told_changes o old.transports new.transports old.parts new.parts (ported wire old.events) (ported wire new.events)
      (ap (ported wire) events) (tree (length old.parts.futures)) it told)
  told_so (Err memory) told = serves_without a o task request old wire new

-- ---- marks are set, or refused
module _ {X : Type 0} {a : Added X} (task : ℕ) (request : Request) (old : RunState X)
    (possible : Possible a (IsAskingFor task request) old)
    (new : RunState X) (events : new.events ≡ old.events)
    (frame : new ≡ record old { parts = new.parts; events = new.events; transports = new.transports })
    (tree : ℕ → Streams → Doing (Streams × Limited))
    (means : (c : Context a) (s : State a.Kept) → IsAskingFor task request c old s
    → reply a.meaning task request s ≡ streams_do (tree (next_future s.loop.parts) s.streams) limits_as s)
    (it : Limited) (told : ToldWith (tree (length old.parts.futures)) old.transports new.transports old.parts new.parts it)
    (keeping : (s : State a.Kept) → AreStreamsFutures s
    → Keeping (AnswersStreams WaitsNever (plain_in s) (next_future s.loop.parts) s.streams) (plain_in s)
    (next_future s.loop.parts) (tree (next_future s.loop.parts) s.streams)) where
  at : (l : Limited) → it ≡ l → Serves a task request old new (Ok (limited_as l))
  at limited.Set e =
      asking_answers task request old possible new events frame tree limits_as means WaitsNever it told keeping Nothing
      (λ t. ap (λ k. limits_as k t) e)
  at limited.BadLimits e =
      asking_raises task request old possible new events frame tree limits_as means WaitsNever it told keeping
      (exception_of ValueError (codes "limits")) (λ t. ap (λ k. limits_as k t) e)

  pub limited_so : (result : Result RequestReply Memory) → IfOk result (λ r. r ≡ limited_as it)
      → Serves a task request old new result
  limited_so result comes =
      IfOk-weaker result _ _ (λ r e c s h. subst (λ x. Says task c new x (reply a.meaning task request s)) (sym e)
      (at it refl c s h)) comes

-- ---- where a step goes on
module _ {X : Type 0} {a : Added X} (task : ℕ) (old : RunState X) where
  abbrev Begins : Context a → State a.Kept → Type 0
  Begins = λ c s. RunsOn task c old s

  may : (c : Context a) (s : State a.Kept) → RunsOn task c old s → MayCall (Some task) c old s
  may c s h = record { stands = h.in_step.stands; streams = h.streams; owns = h.sound.parts.owns }

  -- a request that was asked goes on in its step
  pub runs_asked : (request : Request) (c : Context a) (s : State a.Kept) → IsAskingFor task request c old s → RunsOn task c old s
  runs_asked request c s h = record {
    in_step = h.going.in_step;
    sound = h.going.sound.others.loop;
    streams = h.going.sound.others.streams;
  }

  in_step : (c : Context a) (s : State a.Kept) → RunsOn task c old s → IsInStep task c old s
  in_step c s h = h.in_step

  module _ (possible : Possible a (RunsOn task) old) where
    pub going_streams : HasStreams old.transports
    going_streams = has_streams (Some task) (RunsOn task) old may possible

    pub going_owned : OwnsTransports old.parts old.transports
    going_owned = transports_owned (Some task) (RunsOn task) old may possible

    pub going_idle : old.parts.called ≡ None
    going_idle = ∥∥₁_elim possible (same_prop old.parts.called None) (λ w. w.1.1.in_step.called)

    pub going_slot : task < length old.slots.items
    going_slot =
        ∥∥₁_elim possible (hlevel props) (λ w.
        subst (λ n. task < n) (sym w.1.1.in_step.stands.made)
        (lives_within w.1.0.loop.parts task (w.1.1.sound.parts.runs task (eq-eqb task task refl))))

    -- ---- a drain
    module _ (new : RunState X) (events : new.events ≡ old.events)
        (frame : new ≡ record old { parts = new.parts; events = new.events; transports = new.transports }) (yielded : Bool)
        (whom : Handed) (it : Drain)
        (told : ToldWith (drain yielded (length old.parts.futures) whom) old.transports new.transports old.parts new.parts it)
      where
        abbrev makes : State a.Kept → plain.RequestReply a.Kept
        makes = plain.drains yielded task whom

        abbrev tree : ℕ → Streams → Doing (Streams × Drain)
        tree = λ n. drain yielded n whom

        means : (c : Context a) (s : State a.Kept) → RunsOn task c old s
            → makes s ≡ streams_do (tree (next_future s.loop.parts) s.streams) (drains_as task whom) s
        means c s h = refl

        keeping : (s : State a.Kept) → AreStreamsFutures s
            → Keeping (AnswersStreams DrainWaits (plain_in s) (next_future s.loop.parts) s.streams)
            (plain_in s) (next_future s.loop.parts) (tree (next_future s.loop.parts) s.streams)
        keeping s kept = drains (plain_in s) (next_future s.loop.parts) yielded whom s.streams kept

        pub drain_goes : it ≡ drain_as.Goes → RepliesOn a task makes old new (Ok (said.Answers Nothing))
        drain_goes is =
            tells_answers task old new Begins makes may in_step going_streams events frame tree
            (drains_as task whom) means DrainWaits it told keeping Nothing
            (λ t. ap (λ w. drains_as task whom w t) is)

        pub drain_raises : (fault : Exc) → it ≡ drain_as.Raises fault → RepliesOn a task makes old new (Ok (said.Raises fault))
        drain_raises fault is =
            tells_raises task old new Begins makes may in_step going_streams events frame tree
            (drains_as task whom) means DrainWaits it told keeping fault
            (λ t. ap (λ w. drains_as task whom w t) is)

        pub drain_running : new.parts.running ≡ Some task
        drain_running =
            tells_running task old new Begins makes may in_step going_streams events frame tree
            (drains_as task whom) means DrainWaits it told keeping possible

        module _ (on : ℕ) (is : it ≡ drain_as.Waits on) where
          made : (first now : ℕ) → DrainWaits (IsMade first now) it → IsMade first now on
          made first now it_is = subst (DrainWaits (IsMade first now)) is it_is

          pub drain_pending : is_pending_at (slice_get new.parts.futures on) ≡ true
          drain_pending =
              tells_pending task old new Begins makes may in_step going_streams events frame tree
              (drains_as task whom) means DrainWaits it told keeping possible on made

          pub drain_waits : (v : View) → CallsSuspend task on new.parts v
              → RepliesOn a task makes old (record new { parts = v }) (Ok said.Suspends)
          drain_waits v suspends =
              tells_suspends task old new Begins makes may in_step going_streams events frame tree
              (drains_as task whom) means DrainWaits it told keeping on v made
              suspends (λ t. ap (λ w. drains_as task whom w t) is)

        -- it yields, and its task stands at that
        pub drain_yields : it ≡ drain_as.Yields → (last : RunState X) (v : View) → parts v ≡ pause task (parts new.parts)
            → v ≡ record new.parts { queue = queue.soon (Step task) new.parts.queue; running = None }
            → last ≡ record new { parts = v; slots = last.slots }
            → last.slots.items ≡ resume_point_at task (Yielding whom) new.slots.items
            → RepliesOn a task makes old last (Ok said.Suspends)
        drain_yields is last v after paused whole items c s h =
            let g =
            tells_gone task old new Begins makes may in_step going_streams events frame tree
            (drains_as task whom) means DrainWaits it told keeping c s h in
            let begun = goes_in_step task c old new s h.in_step (λ first now. DrainWaits (IsMade first now) it) (makes s)
            (drains_as task whom it) c g in
            subst (Says task c last said.Suspends) (sym (g.does ∙ ap (λ w. drains_as task whom w g.now) is))
            (stands_so task c (record new { parts = v }) last (unbooked_in (pause task) g.now) (Yielding whom) (state.Yielding whom)
            (pauses_so task c new g.now v begun after paused) (λ t p named. refl) whole items
            (subst (λ (b : RunState X). task < length b.slots.items) (sym frame) going_slot))
