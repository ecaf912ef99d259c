-- A request of a task, by a call of streams that asks nothing, where its clause is of none that may: what it comes to, by what the
-- machine does with the call's answer.
use Rattle.std.proofs.Common.{◌≡◌, ℕ, ◌<◌, true, Some, length, slice_get, ◌∙◌, sym, subst}
use Rattle.std.proofs.Math.Logic.{∥∥₁_elim}
use Rattle.model_value.specs.Value.{Exc, Value}
use Rattle.model_loop.specs.Futures.{is_pending_at, next_future}
use Rattle.model_loop.specs.Parts.{Parts}
use Rattle.model_stream.specs.Doing.{Doing}
use Rattle.model_stream.specs.Streams.{Streams}
use Rattle.model_machine.specs.Replies as plain
use Rattle.model_machine.specs.Replies.{streams_change, streams_do, waits}
use Rattle.model_machine.specs.Sound.{AreStreamsFutures}
use Rattle.model_machine.specs.State as state
use Rattle.model_machine.specs.State.{State, stands}
use Rattle.law_cases.specs.TreeEnd.{owned_in as plain_in}
use Rattle.law_cases.specs.Trees.{AnswersStreams, IsMade, Keeping, KeepsStreams}
use Rattle.aio_task.specs.Keeps.{NameMap}
use Rattle.aio_task.specs.View.{View}
use Rattle.aio_transports.specs.Standing.{Told, ToldWith}
use Rattle.aio_extra.specs.Added.{Added}
use Rattle.aio_body.specs.declared.run_state.RunState.{RunState}
use Rattle.aio_body.specs.declared.reply.RequestReply.{RequestReply}
use Rattle.aio_body.specs.declared.reply.RequestReply.TheVariants as said
use Rattle.aio_body.specs.Asked.{IsInStep, Says}
use Rattle.aio_body.specs.Asking.{Piece, ReplyBegins}
use Rattle.aio_body.specs.Slots.{resume_point_at}
use Rattle.aio_body.specs.Stands.{Context, StandsAt}
use Rattle.aio_body.specs.declared.resume_point.ResumePoint.{ResumePoint}
use Rattle.aio_body.proofs.May.{same_prop}
use Rattle.refine_streams.specs.Streams.{HasStreams}
use Rattle.refine_streams.specs.Went.{HasGone, MayCall, CallsSuspend}
use Rattle.refine_streams.proofs.Answering.{answers_so, raises_so, suspends_so, stands_so, waits_so}
use Rattle.refine_streams.proofs.Possible.{same_truth}
use Rattle.refine_streams.proofs.Requests.{change_tells, do_tells}

-- Where `from` says, the machine makes `makes` of its request, and the call leaves the body as the new one.
module _ {X : Type 0} {a : Added X} (task : ℕ) (old new : RunState X) (from : Context a → State a.Kept → Type 0)
    (makes : State a.Kept → plain.RequestReply a.Kept)
    (may : (c : Context a) (s : State a.Kept) → from c s → MayCall (Some task) c old s)
    (in_step : (c : Context a) (s : State a.Kept) → from c s → IsInStep task c old s)
    (has : HasStreams old.transports) (events : new.events ≡ old.events)
    (frame : new ≡ record old { parts = new.parts; events = new.events; transports = new.transports }) where
  abbrev telling : Piece a (State a.Kept) (plain.RequestReply a.Kept) RequestReply
  telling = record { from = from; does = makes; ends = plain.Halts; says = λ c it machine. Says task c new it machine; begins = ReplyBegins }

  -- ---- by a call with an answer
  module _ {R : Type 0} (tree : ℕ → Streams → Doing (Streams × R)) (next : R → State a.Kept → plain.RequestReply a.Kept)
      (means : (c : Context a) (s : State a.Kept) → from c s → makes s ≡ streams_do (tree (next_future s.loop.parts) s.streams) next s)
      (Waits : (ℕ → Type 0) → R → Type 0) (it : R)
      (told : ToldWith (tree (length old.parts.futures)) old.transports new.transports old.parts new.parts it)
      (keeping : (s : State a.Kept) → AreStreamsFutures s
      → Keeping (AnswersStreams Waits (plain_in s) (next_future s.loop.parts) s.streams) (plain_in s) (next_future s.loop.parts)
      (tree (next_future s.loop.parts) s.streams)) where
    abbrev Known : (first now : ℕ) → Type 0
    Known = λ first now. Waits (IsMade first now) it

    pub tells_gone : (c : Context a) (s : State a.Kept) → from c s → HasGone (Some task) Known (makes s) (next it) c old new s
    tells_gone = do_tells telling (Some task) old new may has events frame tree next means Waits it told keeping

    pub tells_answers : (value : Value) → ((t : State a.Kept) → next it t ≡ plain.Answers value t) → (c : Context a) (s : State a.Kept) → from c s
        → Says task c new (said.Answers value) (makes s)
    tells_answers value is c s h =
        let g = tells_gone c s h in
        subst (Says task c new (said.Answers value)) (sym g.does) (answers_so task c old new s (in_step c s h) Known (makes s) (next it) c g value is)

    pub tells_raises : (fault : Exc) → ((t : State a.Kept) → next it t ≡ plain.Raises fault t) → (c : Context a) (s : State a.Kept) → from c s
        → Says task c new (said.Raises fault) (makes s)
    tells_raises fault is c s h =
        let g = tells_gone c s h in
        subst (Says task c new (said.Raises fault)) (sym g.does) (raises_so task c old new s (in_step c s h) Known (makes s) (next it) c g fault is)

    -- the task waits for a future that was made
    pub tells_suspends : (on : ℕ) (v : View) → ((first now : ℕ) → Known first now → IsMade first now on) → CallsSuspend task on new.parts v
        → ((t : State a.Kept) → next it t ≡ plain.Suspends (waits task on t)) → (c : Context a) (s : State a.Kept) → from c s
        → Says task c (record new { parts = v }) said.Suspends (makes s)
    tells_suspends on v made suspends is c s h =
        let g = tells_gone c s h in
        subst (Says task c (record new { parts = v }) said.Suspends) (sym g.does)
        (suspends_so task c old new s (in_step c s h) Known (makes s) (next it) c g on v made suspends is)

    -- and stands at this, whatever the parts are
    pub tells_stands : (last : RunState X) (on : ℕ) (v : View) (code : ResumePoint) (resume_point : state.ResumePoint)
        → last ≡ record new { parts = v; slots = last.slots } → last.slots.items ≡ resume_point_at task code new.slots.items → task < length new.slots.items
        → ((t : NameMap) (p : Parts) (named : ℕ → Type 0) → StandsAt t p named task code resume_point)
        → ((first now : ℕ) → Known first now → IsMade first now on) → CallsSuspend task on new.parts v
        → ((t : State a.Kept) → next it t ≡ plain.Suspends (stands resume_point task (waits task on t))) → (c : Context a) (s : State a.Kept) → from c s
        → Says task c last said.Suspends (makes s)
    tells_stands last on v code resume_point whole items within at_it made suspends is c s h =
        let g = tells_gone c s h in
        subst (Says task c last said.Suspends) (sym g.does)
        (subst (Says task c last said.Suspends) (sym (is g.now))
        (stands_so task c (record new { parts = v }) last (waits task on g.now) code resume_point
        (waits_so task c old new s (in_step c s h) Known (makes s) (next it) c g on v made suspends) at_it whole items within))

    -- what the wait requires
    pub tells_running : ∥ ((c : Context a) × ((s : State a.Kept) × from c s)) ∥₁ → new.parts.running ≡ Some task
    tells_running possible =
        ∥∥₁_elim possible (same_prop new.parts.running (Some task))
        (λ w. (tells_gone w.0 w.1.0 w.1.1).running ∙ (in_step w.0 w.1.0 w.1.1).running)

    pub tells_pending : ∥ ((c : Context a) × ((s : State a.Kept) × from c s)) ∥₁ → (on : ℕ)
        → ((first now : ℕ) → Known first now → IsMade first now on) → is_pending_at (slice_get new.parts.futures on) ≡ true
    tells_pending possible on made =
        ∥∥₁_elim possible (same_truth (is_pending_at (slice_get new.parts.futures on)) true)
        (λ w. let g = tells_gone w.0 w.1.0 w.1.1 in g.pending on (made _ _ g.made))

  -- ---- by one with none
  module _ (tree : ℕ → Streams → Doing Streams) (next : State a.Kept → plain.RequestReply a.Kept)
      (means : (c : Context a) (s : State a.Kept) → from c s → makes s ≡ streams_change (tree (next_future s.loop.parts) s.streams) next s)
      (told : Told (tree (length old.parts.futures)) old.transports new.transports old.parts new.parts)
      (keeping : (s : State a.Kept) → AreStreamsFutures s
      → Keeping (KeepsStreams (plain_in s) (next_future s.loop.parts) s.streams) (plain_in s) (next_future s.loop.parts)
      (tree (next_future s.loop.parts) s.streams)) where
    pub changes_gone : (c : Context a) (s : State a.Kept) → from c s → HasGone (Some task) (λ first now. Unit {0}) (makes s) next c old new s
    changes_gone = change_tells telling (Some task) old new may has events frame tree next means told keeping
