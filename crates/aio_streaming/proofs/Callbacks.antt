-- A callback of a listener, a connection or a child, but `made`: the machine does what code does of it.
use Rattle.std.proofs.Common.{◌≡◌, ℕ, Bool, true, None, Result, Ok, Err, length, ◌∙◌, le_refl, refl, sym, ap}
use Rattle.std.proofs.Math.Logic.{∥∥₁_elim}
use Rattle.std.proofs.lemmas.Bool.{false≢true}
use Rattle.model_value.specs.declared.action.Action.TheVariants as action
use Rattle.model_value.specs.Action.{Action}
use Rattle.model_says.specs.Says.{step_limit}
use Rattle.model_loop.specs.Futures.{future_outcome, next_future}
use Rattle.model_loop.specs.Tasks.{future_of}
use Rattle.model_stream.specs.Doing.{Doing}
use Rattle.model_stream.specs.Streams as streams
use Rattle.model_stream.specs.Streams.{Streams}
use Rattle.model_machine.specs.Does.{does}
use Rattle.model_machine.specs.Extra.{Extra}
use Rattle.model_machine.specs.State.{State, with_streams}
use Rattle.model_machine.specs.Turn.{effect, is_returned, streams_go}
use Rattle.model_machine.specs.Went.{Went, Goes, Stops}
use Rattle.aio_wire.specs.Outside.{Outside}
use Rattle.aio_wire.specs.Port.{ported}
use Rattle.aio_wire.specs.declared.stop.Stop.{Stop}
use Rattle.aio_exchange.specs.Follows.{reach}
use Rattle.refine_parts.proofs.Telling.{future_of_kept, outcome_kept}
use Rattle.law_runs.proofs.Counts.{goes_on_same}
use Rattle.law_cases.specs.TreeEnd.{owned_in as plain_in}
use Rattle.law_cases.proofs.Opening.{acts}
use Rattle.aio_task.specs.View.{parts, stepped}
use Rattle.aio_transports.specs.Owned.{OwnsTransports}
use Rattle.aio_transports.specs.Standing.{Comes as Changes}
use Rattle.aio_extra.specs.Added.{Added}
use Rattle.aio_body.specs.declared.run_state.RunState.{RunState}
use Rattle.aio_body.specs.Asking.{Comes, Piece, before}
use Rattle.aio_body.specs.Stands.{Possible, Context}
use Rattle.aio_body.specs.Taken.{IsTaken}
use Rattle.aio_body.proofs.May.{same_prop}
use Rattle.aio_body.proofs.Telling.{own_stays}
use Rattle.refine_streams.specs.Streams.{HasStreams}
use Rattle.refine_streams.specs.Went.{MayCall}
use Rattle.refine_streams.proofs.Answering.{callback_so, gone_ends}
use Rattle.refine_streams.proofs.Forgetting.{act_forgets}
use Rattle.refine_streams.proofs.May.{may_taken}
use Rattle.refine_streams.proofs.Nexts.{went_leaves}
use Rattle.refine_streams.proofs.Possible.{has_streams, transports_owned}
use Rattle.refine_streams.proofs.Requests.{change_fails, change_goes}
use Rattle.aio_streaming.specs.Acting.{acting, is_of_streams, returned_in}

-- ---- in the machine
pub acts_by : {S : Type 0} (added : Extra S) (it : Action) (s : State S) → is_of_streams it ≡ true
    → effect step_limit added it s
    ≡ streams_go (streams.act (next_future s.loop.parts) (returned_in s.loop.parts it) it s.streams) s
unfolding effect
acts_by added (action.HandlerDone conn task) s of = refl
acts_by added (action.StartRead conn) s of = refl
acts_by added (action.Lost conn broken) s of = refl
acts_by added (action.ReadableServer server) s of = refl
acts_by added (action.Readable conn) s of = refl
acts_by added (action.Writable conn) s of = refl
acts_by added (action.Up conn) s of = refl
acts_by added (action.Down conn) s of = refl
acts_by added (action.WritableChild child) s of = refl
acts_by added (action.ChildItem child told) s of = refl
acts_by added (action.LostChild child broken) s of = refl
acts_by added (action.Made conn) s of = absurd (false≢true of)
acts_by added (action.Step task) s of = absurd (false≢true of)
acts_by added (action.StepInCycle task cycle) s of = absurd (false≢true of)
acts_by added (action.Wakeup task) s of = absurd (false≢true of)
acts_by added (action.SleepDone task future) s of = absurd (false≢true of)
acts_by added (action.GroupDone group task) s of = absurd (false≢true of)
acts_by added (action.Fires timeout) s of = absurd (false≢true of)
acts_by added action.MainDone s of = absurd (false≢true of)
acts_by added (action.ExtraItem code bytes) s of = absurd (false≢true of)
acts_by added (action.Extra key) s of = absurd (false≢true of)

-- it steps no task
steps_none : (it : Action) → is_of_streams it ≡ true → stepped it ≡ None
steps_none (action.Step task) of = absurd (false≢true of)
steps_none (action.StepInCycle task cycle) of = absurd (false≢true of)
steps_none (action.Wakeup task) of = absurd (false≢true of)
steps_none _ of = refl

module _ {X : Type 0} {a : Added X} (it : Action) (old : RunState X) where
  may : (c : Context a) (s : State a.Kept) → IsTaken it c old s → MayCall None c old s
  may c s h = may_taken c old s it h

  -- ---- what the call requires before it
  module _ (possible : Possible a (IsTaken it) old) where
    pub taken_streams : HasStreams old.transports
    taken_streams = has_streams None (IsTaken it) old may possible

    pub taken_owned : OwnsTransports old.parts old.transports
    taken_owned = transports_owned None (IsTaken it) old may possible

    pub taken_idle : stepped it ≡ None → old.parts.called ≡ None
    taken_idle none = ∥∥₁_elim possible (same_prop old.parts.called None) (λ w. w.1.1.called ∙ none)

    pub acting_idle : is_of_streams it ≡ true → old.parts.called ≡ None
    acting_idle of = taken_idle (steps_none it of)

  -- ---- how the task of a handler ended
  returned_read : (c : Context a) (s : State a.Kept) → IsTaken it c old s → (action : Action)
      → returned_in (parts old.parts) action ≡ returned_in s.loop.parts action
  returned_read c s h (action.HandlerDone conn task) =
      let m = may c s h in
      ap (λ id. is_returned (future_outcome (parts old.parts) id))
      (future_of_kept m.stands.name_map old.parts s.loop.parts m.stands.keeps task)
      ∙ ap is_returned (outcome_kept m.stands.name_map old.parts s.loop.parts m.stands.keeps (future_of s.loop.parts task)
      (own_stays None c old s m.stands m.owns task))
  returned_read c s h _ = refl

  -- ---- what comes of it
  module _ {W : Type 0} (o : Outside W) (returned : Bool) (new : RunState X) (wire after : W)
      (possible : Possible a (IsTaken it) old) (of : is_of_streams it ≡ true)
      (read : returned ≡ returned_in (parts old.parts) it) where
    abbrev piece : Piece a (State a.Kept) (Went a.Kept) (Unit {0})
    piece = acting a it old new

    abbrev tree : ℕ → Streams → Doing Streams
    tree next = streams.act next returned it

    means : (c : Context a) (s : State a.Kept) → IsTaken it c old s
        → effect step_limit a.meaning it s
        ≡ does Stops (tree (next_future s.loop.parts) s.streams) (λ streams now. Goes (with_streams streams now)) s
    means c s h =
        acts_by a.meaning it s of
        ∙ ap (λ b. streams_go (streams.act (next_future s.loop.parts) b it s.streams) s) (sym (read ∙ returned_read c s h it))

    pub acts_so : (result : Result (Unit {0}) Stop)
        → Changes o (tree (length old.parts.futures)) old.transports new.transports (reach old.parts wire old.events)
        (reach new.parts after new.events) result
        → new ≡ record old { parts = new.parts; events = new.events; transports = new.transports }
        → Comes o piece (ported wire old.events) (ported after new.events) result
    acts_so (Err why) call frame =
        change_fails o piece None old new wire after may (taken_streams possible) tree Goes means (Unit {0})
        (went_leaves piece.from piece.does piece.says) (λ t. goes_on_same t.events)
        (act_forgets (length old.parts.futures) returned it) why call
    acts_so (Ok said) call frame =
        let come = change_goes o piece None old new wire after may (taken_streams possible) tree Goes means said call
        (λ s kept. acts (plain_in s) (next_future s.loop.parts) returned it s.streams kept (le_refl _)) frame in
        gone_ends o piece None old new wire after (λ first now. Unit {0}) Goes come new said refl
        (λ c s began g.
        callback_so it (before come.0 c) c old new s began (steps_none it of) (λ first now. Unit {0}) (piece.does s) Goes g)
