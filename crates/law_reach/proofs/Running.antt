-- What a task's step, a callback and the rest of a turn come to are rows of changes.
use Rattle.std.proofs.Common.{◌≡◌, inl, inr, ◌⊎◌, ℕ, zero, suc, ◌+◌, refl, ap, sym, subst, Bool, true, false, [], ◌∷◌, Option, Some, None, Ok, Err}
use Rattle.std.proofs.Common.{length, nat_lt, le_refl, arith}
use Rattle.model_value.specs.Action.{Action}
use Rattle.model_value.specs.declared.action.Action.TheVariants as action
use Rattle.model_value.specs.declared.input.Input.TheVariants.{Send, Throw}
use Rattle.model_value.specs.declared.outcome.Outcome.TheVariants.{Value as Returned}
use Rattle.model_value.specs.Input.{Input}
use Rattle.model_value.specs.Value.{Nothing, Conn}
use Rattle.model_says.specs.Endings.{Saying, Asks, Returns, Raises as Raised, Runaway}
use Rattle.model_wire.specs.declared.event.Event.TheVariants as event
use Rattle.model_wire.specs.declared.event.Handed.TheVariants as to
use Rattle.model_loop.specs.Futures.{next_future}
use Rattle.model_loop.specs.Parts.{Parts}
use Rattle.model_loop.specs.Tasks.{begin_step, next_task}
use Rattle.model_stream.specs.Doing.{Doing}
use Rattle.model_stream.specs.Requests.{close}
use Rattle.model_stream.specs.Streams.{Streams, act, handler_of}
use Rattle.model_machine.specs.Sound.{IsClosed}
use Rattle.model_machine.specs.Extra.{Extra}
use Rattle.model_machine.specs.Replies.{RequestReply, Answers, Raises, Suspends, Halts, decides, most_ids, reply}
use Rattle.model_machine.specs.State.{ResumePoint, Asked, Sleeping, Leaving, Serving, Connecting, Yielding, Reading, ReadingAll, State, generator_of, noted}
use Rattle.model_machine.specs.State.{stands, unbooked_in}
use Rattle.model_machine.specs.Step.{given_up, says_of, serve, serve_all, served, step, taken_as}
use Rattle.model_machine.specs.Turn.{effect, goes_with, handled_if, has_returned, made_by, ran, streams_go}
use Rattle.model_machine.specs.Went.{Went}
use Rattle.law_changes.specs.Changes.{MakesTask, OfParts, Registers, Revokes, Settles}
use Rattle.law_changes.specs.Reaches.{stays, goes, ReachAlone}
use Rattle.law_changes.proofs.LoopRows.{child_done_row, fire_row, in_parts_row}
use Rattle.law_changes.proofs.PartsRows.{begin_row, finish_row}
use Rattle.law_changes.proofs.Folds.{one, on}
use Rattle.law_cases.specs.Trees.{Keeping, KeepsStreams, is_of_streams}
use Rattle.law_cases.proofs.Asking.{closes}
use Rattle.law_cases.proofs.Opening.{acts}
use Rattle.law_reach.specs.Changes.{ByAct, ByItem, ChangesStreams, EndsMain, IsOpen, MakesCoroutine, OfLoop, Resumes, Runs, SetsResumePoint, runner_of}
use Rattle.law_reach.specs.Reaches.{ComesTo, GoesTo, InCallback}
use Rattle.law_reach.proofs.Answering.{called_row, in_loop_row}
use Rattle.law_cases.proofs.Closed.{effect_none}
use Rattle.law_reach.proofs.Opened.{any_kept, any_of, decides_comes, reply_comes}
use Rattle.law_reach.proofs.Rows.{asks-ran, closed_or_open, in_answer}
use Rattle.law_reach.proofs.Trees.{goes_after, tree_goes}

parts_row : {S : Type 0} (added : Extra S) {r : Option ℕ} {q : Parts} (s : State S) → ReachAlone r s.loop.parts q
    → InCallback added r s (unbooked_in (λ p. q) s)
parts_row added s row = in_answer added (in_loop_row added s (in_parts_row s.loop row))

pub given_up_row : (task : ℕ) (resume_point : ResumePoint) (p : Parts) → ReachAlone (Some task) p (given_up resume_point p)
given_up_row task Asked p = stays
given_up_row task (Sleeping tag) p = one (Revokes tag) tt
given_up_row task (Leaving group) p = stays
given_up_row task (Serving key) p = stays
given_up_row task (Connecting conn) p = stays
given_up_row task (Yielding whom) p = stays
given_up_row task (Reading from op on) p = stays
given_up_row task (ReadingAll from taken on) p = stays

module _ {S : Type 0} (added : Extra S) (task : ℕ) where
  abbrev GoesOn : (State S → Went S) → Type 0
  GoesOn go_on = (s : State S) → GoesTo added (Some task) s (go_on s)

  taken_goes : (s : State S) (it : RequestReply S) (fresh : Bool) (go_on : State S → Went S) → ComesTo added (Some task) s it → GoesOn go_on
      → GoesTo added (Some task) s (taken_as it fresh task go_on)
  taken_goes s (Answers value now) fresh go_on it each =
      goes_after added (Some task) (goes (in_answer added it.reaches) (Resumes fresh task (Send value)) refl) it.asks (each _)
  taken_goes s (Raises fault now) fresh go_on it each =
      goes_after added (Some task) (goes (in_answer added it.reaches) (Resumes fresh task (Throw fault)) refl) it.asks (each _)
  taken_goes s (Suspends now) fresh go_on it each = record { reaches = in_answer added it.reaches; ends = tt; asks = it.asks }
  taken_goes s (Halts how last) fresh go_on it each = record { reaches = in_answer added it.reaches; ends = it.ends; asks = it.asks }

module _ {S : Type 0} (limit : ℕ) (added : Extra S) where
  served_goes : (said : Saying) (task : ℕ) (go_on : State S → Went S) (s : State S) → GoesOn added task go_on
      → GoesTo added (Some task) s (served limit added said task go_on s)
  served_goes (Asks asked) task go_on s each =
      taken_goes added task s (reply added task asked s) false go_on (reply_comes added task asked s) each
  served_goes (Returns value) task go_on s each = record {
    reaches = parts_row added s (finish_row task (Ok value) s.loop.parts);
    ends = tt;
    asks = refl;
  }
  served_goes (Raised fault) task go_on s each = record {
    reaches = parts_row added s (finish_row task (Err fault) s.loop.parts);
    ends = tt;
    asks = refl;
  }
  served_goes Runaway task go_on s each = record { reaches = stays; ends = inl tt; asks = omega arith }

  serve_goes : (answers task : ℕ) → GoesOn added task (serve limit added answers task)
  unfolding serve
  serve_goes zero task s = record { reaches = stays; ends = inl tt; asks = omega arith }
  serve_goes (suc answers) task s =
      served_goes (says_of limit added task s) task (serve limit added answers task) s (serve_goes answers task)

  pub step_goes : (task : ℕ) (input : Input) (s : State S) → GoesTo added (Some task) s (step limit added task input s)
  unfolding step
  step_goes task input s =
      let resume_point = (generator_of task s).resume_point in
      let begun = begin_step task input (given_up resume_point s.loop.parts) in
      let awake = stands Asked task (unbooked_in (λ p. begun.parts) s) in
      goes_after added (Some task)
      (goes (parts_row added s (on (given_up_row task resume_point s.loop.parts) (begin_row task input (given_up resume_point s.loop.parts))))
      (SetsResumePoint Asked task) refl)
      refl
      (taken_goes added task awake (decides added resume_point task begun.input awake) true (serve_all limit added task)
      (decides_comes added task resume_point begun.input awake) (λ t. serve_goes _ task t))

  -- ---- callbacks of streams: where nothing is open they do nothing
  opened_if : (it : Action) (s : State S) → is_of_streams it ≡ true → (IsOpen s → GoesTo added None s (effect limit added it s))
      → GoesTo added None s (effect limit added it s)
  opened_if it s is each = at (closed_or_open s)
    where
      at : IsClosed s ⊎ IsOpen s → GoesTo added None s (effect limit added it s)
      at (inl closed) =
          subst (GoesTo added None s) (sym (effect_none s closed limit added it is)) (record { reaches = stays; ends = tt; asks = refl })
      at (inr opened) = each opened

  streams_goes_on : (tree : Doing Streams) (s : State S)
      → Keeping (KeepsStreams (any_of (length s.streams.connections)) (next_future s.loop.parts) s.streams)
      (any_of (length s.streams.connections)) (next_future s.loop.parts) tree → IsOpen s → GoesTo added None s (streams_go tree s)
  streams_goes_on tree s keeps opened =
      tree_goes added None (KeepsStreams (any_of (length s.streams.connections)) (next_future s.loop.parts) s.streams)
      (any_of (length s.streams.connections)) (next_future s.loop.parts) tree goes_with s keeps opened
      (λ streams t o. record { reaches = one (ChangesStreams streams) o; ends = tt; asks = refl })

  acts_goes : (it : Action) (returned : Bool) (s : State S) → IsOpen s
      → GoesTo added None s (streams_go (act (next_future s.loop.parts) returned it s.streams) s)
  acts_goes it returned s opened =
      streams_goes_on (act (next_future s.loop.parts) returned it s.streams) s
      (acts (any_of (length s.streams.connections)) (next_future s.loop.parts) returned it s.streams (any_kept s.streams) (le_refl _)) opened

  made_goes : (handler : Option ℕ) (conn : ℕ) (s : State S) → IsOpen s → GoesTo added None s (made_by handler conn s)
  made_goes None conn s opened = record { reaches = stays; ends = tt; asks = refl }
  made_goes (Some coroutine) conn s opened = at (nat_lt (next_task s.loop.parts) most_ids)
    where
      at : (b : Bool) → GoesTo added None s (handled_if b coroutine conn s)
      at true = record {
        reaches = goes (goes (one (OfLoop (OfParts MakesTask)) tt) (MakesCoroutine coroutine (Conn conn ∷ [])) tt) (OfLoop (OfParts (Registers _ _))) refl;
        ends = tt;
        asks = refl;
      }
      at false =
          streams_goes_on (close (to.Conn conn) s.streams) s
          (closes (any_of (length s.streams.connections)) (next_future s.loop.parts) (to.Conn conn) s.streams (any_kept s.streams)) opened

  pub effect_goes : (it : Action) (s : State S) → GoesTo added (runner_of it) s (effect limit added it s)
  unfolding effect
  effect_goes (action.Step task) s = step_goes task _ s
  effect_goes (action.StepInCycle task cycle) s = step_goes task _ s
  effect_goes (action.Wakeup task) s = step_goes task _ s
  effect_goes (action.SleepDone task future) s = record {
    reaches = one (OfLoop (OfParts (Settles future (Returned Nothing)))) tt;
    ends = tt;
    asks = refl;
  }
  effect_goes (action.GroupDone group task) s = record {
    reaches = in_answer added (in_loop_row added s (child_done_row None group task s.loop));
    ends = tt;
    asks = refl;
  }
  effect_goes (action.Fires timeout) s = record { reaches = in_answer added (in_loop_row added s (fire_row None timeout s.loop)); ends = tt; asks = refl }
  effect_goes action.MainDone s = record { reaches = one EndsMain tt; ends = tt; asks = refl }
  effect_goes (action.ExtraItem code bytes) s = record {
    reaches = in_answer added (called_row added None (ByItem code bytes) refl s);
    ends = tt;
    asks = refl;
  }
  effect_goes (action.Extra key) s = record { reaches = in_answer added (called_row added None (ByAct key) refl s); ends = tt; asks = refl }
  effect_goes (action.Made conn) s = opened_if (action.Made conn) s refl (made_goes (handler_of conn s.streams) conn s)
  effect_goes (action.StartRead conn) s = opened_if (action.StartRead conn) s refl (acts_goes (action.StartRead conn) true s)
  effect_goes (action.Lost conn broken) s = opened_if (action.Lost conn broken) s refl (acts_goes (action.Lost conn broken) true s)
  effect_goes (action.HandlerDone conn task) s =
      opened_if (action.HandlerDone conn task) s refl (acts_goes (action.HandlerDone conn task) (has_returned s.loop.parts task) s)
  effect_goes (action.ReadableServer server) s = opened_if (action.ReadableServer server) s refl (acts_goes (action.ReadableServer server) true s)
  effect_goes (action.Readable conn) s = opened_if (action.Readable conn) s refl (acts_goes (action.Readable conn) true s)
  effect_goes (action.Writable conn) s = opened_if (action.Writable conn) s refl (acts_goes (action.Writable conn) true s)
  effect_goes (action.Up conn) s = opened_if (action.Up conn) s refl (acts_goes (action.Up conn) true s)
  effect_goes (action.Down conn) s = opened_if (action.Down conn) s refl (acts_goes (action.Down conn) true s)
  effect_goes (action.WritableChild child) s = opened_if (action.WritableChild child) s refl (acts_goes (action.WritableChild child) true s)
  effect_goes (action.ChildItem child told) s = opened_if (action.ChildItem child told) s refl (acts_goes (action.ChildItem child told) true s)
  effect_goes (action.LostChild child broken) s = opened_if (action.LostChild child broken) s refl (acts_goes (action.LostChild child broken) true s)

  pub ran_goes : (dead : Bool) (it : Action) (s : State S) → GoesTo added (runner_of it) s (ran limit added dead it s)
  ran_goes true it s = record { reaches = stays; ends = tt; asks = refl }
  ran_goes false it s =
      goes_after added (runner_of it) (one (Runs it) refl) (ap (λ n. n + length s.answers) (asks-ran s.events it)) (effect_goes it (noted (event.Ran it) s))
