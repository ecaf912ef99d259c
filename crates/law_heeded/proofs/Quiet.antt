-- What isn't of what is added: it tells nothing of that, and changes what a task waits for in its own step alone.
use Rattle.std.proofs.Common.{◌≡◌, ℕ, ◌+◌, Bool, true, false, cond, List, [], ◌∷◌, ◌++◌, Option, Some, None, length, nat_lt, refl, sym, ap, subst, ◌∙◌, le_refl}
use Rattle.std.proofs.lemmas.Bool.{false≢true}
use Rattle.std.proofs.lemmas.List.{append-nil, append_assoc}
use Rattle.model_value.specs.Action.{Action}
use Rattle.model_value.specs.declared.action.Action.TheVariants as action
use Rattle.model_value.specs.declared.request.Request.TheVariants as request
use Rattle.model_value.specs.Input.{Input}
use Rattle.model_value.specs.Request.{Request}
use Rattle.model_value.specs.Value.{Conn, Value}
use Rattle.model_wire.specs.declared.event.Event.TheVariants as event
use Rattle.model_wire.specs.declared.event.Handed.TheVariants as to
use Rattle.model_wire.specs.Call.{Answer, Call}
use Rattle.model_wire.specs.Event.{Event}
use Rattle.model_wire.specs.Fits.{fits}
use Rattle.model_wire.specs.Journal.{Entry, Answered, Refused}
use Rattle.model_loop.specs.Futures.{next_future}
use Rattle.model_loop.specs.Loop.{Loop}
use Rattle.model_loop.specs.Owning.{is_main_done}
use Rattle.model_loop.specs.Parts.{Handle, Plain}
use Rattle.model_loop.specs.Tasks.{future_of, next_task}
use Rattle.model_stream.specs.Doing as doing
use Rattle.model_stream.specs.Doing.{Doing, Ends, Changes, Asks}
use Rattle.model_stream.specs.Requests.{close}
use Rattle.model_stream.specs.Streams.{Streams, act, handler_of}
use Rattle.model_machine.specs.Does.{changed, does}
use Rattle.model_machine.specs.Extra.{Extra}
use Rattle.model_machine.specs.Replies.{decides, most_ids, reply}
use Rattle.model_machine.specs.Sound.{is_extra}
use Rattle.model_machine.specs.State.{ResumePoint, Asked, Sleeping, Leaving, Serving, Connecting, Yielding, Reading, ReadingAll, State, noted}
use Rattle.model_machine.specs.State.{resumed, stands, unbooked_in, with_coroutine, with_streams}
use Rattle.model_machine.specs.Turn.{effect, goes_with, handled_if, has_returned, made_by, ran, run_first, streams_go}
use Rattle.model_machine.specs.Went.{Stops, Went, answered_so, ask_so, fitted_so, state_of}
use Rattle.law_apart.specs.Apart.{steps_or_extra}
use Rattle.law_calls.specs.Tells.{IsUntold}
use Rattle.law_calls.specs.Told.{is_of_extra}
use Rattle.law_calls.proofs.Events.{heard_untold, missed_untold, untold_none, untold_then}
use Rattle.law_calls.proofs.Rows.{Untold, is_extra_request, reply_same, row_untold, unchanging}
use Rattle.law_cases.specs.Trees.{Keeping, KeepsStreams, Owned, is_aside, is_of_streams}
use Rattle.law_cases.proofs.Asking.{closes}
use Rattle.law_cases.proofs.Opening.{acts}
use Rattle.law_changes.proofs.LoopRows as rows
use Rattle.law_changes.specs.Changes.{CallsSoon, LeavesPending, MakesFuture, MakesTask, PartsChange, Registers, Settles, made_of_parts}
use Rattle.law_changes.specs.Reaches.{stays}
use Rattle.law_kept.specs.Walks as kept
use Rattle.law_kept.proofs.Loops.{Row, child_done_row, fire_row}
use Rattle.law_kept.proofs.Requests as kept_by
use Rattle.law_reach.specs.Reaches.{left_by}
use Rattle.law_reach.proofs.Opened.{any_kept, any_of, decides_comes, reply_comes}
use Rattle.law_heeded.specs.Walks.{TellsNone, heard}
use Rattle.law_heeded.proofs.Still.{Still, answers_still, change_still, row_still, still_same, still_then}

-- what streams call soon
no_extra : (it : Action) → is_of_streams it ≡ true → is_extra it ≡ false
no_extra (action.Extra key) is = absurd (false≢true is)
no_extra _ is = refl

no_main : (it : Action) → is_of_streams it ≡ true → is_main_done it ≡ false
no_main action.MainDone is = absurd (false≢true is)
no_main _ is = refl

-- a handle of the loop's own, or of a stream, runs
pub ran_untold : (it : Action) → is_of_extra it ≡ false → IsUntold (event.Ran it ∷ [])
ran_untold it other = (ap (λ b. cond b (event.Ran it ∷ []) []) other, refl)

no_step : (it : Action) → steps_or_extra it ≡ false → is_of_extra it ≡ false
no_step (action.Extra key) other = absurd (false≢true (sym other))
no_step (action.ExtraItem code bytes) other = absurd (false≢true (sym other))
no_step _ other = refl

as_told : (asked : Request) → kept.is_extra_request asked ≡ false → is_extra_request asked ≡ false
as_told (request.Extra code arguments) other = absurd (false≢true (sym other))
as_told _ other = refl

module _ {S : Type 0} where
  -- ---- events
  pub told_as : (s t : State S) → t.events ≡ s.events → TellsNone s t
  told_as s t same = ([], (same ∙ sym (append-nil s.events), untold_none))

  pub told_then : (s t u : State S) → TellsNone s t → TellsNone t u → TellsNone s u
  told_then s t u first next = (
    first.0 ++ next.0,
    (
      next.1.0 ∙ ap (λ es. es ++ next.0) first.1.0 ∙ append_assoc s.events first.0 next.0,
      untold_then first.0 next.0 first.1.1 next.1.1,
    ),
  )

  module _ (r : Option ℕ) where
    pub record IsQuiet (s t : State S) : Type 0 where
      pub all : kept.Beside s t
      pub told : TellsNone s t
      pub still : Still r s.loop.parts t.loop.parts

    pub quiet_same : (s : State S) → IsQuiet s s
    quiet_same s = record { all = kept_by.beside_same s; told = told_as s s refl; still = still_same r s.loop.parts }

    pub quiet_then : (s t u : State S) → IsQuiet s t → IsQuiet t u → IsQuiet s u
    quiet_then s t u a b = record {
      all = kept_by.beside_then a.all b.all;
      told = told_then s t u a.told b.told;
      still = still_then r s.loop.parts t.loop.parts u.loop.parts a.still b.still;
    }

    -- ---- small changes
    pub loop_quiet : (s : State S) (l : Loop) → Row s.loop l → Still r s.loop.parts l.parts → IsQuiet s (record s { loop = l })
    loop_quiet s l row still = record {
      all = kept_by.loop_beside s row;
      told = told_as s (record s { loop = l }) refl;
      still = still;
    }

    pub parts_quiet : (change : PartsChange) (s : State S) → kept.MayBeside change s.loop.parts → Still r s.loop.parts (made_of_parts change s.loop.parts)
        → IsQuiet s (unbooked_in (made_of_parts change) s)
    parts_quiet change s may still = record {
      all = kept_by.parts_beside change s may;
      told = told_as s (unbooked_in (made_of_parts change) s) refl;
      still = still;
    }

    pub noted_quiet : (it : Event) (s : State S) → IsUntold (it ∷ []) → IsQuiet s (noted it s)
    noted_quiet it s untold = record {
      all = kept_by.noted_beside it s;
      told = (it ∷ [], (refl, untold));
      still = still_same r s.loop.parts;
    }

    pub streams_quiet : (streams : Streams) (s : State S) → IsQuiet s (with_streams streams s)
    streams_quiet streams s = record {
      all = kept_by.streams_beside streams s;
      told = told_as s (with_streams streams s) refl;
      still = still_same r s.loop.parts;
    }

    pub coroutine_quiet : (coroutine : ℕ) (arguments : List Value) (s : State S) → IsQuiet s (with_coroutine coroutine arguments s)
    coroutine_quiet coroutine arguments s = record {
      all = kept_by.coroutine_beside coroutine arguments s;
      told = told_as s (with_coroutine coroutine arguments s) refl;
      still = still_same r s.loop.parts;
    }

    pub resumed_quiet : (fresh : Bool) (task : ℕ) (input : Input) (s : State S) → IsQuiet s (resumed fresh task input s)
    resumed_quiet fresh task input s = record {
      all = kept_by.resumed_beside fresh task input s;
      told = told_as s (resumed fresh task input s) refl;
      still = still_same r s.loop.parts;
    }

    pub stands_quiet : (resume_point : ResumePoint) (task : ℕ) (s : State S) → ((key : ℕ) → resume_point ≡ Serving key → ⊥)
        → IsQuiet s (stands resume_point task s)
    stands_quiet resume_point task s never = record {
      all = kept_by.stands_beside resume_point task s never;
      told = told_as s (stands resume_point task s) refl;
      still = still_same r s.loop.parts;
    }

    -- a call that isn't of what is added, and its answer
    pub heard_quiet : (it : Call) (came : Answer) (left : List Entry) (s : State S) → IsUntold (event.Called it ∷ event.Got came ∷ [])
        → IsQuiet s (heard it came left s)
    heard_quiet it came left s untold = record {
      all = record { kept = refl; loop = stays; stands = λ task key h. h };
      told = (
        event.Called it ∷ event.Got came ∷ [],
        (append_assoc s.events (event.Called it ∷ []) (event.Got came ∷ []), untold),
      );
      still = still_same r s.loop.parts;
    }

    -- ---- trees of streams, in a callback
    abbrev Goes : State S → Went S → Type 0
    Goes s went = IsQuiet s (state_of went)

    asked_quiet : (it : Call) (next : Answer → State S → Went S) (from s : State S) → is_aside it ≡ false → IsQuiet from s
        → ((came : Answer) (t : State S) → IsQuiet from t → Goes from (next came t)) → Goes from (ask_so Stops it next s)
    asked_quiet it next from s is so each = by s.answers
      where
        missed : IsQuiet from (noted (event.Called it) s)
        missed = quiet_then from s (noted (event.Called it) s) so (noted_quiet (event.Called it) s (missed_untold it is))

        here : (came : Answer) (left : List Entry) → IsQuiet from (heard it came left s)
        here came left = quiet_then from s (heard it came left s) so (heard_quiet it came left s (heard_untold it came is))

        fit : (b : Bool) (came : Answer) (left : List Entry) → Goes from (fitted_so Stops b it came next (heard it came left s))
        fit true came left = each came (heard it came left s) (here came left)
        fit false came left = here came left

        by : (entries : List Entry) → Goes from (answered_so Stops entries it next (noted (event.Called it) s))
        by [] = missed
        by (Refused line cause ∷ entries) = missed
        by (Answered came ∷ entries) = fit (fits it came) came entries

    does_quiet : {A : Type 0} (Left : ℕ → A → Type 0) (own : Owned) (number : ℕ) (tree : Doing A) (next : A → State S → Went S) (from s : State S)
        → IsQuiet from s → Keeping Left own number tree → ((it : A) (t : State S) → IsQuiet from t → Goes from (next it t))
        → Goes from (does Stops tree next s)
    does_quiet Left own number (Ends result) next from s so keeps each = each result s so
    does_quiet Left own number (Changes doing.MakeFuture rest) next from s so keeps each =
        let t = unbooked_in (changed doing.MakeFuture) s in
        does_quiet Left own (number + 1) rest next from t
        (quiet_then from s t so (parts_quiet (MakesFuture Plain) s tt (change_still r (MakesFuture Plain) s.loop.parts tt))) keeps each
    does_quiet Left own number (Changes (doing.CallSoon it) rest) next from s so keeps each =
        let t = unbooked_in (changed (doing.CallSoon it)) s in
        does_quiet Left own number rest next from t
        (quiet_then from s t so (parts_quiet (CallsSoon it) s (no_extra it keeps.0) (change_still r (CallsSoon it) s.loop.parts (no_main it keeps.0))))
        keeps.1 each
    does_quiet Left own number (Changes (doing.Settle future outcome) rest) next from s so keeps each =
        let t = unbooked_in (changed (doing.Settle future outcome)) s in
        does_quiet Left own number rest next from t
        (quiet_then from s t so (parts_quiet (Settles future outcome) s tt (change_still r (Settles future outcome) s.loop.parts tt))) keeps.1 each
    does_quiet Left own number (Asks it rest) next from s so keeps each =
        asked_quiet it (λ came. does Stops (rest came) next) from s keeps.0 so
        (λ came t here. does_quiet Left own number (rest came) next from t here (keeps.1 came) each)

  -- ---- callbacks that step no task and are none of what is added
  go_quiet : (tree : Doing Streams) (s : State S)
      → Keeping (KeepsStreams (any_of (length s.streams.connections)) (next_future s.loop.parts) s.streams)
      (any_of (length s.streams.connections)) (next_future s.loop.parts) tree → Goes None s (streams_go tree s)
  go_quiet tree s keeps =
      does_quiet None (KeepsStreams (any_of (length s.streams.connections)) (next_future s.loop.parts) s.streams)
      (any_of (length s.streams.connections)) (next_future s.loop.parts) tree goes_with s s (quiet_same None s) keeps
      (λ streams t here. quiet_then None s t (with_streams streams t) here (streams_quiet None streams t))

  acts_quiet : (it : Action) (returned : Bool) (s : State S) → Goes None s (streams_go (act (next_future s.loop.parts) returned it s.streams) s)
  acts_quiet it returned s =
      go_quiet (act (next_future s.loop.parts) returned it s.streams) s
      (acts (any_of (length s.streams.connections)) (next_future s.loop.parts) returned it s.streams (any_kept s.streams)
      (le_refl _))

  handled_quiet : (b : Bool) (coroutine conn : ℕ) (s : State S) → Goes None s (handled_if b coroutine conn s)
  handled_quiet true coroutine conn s =
      let t = unbooked_in (made_of_parts MakesTask) s in
      let u = with_coroutine coroutine (Conn conn ∷ []) t in
      let call = Registers (future_of u.loop.parts (next_task s.loop.parts)) (action.HandlerDone conn (next_task s.loop.parts)) in
      let last = unbooked_in (made_of_parts call) u in
      quiet_then None s t last (parts_quiet None MakesTask s tt (change_still None MakesTask s.loop.parts tt))
      (quiet_then None t u last (coroutine_quiet None coroutine (Conn conn ∷ []) t)
      (parts_quiet None call u refl (change_still None call u.loop.parts refl)))
  handled_quiet false coroutine conn s =
      go_quiet (close (to.Conn conn) s.streams) s
      (closes (any_of (length s.streams.connections)) (next_future s.loop.parts) (to.Conn conn) s.streams (any_kept s.streams))

  made_quiet : (handler : Option ℕ) (conn : ℕ) (s : State S) → Goes None s (made_by handler conn s)
  made_quiet None conn s = quiet_same None s
  made_quiet (Some coroutine) conn s = handled_quiet (nat_lt (next_task s.loop.parts) most_ids) coroutine conn s

  -- the first handle is taken out
  pub out_quiet : (r : Option ℕ) (handle : Handle) (rest : List Handle) (s : State S) → s.loop.parts.pending ≡ handle ∷ rest
      → IsQuiet r s (unbooked_in (λ p. record p { pending = rest }) s)
  out_quiet r handle rest s first = record {
    all = kept_by.parts_beside (LeavesPending rest) s (handle, first);
    told = told_as s (unbooked_in (λ p. record p { pending = rest }) s) refl;
    still = record { tasks = le_refl _; waiters = λ task other. refl };
  }

  module _ (limit : ℕ) (added : Extra S) where
    effect_quiet : (it : Action) (s : State S) → steps_or_extra it ≡ false → Goes None s (effect limit added it s)
    unfolding effect
    effect_quiet (action.Step task) s other = absurd (false≢true (sym other))
    effect_quiet (action.StepInCycle task cycle) s other = absurd (false≢true (sym other))
    effect_quiet (action.Wakeup task) s other = absurd (false≢true (sym other))
    effect_quiet (action.ExtraItem code bytes) s other = absurd (false≢true (sym other))
    effect_quiet (action.Extra key) s other = absurd (false≢true (sym other))
    effect_quiet (action.SleepDone task future) s other =
        parts_quiet None (Settles future _) s tt (change_still None (Settles future _) s.loop.parts tt)
    effect_quiet (action.GroupDone group task) s other =
        loop_quiet None s _ (child_done_row group task s.loop) (row_still None (rows.child_done_row None group task s.loop))
    effect_quiet (action.Fires timeout) s other = loop_quiet None s _ (fire_row timeout s.loop) (row_still None (rows.fire_row None timeout s.loop))
    effect_quiet action.MainDone s other = record {
      all = record { kept = refl; loop = stays; stands = λ task key h. h };
      told = told_as s (record s { main_done = true }) refl;
      still = still_same None s.loop.parts;
    }
    effect_quiet (action.Made conn) s other = made_quiet (handler_of conn s.streams) conn s
    effect_quiet (action.HandlerDone conn task) s other = acts_quiet (action.HandlerDone conn task) (has_returned s.loop.parts task) s
    effect_quiet (action.StartRead conn) s other = acts_quiet (action.StartRead conn) true s
    effect_quiet (action.Lost conn broken) s other = acts_quiet (action.Lost conn broken) true s
    effect_quiet (action.ReadableServer server) s other = acts_quiet (action.ReadableServer server) true s
    effect_quiet (action.Readable conn) s other = acts_quiet (action.Readable conn) true s
    effect_quiet (action.Writable conn) s other = acts_quiet (action.Writable conn) true s
    effect_quiet (action.Up conn) s other = acts_quiet (action.Up conn) true s
    effect_quiet (action.Down conn) s other = acts_quiet (action.Down conn) true s
    effect_quiet (action.WritableChild child) s other = acts_quiet (action.WritableChild child) true s
    effect_quiet (action.ChildItem child told) s other = acts_quiet (action.ChildItem child told) true s
    effect_quiet (action.LostChild child broken) s other = acts_quiet (action.LostChild child broken) true s

    -- the first handle runs
    pub first_quiet : (handle : Handle) (rest : List Handle) (s : State S) → s.loop.parts.pending ≡ handle ∷ rest
        → steps_or_extra handle.action ≡ false → Goes None s (run_first limit added handle rest s)
    first_quiet handle rest s first other = at handle.dead
      where
        out : State S
        out = unbooked_in (λ p. record p { pending = rest }) s

        at : (dead : Bool) → Goes None s (ran limit added dead handle.action out)
        at true = out_quiet None handle rest s first
        at false =
            let it = handle.action in
            let gone = noted (event.Ran it) out in
            let last = state_of (effect limit added it gone) in
            quiet_then None s out last (out_quiet None handle rest s first)
            (quiet_then None out gone last (noted_quiet None (event.Ran it) out (ran_untold it (no_step it other))) (effect_quiet it gone other))

  -- ---- requests that aren't of what is added
  of_untold : (s t : State S) → Untold s t → TellsNone s t
  of_untold s t untold = untold.1

  pub reply_quiet : (added : Extra S) (task : ℕ) (asked : Request) (s : State S) → kept.is_extra_request asked ≡ false
      → IsQuiet (Some task) s (left_by (reply added task asked s))
  reply_quiet added task asked s other =
      let same = reply_same added task asked s (as_told asked other) in
      let row = (reply_comes unchanging task asked s).reaches in
      record {
        all = kept_by.reply_goes added task asked s other;
        told = subst (λ it. TellsNone s (left_by it)) (sym same) (of_untold s (left_by (reply unchanging task asked s)) (row_untold (Some task) row));
        still = subst (λ it. Still (Some task) s.loop.parts (left_by it).loop.parts) (sym same) (answers_still (Some task) row);
      }

  -- what a task makes of its input, where it stands at none of them
  module _ (added : Extra S) (task : ℕ) where
    stood_quiet : (resume_point : ResumePoint) (input : Input) (s : State S) → kept.Beside s (left_by (decides unchanging resume_point task input s))
        → IsQuiet (Some task) s (left_by (decides unchanging resume_point task input s))
    stood_quiet resume_point input s all =
        let row = (decides_comes unchanging task resume_point input s).reaches in
        record {
          all = all;
          told = of_untold s (left_by (decides unchanging resume_point task input s)) (row_untold (Some task) row);
          still = answers_still (Some task) row;
        }

    pub decides_quiet : (resume_point : ResumePoint) (input : Input) (s : State S) → kept.serves_none resume_point ≡ true
        → IsQuiet (Some task) s (left_by (decides added resume_point task input s))
    decides_quiet Asked input s none = stood_quiet Asked input s (kept_by.decides_goes added task Asked input s refl)
    decides_quiet (Sleeping tag) input s none = stood_quiet (Sleeping tag) input s (kept_by.decides_goes added task (Sleeping tag) input s refl)
    decides_quiet (Leaving group) input s none = stood_quiet (Leaving group) input s (kept_by.decides_goes added task (Leaving group) input s refl)
    decides_quiet (Serving key) input s none = absurd (false≢true none)
    decides_quiet (Connecting conn) input s none = stood_quiet (Connecting conn) input s (kept_by.decides_goes added task (Connecting conn) input s refl)
    decides_quiet (Yielding whom) input s none = stood_quiet (Yielding whom) input s (kept_by.decides_goes added task (Yielding whom) input s refl)
    decides_quiet (Reading from op on) input s none =
        stood_quiet (Reading from op on) input s (kept_by.decides_goes added task (Reading from op on) input s refl)
    decides_quiet (ReadingAll from taken on) input s none =
        stood_quiet (ReadingAll from taken on) input s (kept_by.decides_goes added task (ReadingAll from taken on) input s refl)
