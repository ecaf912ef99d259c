-- What streams do leaves what is owed covered: their trees raise and lower no count.
use Rattle.std.proofs.Common.{◌≡◌, ℕ, ◌⊎◌, inl, inr, Some, None, length, refl, sym, subst}
use Rattle.std.proofs.lemmas.Bool.{false≢true}
use Rattle.std.proofs.Common.{true, false}
use Rattle.model_value.specs.declared.action.Action.TheVariants as action
use Rattle.model_value.specs.declared.input.Input.TheVariants.{Send, Throw}
use Rattle.model_value.specs.Action.{Action}
use Rattle.model_value.specs.Input.{Input}
use Rattle.model_value.specs.Request.{Request}
use Rattle.model_value.specs.Value.{Value}
use Rattle.model_loop.specs.Futures.{register}
use Rattle.model_loop.specs.Loop.{book, in_parts}
use Rattle.model_loop.specs.Owning.{is_main_done}
use Rattle.model_loop.specs.Parts.{Parts}
use Rattle.model_loop.specs.Suspend.{suspend}
use Rattle.model_loop.specs.Tasks.{future_of, next_task, pause, spawn}
use Rattle.model_machine.specs.Extra.{Extra}
use Rattle.model_machine.specs.Outcomes.{input_of}
use Rattle.model_machine.specs.Replies.{RequestReply, Answers, decides, replied}
use Rattle.model_machine.specs.Sound.{AreStreamsFutures, stands_at}
use Rattle.model_machine.specs.State.{ResumePoint, Asked, Sleeping, Leaving, Serving, Connecting, Yielding, Reading, ReadingAll, State}
use Rattle.model_machine.specs.Went.{Went, state_of}
use Rattle.law_changes.specs.Changes.{PartsChange, CallsSoon, CallsLater, Revokes, MakesFuture, Settles, Registers, KeepsAsked, MakesTask, WaitsFor}
use Rattle.law_changes.specs.Changes.{SetsMustCancel}
use Rattle.law_changes.specs.Changes.{ClearsMustCancel, Counts, Uncounts, Passes, FallsDue, LeavesPending, MayAlone, OfParts}
use Rattle.law_changes.proofs.Folds.{widen}
use Rattle.law_cases.specs.Trees.{is_of_streams}
use Rattle.law_cases.specs.Closed.{stands_at_streams}
use Rattle.law_cases.specs.StreamReplies.{StreamReplies, refuses, tells, hands_on, awaits, halts, answers, raises, waits_on, stands_on, yields}
use Rattle.law_cases.specs.StreamReplies.{StreamGoes, stays_so, goes_so, stops, handles}
use Rattle.law_cases.specs.TreeEnd.{IsTreeEnd, MayInTree}
use Rattle.law_cases.proofs.Replying.{streams_decide, woken_at}
use Rattle.law_replies.proofs.Streaming.{end_loop}
use Rattle.law_runs.proofs.Kept.{reply_state}
use Rattle.law_promises.proofs.Loops.{easy_alone, easy_change, easy_spawn, easy_suspend}
use Rattle.law_promises.proofs.Owed.{IsEasy, covers, easy_then, right_on}
use Rattle.law_promises.specs.Owed.{IsCovered, IsRight}

no_main : (it : Action) → is_of_streams it ≡ true → is_main_done it ≡ false
no_main action.MainDone is = absurd (false≢true is)
no_main _ is = refl

tree_alone : (connections : ℕ) (change : PartsChange) (p : Parts) → MayInTree connections change p → MayAlone (Some 0) change p
tree_alone connections (CallsSoon it) p may = no_main it may
tree_alone connections (MakesFuture kind) p may = tt
tree_alone connections (Settles future outcome) p may = tt
tree_alone connections (CallsLater when it) p may = absurd may
tree_alone connections (Revokes tag) p may = absurd may
tree_alone connections (Registers future it) p may = absurd may
tree_alone connections (KeepsAsked future) p may = absurd may
tree_alone connections MakesTask p may = absurd may
tree_alone connections (WaitsFor task on) p may = absurd may
tree_alone connections (SetsMustCancel task) p may = absurd may
tree_alone connections (ClearsMustCancel task) p may = absurd may
tree_alone connections (Counts task) p may = absurd may
tree_alone connections (Uncounts profile task) p may = absurd may
tree_alone connections (Passes now) p may = absurd may
tree_alone connections FallsDue p may = absurd may
tree_alone connections (LeavesPending rest) p may = absurd may

module _ {S : Type 0} (s : State S) (right : IsRight s.loop) (c : IsCovered s.loop) where
  -- ---- where a tree ends
  end_easy : (t : State S) → IsTreeEnd s t → IsEasy s.loop t.loop
  end_easy t it = subst (IsEasy s.loop) (sym it.loop) (easy_alone 0 s.loop (widen (tree_alone (length s.streams.connections)) it.row))

  end_covers : (t : State S) → IsTreeEnd s t → IsCovered t.loop
  end_covers t it = covers s.loop t.loop (end_easy t it) right c

  end_right : (t : State S) → IsTreeEnd s t → IsRight t.loop
  end_right t it = let a = end_easy t it in right_on s.loop t.loop a.later ((end_loop None s t it).parts.same refl) a.owes right

  replied_covers : (input : Input) → IsCovered (reply_state (replied input s)).loop
  replied_covers (Send value) = c
  replied_covers (Throw fault) = c

  -- ---- each case
  pub streams_covers : (task : ℕ) (stood : ResumePoint) (asked : Request) (it : RequestReply S) → StreamReplies task stood s asked it
      → IsCovered (reply_state it).loop
  streams_covers task stood asked it (refuses fault) = c
  streams_covers task stood asked it (tells value none) = c
  streams_covers task stood asked it (hands_on on outcome e) = replied_covers (input_of outcome)
  streams_covers task stood asked it (awaits on here may) = covers s.loop (book (suspend task on) s.loop) (easy_suspend task on s.loop) right c
  streams_covers task stood asked it (halts how last end) = end_covers last end
  streams_covers task stood asked it (answers t streams value end none) = end_covers t end.ended
  streams_covers task stood asked it (raises t streams fault end) = end_covers t end.ended
  streams_covers task stood asked it (waits_on t streams on end here may) =
      covers t.loop (book (suspend task on) t.loop) (easy_suspend task on t.loop) (end_right t end.ended) (end_covers t end.ended)
  streams_covers task stood asked it (stands_on t streams resume_point on end here at may opened) =
      covers t.loop (book (suspend task on) t.loop) (easy_suspend task on t.loop) (end_right t end.ended) (end_covers t end.ended)
  streams_covers task stood asked it (yields t streams whom end may opened) =
      covers t.loop (in_parts (pause task) t.loop) (easy_change task (OfParts (CallsSoon (action.Step task))) t.loop refl) (end_right t end.ended)
      (end_covers t end.ended)

  pub goes_covers : (it : Went S) → StreamGoes s it → IsCovered (state_of it).loop
  goes_covers it stays_so = c
  goes_covers it (goes_so t streams end) = end_covers t end.ended
  goes_covers it (stops how last end) = end_covers last end
  goes_covers it (handles coroutine conn few there) =
      let made = in_parts spawn s.loop in
      let future = future_of (spawn s.loop.parts) (next_task s.loop.parts) in
      let told = action.HandlerDone conn (next_task s.loop.parts) in
      covers s.loop (in_parts (register future told) made)
      (easy_then s.loop made (in_parts (register future told) made) (easy_spawn s.loop) (easy_change 0 (OfParts (Registers future told)) made refl)) right c

-- ---- what a task stands at
woken_right : {S : Type 0} (resume_point : ResumePoint) (s : State S) → IsRight s.loop → IsRight (woken_at resume_point s).loop
woken_right Asked s h = h
woken_right (Sleeping tag) s h = h
woken_right (Leaving group) s h = h
woken_right (Serving key) s h = h
woken_right (Connecting conn) s h = h
woken_right (Yielding whom) s h = h
woken_right (Reading from op on) s h = h
woken_right (ReadingAll from taken on) s h = h

woken_covers : {S : Type 0} (resume_point : ResumePoint) (s : State S) → IsCovered s.loop → IsCovered (woken_at resume_point s).loop
woken_covers Asked s h = h
woken_covers (Sleeping tag) s h = h
woken_covers (Leaving group) s h = h
woken_covers (Serving key) s h = h
woken_covers (Connecting conn) s h = h
woken_covers (Yielding whom) s h = h
woken_covers (Reading from op on) s h = h
woken_covers (ReadingAll from taken on) s h = h

pub decides_covers : {S : Type 0} (added : Extra S) (task : ℕ) (s : State S) → IsRight s.loop → IsCovered s.loop → AreStreamsFutures s → (asked : Request)
    (resume_point : ResumePoint) (input : Input) → stands_at_streams resume_point ≡ true → stands_at resume_point asked ≡ true
    → IsCovered (reply_state (decides added resume_point task input s)).loop
decides_covers added task s right c kept asked resume_point input is may = at (streams_decide added task s kept asked resume_point input is may)
  where
    at : ((value : Value) × (input ≡ Send value) × (decides added resume_point task input s ≡ Answers value s))
        ⊎ StreamReplies task resume_point (woken_at resume_point s) asked (decides added resume_point task input s)
        → IsCovered (reply_state (decides added resume_point task input s)).loop
    at (inl told) = subst (λ it. IsCovered (reply_state it).loop) (sym told.2) c
    at (inr it) =
        streams_covers (woken_at resume_point s) (woken_right resume_point s right) (woken_covers resume_point s c) task resume_point asked
        (decides added resume_point task input s) it
