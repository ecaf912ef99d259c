-- Each request of a task in its step leaves what is owed covered.
use Rattle.std.proofs.Common.{◌≡◌, ℕ, zero, suc, ◌≤◌, ◌<◌, pos, Bool, true, false, cond, not, ◌&&◌, ◌==◌, List, [], ◌∷◌, Option, Some, None, length}
use Rattle.std.proofs.Common.{slice_index_or, refl, sym, ap, subst, ◌∙◌, arith}
use Rattle.std.specs.List.{count_by, list_any}
use Rattle.std.specs.Option.{option_map_or}
use Rattle.std.proofs.lemmas.Bool.{eq-eqb, eqb-true, false≢true}
use Rattle.model_value.specs.Equality.{equal}
use Rattle.model_value.specs.Input.{Input}
use Rattle.model_value.specs.Request.{Request}
use Rattle.model_value.specs.Value.{Value, Timeout, Exc, Outcome}
use Rattle.model_value.specs.declared.action.Action.TheVariants.{Step}
use Rattle.model_value.specs.declared.input.Input.TheVariants.{Send, Throw}
use Rattle.model_value.specs.declared.outcome.Outcome.TheVariants.{Value as Returned, Failed}
use Rattle.model_value.specs.declared.request.Request.TheVariants as request
use Rattle.model_tree.specs.Syntax.{Program}
use Rattle.model_says.specs.Blocks.{open_blocks}
use Rattle.model_says.specs.Endings.{Asks}
use Rattle.model_says.specs.Says.{course, step_limit}
use Rattle.model_loop.specs.Futures.{new_plain, next_future}
use Rattle.model_loop.specs.Groups.{GroupExit, Waits, Passes, Raises as RaisedBy, create, exit_begin, exit_woken, group_of, new_group}
use Rattle.model_loop.specs.Ledger.{ByScript, ask_cancel}
use Rattle.model_loop.specs.Children.{IsKeptGroup}
use Rattle.model_loop.specs.Loop.{TimeoutState, Created, Active, Expiring, Expired, Finished, Group, Loop, book, in_parts}
use Rattle.model_loop.specs.Sound.{IsSound}
use Rattle.model_loop.specs.Parts.{Plain, Profile, One, Two}
use Rattle.model_loop.specs.Suspend.{suspend}
use Rattle.model_loop.specs.Tasks.{lives, next_task, spawn}
use Rattle.model_loop.specs.Timeouts.{exit_timeout, no_timeout, reschedule, timeout_of}
use Rattle.model_wire.specs.declared.call.Call.TheVariants as call
use Rattle.model_wire.specs.declared.event.Event.TheVariants as event
use Rattle.model_wire.specs.Call.{Answer, Call}
use Rattle.model_wire.specs.Fits.{fits}
use Rattle.model_wire.specs.Journal.{Entry, Answered, Refused}
use Rattle.model_machine.specs.Arguments.{as_timeout, as_group}
use Rattle.model_machine.specs.Extra as extra
use Rattle.model_machine.specs.Extra.{Extra, ExtraAnswer, ExtraSaid, called}
use Rattle.model_machine.specs.Outcomes.{input_of}
use Rattle.model_machine.specs.Replies.{RequestReply, Halts, replied, ended, input_by, waits, alarmed}
use Rattle.model_machine.specs.Replies.{sleeps_for, timed_out_if, exits_timeout}
use Rattle.model_machine.specs.Replies.{exits_as, exits_group, Wake, serves_until}
use Rattle.model_machine.specs.Replies.{serves_as, serves, woken_within, woken, reply, decides}
use Rattle.model_machine.specs.Sound.{AreBlocksOf, AreBlocksOpen, AreStreamsFutures, blocks_of, has_open, is_open, stands_at}
use Rattle.model_machine.specs.State.{ResumePoint, Asked, Sleeping, Leaving, Serving, Connecting, Yielding}
use Rattle.model_machine.specs.State.{Reading, ReadingAll, Generator, State, generator, noted, with_loop}
use Rattle.model_machine.specs.Step.{says_of}
use Rattle.model_machine.specs.Went.{answered_so, ask_so, fitted_so}
use Rattle.law_changes.specs.Changes.{CallsSoon, CallsLater, MakesFuture, OfParts}
use Rattle.law_cases.specs.Cases.{Replies, raises, leaves_none, exits_none, tells, names_itself, hands_on, pauses_on, alarms, awaits, prints, makes}
use Rattle.law_cases.specs.Cases.{sets}
use Rattle.law_cases.specs.Cases.{fails, cancels, uncancels, spawns_it, enters, leaves, moves, enters_one, exits, creates_it, serves_it}
use Rattle.law_cases.specs.Closed.{is_to_streams}
use Rattle.law_cases.proofs.Replying.{streams_reply}
use Rattle.law_promises.proofs.Streaming.{decides_covers, streams_covers}
use Rattle.law_cases.proofs.Cases.{reply_is}
use Rattle.law_runs.proofs.Kept.{reply_state}
use Rattle.law_replies.specs.InStep.{IsStepSound}
use Rattle.law_replies.proofs.Counts.{own_there, lives_within}
use Rattle.law_replies.proofs.Tapes.{past_default}
use Rattle.law_replies.proofs.Innermost.{innermost_timeout}
use Rattle.law_replies.proofs.Replying.{fits_in}
use Rattle.law_promises.proofs.Asking.{hand_covers}
use Rattle.law_promises.proofs.OwedByExits.{MayEnd, begin_covers, begin_right, woken_covers, woken_right}
use Rattle.law_promises.proofs.OwedByGroups.{easy_create, enter_group_covers}
use Rattle.law_promises.proofs.Loops.{IsGood, all_good, easy_change, easy_request, easy_reschedule, easy_settle, easy_spawn, easy_suspend, enter_covers}
use Rattle.law_promises.proofs.Loops.{exit_covers}
use Rattle.law_promises.proofs.Owed.{count_cons, covers, easy_then}
use Rattle.law_promises.specs.Owed.{IsCovered, IsRight, is_expiring, owed, owes_timeout, owes_group, takes_no_more}

-- ---- nothing is owed to a task that wasn't made
off : (b : Bool) → (b && false) ≡ false
off true = refl
off false = refl

off_inside : (a b d : Bool) → (a && (b && (false && d))) ≡ false
off_inside true true d = refl
off_inside true false d = refl
off_inside false b d = refl

off_last : (a b c : Bool) → (a && (b && (c && false))) ≡ false
off_last true true true = refl
off_last true true false = refl
off_last true false c = refl
off_last false b c = refl

count_none : {X : Type 0} (f : X → Bool) (xs : List X) (d : X) → ((i : ℕ) → i < length xs → f (slice_index_or xs i d) ≡ false) → count_by f xs ≡ 0
count_none f [] d h = refl
count_none f (x ∷ xs) d h =
    let a = count_cons f x xs in
    let b : ◌≡◌ {A = ℕ} (cond (f x) 1 0) 0 = ap (λ b. cond b 1 0) (h 0 (omega arith)) in
    let ih = count_none f xs d (λ i w. h (suc i) (omega (arith, w))) in
    omega (arith, a, b, ih)

closed : (state : TimeoutState) → is_open state ≡ false → is_expiring state ≡ false
closed Created h = refl
closed Active h = refl
closed Expiring h = absurd (false≢true (sym h))
closed Expired h = refl
closed Finished h = refl

no_blocks : (program : Program) → open_blocks program 0 [] [] ≡ []
unfolding course
no_blocks program = refl

-- a group that may still take its request back has not ended
unended : (profile : Profile) (it : Group) {told : List ℕ} → IsKeptGroup told it → takes_no_more profile it ≡ false → it.ended ≡ false
unended profile it kept open_ = at profile open_ it.ended refl
  where
    at : (profile : Profile) → takes_no_more profile it ≡ false → (b : Bool) → it.ended ≡ b → it.ended ≡ false
    at profile h false e = e
    at Two h true e = h
    at One h true e = absurd (false≢true (sym h ∙ kept.ended_exiting e))

-- one whose exit has not begun may take it back
untaken : (profile : Profile) (it : Group) {told : List ℕ} → IsKeptGroup told it → it.exiting ≡ false → takes_no_more profile it ≡ false
untaken One it kept e = e
untaken Two it kept e = unended One it kept e

module _ {S : Type 0} (s : State S) (running : Option ℕ) (told : ℕ → List ℕ) (loop : IsSound running told s.loop) (blocks : AreBlocksOpen s)
    (generators : length s.generators ≡ next_task s.loop.parts) (task : ℕ) (past : next_task s.loop.parts ≤ task) where
  unmade_blocks : blocks_of s task ≡ []
  unmade_blocks =
      ap (λ (it : Generator). open_blocks s.program it.coroutine it.arguments it.tape)
      (past_default s.generators task (generator 0 []) (omega (arith, past, generators)))
      ∙ no_blocks s.program

  timeouts_none : (id : ℕ) → id < length s.loop.timeouts → owes_timeout task (timeout_of s.loop id) ≡ false
  timeouts_none id w = at ((timeout_of s.loop id).task == task) refl
    where
      at : (b : Bool) → ((timeout_of s.loop id).task == task) ≡ b → owes_timeout task (timeout_of s.loop id) ≡ false
      at false e = ap (λ b. is_expiring (timeout_of s.loop id).state && b) e ∙ off (is_expiring (timeout_of s.loop id).state)
      at true e =
          ap (λ b. b && ((timeout_of s.loop id).task == task))
          (closed (timeout_of s.loop id).state (blocks.timeouts id w
          ∙ ap (λ k. has_open s k (Timeout id)) (eqb-true (timeout_of s.loop id).task task e) ∙ ap (list_any (equal (Timeout id))) unmade_blocks))

  groups_none : (id : ℕ) → id < length s.loop.groups → owes_group s.loop.profile task (group_of s.loop id) ≡ false
  groups_none id w = at it.entered refl (takes_no_more s.loop.profile it) refl (it.parent == task) refl
    where
      it : Group
      it = group_of s.loop id

      over : Bool
      over = takes_no_more s.loop.profile (group_of s.loop id)

      at : (a : Bool) → (group_of s.loop id).entered ≡ a → (x : Bool) → takes_no_more s.loop.profile (group_of s.loop id) ≡ x
          → (p : Bool) → ((group_of s.loop id).parent == task) ≡ p → owes_group s.loop.profile task (group_of s.loop id) ≡ false
      at false e x f p g = ap (λ b. b && (it.requested && (not over && (it.parent == task)))) e
      at true e true f p g =
          ap (λ b. it.entered && (it.requested && (not b && (it.parent == task)))) f ∙ off_inside it.entered it.requested (it.parent == task)
      at true e false f false g =
          ap (λ b. it.entered && (it.requested && (not over && b))) g ∙ off_last it.entered it.requested (not over)
      at true e false f true g =
          absurd (
          let l = (loop.groups id).tellings.parent_lives e (unended s.loop.profile it (loop.groups id).kept f) in
          let a = lives_within s.loop.parts (group_of s.loop id).parent l in
          let b = eqb-true (group_of s.loop id).parent task g in
          omega (arith, a, b, past))

  unmade_owed : owed s.loop task ≡ 0
  unmade_owed =
      let a = count_none (owes_timeout task) s.loop.timeouts no_timeout timeouts_none in
      let b = count_none (owes_group s.loop.profile task) s.loop.groups (new_group 0) groups_none in
      omega (arith, a, b)

pub right_of : {S : Type 0} (s : State S) (running : Option ℕ) (told : ℕ → List ℕ) → IsSound running told s.loop → AreBlocksOpen s
    → length s.generators ≡ next_task s.loop.parts → IsRight s.loop
right_of s running told loop blocks generators = record {
  made = λ task h. own_there s.loop.parts loop.parts.owns task h;
  fresh = λ task past. unmade_owed s running told loop blocks generators task past;
}

-- ---- replies
abbrev pub Covers : {S : Type 0} → RequestReply S → Type 0
Covers it = IsCovered (reply_state it).loop

some_is : (a b : ℕ) → Some a ≡ Some b → a ≡ b
some_is a b e = ap (λ o. option_map_or (λ (x : ℕ). x) o a) e

replied_in : {S : Type 0} (input : Input) (s : State S) → IsCovered s.loop → Covers (replied input s)
replied_in (Send value) s c = c
replied_in (Throw fault) s c = c

waits_in : {S : Type 0} (task on : ℕ) (s : State S) → IsRight s.loop → IsCovered s.loop → IsCovered (waits task on s).loop
waits_in task on s right c = covers s.loop (book (suspend task on) s.loop) (easy_suspend task on s.loop) right c

timed_out_in : {S : Type 0} (b : Bool) (l : Loop) (s : State S) → IsCovered l → Covers (timed_out_if b (with_loop l s))
timed_out_in true l s c = c
timed_out_in false l s c = c

pub exits_in : {S : Type 0} (answer : GroupExit) (task id : ℕ) (l : Loop) (s : State S) → IsRight l → IsCovered l
    → Covers (exits_as answer task id (with_loop l s))
exits_in (Waits on) task id l s right c = waits_in task on (with_loop l s) right c
exits_in Passes task id l s right c = c
exits_in (RaisedBy fault) task id l s right c = c

-- what is added, where what wakes it does so
abbrev WakeCovers : {S : Type 0} → Wake S → Type 0
WakeCovers {S} wake = (key : ℕ) (input : Input) (t : State S) → IsGood t.loop → Covers (wake key input t)

until_in : {S : Type 0} (o : Option Outcome) (wake : Wake S) (task on key : ℕ) (s : State S) → WakeCovers wake → IsGood s.loop
    → Covers (serves_until o wake task on key s)
until_in (Some outcome) wake task on key s each is = each key (input_of outcome) s is
until_in None wake task on key s each is = waits_in task on s is.right is.covered

-- an ask leaves the loop as it is, and so does the end of the run there
asked_in : {S : Type 0} (it : Call) (next : Answer → State S → RequestReply S) (s : State S) → IsGood s.loop
    → ((answer : Answer) (t : State S) → IsGood t.loop → Covers (next answer t)) → Covers (ask_so Halts it next s)
asked_in {S} it next s is each = by s.answers
  where
    fit : (b : Bool) (answer : Answer) (t : State S) → IsGood t.loop → Covers (fitted_so Halts b it answer next t)
    fit true answer t good = each answer t good
    fit false answer t good = good.covered

    by : (entries : List Entry) → Covers (answered_so Halts entries it next (noted (event.Called it) s))
    by [] = is.covered
    by (Refused line cause ∷ entries) = is.covered
    by (Answered answer ∷ entries) = fit (fits it answer) answer _ is

serves_in : {S : Type 0} (answer : ExtraAnswer) (wake : Wake S) (task : ℕ) (s : State S) → WakeCovers wake → IsGood s.loop
    → Covers (serves_as answer wake task s)
serves_in (extra.Answers value) wake task s each is = is.covered
serves_in (extra.Raises fault) wake task s each is = is.covered
serves_in (extra.Waits on key) wake task s each is = until_in (ended s on) wake task on key s each is
serves_in (extra.Asks number bytes key) wake task s each is =
    asked_in (call.Extra number bytes) (λ said. wake key (input_by said)) s is (λ said t good. each key (input_by said) t good)

said_in : {S : Type 0} (said : ExtraSaid S) (wake : Wake S) (task : ℕ) (s : State S) → WakeCovers wake → IsGood s.loop
    → Covers (serves said wake task s)
said_in said wake task s each is = serves_in said.answer wake task (called said.call s) each (all_good said.call.steps s.loop is)

woken_within_in : {S : Type 0} (added : Extra S) (wakes task : ℕ) → WakeCovers (woken_within added wakes task)
woken_within_in added zero task key input s is = is.covered
woken_within_in added (suc wakes) task key input s is =
    said_in (added.wake key input s) (woken_within added wakes task) task s (woken_within_in added wakes task) is

woken_in : {S : Type 0} (added : Extra S) (task : ℕ) → WakeCovers (woken added task)
woken_in added task key input s is = woken_within_in added (suc (added.wakes_left key s.extra)) task key input s is

pub decides_in : {S : Type 0} (added : Extra S) (resume_point : ResumePoint) (task : ℕ) (input : Input) (s : State S) → AreStreamsFutures s → (asked : Request)
    → stands_at resume_point asked ≡ true → ((group : ℕ) → resume_point ≡ Leaving group → MayEnd group s.loop) → IsGood s.loop
    → Covers (decides added resume_point task input s)
decides_in added Asked task input s kept asked may leaving is = replied_in input s is.covered
decides_in added (Sleeping tag) task input s kept asked may leaving is = replied_in input s is.covered
decides_in added (Leaving group) task input s kept asked may leaving is =
    exits_in (exit_woken input group s.loop).answer task group (exit_woken input group s.loop).loop s (woken_right input group s.loop is.right)
    (woken_covers group input s.loop (λ two. leaving group refl) is.right is.covered)
decides_in added (Serving key) task input s kept asked may leaving is = woken_in added task key input s is
decides_in added (Connecting conn) task input s kept asked may leaving is =
    decides_covers added task s is.right is.covered kept asked (Connecting conn) input refl may
decides_in added (Yielding whom) task input s kept asked may leaving is =
    decides_covers added task s is.right is.covered kept asked (Yielding whom) input refl may
decides_in added (Reading from op on) task input s kept asked may leaving is =
    decides_covers added task s is.right is.covered kept asked (Reading from op on) input refl may
decides_in added (ReadingAll from taken on) task input s kept asked may leaving is =
    decides_covers added task s is.right is.covered kept asked (ReadingAll from taken on) input refl may

-- ---- the table
module _ {S : Type 0} (added : Extra S) (task : ℕ) (s : State S) (step : IsStepSound added task s) (c : IsCovered s.loop) where
  right : IsRight s.loop
  right = right_of s (Some task) _ step.others.loop step.others.blocks step.others.generators

  runs : lives s.loop.parts task ≡ true
  runs = step.others.loop.parts.runs task (eq-eqb task task refl)

  timeout_in : (value : Value) (raised : Option Exc) → says_of step_limit added task s ≡ Asks (request.TimeoutExit value raised) → (id : ℕ)
      → as_timeout value ≡ Some id → Covers (exits_timeout raised id s)
  timeout_in value raised said id e =
      let r = innermost_timeout added task s (step.others.blocks.entered task) value raised said in
      let same : r.0 ≡ id = some_is r.0 id (sym (ap as_timeout r.1) ∙ e) in
      let mine = (subst (AreBlocksOf s.loop task) r.2.1 (step.others.blocks.own task)).0 in
      let its : (timeout_of s.loop id).task ≡ task = ap (λ k. (timeout_of s.loop k).task) (sym same) ∙ mine.1 in
      timed_out_in (exit_timeout raised id s.loop).timed_out (exit_timeout raised id s.loop).loop s
      (exit_covers raised id s.loop (ap (lives s.loop.parts) its ∙ runs) right c)

  group_in : (value : Value) (raised : Option Exc) → says_of step_limit added task s ≡ Asks (request.GroupExit value raised) → (id : ℕ)
      → as_group value ≡ Some id → Covers (exits_group (exit_begin raised id s.loop) task id s)
  group_in value raised said id e =
      let f = fits_in added task s step (request.GroupExit value raised) said refl id e in
      let kept = (step.others.loop.groups id).kept in
      let living = (step.others.loop.groups id).tellings.parent_lives f.1 (unended One (group_of s.loop id) kept f.2) in
      exits_in (exit_begin raised id s.loop).answer task id (exit_begin raised id s.loop).loop s (begin_right raised id s.loop right)
      (begin_covers raised id s.loop f.0 f.1 (untaken s.loop.profile (group_of s.loop id) kept f.2) living right c)

  alarm_in : (delay : ℕ) → Covers (sleeps_for task (pos (suc delay)) s)
  alarm_in delay =
      let alarm = in_parts (alarmed task (pos (suc delay))) s.loop in
      let on = next_future s.loop.parts in
      covers s.loop (book (suspend task on) alarm)
      (easy_then s.loop alarm (book (suspend task on) alarm)
      (easy_then s.loop (in_parts new_plain s.loop) alarm (easy_change 0 (OfParts (MakesFuture Plain)) s.loop tt)
      (easy_change 0 (OfParts (CallsLater _ _)) (in_parts new_plain s.loop) tt))
      (easy_suspend task on alarm)) right c

  case_in : (asked : Request) (it : RequestReply S) → says_of step_limit added task s ≡ Asks asked → Replies added task s asked it → Covers it
  case_in asked it said (raises fault f) = c
  case_in asked it said (leaves_none timeout raised fault e) = c
  case_in asked it said (exits_none group raised fault e) = c
  case_in asked it said (tells value none b) = c
  case_in asked it said names_itself = c
  case_in asked it said (hands_on on outcome e b) = replied_in (input_of outcome) s c
  case_in asked it said (pauses_on may b) = covers s.loop _ (easy_change 0 (OfParts (CallsSoon (Step task))) s.loop refl) right c
  case_in asked it said (alarms x delay) = alarm_in delay
  case_in asked it said (awaits x on e none) = waits_in task on s right c
  case_in asked it said (prints values) = c
  case_in asked it said (makes few) = covers s.loop _ (easy_change 0 (OfParts (MakesFuture Plain)) s.loop tt) right c
  case_in asked it said (sets future value on e) = covers s.loop _ (easy_settle on (Returned value) s.loop) right c
  case_in asked it said (fails future fault on raised e) = covers s.loop _ (easy_settle on (Failed raised) s.loop) right c
  case_in asked it said (cancels x on) = covers s.loop (book (ask_cancel (ByScript task) on) s.loop) (easy_request (ByScript task) on s.loop) right c
  case_in asked it said (uncancels x other) = hand_covers s.loop (ByScript task) other refl right c
  case_in asked it said (spawns_it coroutine arguments few) = covers s.loop (in_parts spawn s.loop) (easy_spawn s.loop) right c
  case_in asked it said (enters x delay few) = enter_covers task delay s.loop few right c
  case_in asked it said (leaves timeout raised id e) = timeout_in timeout raised said id e
  case_in asked it said (moves timeout x id when e) = covers s.loop (reschedule id when s.loop) (easy_reschedule id when s.loop) right c
  case_in asked it said (enters_one few) = enter_group_covers task s.loop few right c
  case_in asked it said (exits group raised id e) = group_in group raised said id e
  case_in asked it said (creates_it group id coroutine arguments few e) = covers s.loop (create id s.loop) (easy_create id s.loop) right c
  case_in asked it said (serves_it code arguments number items) =
      said_in (added.ask task number items s) (woken added task) task s (woken_in added task) (record { right = right; covered = c })

  pub reply_in : (asked : Request) → says_of step_limit added task s ≡ Asks asked → Covers (reply added task asked s)
  reply_in asked said = at (is_to_streams asked) refl
    where
      at : (b : Bool) → is_to_streams asked ≡ b → Covers (reply added task asked s)
      at true is = streams_covers s right c task Asked asked (reply added task asked s) (streams_reply added task s step.others.streams asked is)
      at false is = case_in asked (reply added task asked s) said (reply_is added task s asked is)
