-- What is added makes allowed steps alone: then its requests, their waits, its handles and its news keep states sound.
use Rattle.std.proofs.Common.{◌≡◌, ℕ, ℤ, ◌<◌, zero, suc, Bool, true, false, List, [], ◌∷◌, ◌++◌, Option, Some, None, length, slice_index_or, refl, sym}
use Rattle.std.proofs.Common.{ap, subst, ◌∙◌}
use Rattle.std.specs.List.{list_all}
use Rattle.std.specs.Option.{option_map_or}
use Rattle.std.proofs.lemmas.Bool.{false≢true}
use Rattle.std.proofs.lemmas.Option.{none-some}
use Rattle.model_value.specs.Input.{Input}
use Rattle.model_value.specs.Request.{Request}
use Rattle.model_value.specs.Value.{Value, Items, Exc, Outcome, list_of}
use Rattle.model_value.specs.declared.input.Input.TheVariants.{Send, Throw}
use Rattle.model_value.specs.declared.request.Request.TheVariants as request
use Rattle.model_says.specs.Endings.{Asks, saying_of}
use Rattle.model_says.specs.Requests.{bad_argument}
use Rattle.model_says.specs.Says.{course, step_limit}
use Rattle.model_wire.specs.declared.call.Call.TheVariants as call
use Rattle.model_wire.specs.declared.event.Event.TheVariants as event
use Rattle.model_wire.specs.Call.{Answer, Call}
use Rattle.model_wire.specs.Fits.{fits}
use Rattle.model_wire.specs.Journal.{Entry, Answered, Refused}
use Rattle.model_loop.specs.Futures.{future_outcome}
use Rattle.model_loop.specs.Sound.{IsSound}
use Rattle.model_loop.specs.Suspend.{suspend}
use Rattle.model_loop.specs.Tasks.{lives}
use Rattle.model_machine.specs.Arguments.{as_int, as_list}
use Rattle.model_machine.specs.Extra as extra
use Rattle.model_machine.specs.Extra.{Extra, ExtraAnswer, ExtraCall, ExtraSaid, called, key_of, made_by_all}
use Rattle.model_machine.specs.Outcomes.{input_of}
use Rattle.model_machine.specs.Replies.{RequestReply, Halts, Wake, ended, given, input_by, reply, serves, serves_as, serves_until, waits, woken, woken_within}
use Rattle.model_machine.specs.Sound.{IsFree, IsOpenedAt, IsStateSound, StandsRightly, blocks_of, ids_of, names_made, sends_made}
use Rattle.model_machine.specs.State.{Asked, Sleeping, Leaving, Serving, Generator, State, generator, generator_of, in_loop, noted, resumed}
use Rattle.model_machine.specs.State.{stands}
use Rattle.model_machine.specs.Step.{says_of}
use Rattle.model_machine.specs.Told.{told_in}
use Rattle.model_machine.specs.Went.{answered_so, ask_so, fitted_so}
use Rattle.law_sound.proofs.Steps.{suspend_step_sound}
use Rattle.law_turns.specs.After.{IsLoopAfter}
use Rattle.law_turns.proofs.Loops.{book_loop, refl_loop}
use Rattle.law_turns.proofs.Requests.{suspend_after}
use Rattle.law_turns.proofs.TreeSteps.{told_in-none}
use Rattle.law_turns.proofs.Turning.{as_told}
use Rattle.law_replies.specs.InStep.{IsAsked, IsStepSound, MayStandAt, RepliesInStep, SameTapes}
use Rattle.law_replies.proofs.Blocks.{open_kept}
use Rattle.law_replies.proofs.Counts.{get_there, lives_before}
use Rattle.law_says.specs.Given.{InSaying}
use Rattle.law_replies.proofs.Given.{Made, asked_leaves, ended_made, made_closed, of_all, said_made}
use Rattle.law_replies.proofs.Ids.{loop_more}
use Rattle.law_replies.proofs.Keeping.{futures_kept, leaves_none, loop_keeps, open_of, says_same, stays_stood, stood_resume_point, tapes_blocks, with_open}
use Rattle.law_replies.proofs.Kept.{futures_stay}
use Rattle.law_replies.proofs.Nobody.{nobody, over_as}
use Rattle.law_replies.specs.Added.{KeepsSound}
use Rattle.law_replies.proofs.Answering.{half, left_before, pending_of, suspended_stood, step_to, within}
use Rattle.law_replies.proofs.Table.{same_tapes, thrown}
use Rattle.law_runs.specs.Allowed.{IsAnswerAllowed, IsCallAllowed, IsSaidAllowed, MakesAllowedSteps, owns_at}
use Rattle.law_runs.proofs.Called.{IsWokenFree, answer_sends, called_kept, extra_replaced, keys_act, keys_called, may_call, none_free, said_free}
use Rattle.law_runs.proofs.Steps.{all_after, all_sound}

serving_leaves : (key id : ℕ) → Serving key ≡ Leaving id → ⊥
serving_leaves key id e = absurd (cc)

serving_sleeps : (key tag : ℕ) → Serving key ≡ Sleeping tag → ⊥
serving_sleeps key tag e = absurd (cc)

some_is : (a b : ℕ) → Some a ≡ Some b → a ≡ b
some_is a b e = ap (λ o. option_map_or (λ (x : ℕ). x) o a) e

no_pause : {code arguments : Value} → Asks request.Pause ≡ Asks (request.Extra code arguments) → ⊥
no_pause e = absurd (cc)

-- before its first input a task asks for a pause
pause_first : {S : Type 0} (added : Extra S) (task : ℕ) (s : State S) → (generator_of task s).tape ≡ []
    → says_of step_limit added task s ≡ Asks request.Pause
unfolding course
pause_first added task s e =
    ap (λ tape. saying_of (course step_limit s.program (generator_of task s).coroutine (generator_of task s).arguments tape)) e

-- nothing more is to be said of what the task stood at
as_asked : {S : Type 0} (added : Extra S) (task key : ℕ) (asked : Request) (s : State S) → IsAsked added task (Serving key) asked s
    → IsAsked added task Asked asked s
as_asked added task key asked s is = record {
  others = is.others;
  resume_point = is.resume_point;
  says = is.says;
  exits = λ id e mine. absurd (serving_leaves key id (is.exits id e mine));
  alone = tt;
}

module _ {S : Type 0} (added : Extra S) (task : ℕ) (code arguments : Value) where
  -- ---- after steps of the loop, which leave the tapes as they are, the coroutine asks as before
  module _ (s t : State S) (tapes : SameTapes s t) (futures : t.futures ≡ s.futures) (done : t.main_done ≡ s.main_done)
      (moved : IsLoopAfter (names_made (ids_of s)) false (Some task) None None None s.loop t.loop)
      (sound : IsSound (Some task) (told_in t.events) t.loop) (is : IsAsked added task Asked (request.Extra code arguments) s) where
    same_at : generator_of task t ≡ generator_of task s
    same_at = ap (λ gs. slice_index_or gs task (generator 0 [])) tapes.generators

    over : t.main_done ≡ true → lives t.loop.parts 0 ≡ false
    over now = at (lives t.loop.parts 0) refl
      where
        at : (b : Bool) → lives t.loop.parts 0 ≡ b → lives t.loop.parts 0 ≡ false
        at false e = e
        at true e =
            absurd (false≢true (sym (is.others.main_over (sym done ∙ now))
            ∙ lives_before _ _ (Some task) s.loop.parts t.loop.parts moved.parts is.others.loop.parts.owns 0 is.others.main_told.made e))

    asked_on : IsAsked added task Asked (request.Extra code arguments) t
    asked_on = record {
      others = with_open added (Some task) (Some task) t
          (loop_keeps added s t tapes (Some task) (Some task) (Some task) (Some task) moved.parts (moved.parts.same refl)
          (loop_more s t tapes moved) sound (λ other f. f) over
          (stays_stood added s t tapes (Some task) (Some task) (Some task) (Some task) _ _ None None None moved (λ other id f e r. refl))
          (leaves_none added s t tapes (Some task) (Some task) (Some task) (Some task) _ _ None None None moved (λ id f. (refl, refl)))
          (futures_kept s t futures tapes.streams (λ id h. moved.parts.plain id h) is.others.futures)
          (half added task Asked (request.Extra code arguments) s is))
          (open_kept _ _ (Some task) None s.loop t.loop (blocks_of s) (blocks_of t) moved
          (tapes_blocks added s t tapes (Some task) (Some task) (Some task) (Some task)) (open_of added (Some task) (Some task) s is.others.blocks));
      resume_point = ap (λ (g : Generator). g.resume_point) same_at ∙ is.resume_point;
      says = says_same added s t tapes.program task same_at ∙ is.says;
      exits = λ id e mine. is.exits id (left_before s t _ _ (Some task) None None None moved id refl refl e) (mine ∙ (moved.groups id).parent);
      alone = tt;
    }

  -- the steps of a call, and its new state
  called_in : (woken : Option ℕ) (s : State S) (call : ExtraCall S) → IsWokenFree s.generators woken → IsCallAllowed added woken call s
      → IsAsked added task Asked (request.Extra code arguments) s → IsAsked added task Asked (request.Extra code arguments) (called call s)
  called_in woken s call free may is =
      let own = owns_at (ids_of s) (added.keeps s.extra) s.loop.parts in
      let t = in_loop (made_by_all call.steps) s in
      let on = asked_on s t (record { program = refl; generators = refl; streams = refl; extra = refl; scripts = futures_stay }) refl refl
      (all_after (Some task) own call.steps s.loop may.steps)
      (all_sound (Some task) (told_in s.events) own call.steps s.loop may.steps is.others.loop) is in
      record {
        others = extra_replaced added (Some task) (Some task) t call.state (called_kept added woken call s may)
            (keys_called added woken call s free may is.others.keys) on.others;
        resume_point = on.resume_point;
        says = on.says;
        exits = on.exits;
        alone = tt;
      }

  -- a call on the outside, and its answer
  abbrev gotten : Call → Answer → List Entry → State S → State S
  gotten call answer left s = noted (event.Got answer) (record (noted (event.Called call) s) { answers = left })

  gotten_in : (call : Call) (answer : Answer) (left : List Entry) (s : State S) → IsAsked added task Asked (request.Extra code arguments) s
      → IsAsked added task Asked (request.Extra code arguments) (gotten call answer left s)
  gotten_in call answer left s is =
      let asked = s.events ++ event.Called call ∷ [] in
      asked_on s (gotten call answer left s) (record { program = refl; generators = refl; streams = refl; extra = refl; scripts = futures_stay }) refl refl
      (refl_loop (names_made (ids_of s)) refl false (Some task) None None None s.loop)
      (as_told (Some task) (told_in s.events) (told_in (asked ++ event.Got answer ∷ [])) s.loop
      (λ group. told_in-none asked (event.Got answer ∷ []) (λ any. refl) group
      ∙ told_in-none s.events (event.Called call ∷ []) (λ any. refl) group) is.others.loop) is

  -- ---- it is answered
  pub answered_in : (fresh : Bool) (s : State S) → IsAsked added task Asked (request.Extra code arguments) s → (input : Input)
      → sends_made (ids_of s) input ≡ true → IsStepSound added task (resumed fresh task input s)
  answered_in fresh s is input good =
      step_to added task Asked (request.Extra code arguments) s is s (same_tapes s s.loop) is.others.futures refl refl
      (refl_loop (names_made (ids_of s)) refl false (Some task) None None None s.loop) is.others.loop asked_leaves
      fresh input (λ b. refl) refl good

  -- ---- or its task waits
  module _ (s : State S) (is : IsAsked added task Asked (request.Extra code arguments) s) (on key : ℕ) (there : on < length s.loop.parts.futures)
      (open_ : future_outcome s.loop.parts on ≡ None) (free : MayStandAt (added.keeps s.extra).has_key s.generators (Serving key)) where
    abbrev u : State S
    u = waits task on s

    after : IsLoopAfter (names_made (ids_of s)) false (Some task) None None None s.loop (waits task on s).loop
    after =
        book_loop (names_made (ids_of s)) refl false (Some task) None None None (suspend task on) s.loop
        (suspend_after (names_made (ids_of s)) false (Some task) task on s.loop.parts)

    stood_so : (generator_of task (stands (Serving key) task (waits task on s))).resume_point ≡ Serving key
    stood_so = stood_resume_point added task (Serving key) (waits task on s) (within added task Asked (request.Extra code arguments) s is)

    rightly : StandsRightly (stands (Serving key) task (waits task on s)) task
    rightly = record {
      sleeping = λ tag e. absurd (serving_sleeps key tag (sym stood_so ∙ e));
      leaving = λ id e. absurd (serving_leaves key id (sym stood_so ∙ e));
      leaving_now = λ id e. absurd (serving_leaves key id (sym stood_so ∙ e));
      opened = subst (IsOpenedAt s.streams) (sym stood_so) tt;
    }

    pub waits_in : IsStateSound added (stands (Serving key) task (waits task on s))
    waits_in =
        let f = get_there s.loop.parts.futures on there in
        suspended_stood added task Asked (request.Extra code arguments) s is u (same_tapes s u.loop)
        (futures_kept s u refl refl (λ id h. after.parts.plain id h) is.others.futures) refl (after.parts.same refl) (Serving key) free None after
        (suspend_step_sound (told_in s.events) task on s.loop (pending_of s on f.0 f.1 open_) is.others.loop) (λ id f. refl)
        (λ e. no_pause (sym (pause_first added task s e) ∙ is.says)) refl rightly
        (λ id e mine. absurd (asked_leaves id (is.exits id (left_before s u _ _ (Some task) None None None after id refl refl e) (mine ∙ (after.groups id).parent))))

  -- ---- what comes of it, where what wakes it does as well
  abbrev Wakes : Bool → Wake S → Type 0
  Wakes fresh wake =
      (key : ℕ) (input : Input) (s : State S) → sends_made (ids_of s) input ≡ true
      → MayStandAt (added.keeps s.extra).has_key s.generators (Serving key) → IsAsked added task Asked (request.Extra code arguments) s
      → RepliesInStep added fresh task (wake key input s)

  until_in : (fresh : Bool) (o : Option Outcome) (wake : Wake S) (s : State S) (on key : ℕ) → Wakes fresh wake
      → MayStandAt (added.keeps s.extra).has_key s.generators (Serving key)
      → IsAsked added task Asked (request.Extra code arguments) s → on < length s.loop.parts.futures → ended s on ≡ o
      → RepliesInStep added fresh task (serves_until o wake task on key s)
  until_in fresh (Some outcome) wake s on key each free is there e =
      each key (input_of outcome) s
      (ended_made added (Some task) (Some task) s (half added task Asked (request.Extra code arguments) s is) on outcome e) free is
  until_in fresh None wake s on key each free is there e = waits_in s is on key there e free

  -- an ask ends the run, or the coroutine asks as before
  asked_in : (fresh : Bool) (it : Call) (next : Answer → State S → RequestReply S) (s : State S)
      → IsAsked added task Asked (request.Extra code arguments) s
      → ((answer : Answer) (left : List Entry) → IsAsked added task Asked (request.Extra code arguments) (gotten it answer left s)
      → RepliesInStep added fresh task (next answer (gotten it answer left s)))
      → RepliesInStep added fresh task (ask_so Halts it next s)
  asked_in fresh it next s is each = by s.answers
    where
      fit : (b : Bool) (answer : Answer) (left : List Entry) → RepliesInStep added fresh task (fitted_so Halts b it answer next (gotten it answer left s))
      fit true answer left = each answer left (gotten_in it answer left s is)
      fit false answer left = tt

      by : (entries : List Entry) → RepliesInStep added fresh task (answered_so Halts entries it next (noted (event.Called it) s))
      by [] = tt
      by (Refused line cause ∷ entries) = tt
      by (Answered answer ∷ entries) = fit (fits it answer) answer entries

  serves_in : (fresh : Bool) (answer : ExtraAnswer) (wake : Wake S) (s : State S) → IsAnswerAllowed answer s → Wakes fresh wake
      → ((key : ℕ) → key_of answer ≡ Some key → MayStandAt (added.keeps s.extra).has_key s.generators (Serving key))
      → IsAsked added task Asked (request.Extra code arguments) s → RepliesInStep added fresh task (serves_as answer wake task s)
  serves_in fresh (extra.Answers value) wake s may each free is = answered_in fresh s is (Send value) may
  serves_in fresh (extra.Raises fault) wake s may each free is = answered_in fresh s is (Throw fault) refl
  serves_in fresh (extra.Waits on key) wake s may each free is = until_in fresh (ended s on) wake s on key each (free key refl) is may refl
  serves_in fresh (extra.Asks number bytes key) wake s may each free is =
      asked_in fresh (call.Extra number bytes) (λ said. wake key (input_by said)) s is
      (λ said left asks. each key (input_by said) (gotten (call.Extra number bytes) said left s) (answer_sends (ids_of s) said)
      (free key refl) asks)

  pub said_in : (fresh : Bool) (woken : Option ℕ) (said : ExtraSaid S) (wake : Wake S) (s : State S) → IsWokenFree s.generators woken
      → IsSaidAllowed added woken said s → Wakes fresh wake → IsAsked added task Asked (request.Extra code arguments) s
      → RepliesInStep added fresh task (serves said wake task s)
  said_in fresh woken said wake s free may each is =
      serves_in fresh said.answer wake (called said.call s) may.answer each (said_free added woken said s free may is.others.keys)
      (called_in woken s said.call free may.call is)

  module _ (allowed : MakesAllowedSteps added) where
    within_in : (fresh : Bool) (wakes : ℕ) → Wakes fresh (woken_within added wakes task)
    within_in fresh zero key input s good free is = tt
    within_in fresh (suc wakes) key input s good free is =
        said_in fresh (Some key) (added.wake key input s) (woken_within added wakes task) s
        (λ other same. subst (IsFree s.generators) (some_is key other same) free.0)
        (allowed.wake task key input s (may_call added (Some task) (Some task) s is.others) free.1 good)
        (within_in fresh wakes) is

    pub woken_in : (fresh : Bool) → Wakes fresh (woken added task)
    woken_in fresh key input s good free is = within_in fresh (suc (added.wakes_left key s.extra)) key input s good free is

-- ---- a task's request
module _ {S : Type 0} (added : Extra S) (allowed : MakesAllowedSteps added) (task : ℕ) (code arguments : Value) (s : State S)
    (is : IsAsked added task Asked (request.Extra code arguments) s) where
  raised : (fault : Exc) → IsStepSound added task (resumed false task (Throw fault) s)
  raised = thrown added task s (request.Extra code arguments) is (λ b f. refl) (λ f. refl)

  asks_in : RepliesInStep added false task (reply added task (request.Extra code arguments) s)
  unfolding reply
  asks_in = number (as_int code)
    where
      given_ : names_made (ids_of s) arguments ≡ true
      given_ =
          subst (InSaying (Made (ids_of s))) is.says
          (said_made added (Some task) (Some task) s (half added task Asked (request.Extra code arguments) s is) task)

      arguments_made : (it : Value) (values : List Value) → names_made (ids_of s) it ≡ true → as_list it ≡ Some values
          → list_all (names_made (ids_of s)) values ≡ true
      arguments_made (Items items) values made e =
          subst (λ l. list_all (names_made (ids_of s)) l ≡ true)
          (ap (λ o. option_map_or (λ (l : List Value). l) o values) e)
          (of_all (ids_of s) (list_of items) ((made_closed (ids_of s)).held items made))
      arguments_made _ values made e = absurd (none-some values e)

      items : (n : ℤ) (o : Option (List Value)) → as_list arguments ≡ o
          → RepliesInStep added false task (given o (λ items now. serves (added.ask task n items now) (woken added task) task now) s)
      items n None e = raised bad_argument
      items n (Some values) e =
          said_in added task code arguments false None (added.ask task n values s) (woken added task) s
          (none_free s.generators)
          (allowed.ask task n values s (may_call added (Some task) (Some task) s is.others) (arguments_made arguments values given_ e))
          (woken_in added task code arguments allowed false) is

      number : (o : Option ℤ)
          → RepliesInStep added false task
          (given o (λ n. given (as_list arguments) (λ items now. serves (added.ask task n items now) (woken added task) task now)) s)
      number None = raised bad_argument
      number (Some n) = items n (as_list arguments) refl

-- ---- a handle of its own, and news
called_sound : {S : Type 0} (added : Extra S) (s : State S) (call : ExtraCall S) → IsCallAllowed added None call s → IsStateSound added s
    → IsStateSound added (called call s)
called_sound added s call may sound =
    let own = owns_at (ids_of s) (added.keeps s.extra) s.loop.parts in
    let t = in_loop (made_by_all call.steps) s in
    let a = all_after None own call.steps s.loop may.steps in
    extra_replaced added None None t call.state (called_kept added None call s may) (keys_act added call s may sound.keys)
    (nobody added s sound t (record { program = refl; generators = refl; streams = refl; extra = refl; scripts = futures_stay }) refl
    (over_as added s sound (made_by_all call.steps s.loop) a) a (all_sound None (told_in s.events) own call.steps s.loop may.steps sound.loop))

pub allowed_keeps : {S : Type 0} (added : Extra S) → MakesAllowedSteps added → KeepsSound added
allowed_keeps added allowed = record {
  ask = λ task code arguments s step is. asks_in added allowed task code arguments s is;
  wake = λ task key code arguments input s good is.
      woken_in added task code arguments allowed true key input s good is.alone (as_asked added task key (request.Extra code arguments) s is);
  act = λ key s sound. called_sound added s (added.act key s) (allowed.act key s (may_call added None None s sound)) sound;
  item = λ code bytes s sound. called_sound added s (added.item code bytes s) (allowed.item code bytes s (may_call added None None s sound)) sound;
}
