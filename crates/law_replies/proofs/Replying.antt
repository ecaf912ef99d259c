-- Each request of a task in its step is fit, and what it comes to is sound; and so is the end of the task.
use Rattle.std.proofs.Common.{◌≡◌, ℕ, ◌<◌, Bool, true, false, not, List, ◌∷◌, Option, Some, None}
use Rattle.std.proofs.Common.{length, refl, sym, ap, subst, ◌∙◌}
use Rattle.std.specs.Option.{option_map_or}
use Rattle.std.proofs.lemmas.Bool.{eq-eqb, eqb-true, false≢true}
use Rattle.std.proofs.lemmas.Option.{none-some}
use Rattle.model_value.specs.Input.{Input}
use Rattle.model_value.specs.declared.input.Input.TheVariants.{Send, Throw}
use Rattle.model_says.specs.Blocks.{open_with}
use Rattle.model_value.specs.declared.outcome.Outcome.TheVariants.{Value as Returned, Failed}
use Rattle.model_value.specs.declared.request.Request.TheVariants as request
use Rattle.model_value.specs.Request.{Request}
use Rattle.model_value.specs.Value.{Value, Nothing, Exc, Task, Group, Timeout}
use Rattle.model_says.specs.Endings.{Asks}
use Rattle.model_says.specs.Says.{step_limit}
use Rattle.model_wire.specs.declared.event.Event.TheVariants as event
use Rattle.model_loop.specs.Groups.{exit_begin, group_of}
use Rattle.model_loop.specs.Loop.{TimeoutState, Created, Active, Expiring, Expired, Finished}
use Rattle.model_loop.specs.Timeouts.{reschedule, timeout_of}
use Rattle.model_machine.specs.Arguments.{as_group, as_timeout}
use Rattle.model_machine.specs.Extra.{Extra}
use Rattle.model_machine.specs.Replies.{RequestReply, exits_group, exits_timeout, reply, shown_all}
use Rattle.model_machine.specs.Sound.{blocks_of, is_open, ids_of, names_block, names_made}
use Rattle.model_machine.specs.State.{Asked, State, noted, resumed}
use Rattle.model_machine.specs.Step.{says_of}
use Rattle.model_machine.specs.Told.{told_in}
use Rattle.law_says.specs.Given.{InSaying}
use Rattle.law_changes.specs.Telling.{is_open as is_open_there}
use Rattle.law_sound.proofs.Steps.{tags_of_sound}
use Rattle.law_turns.specs.Replied.{RunsSound, RepliesSound, IsFit}
use Rattle.law_turns.proofs.Streaming.{reply_sound}
use Rattle.law_cases.specs.Cases.{Replies, raises, leaves_none, exits_none, tells, names_itself, hands_on, pauses_on, alarms, awaits, prints, makes, sets}
use Rattle.law_cases.specs.Cases.{fails, cancels, uncancels, spawns_it, enters, leaves, moves, enters_one, exits, creates_it, serves_it, is_exit}
use Rattle.law_cases.specs.Cases.{is_of_block}
use Rattle.law_cases.proofs.Cases.{reply_is}
use Rattle.law_turns.proofs.Deadlines.{reschedule_loop}
use Rattle.law_turns.proofs.Exits.{exit_begin_loop, exit_begin_leaves, exit_begin_marks}
use Rattle.law_replies.specs.Added.{KeepsSound}
use Rattle.law_replies.specs.InStep.{IsStepSound, IsAsked, RepliesInStep, is_added}
use Rattle.law_cases.specs.Closed.{is_to_streams}
use Rattle.law_replies.proofs.Streaming.{streams_reply_in}
use Rattle.law_replies.proofs.Answering.{half, alive, awaited_there, plain_futures, step_to}
use Rattle.law_replies.proofs.Counts.{and_both, not_false, lives_within}
use Rattle.law_replies.proofs.Entering.{spawns_in, creates_in, enters_timeout_in, enters_group_in}
use Rattle.law_replies.proofs.Exiting.{timeout_there, timeout_open, exits_timeout_in, group_there, group_entered, group_its, group_unended, exits_in}
use Rattle.law_replies.proofs.Given.{Made, asked_leaves, of_all, said_made}
use Rattle.law_replies.proofs.Ids.{task_made}
use Rattle.law_replies.proofs.Innermost.{innermost_timeout, innermost_group}
use Rattle.law_replies.proofs.Table.{same_tapes, self, thrown, answered, valued, hands_in, pauses_in, waits_in, sleeps_in, settles_in, requests_in}
use Rattle.law_replies.proofs.Table.{uncancels_in, makes_future_in}

same_open : (state : TimeoutState) → is_open state ≡ true → is_open_there state ≡ true
same_open Active h = refl
same_open Expiring h = refl
same_open Created h = absurd (false≢true h)
same_open Expired h = absurd (false≢true h)
same_open Finished h = absurd (false≢true h)

-- ---- what a request that is no exit, or of no block, leaves of the open blocks
throws_plain : (asked : Request) → is_exit asked ≡ false → (blocks : List Value) (fault : Exc) → open_with blocks asked (Throw fault) ≡ blocks
throws_plain (request.TimeoutExit timeout raised) f blocks fault = absurd (false≢true (sym f))
throws_plain (request.GroupExit group raised) f blocks fault = absurd (false≢true (sym f))
throws_plain _ f blocks fault = refl

throws_named : (asked : Request) → is_exit asked ≡ false → (fault : Exc) → names_block asked (Throw fault) ≡ true
throws_named (request.TimeoutEnter delay) f fault = refl
throws_named _ f fault = refl

blocks_plain : (asked : Request) → is_of_block asked ≡ false → (blocks : List Value) (input : Input) → open_with blocks asked input ≡ blocks
blocks_plain (request.TimeoutEnter delay) f blocks input = absurd (false≢true (sym f))
blocks_plain request.GroupEnter f blocks input = absurd (false≢true (sym f))
blocks_plain (request.TimeoutExit timeout raised) f blocks input = absurd (false≢true (sym f))
blocks_plain (request.GroupExit group raised) f blocks input = absurd (false≢true (sym f))
blocks_plain _ f blocks input = refl

blocks_named : (asked : Request) → is_of_block asked ≡ false → (input : Input) → names_block asked input ≡ true
blocks_named (request.TimeoutEnter delay) f input = absurd (false≢true (sym f))
blocks_named request.GroupEnter f input = absurd (false≢true (sym f))
blocks_named _ f input = refl

some_is : (a b : ℕ) → Some a ≡ Some b → a ≡ b
some_is a b e = ap (λ o. option_map_or (λ (x : ℕ). x) o a) e

module _ {S : Type 0} (added : Extra S) (task : ℕ) (s : State S) (step : IsStepSound added task s) where
  pub asked_is : (asked : Request) → says_of step_limit added task s ≡ Asks asked → IsAsked added task Asked asked s
  asked_is asked says = record {
    others = step.others;
    resume_point = step.resume_point;
    says = says;
    exits = λ id e mine. absurd (step.exits id e mine);
    alone = tt;
  }

  pub handed_on : (asked : Request) → says_of step_limit added task s ≡ Asks asked → InSaying (Made (ids_of s)) (Asks asked)
  handed_on asked says =
      subst (InSaying (Made (ids_of s))) says
      (said_made added (Some task) (Some task) s (half added task Asked asked s (asked_is asked says)) task)

  -- ---- each request is fit
  timeout_fit : (value : Value) (raised : Option Exc) → says_of step_limit added task s ≡ Asks (request.TimeoutExit value raised)
      → IsFit (request.TimeoutExit value raised) s
  timeout_fit value raised says id e =
      let r = innermost_timeout added task s (step.others.blocks.entered task) value raised says in
      let same : r.0 ≡ id = some_is r.0 id (sym (ap as_timeout r.1) ∙ e) in
      let is : IsAsked added task Asked (request.TimeoutExit (Timeout r.0) raised) s =
      asked_is (request.TimeoutExit (Timeout r.0) raised) (says ∙ ap (λ v. Asks (request.TimeoutExit v raised)) r.1) in
      subst (λ k. (k < length s.loop.timeouts) × (is_open_there (timeout_of s.loop k).state ≡ true)) same (
        timeout_there added task s raised r.0 is r.2.0 r.2.1,
        same_open (timeout_of s.loop r.0).state (timeout_open added task s raised r.0 is r.2.0 r.2.1),
      )

  group_fit : (value : Value) (raised : Option Exc) → says_of step_limit added task s ≡ Asks (request.GroupExit value raised)
      → IsFit (request.GroupExit value raised) s
  group_fit value raised says id e =
      let r = innermost_group added task s (step.others.blocks.entered task) value raised says in
      let same : r.0 ≡ id = some_is r.0 id (sym (ap as_group r.1) ∙ e) in
      let is : IsAsked added task Asked (request.GroupExit (Group r.0) raised) s =
      asked_is (request.GroupExit (Group r.0) raised) (says ∙ ap (λ v. Asks (request.GroupExit v raised)) r.1) in
      subst (λ k. (k < length s.loop.groups) × ((group_of s.loop k).entered ≡ true) × ((group_of s.loop k).exiting ≡ false)) same (
        group_there added task Asked s raised r.0 is r.2.0 r.2.1,
        group_entered added task Asked s raised r.0 is r.2.0 r.2.1,
        unleft r.0 (group_unended added task Asked s raised r.0 is r.2.0 r.2.1) (sym (group_its added task Asked s raised r.0 is r.2.0 r.2.1)),
      )
    where
      unleft : (k : ℕ) → (group_of s.loop k).ended ≡ false → task ≡ (group_of s.loop k).parent → (group_of s.loop k).exiting ≡ false
      unleft k open_ its = at (group_of s.loop k).exiting refl
        where
          at : (b : Bool) → (group_of s.loop k).exiting ≡ b → (group_of s.loop k).exiting ≡ false
          at false e = e
          at true e = absurd
              (step.exits k (and_both (group_of s.loop k).exiting (not (group_of s.loop k).ended) e (not_false (group_of s.loop k).ended open_)) its)

  pub fits_in : (asked : Request) → says_of step_limit added task s ≡ Asks asked → is_added asked ≡ false → IsFit asked s
  fits_in (request.Await x) says own = λ on e none.
      awaited_there added task Asked (request.Await x) s (asked_is (request.Await x) says) x on refl e none
  fits_in (request.TimeoutExit value raised) says own = timeout_fit value raised says
  fits_in (request.GroupExit value raised) says own = group_fit value raised says
  fits_in (request.Extra code arguments) says own = absurd (false≢true (sym own))
  fits_in _ says own = λ to. step.others.streams

  -- ---- what it comes to
  pub said_on : (task_ : ℕ) (text : List ℕ) → RunsSound task (noted (event.Said task_ text) s) → IsStepSound added task (noted (event.Said task_ text) s)
  said_on task_ text h = record {
    others = record {
      loop = h;
      generators = step.others.generators;
      asking = λ k l f. let a = step.others.asking k l f in record { asked = a.asked; says = a.says; stands = a.stands };
      unbegun = step.others.unbegun;
      main_over = step.others.main_over;
      main_told = step.others.main_told;
      resume_point = λ k l f.
          let a = step.others.resume_point k l f in
          record { sleeping = a.sleeping; leaving = a.leaving; leaving_now = a.leaving_now; opened = a.opened };
      exits = step.others.exits;
      streams = step.others.streams;
      kept_once = step.others.kept_once;
      blocks = record {
        timeouts = step.others.blocks.timeouts;
        groups = step.others.blocks.groups;
        entered = step.others.blocks.entered;
        own = step.others.blocks.own;
      };
      futures = record { plain = step.others.futures.plain; once = step.others.futures.once; apart = step.others.futures.apart };
      made = record {
        arguments = step.others.made.arguments;
        tape = step.others.made.tape;
        outcomes = step.others.made.outcomes;
      };
      kept = step.others.kept;
      keys = step.others.keys;
    };
    resume_point = step.resume_point;
    begun = step.begun;
    exits = step.exits;
  }

module _ {S : Type 0} (added : Extra S) (keeps : KeepsSound added) (task : ℕ) (s : State S) (step : IsStepSound added task s) where
  sound_of : (asked : Request) → says_of step_limit added task s ≡ Asks asked → is_added asked ≡ false → RepliesSound task (reply added task asked s)
  sound_of asked says own =
      reply_sound task added asked s step.others.loop (plain_futures s step.others.futures) (fits_in added task s step asked says own)

  -- after something is said, the answer
  said_in : (values : List Value) → says_of step_limit added task s ≡ Asks (request.Print values)
      → RunsSound task (noted (event.Said task (shown_all values)) s)
      → IsStepSound added task (resumed false task (Send Nothing) (noted (event.Said task (shown_all values)) s))
  said_in values says h =
      let t = noted (event.Said task (shown_all values)) s in
      let its = said_on added task s step task (shown_all values) h in
      step_to added task Asked (request.Print values) t (asked_is added task t its (request.Print values) says) t (same_tapes t t.loop)
      its.others.futures refl refl (self added task t (request.Print values) (asked_is added task t its (request.Print values) says)) h asked_leaves
      false (Send Nothing) (λ b. refl) refl refl

  timeout_in : (value : Value) (raised : Option Exc) → says_of step_limit added task s ≡ Asks (request.TimeoutExit value raised) → (id : ℕ)
      → as_timeout value ≡ Some id → RepliesSound task (exits_timeout raised id s) → RepliesInStep added false task (exits_timeout raised id s)
  timeout_in value raised says id e h =
      let r = innermost_timeout added task s (step.others.blocks.entered task) value raised says in
      subst (λ k. RepliesSound task (exits_timeout raised k s) → RepliesInStep added false task (exits_timeout raised k s))
      (some_is r.0 id (sym (ap as_timeout r.1) ∙ e))
      (exits_timeout_in added task s raised r.0
      (asked_is added task s step (request.TimeoutExit (Timeout r.0) raised) (says ∙ ap (λ v. Asks (request.TimeoutExit v raised)) r.1)) r.2.0 r.2.1) h

  abbrev exit_of : Option Exc → ℕ → RequestReply S
  exit_of raised id = exits_group (exit_begin raised id s.loop) task id s

  group_in : (value : Value) (raised : Option Exc) → says_of step_limit added task s ≡ Asks (request.GroupExit value raised) → (id : ℕ)
      → as_group value ≡ Some id → RepliesSound task (exit_of raised id) → RepliesInStep added false task (exit_of raised id)
  group_in value raised says id e h =
      let r = innermost_group added task s (step.others.blocks.entered task) value raised says in
      subst (λ k. RepliesSound task (exit_of raised k) → RepliesInStep added false task (exit_of raised k)) (some_is r.0 id (sym (ap as_group r.1) ∙ e))
      (at r.0 (asked_is added task s step (request.GroupExit (Group r.0) raised) (says ∙ ap (λ v. Asks (request.GroupExit v raised)) r.1)) r.2.0 r.2.1) h
    where
      at : (id : ℕ) (is : IsAsked added task Asked (request.GroupExit (Group id) raised) s) (outer : List Value) → blocks_of s task ≡ Group id ∷ outer
          → RepliesSound task (exit_of raised id) → RepliesInStep added false task (exit_of raised id)
      at id is outer mine h =
          let there = group_there added task Asked s raised id is outer mine in
          exits_in added task Asked s raised id is outer mine (Some id) (λ gid e. sym (eqb-true id gid e)) (exit_begin raised id s.loop).loop
          (exit_begin_loop (names_made (ids_of s)) refl false (Some task) None (Some id) id (eq-eqb id id refl) raised s.loop)
          (exit_begin_marks (names_made (ids_of s)) refl false (Some task) None (Some id) id raised s.loop there)
          (λ gid e. absurd (asked_leaves gid e)) false (exit_begin raised id s.loop).answer step.begun
          (exit_begin_leaves (names_made (ids_of s)) refl false (Some task) None (Some id) id (eq-eqb id id refl) raised s.loop there) h

  -- ---- each case
  case_in : (asked : Request) (it : RequestReply S) → says_of step_limit added task s ≡ Asks asked → is_added asked ≡ false → RepliesSound task it
      → Replies added task s asked it → RepliesInStep added false task it
  case_in asked it said own h (raises fault f) =
      thrown added task s asked (asked_is added task s step asked said) (throws_plain asked f) (throws_named asked f) fault
  case_in asked it said own h (leaves_none timeout raised fault e) =
      let r = innermost_timeout added task s (step.others.blocks.entered task) timeout raised said in
      absurd (none-some r.0 (sym e ∙ ap as_timeout r.1))
  case_in asked it said own h (exits_none group raised fault e) =
      let r = innermost_group added task s (step.others.blocks.entered task) group raised said in
      absurd (none-some r.0 (sym e ∙ ap as_group r.1))
  case_in asked it said own h (tells value none b) =
      valued added task s asked (asked_is added task s step asked said) (blocks_plain asked b) (blocks_named asked b) value (none (ids_of s))
  case_in asked it said own h names_itself =
      let is = asked_is added task s step request.Current said in
      valued added task s request.Current is (λ b i. refl) (λ i. refl) (Task task)
      (task_made (ids_of s) task (lives_within s.loop.parts task (alive added task Asked request.Current s is)))
  case_in asked it said own h (hands_on on outcome e b) =
      hands_in added task s asked (asked_is added task s step asked said) (blocks_plain asked b) (blocks_named asked b) on outcome e
  case_in asked it said own h (pauses_on may b) =
      pauses_in added task s asked (asked_is added task s step asked said) (blocks_plain asked b) (blocks_named asked b) step.begun may h
  case_in asked it said own h (alarms x delay) =
      sleeps_in added task s asked (asked_is added task s step asked said) (λ b i. refl) (λ i. refl) step.begun (λ tag. refl) delay h
  case_in asked it said own h (awaits x on e none) =
      waits_in added task s asked (asked_is added task s step asked said) (λ b i. refl) (λ i. refl) step.begun refl on h
  case_in asked it said own h (prints values) = said_in values said h
  case_in asked it said own h (makes few) =
      makes_future_in added task s asked (asked_is added task s step asked said) (λ b i. refl) (λ i. refl) h
  case_in asked it said own h (sets future value on e) =
      settles_in added task s asked (asked_is added task s step asked said) (λ b i. refl) (λ i. refl) on (Returned value)
      (handed_on added task s step (request.Set future value) said) h
  case_in asked it said own h (fails future fault on raised e) =
      settles_in added task s asked (asked_is added task s step asked said) (λ b i. refl) (λ i. refl) on (Failed raised) tt h
  case_in asked it said own h (cancels x on) =
      requests_in added task s asked (asked_is added task s step asked said) (λ b i. refl) (λ i. refl) on h
  case_in asked it said own h (uncancels x other) =
      uncancels_in added task s asked (asked_is added task s step asked said) (λ b i. refl) (λ i. refl) other h
  case_in asked it said own h (spawns_it coroutine arguments few) =
      spawns_in added task s asked (asked_is added task s step asked said) (λ b i. refl) (λ i. refl) coroutine arguments
      (of_all (ids_of s) arguments (handed_on added task s step (request.Spawn coroutine arguments) said)) h
  case_in asked it said own h (enters x delay few) =
      enters_timeout_in added task s asked (asked_is added task s step asked said) x refl delay h
  case_in asked it said own h (leaves timeout raised id e) = timeout_in timeout raised said id e h
  case_in asked it said own h (moves timeout x id when e) =
      answered added task s asked (asked_is added task s step asked said) (λ b i. refl) (λ i. refl) (reschedule id when s.loop)
      (reschedule_loop (names_made (ids_of s)) refl false (Some task) None None None id when s.loop
      (tags_of_sound (Some task) (told_in s.events) s.loop step.others.loop)) h Nothing refl
  case_in asked it said own h (enters_one few) = enters_group_in added task s asked (asked_is added task s step asked said) refl h
  case_in asked it said own h (exits group raised id e) = group_in group raised said id e h
  case_in asked it said own h (creates_it group id coroutine arguments few e) =
      creates_in added task s asked (asked_is added task s step asked said) (λ b i. refl) (λ i. refl) coroutine arguments
      (of_all (ids_of s) arguments (handed_on added task s step (request.Create group coroutine arguments) said)) id e h
  case_in asked it said own h (serves_it code arguments number items) = absurd (false≢true (sym own))

  pub reply_in : (asked : Request) → says_of step_limit added task s ≡ Asks asked → RepliesInStep added false task (reply added task asked s)
  reply_in (request.Extra code arguments) said =
      keeps.ask task code arguments s step (asked_is added task s step (request.Extra code arguments) said)
  reply_in asked said = at (is_to_streams asked) refl
    where
      at : (b : Bool) → is_to_streams asked ≡ b → RepliesInStep added false task (reply added task asked s)
      at true is = streams_reply_in added task s step asked said is
      at false is =
          case_in asked (reply added task asked s) said refl (sound_of asked said refl)
          (reply_is added task s asked is)
