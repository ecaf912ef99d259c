-- A step begins by a handle that steps its task: what the task stands at says what the input means, and the answer is sound.
use Rattle.std.proofs.Common.{◌≡◌, ℕ, ◌<◌, ◌≤◌, ◌⊎◌, inl, inr, Bool, true, false, cond, not, ◌&&◌, ◌==◌, List, [], ◌∷◌, Option, Some}
use Rattle.std.proofs.Common.{None, length, if◌then◌else◌, refl, sym, ap, subst, ◌∙◌, arith}
use Rattle.std.proofs.lemmas.Bool.{cases_eq, cases_lt, eq-eqb, eqb-true, false_from_ne_true, false≢true}
use Rattle.model_value.specs.Action.{Action}
use Rattle.model_value.specs.declared.action.Action.TheVariants.{Step, SleepDone}
use Rattle.model_value.specs.Input.{Input}
use Rattle.model_value.specs.declared.input.Input.TheVariants.{Send, Throw}
use Rattle.model_value.specs.declared.request.Request.TheVariants as request
use Rattle.model_value.specs.Request.{Request}
use Rattle.model_value.specs.Value.{Value, Exc, Group}
use Rattle.model_says.specs.Blocks.{open_with}
use Rattle.model_says.specs.Endings.{Asks, saying_of}
use Rattle.model_says.specs.Says.{course, step_limit}
use Rattle.model_wire.specs.declared.event.Event.TheVariants as event
use Rattle.model_loop.specs.Entries.{entries, is_sleep_end}
use Rattle.model_loop.specs.Groups.{exit_woken, group_of, new_group}
use Rattle.model_loop.specs.Loop.{Group as GroupFields}
use Rattle.model_loop.specs.Parts.{Handle, Parts}
use Rattle.model_loop.specs.Tasks.{begin_step, cancelled_error, cancelling_input, is_cancelled, must_cancel_of, lives}
use Rattle.model_loop.specs.Ways.{is_running, one_if, steps, wanted}
use Rattle.model_machine.specs.Extra.{Extra}
use Rattle.model_machine.specs.Replies.{Answers, decides, exits_as, replied}
use Rattle.model_machine.specs.Sound.{Ids, IsOpenedAt, IsStateSound, StandsUnder, ends_sleep_of}
use Rattle.model_machine.specs.Sound.{blocks_of, ids_of, names_block, names_made, sends_made, stands_at}
use Rattle.model_machine.specs.State.{ResumePoint, Asked, Sleeping, Leaving, Serving, Connecting, Yielding, Reading, Generator}
use Rattle.model_machine.specs.State.{ReadingAll, State, generator_of, noted, resumed, stands, unbooked_in}
use Rattle.model_machine.specs.State.{with_loop}
use Rattle.model_machine.specs.Step.{given_up, says_of}
use Rattle.law_steps.specs.Frames.{taken}
use Rattle.law_steps.proofs.Stepping.{taken-where}
use Rattle.law_groups.proofs.Entries.{entries-fewer, of_tag}
use Rattle.law_groups.proofs.Quiet.{handles-first}
use Rattle.law_turns.specs.Replied.{RunsSound, RepliesSound, IsResumePoint}
use Rattle.law_turns.proofs.Stepping.{runs, step_begins}
use Rattle.law_turns.specs.After.{is_step, IsAfter, IsLoopAfter}
use Rattle.law_turns.proofs.Parts.{refl_after, after_on, taken_after, revoke_after}
use Rattle.law_turns.proofs.Requests.{begin_after}
use Rattle.law_turns.proofs.Loops.{parts_loop, refl_loop}
use Rattle.law_turns.proofs.Exits.{exit_woken_loop, exit_woken_leaves}
use Rattle.law_replies.specs.Added.{KeepsSound}
use Rattle.law_cases.specs.Closed.{stands_at_streams}
use Rattle.law_cases.specs.StreamReplies.{StreamReplies}
use Rattle.law_cases.proofs.Replying.{streams_decide, woken_at}
use Rattle.law_replies.proofs.Streaming.{streams_in, streams_leave}
use Rattle.law_replies.proofs.Standing.{not_pause_at, streams_to, woken_asked, woken_tape, woken_opened}
use Rattle.law_turns.proofs.Streaming.{streams_sound}
use Rattle.law_replies.specs.InStep.{IsStepSound, IsAsked, MayStandAt, RepliesInStep}
use Rattle.law_replies.proofs.Answering.{left_before, step_to}
use Rattle.law_replies.proofs.Blocks.{open_kept}
use Rattle.law_replies.proofs.Counts.{and_first, and_second, not_true, lives_before, lives_within, no_sleep_of, sleep_none}
use Rattle.law_replies.proofs.Exiting.{group_there, exits_in, leaving_is}
use Rattle.law_replies.proofs.Given.{asked_leaves}
use Rattle.law_replies.proofs.Innermost.{innermost_group}
use Rattle.law_replies.proofs.Ids.{IsMore, input_up, loop_more}
use Rattle.law_replies.proofs.Keeping.{IsApart, apart_of, open_of, with_open, futures_kept, loop_keeps, stays_stood}
use Rattle.law_replies.proofs.Keeping.{leaves_none, stood_resume_point, stood_says, stood_blocks, stands_keeps}
use Rattle.law_replies.proofs.Kept.{futures_stay}
use Rattle.law_replies.proofs.Table.{same_tapes, sleeps_leaves}
use Rattle.law_replies.proofs.Tapes.{past_default, set_other}

-- ---- tests of handles
step_steps : (task other : ℕ) (action : Action) → steps task action ≡ true → is_step other action ≡ true → task ≡ other
step_steps task other (Step it) h k = sym (eqb-true it task h) ∙ eqb-true it other k
step_steps task other _ h k = absurd (false≢true k)

step_no_sleep : (task other : ℕ) (action : Action) → is_step other action ≡ true → not (ends_sleep_of task action) ≡ true
step_no_sleep task other (SleepDone it future) h = absurd (false≢true h)
step_no_sleep task other _ h = refl

no_end_no_sleep : (task : ℕ) (action : Action) → not (is_sleep_end action) ≡ true → not (ends_sleep_of task action) ≡ true
no_end_no_sleep task (SleepDone it future) h = absurd (false≢true h)
no_end_no_sleep task _ h = refl

both_true : (a b c : Bool) → (b ≡ true → c ≡ true) → (a && b) ≡ true → (a && c) ≡ true
both_true true b c f h = f h
both_true false b c f h = h

pub serving_leaves : (key id : ℕ) → Serving key ≡ Leaving id → ⊥
serving_leaves key id e = absurd (cc)

asked_serves : (key : ℕ) → Asked ≡ Serving key → ⊥
asked_serves key e = absurd (cc)

sleeping_serves : (tag key : ℕ) → Sleeping tag ≡ Serving key → ⊥
sleeping_serves tag key e = absurd (cc)

leaving_serves : (id key : ℕ) → Leaving id ≡ Serving key → ⊥
leaving_serves id key e = absurd (cc)

group_is : (a b : ℕ) → Group a ≡ Group b → a ≡ b
group_is a b e = ap (λ v. number_in v) e
  where
    number_in : Value → ℕ
    number_in (Group id) = id
    number_in _ = a

not_pause : {group : Value} {raised : Option Exc} → Asks request.Pause ≡ Asks (request.GroupExit group raised) → ⊥
not_pause e = absurd (cc)

-- ---- requests at which a task stands without leaving a block
pub plain_at : (resume_point : ResumePoint) (asked : Request) → ((id : ℕ) → resume_point ≡ Leaving id → ⊥) → stands_at resume_point asked ≡ true
    → (blocks : List Value) (input : Input) → open_with blocks asked input ≡ blocks
plain_at (Leaving id) asked n h blocks input = absurd (n id refl)
plain_at resume_point (request.TimeoutEnter delay) n h blocks (Throw fault) = refl
plain_at Asked (request.TimeoutEnter delay) n h blocks (Send value) = absurd (false≢true h)
plain_at (Sleeping tag) (request.TimeoutEnter delay) n h blocks (Send value) = absurd (false≢true h)
plain_at (Serving key) (request.TimeoutEnter delay) n h blocks (Send value) = absurd (false≢true h)
plain_at (Connecting conn) (request.TimeoutEnter delay) n h blocks (Send value) = absurd (false≢true h)
plain_at (Yielding whom) (request.TimeoutEnter delay) n h blocks (Send value) = absurd (false≢true h)
plain_at (Reading from op on) (request.TimeoutEnter delay) n h blocks (Send value) = absurd (false≢true h)
plain_at (ReadingAll from taken on) (request.TimeoutEnter delay) n h blocks (Send value) = absurd (false≢true h)
plain_at resume_point request.GroupEnter n h blocks (Throw fault) = refl
plain_at Asked request.GroupEnter n h blocks (Send value) = absurd (false≢true h)
plain_at (Sleeping tag) request.GroupEnter n h blocks (Send value) = absurd (false≢true h)
plain_at (Serving key) request.GroupEnter n h blocks (Send value) = absurd (false≢true h)
plain_at (Connecting conn) request.GroupEnter n h blocks (Send value) = absurd (false≢true h)
plain_at (Yielding whom) request.GroupEnter n h blocks (Send value) = absurd (false≢true h)
plain_at (Reading from op on) request.GroupEnter n h blocks (Send value) = absurd (false≢true h)
plain_at (ReadingAll from taken on) request.GroupEnter n h blocks (Send value) = absurd (false≢true h)
plain_at Asked (request.TimeoutExit timeout fault) n h blocks input = absurd (false≢true h)
plain_at (Sleeping tag) (request.TimeoutExit timeout fault) n h blocks input = absurd (false≢true h)
plain_at (Serving key) (request.TimeoutExit timeout fault) n h blocks input = absurd (false≢true h)
plain_at (Connecting conn) (request.TimeoutExit timeout fault) n h blocks input = absurd (false≢true h)
plain_at (Yielding whom) (request.TimeoutExit timeout fault) n h blocks input = absurd (false≢true h)
plain_at (Reading from op on) (request.TimeoutExit timeout fault) n h blocks input = absurd (false≢true h)
plain_at (ReadingAll from taken on) (request.TimeoutExit timeout fault) n h blocks input = absurd (false≢true h)
plain_at Asked (request.GroupExit group fault) n h blocks input = absurd (false≢true h)
plain_at (Sleeping tag) (request.GroupExit group fault) n h blocks input = absurd (false≢true h)
plain_at (Serving key) (request.GroupExit group fault) n h blocks input = absurd (false≢true h)
plain_at (Connecting conn) (request.GroupExit group fault) n h blocks input = absurd (false≢true h)
plain_at (Yielding whom) (request.GroupExit group fault) n h blocks input = absurd (false≢true h)
plain_at (Reading from op on) (request.GroupExit group fault) n h blocks input = absurd (false≢true h)
plain_at (ReadingAll from taken on) (request.GroupExit group fault) n h blocks input = absurd (false≢true h)
plain_at _ _ n h blocks input = refl

pub named_at : (resume_point : ResumePoint) (asked : Request) → ((id : ℕ) → resume_point ≡ Leaving id → ⊥) → stands_at resume_point asked ≡ true
    → (input : Input) → names_block asked input ≡ true
named_at (Leaving id) asked n h input = absurd (n id refl)
named_at resume_point (request.TimeoutEnter delay) n h (Throw fault) = refl
named_at Asked (request.TimeoutEnter delay) n h (Send value) = absurd (false≢true h)
named_at (Sleeping tag) (request.TimeoutEnter delay) n h (Send value) = absurd (false≢true h)
named_at (Serving key) (request.TimeoutEnter delay) n h (Send value) = absurd (false≢true h)
named_at (Connecting conn) (request.TimeoutEnter delay) n h (Send value) = absurd (false≢true h)
named_at (Yielding whom) (request.TimeoutEnter delay) n h (Send value) = absurd (false≢true h)
named_at (Reading from op on) (request.TimeoutEnter delay) n h (Send value) = absurd (false≢true h)
named_at (ReadingAll from taken on) (request.TimeoutEnter delay) n h (Send value) = absurd (false≢true h)
named_at resume_point request.GroupEnter n h (Throw fault) = refl
named_at Asked request.GroupEnter n h (Send value) = absurd (false≢true h)
named_at (Sleeping tag) request.GroupEnter n h (Send value) = absurd (false≢true h)
named_at (Serving key) request.GroupEnter n h (Send value) = absurd (false≢true h)
named_at (Connecting conn) request.GroupEnter n h (Send value) = absurd (false≢true h)
named_at (Yielding whom) request.GroupEnter n h (Send value) = absurd (false≢true h)
named_at (Reading from op on) request.GroupEnter n h (Send value) = absurd (false≢true h)
named_at (ReadingAll from taken on) request.GroupEnter n h (Send value) = absurd (false≢true h)
named_at _ _ n h input = refl

-- an exit at which a task stands, and an added request
left_group : (id : ℕ) (asked : Request) → stands_at (Leaving id) asked ≡ true → (raised : Option Exc) × (asked ≡ request.GroupExit (Group id) raised)
left_group id (request.GroupExit (Group group) raised) h = (raised, ap (λ k. request.GroupExit (Group k) raised) (eqb-true group id h))
left_group id (request.GroupExit _ raised) h = absurd (false≢true h)
left_group id _ h = absurd (false≢true h)

served_extra : (key : ℕ) (asked : Request) → stands_at (Serving key) asked ≡ true
    → (code : Value) × ((arguments : Value) × (asked ≡ request.Extra code arguments))
served_extra key (request.Extra code arguments) h = (code, (arguments, refl))
served_extra key _ h = absurd (false≢true h)

-- before its first input a task asks for a pause
pause_first : {S : Type 0} (added : Extra S) (task : ℕ) (s : State S) → (generator_of task s).tape ≡ []
    → says_of step_limit added task s ≡ Asks request.Pause
unfolding course
pause_first added task s e =
    ap (λ tape. saying_of (course step_limit s.program (generator_of task s).coroutine (generator_of task s).arguments tape)) e

-- ---- inputs
cancels_made : (n : Ids) (must_cancel : Bool) (input : Input) → sends_made n input ≡ true
    → sends_made n (if must_cancel then cancelling_input input else input) ≡ true
cancels_made n false input h = h
cancels_made n true (Send value) h = refl
cancels_made n true (Throw fault) h = at (is_cancelled fault)
  where
    at : (b : Bool) → sends_made n (if b then Throw fault else Throw cancelled_error) ≡ true
    at true = refl
    at false = refl

module _ {S : Type 0} (added : Extra S) (s : State S) (task : ℕ) (input : Input) (handle : Handle) (rest : List Handle)
    (first : s.loop.parts.pending ≡ handle ∷ rest) (live : handle.dead ≡ false) (mine : steps task handle.action ≡ true)
    (sound : IsStateSound added s) where
  abbrev resume_point : ResumePoint
  resume_point = (generator_of task s).resume_point

  abbrev gone : State S
  gone = noted (event.Ran handle.action) (unbooked_in (λ p. record p { pending = rest }) s)

  abbrev moved : Parts
  moved = (begin_step task input (given_up (generator_of task s).resume_point (record s.loop.parts { pending = rest }))).parts

  abbrev t : State S
  t = unbooked_in (λ p. moved) gone

  abbrev begun : State S
  begun = stands Asked task (unbooked_in (λ p. moved) gone)

  -- ---- the task lives
  pub stepped_lives : lives s.loop.parts task ≡ true
  stepped_lives = at (lives s.loop.parts task) refl
    where
      at : (b : Bool) → lives s.loop.parts task ≡ b → lives s.loop.parts task ≡ true
      at true e = e
      at false e =
          let a = taken-where (steps task) handle rest s.loop.parts first in
          let b : ◌≡◌ {A = ℕ} (cond (not handle.dead && steps task handle.action) 1 0) 1 =
          ap (λ d. cond (not d && steps task handle.action) 1 0) live ∙ ap (λ x. cond x 1 0) mine in
          let c = sound.loop.parts.one_way.one task in
          let d : wanted None s.loop.parts task ≡ 0 = ap (λ x. one_if (x && true)) e in
          absurd (omega (arith, a, b, c, d))

  task_within : task < length s.generators
  task_within = let w = lives_within s.loop.parts task stepped_lives in let c = sound.generators in omega (arith, w, c)

  -- ---- what a sleep's tag names
  sleep_named : (tag : ℕ) → (generator_of task s).resume_point ≡ Sleeping tag → (kind : ℕ → Action → Bool)
      → ((k : ℕ) (action : Action) → kind k action ≡ true → not (ends_sleep_of task action) ≡ true) → entries (of_tag tag kind) s.loop.parts ≡ 0
  sleep_named tag e kind harder =
      let a = sleep_none s.loop.parts task tag ((sound.resume_point task stepped_lives refl).sleeping tag e) in
      let b = entries-fewer (of_tag tag kind) (of_tag tag (no_sleep_of task)) s.loop.parts
      (λ k action h. both_true (k == tag) (kind k action) (not (ends_sleep_of task action)) (harder k action) h) in
      omega (arith, a, b)

  -- ---- the loop, once the step began
  taken_first : IsAfter (names_made (ids_of s)) false (Some task) s.loop.parts (taken rest s.loop.parts)
  taken_first =
      taken_after (names_made (ids_of s)) false (Some task) handle rest s.loop.parts first
      (λ other f. at other f (is_step other handle.action) refl)
    where
      off : (b : Bool) → (b && false) ≡ false
      off true = refl
      off false = refl

      at : (other : ℕ) → is_running (Some task) other ≡ false → (b : Bool) → is_step other handle.action ≡ b
          → (not handle.dead && is_step other handle.action) ≡ false
      at other f false e = ap (λ x. not handle.dead && x) e ∙ off (not handle.dead)
      at other f true e = absurd (false≢true (sym f ∙ eq-eqb task other (step_steps task other handle.action mine e)))

  gave_up : (st : ResumePoint) → (generator_of task s).resume_point ≡ st
      → IsAfter (names_made (ids_of s)) false (Some task) (taken rest s.loop.parts) (given_up st (taken rest s.loop.parts))
  gave_up Asked e = refl_after (names_made (ids_of s)) false (Some task) (taken rest s.loop.parts)
  gave_up (Sleeping tag) e =
      revoke_after (names_made (ids_of s)) false (Some task) tag (taken rest s.loop.parts) (λ other.
      let a = sleep_named tag e (λ k. is_step other) (λ k action h. step_no_sleep task other action h) in
      let b = handles-first (of_tag tag (λ k. is_step other)) handle rest s.loop.parts first in omega (arith, a, b))
  gave_up (Leaving id) e = refl_after (names_made (ids_of s)) false (Some task) (taken rest s.loop.parts)
  gave_up (Serving key) e = refl_after (names_made (ids_of s)) false (Some task) (taken rest s.loop.parts)
  gave_up (Connecting conn) e = refl_after (names_made (ids_of s)) false (Some task) (taken rest s.loop.parts)
  gave_up (Yielding whom) e = refl_after (names_made (ids_of s)) false (Some task) (taken rest s.loop.parts)
  gave_up (Reading from op on) e = refl_after (names_made (ids_of s)) false (Some task) (taken rest s.loop.parts)
  gave_up (ReadingAll from had on) e = refl_after (names_made (ids_of s)) false (Some task) (taken rest s.loop.parts)

  pub moved_after : IsLoopAfter (names_made (ids_of s)) false (Some task) None None None s.loop t.loop
  moved_after =
      parts_loop (names_made (ids_of s)) refl false (Some task) None None None s.loop moved
      (after_on (names_made (ids_of s)) false (Some task) s.loop.parts (given_up (generator_of task s).resume_point (taken rest s.loop.parts))
      moved
      (begin_after (names_made (ids_of s)) false (Some task) task input (given_up (generator_of task s).resume_point (taken rest s.loop.parts)))
      (after_on (names_made (ids_of s)) false (Some task) s.loop.parts (taken rest s.loop.parts) _
      (gave_up (generator_of task s).resume_point refl) taken_first))

  -- ---- what it stands at is as the loop's laws want it
  pub resume_point_fit : (st : ResumePoint) → (generator_of task s).resume_point ≡ st → ((key : ℕ) → st ≡ Serving key → ⊥) → IsResumePoint st s
  resume_point_fit Asked e n = tt
  resume_point_fit (Sleeping tag) e n =
      sleep_named tag e (λ k action. not (is_sleep_end action)) (λ k action h. no_end_no_sleep task action h)
  resume_point_fit (Leaving id) e n =
      let now = (sound.resume_point task stepped_lives refl).leaving_now id e in
      let out = and_first (group_of s.loop id).exiting (not (group_of s.loop id).ended) now in (
        inside id out (cases_lt id (length s.loop.groups)),
        out,
        not_true (group_of s.loop id).ended (and_second (group_of s.loop id).exiting (not (group_of s.loop id).ended) now),
      )
    where
      inside : (id : ℕ) → (group_of s.loop id).exiting ≡ true → (id < length s.loop.groups) ⊎ (length s.loop.groups ≤ id) → id < length s.loop.groups
      inside id out (inl l) = l
      inside id out (inr past) = absurd (false≢true (sym (ap (λ (g : GroupFields). g.exiting) (past_default s.loop.groups id (new_group 0) past)) ∙ out))
  resume_point_fit (Serving key) e n = absurd (n key refl)
  resume_point_fit (Connecting conn) e n = sound.streams
  resume_point_fit (Yielding whom) e n = sound.streams
  resume_point_fit (Reading from op on) e n = sound.streams
  resume_point_fit (ReadingAll from taken on) e n = sound.streams

  runs_as : (st : ResumePoint) → (generator_of task s).resume_point ≡ st
      → RunsSound task (stands Asked task (unbooked_in (λ p. (begin_step task input (given_up st gone.loop.parts)).parts) gone))
  runs_as Asked e = runs added s task input handle rest first live mine sound.loop Asked tt
  runs_as (Sleeping tag) e = runs added s task input handle rest first live mine sound.loop (Sleeping tag)
      (resume_point_fit (Sleeping tag) e (λ k x. sleeping_serves tag k x))
  runs_as (Leaving id) e = runs added s task input handle rest first live mine sound.loop (Leaving id)
      (resume_point_fit (Leaving id) e (λ k x. leaving_serves id k x))
  runs_as (Serving key) e = runs added s task input handle rest first live mine sound.loop Asked tt
  runs_as (Connecting conn) e = runs added s task input handle rest first live mine sound.loop Asked tt
  runs_as (Yielding whom) e = runs added s task input handle rest first live mine sound.loop Asked tt
  runs_as (Reading from op on) e = runs added s task input handle rest first live mine sound.loop Asked tt
  runs_as (ReadingAll from taken on) e = runs added s task input handle rest first live mine sound.loop Asked tt

  -- ---- its coroutine asks as before
  over : s.main_done ≡ true → lives t.loop.parts 0 ≡ false
  over done =
      false_from_ne_true (lives t.loop.parts 0) (λ e. false≢true (sym (sound.main_over done)
      ∙ lives_before _ _ (Some task) s.loop.parts t.loop.parts moved_after.parts sound.loop.parts.owns 0 sound.main_told.made e))

  pub begun_more : IsMore (ids_of s) (ids_of begun)
  begun_more = loop_more s t (record { program = refl; generators = refl; streams = refl; extra = refl; scripts = futures_stay }) moved_after

  t_half : IsApart (Some task) (Some task) added t
  t_half =
      loop_keeps added s t (record { program = refl; generators = refl; streams = refl; extra = refl; scripts = futures_stay }) None
      (Some task) None (Some task) moved_after.parts (moved_after.parts.same refl) begun_more
      (runs_as (generator_of task s).resume_point refl) (λ other f. refl) over
      (stays_stood added s t (record { program = refl; generators = refl; streams = refl; extra = refl; scripts = futures_stay }) None (Some task) None (Some task) _ _ None None None moved_after
      (λ other id f e r. refl))
      (leaves_none added s t (record { program = refl; generators = refl; streams = refl; extra = refl; scripts = futures_stay }) None (Some task) None (Some task) _ _ None None None moved_after
      (λ id f. (refl, refl)))
      (futures_kept s t refl refl (λ id h. moved_after.parts.plain id h) sound.futures) (apart_of added None None s sound)

  -- nobody else stands at what is added under its key
  served_alone : (key : ℕ) → (generator_of task s).resume_point ≡ Serving key
      → MayStandAt (added.keeps begun.extra).has_key begun.generators (Serving key)
  served_alone key e = (λ other stood. alone other stood (cases_eq task other), sound.keys.known task key e)
    where
      alone : (other : ℕ) → StandsUnder begun.generators other key → (task ≡ other) ⊎ (task ≡ other → ⊥) → ⊥
      alone other stood (inl same) =
          asked_serves key (sym (stood_resume_point added task Asked t task_within)
          ∙ ap (λ k. (generator_of k begun).resume_point) same ∙ stood)
      alone other stood (inr n) =
          n (sound.keys.once task other key e
          (sym (ap (λ (g : Generator). g.resume_point) (set_other task other (record (generator_of task t) { resume_point = Asked }) t n)) ∙ stood))

  stood_alone : (st : ResumePoint) → (generator_of task s).resume_point ≡ st → MayStandAt (added.keeps begun.extra).has_key begun.generators st
  stood_alone Asked e = tt
  stood_alone (Sleeping tag) e = tt
  stood_alone (Leaving id) e = tt
  stood_alone (Serving key) e = served_alone key e
  stood_alone (Connecting conn) e = tt
  stood_alone (Yielding whom) e = tt
  stood_alone (Reading from op on) e = tt
  stood_alone (ReadingAll from taken on) e = tt

  pub begun_asked : (asked : Request) → says_of step_limit added task s ≡ Asks asked → IsAsked added task (generator_of task s).resume_point asked begun
  begun_asked asked says = record {
    others = with_open added (Some task) (Some task) begun (stands_keeps added task Asked t task_within tt (Some task) t_half)
        (open_kept _ _ (Some task) None s.loop t.loop (blocks_of s) (blocks_of begun) moved_after
        (λ other. stood_blocks added task Asked t task_within other) (open_of added None None s sound.blocks));
    resume_point = stood_resume_point added task Asked t task_within;
    says = stood_says added task Asked t task_within ∙ says;
    exits = λ id e its.
        ap (λ k. (generator_of k s).resume_point) its
        ∙ sound.exits id (left_before s t _ _ (Some task) None None None moved_after id refl refl e) refl;
    alone = stood_alone (generator_of task s).resume_point refl;
  }

  -- ---- and is answered
  module _ (keeps : KeepsSound added) (given_ : sends_made (ids_of s) input ≡ true) where
    abbrev heard : ResumePoint → Input
    heard st = (begin_step task input (given_up st gone.loop.parts)).input

    pub heard_made : (st : ResumePoint) → sends_made (ids_of s) (heard st) ≡ true
    heard_made st = cancels_made (ids_of s) (must_cancel_of (given_up st gone.loop.parts) task) input given_

    to : (st : ResumePoint) → (generator_of task s).resume_point ≡ st → ((id : ℕ) → st ≡ Leaving id → ⊥) → (asked : Request)
        → says_of step_limit added task s ≡ Asks asked → stands_at st asked ≡ true → (heard_ : Input)
        → sends_made (ids_of s) heard_ ≡ true → IsStepSound added task (resumed true task heard_ begun)
    to st e n asked says may heard_ good =
        let is = begun_asked asked says in
        step_to added task (generator_of task s).resume_point asked begun is begun (same_tapes begun begun.loop) is.others.futures refl refl
        (refl_loop (names_made (ids_of begun)) refl false (Some task) None None None begun.loop) is.others.loop
        (λ id x. n id (sym e ∙ x)) true heard_ (λ b. plain_at st asked n may b heard_) (named_at st asked n may heard_)
        (input_up (ids_of s) (ids_of begun) begun_more heard_ good)

    answers : (st : ResumePoint) → (generator_of task s).resume_point ≡ st → ((id : ℕ) → st ≡ Leaving id → ⊥) → (asked : Request)
        → says_of step_limit added task s ≡ Asks asked → stands_at st asked ≡ true → (heard_ : Input)
        → sends_made (ids_of s) heard_ ≡ true → RepliesInStep added true task (replied heard_ begun)
    answers st e n asked says may (Send value) good = to st e n asked says may (Send value) good
    answers st e n asked says may (Throw fault) good = to st e n asked says may (Throw fault) good

    -- the exit of a group goes on
    goes_on : (id : ℕ) → (generator_of task s).resume_point ≡ Leaving id → (asked : Request) → says_of step_limit added task s ≡ Asks asked
        → stands_at (Leaving id) asked ≡ true → (heard_ : Input)
        → RepliesSound task (exits_as (exit_woken heard_ id begun.loop).answer task id (with_loop (exit_woken heard_ id begun.loop).loop begun))
        → RepliesInStep added true task (exits_as (exit_woken heard_ id begun.loop).answer task id (with_loop (exit_woken heard_ id begun.loop).loop begun))
    goes_on id e asked says may heard_ h =
        let g = left_group id asked may in
        let is : IsAsked added task (generator_of task s).resume_point (request.GroupExit (Group id) g.0) begun =
        subst (λ q. IsAsked added task (generator_of task s).resume_point q begun) g.1 (begun_asked asked says) in
        let r = innermost_group added task begun (is.others.blocks.entered task) (Group id) g.0 is.says in
        let same : r.0 ≡ id = group_is r.0 id (sym r.1) in
        let its : blocks_of begun task ≡ Group id ∷ r.2.0 = r.2.1 ∙ ap (λ k. Group k ∷ r.2.0) same in
        let there = group_there added task (generator_of task s).resume_point begun g.0 id is r.2.0 its in
        let a = exit_woken_loop (names_made (ids_of begun)) refl false (Some task) None None id heard_ begun.loop in
        exits_in added task (generator_of task s).resume_point begun g.0 id is r.2.0 its None (λ gid x. absurd (false≢true x))
        (exit_woken heard_ id begun.loop).loop a
        ((a.groups id).exiting
        (and_first (group_of s.loop id).exiting (not (group_of s.loop id).ended) ((sound.resume_point task stepped_lives refl).leaving_now id e)))
        (λ gid x. leaving_is gid id (sym x ∙ e)) true (exit_woken heard_ id begun.loop).answer
        (λ x. not_pause (sym (pause_first added task begun x) ∙ is.says))
        (exit_woken_leaves (names_made (ids_of begun)) refl false (Some task) None None id heard_ begun.loop there) h

    -- at a request on listeners, connections and children: the input is handed on, or a tree goes on
    streams_on : (st : ResumePoint) → (generator_of task s).resume_point ≡ st → (asked : Request) → says_of step_limit added task s ≡ Asks asked
        → stands_at st asked ≡ true → stands_at_streams st ≡ true → RepliesInStep added true task (decides added st task (heard st) begun)
    streams_on st e asked says may at_streams =
        at (streams_decide added task begun (begun_asked asked says).others.streams asked st (heard st) at_streams may)
      where
        here : (heard_ : Input) → heard st ≡ heard_ → IsStepSound added task (resumed true task heard_ begun)
        here heard_ same =
            to st e (streams_leave st at_streams) asked says may heard_ (subst (λ i. sends_made (ids_of s) i ≡ true) same (heard_made st))

        at : ((value : Value) × (heard st ≡ Send value) × (decides added st task (heard st) begun ≡ Answers value begun))
            ⊎ StreamReplies task st (woken_at st begun) asked (decides added st task (heard st) begun)
            → RepliesInStep added true task (decides added st task (heard st) begun)
        at (inl told) = subst (RepliesInStep added true task) (sym told.2) (here (Send told.0) told.1)
        at (inr it) =
            let is = woken_asked st (begun_asked asked says) in
            let was =
            woken_opened begun st (begun_asked asked says).others.streams (subst (IsOpenedAt s.streams) e (sound.resume_point task stepped_lives refl).opened)
            in
            streams_in added task (generator_of task s).resume_point asked (woken_at st begun) is (λ id x. streams_leave st at_streams id (sym e ∙ x))
            (woken_tape task begun st (λ x. not_pause_at st asked at_streams may (sym (pause_first added task begun x) ∙ (begun_asked asked says).says)))
            (streams_to st asked at_streams may) true (subst (IsOpenedAt (woken_at st begun).streams) (sym e) was)
            (decides added st task (heard st) begun)
            (streams_sound task st (woken_at st begun) asked (decides added st task (heard st) begun) it is.others.loop)
            (subst (λ k. StreamReplies task k (woken_at st begun) asked (decides added st task (heard st) begun)) (sym e) it)

    decided : (st : ResumePoint) → (generator_of task s).resume_point ≡ st → (asked : Request) → says_of step_limit added task s ≡ Asks asked
        → stands_at st asked ≡ true → RepliesInStep added true task (decides added st task (heard st) begun)
    decided Asked e asked says may = answers Asked e (λ id x. asked_leaves id x) asked says may (heard Asked) (heard_made Asked)
    decided (Sleeping tag) e asked says may =
        answers (Sleeping tag) e (λ id x. sleeps_leaves tag id x) asked says may (heard (Sleeping tag)) (heard_made (Sleeping tag))
    decided (Leaving id) e asked says may =
        goes_on id e asked says may (heard (Leaving id)) (left_as e)
      where
        left_as : (generator_of task s).resume_point ≡ Leaving id → RepliesSound task (decides added (Leaving id) task (heard (Leaving id)) begun)
        left_as e =
            subst (λ st. RepliesSound task (decides added (Leaving id) task (heard (Leaving id))
            (stands Asked task (unbooked_in (λ p. (begin_step task input (given_up st gone.loop.parts)).parts) gone)))) (sym e)
            (step_begins added s task input handle rest first live mine sound.loop (Leaving id)
            (resume_point_fit (Leaving id) e (λ k x. leaving_serves id k x)))
    decided (Serving key) e asked says may =
        let g = served_extra key asked may in
        keeps.wake task key g.0 g.1.0 (heard (Serving key)) begun
        (input_up (ids_of s) (ids_of begun) begun_more (heard (Serving key)) (heard_made (Serving key)))
        (subst (λ q. IsAsked added task (Serving key) q begun) g.1.1
        (subst (λ st. IsAsked added task st asked begun) e (begun_asked asked says)))
    decided (Connecting conn) e asked says may =
        streams_on (Connecting conn) e asked says may refl
    decided (Yielding whom) e asked says may =
        streams_on (Yielding whom) e asked says may refl
    decided (Reading from op on) e asked says may =
        streams_on (Reading from op on) e asked says may refl
    decided (ReadingAll from taken on) e asked says may =
        streams_on (ReadingAll from taken on) e asked says may refl

    pub begins_in : RepliesInStep added true task (decides added (generator_of task s).resume_point task (heard (generator_of task s).resume_point) begun)
    begins_in =
        let a = sound.asking task stepped_lives refl in decided (generator_of task s).resume_point refl a.asked a.says a.stands
