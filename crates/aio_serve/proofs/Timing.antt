-- What requests of timeouts come to.
use Rattle.std.proofs.Common.{◌≡◌, ℕ, ℤ, ◌<◌, ◌≤◌, Bool, true, false, Option, Some, None, length, if◌then◌else◌, ◌∙◌, refl, sym, ap, subst, arith}
use Rattle.std.proofs.Math.Logic.{∥∥₁_elim}
use Rattle.std.proofs.Props.{props}
use Rattle.std.specs.Coded.{le_prop}
use Rattle.std.specs.Option.{option_map}
use Rattle.std.proofs.lemmas.Bool.{le-ltb, lt-ltb}
use Rattle.std.proofs.lemmas.List.{get_or_past}
use Rattle.model_value.specs.declared.action.Action.TheVariants.{Fires}
use Rattle.model_value.specs.declared.request.Request.TheVariants as request
use Rattle.model_value.specs.Value.{Value, Nothing, Truth, Timeout as Named, Exc}
use Rattle.model_says.specs.Operations.{out_of_range}
use Rattle.model_says.specs.Requests.{bad_argument}
use Rattle.model_loop.proofs.TimeoutCases.{reschedule_where}
use Rattle.model_loop.specs.Loop.{Loop, TimeoutState, Finished}
use Rattle.model_loop.specs.Timeouts.{enter_timeout, has_expired, is_active, next_timeout, no_timeout, reschedule, reschedule_exception, timeout_of}
use Rattle.model_machine.specs.Arguments.{as_delay, as_timeout}
use Rattle.model_machine.specs.Extra.{Extra}
use Rattle.model_machine.specs.Replies as plain
use Rattle.model_machine.specs.Replies.{enters_timeout, exits_timeout, given, most_ids, numbered, numbered_if, reply, reschedules, reschedules_if, timed_out_if}
use Rattle.model_machine.specs.State.{State, in_loop}
use Rattle.law_replies.proofs.Replying.{fits_in}
use Rattle.law_groups.specs.Tags.{HaveTags}
use Rattle.law_groups.proofs.Firing.{within}
use Rattle.aio_ready.specs.Queue.{Queue}
use Rattle.aio_timeout.specs.declared.handler.TimeoutHandler.{TimeoutHandler}
use Rattle.aio_timeout.specs.declared.handler.TimeoutHandler.TheVariants.{Soon, At}
use Rattle.aio_timeout.specs.declared.state.TimeoutExit.{TimeoutExit}
use Rattle.aio_timeout.specs.declared.state.TimeoutExit.TheVariants.{Passes, TimedOut}
use Rattle.aio_timeout.specs.Kept.{StepsNone, handler_at}
use Rattle.aio_timeout.specs.States.{has_timed_out, refusal}
use Rattle.aio_timeout.proofs.Keeping.{timeouts_count}
use Rattle.aio_timeout.proofs.Naming.{handlers_step_none}
use Rattle.aio_extra.specs.Added.{Added}
use Rattle.aio_body.specs.Delay.{number_of}
use Rattle.aio_body.specs.declared.run_state.RunState.{RunState}
use Rattle.aio_body.specs.declared.delay.Delay.{Delay}
use Rattle.aio_body.specs.declared.reply.RequestReply.{RequestReply}
use Rattle.aio_body.specs.declared.reply.RequestReply.TheVariants.{Answers, Raises}
use Rattle.aio_body.specs.Asked.{IsAskingFor, IsGoing, IsInStep, Says, SomeGoes}
use Rattle.aio_body.specs.Stands.{Context, Stands, Possible}
use Rattle.aio_body.specs.Taken.{IsTaken}
use Rattle.aio_serve.specs.Left.{left_as}
use Rattle.aio_serve.proofs.Saying.{answers_so, raises_so}
use Rattle.aio_body.proofs.TimeoutsOn.{timeouts_of}

module _ {X : Type 0} {a : Added X} (task : ℕ) (c : Context a) (body : RunState X) (now : State a.Kept) (h : IsInStep task c body now) where
  -- a block that was left
  pub left_so : (exit : TimeoutExit) (b : Bool) → has_timed_out exit ≡ b → Says task c body (left_as exit) (timed_out_if b now)
  left_so Passes false e = (refl, h)
  left_so TimedOut true e = (refl, h)
  left_so Passes true e = absurd (cc)
  left_so TimedOut false e = absurd (cc)

-- ---- what was read of a delay
module _ (value : Value) (read : Option Delay) (e : option_map number_of read ≡ as_delay value) where
  pub no_delay : read ≡ None → as_delay value ≡ None
  no_delay none = sym e ∙ ap (option_map number_of) none

  pub delay_is : (delay : Delay) → read ≡ Some delay → as_delay value ≡ Some (number_of delay)
  delay_is delay some = sym e ∙ ap (option_map number_of) some

  pub given_as : (delay : Delay) (it : Option ℤ) → read ≡ Some delay → it ≡ number_of delay → as_delay value ≡ Some it
  given_as delay it some same = delay_is delay some ∙ ap Some (sym same)

-- ---- what the table of requests makes of each
module _ {S : Type 0} (added : Extra S) (task : ℕ) (s : State S) where
  pub enter_unfit : (delay : Value) → as_delay delay ≡ None
      → reply added task (request.TimeoutEnter delay) s ≡ plain.Raises bad_argument s
  unfolding reply
  enter_unfit delay e = rw e refl

  pub enter_full : (delay : Value) (it : Option ℤ) → as_delay delay ≡ Some it → most_ids ≤ length s.loop.timeouts
      → reply added task (request.TimeoutEnter delay) s ≡ plain.Raises out_of_range s
  unfolding reply
  enter_full delay it e full =
      ap (λ o. given o (λ it now. numbered (next_timeout now.loop) (enters_timeout task it) now) s) e
      ∙ ap (λ b. numbered_if b (enters_timeout task it) s) (le-ltb (length s.loop.timeouts) most_ids full)

  pub enter_goes : (delay : Value) (it : Option ℤ) → as_delay delay ≡ Some it → length s.loop.timeouts < most_ids
      → reply added task (request.TimeoutEnter delay) s
      ≡ plain.Answers (Named (length s.loop.timeouts)) (in_loop (enter_timeout task it) s)
  unfolding reply
  enter_goes delay it e room =
      ap (λ o. given o (λ it now. numbered (next_timeout now.loop) (enters_timeout task it) now) s) e
      ∙ ap (λ b. numbered_if b (enters_timeout task it) s) (lt-ltb (length s.loop.timeouts) most_ids room)

  pub exit_unfit : (timeout : Value) (raised : Option Exc) → as_timeout timeout ≡ None
      → reply added task (request.TimeoutExit timeout raised) s ≡ plain.Raises bad_argument s
  unfolding reply
  exit_unfit timeout raised e = rw e refl

  pub exit_goes : (timeout : Value) (raised : Option Exc) (id : ℕ) → as_timeout timeout ≡ Some id
      → reply added task (request.TimeoutExit timeout raised) s ≡ exits_timeout raised id s
  unfolding reply
  exit_goes timeout raised id e = rw e refl

  pub reschedule_unfit : (timeout when : Value) → as_timeout timeout ≡ None
      → reply added task (request.Reschedule timeout when) s ≡ plain.Raises bad_argument s
  unfolding reply
  reschedule_unfit timeout when e = rw e refl

  pub deadline_unfit : (timeout when : Value) (id : ℕ) → as_timeout timeout ≡ Some id → as_delay when ≡ None
      → reply added task (request.Reschedule timeout when) s ≡ plain.Raises bad_argument s
  unfolding reply
  deadline_unfit timeout when id e f = rw (e, f) refl

  pub reschedule_goes : (timeout when : Value) (id : ℕ) (it : Option ℤ) → as_timeout timeout ≡ Some id → as_delay when ≡ Some it
      → reply added task (request.Reschedule timeout when) s ≡ reschedules id it s
  unfolding reply
  reschedule_goes timeout when id it e f = rw (e, f) refl

  pub expired_unfit : (timeout : Value) → as_timeout timeout ≡ None
      → reply added task (request.Expired timeout) s ≡ plain.Raises bad_argument s
  unfolding reply
  expired_unfit timeout e = rw e refl

  pub expired_goes : (timeout : Value) (id : ℕ) → as_timeout timeout ≡ Some id
      → reply added task (request.Expired timeout) s ≡ plain.Answers (Truth (has_expired (timeout_of s.loop id).state)) s
  unfolding reply
  expired_goes timeout id e = rw e refl

module _ {X : Type 0} {a : Added X} where
  -- ---- numbers of timeouts
  pub count_is : (out : Option ℕ) (c : Context a) (body : RunState X) (s : State a.Kept) → Stands out c body s
      → length body.timeouts ≡ length s.loop.timeouts
  count_is out c body s h = timeouts_count h.name_map s.loop.parts body.timeouts s.loop.timeouts h.blocks.timeouts

-- one that was not made is finished
pub unmade_is : (l : Loop) (id : ℕ) → length l.timeouts ≤ id → (timeout_of l id).state ≡ Finished
unmade_is l id past = ap (λ t. t.state) (get_or_past l.timeouts id no_timeout past)

-- ---- what calls require
pub steps_prop : (q : Queue) (handler : Option TimeoutHandler) → IsProp (StepsNone q handler)
steps_prop q None = hlevel props
steps_prop q (Some (At id)) = hlevel props
steps_prop q (Some (Soon id)) = hlevel props

module _ {X : Type 0} {a : Added X} where
  steps_none_in : (task : ℕ) (c : Context a) (body : RunState X) (s : State a.Kept) (id : ℕ) → IsGoing task c body s
      → StepsNone body.parts.queue (handler_at id body.timeouts)
  steps_none_in task c body s id h =
      handlers_step_none h.in_step.stands.name_map body.parts s.loop body.timeouts (timeouts_of (Some task) c body s h.in_step.stands)
      h.sound.others.loop.timeouts id

  pub steps_none_some : (body : RunState X) (id : ℕ) → Possible a SomeGoes body → StepsNone body.parts.queue (handler_at id body.timeouts)
  steps_none_some body id m =
      ∥∥₁_elim m (steps_prop body.parts.queue (handler_at id body.timeouts)) (λ w. steps_none_in w.1.1.0 w.0 body w.1.0 id w.1.1.1)

  pub exit_there : (task : ℕ) (timeout : Value) (raised : Option Exc) (id : ℕ) (body : RunState X) → as_timeout timeout ≡ Some id
      → Possible a (IsAskingFor task (request.TimeoutExit timeout raised)) body → id < length body.timeouts
  exit_there task timeout raised id body e m = ∥∥₁_elim m le_prop (λ w. there w.0 w.1.0 w.1.1)
    where
      there : (c : Context a) (s : State a.Kept) → IsAskingFor task (request.TimeoutExit timeout raised) c body s → id < length body.timeouts
      there c s h =
          let fit = fits_in a.meaning task s h.going.sound (request.TimeoutExit timeout raised) h.says refl id e in
          let inside = fit.0 in
          let count = count_is (Some task) c body s h.going.in_step.stands in
          omega (arith, inside, count)

  pub fired_there : (id : ℕ) (body : RunState X) → Possible a (IsTaken (Fires id)) body → id < length body.timeouts
  fired_there id body m = ∥∥₁_elim m le_prop (λ w. there w.0 w.1.0 w.1.1)
    where
      there : (c : Context a) (s : State a.Kept) → IsTaken (Fires id) c body s → id < length body.timeouts
      there c s h =
          let tags : HaveTags h.before.loop = record { numbered = h.sound.loop.numbered; tags = h.sound.loop.timeouts } in
          let inside = within id h.handle h.rest h.before.loop h.pending h.live h.runs tags in
          let same : length s.loop.timeouts ≡ length h.before.loop.timeouts = ap (λ (x : State a.Kept). length x.loop.timeouts) h.after in
          let count = count_is None c body s h.stands in
          omega (arith, inside, same, count)

-- ---- a new deadline
none_some : {A : Type 0} (a : A) → None ≡ Some a → ⊥
none_some a e = absurd (cc)

-- it was set
set_is : (state : TimeoutState) → None ≡ refusal state → is_active state ≡ true
set_is state e = at (is_active state) refl
  where
    at : (b : Bool) → is_active state ≡ b → is_active state ≡ true
    at true x = x
    at false x = absurd (none_some state (e ∙ ap (λ (b : Bool). if b then None else Some state) x))

-- or refused
refused_is : (told state : TimeoutState) → Some told ≡ refusal state → (is_active state ≡ false) × (told ≡ state)
refused_is told state e = at (is_active state) refl
  where
    at : (b : Bool) → is_active state ≡ b → (is_active state ≡ false) × (told ≡ state)
    at true x = absurd (none_some told (sym (e ∙ ap (λ (b : Bool). if b then None else Some state) x)))
    at false x =
        let same : Some told ≡ Some state = e ∙ ap (λ (b : Bool). if b then None else Some state) x in
        (x, inside told state same)
      where
        inside : (a b : TimeoutState) → Some a ≡ Some b → a ≡ b
        inside a b e = cc

module _ {X : Type 0} {a : Added X} where
  pub rescheduled_so : (task : ℕ) (c : Context a) (body : RunState X) (s : State a.Kept) (timeout when : Value) (id : ℕ) (it : Option ℤ)
      → as_timeout timeout ≡ Some id → as_delay when ≡ Some it → None ≡ refusal (timeout_of s.loop id).state
      → IsInStep task c body (in_loop (reschedule id it) s)
      → (said : RequestReply) → said ≡ Answers Nothing → Says task c body said (reply a.meaning task (request.Reschedule timeout when) s)
  rescheduled_so task c body s timeout when id it named delay set h said e =
      answers_so task c body (in_loop (reschedule id it) s) said (reply a.meaning task (request.Reschedule timeout when) s) Nothing e
      (reschedule_goes a.meaning task s timeout when id it named delay
      ∙ ap (λ b. reschedules_if b id it s) (set_is (timeout_of s.loop id).state set)) h

  -- a timeout that isn't active
  pub inactive_so : (task : ℕ) (c : Context a) (body : RunState X) (s : State a.Kept) (timeout when : Value) (id : ℕ) (it : Option ℤ)
      (state : TimeoutState) → as_timeout timeout ≡ Some id → as_delay when ≡ Some it → is_active (timeout_of s.loop id).state ≡ false
      → state ≡ (timeout_of s.loop id).state → IsInStep task c body s
      → (said : RequestReply) → said ≡ Raises (reschedule_exception state) → Says task c body said (reply a.meaning task (request.Reschedule timeout when) s)
  inactive_so task c body s timeout when id it state named delay inactive same h said e =
      raises_so task c body s said (reply a.meaning task (request.Reschedule timeout when) s) (reschedule_exception (timeout_of s.loop id).state)
      (e ∙ ap (λ (x : TimeoutState). Raises (reschedule_exception x)) same)
      (reschedule_goes a.meaning task s timeout when id it named delay ∙ ap (λ b. reschedules_if b id it s) inactive) h

  pub refused_so : (task : ℕ) (c : Context a) (body : RunState X) (s : State a.Kept) (timeout when : Value) (id : ℕ) (it : Option ℤ)
      (state : TimeoutState) → as_timeout timeout ≡ Some id → as_delay when ≡ Some it → Some state ≡ refusal (timeout_of s.loop id).state
      → IsInStep task c body (in_loop (reschedule id it) s)
      → (said : RequestReply) → said ≡ Raises (reschedule_exception state) → Says task c body said (reply a.meaning task (request.Reschedule timeout when) s)
  refused_so task c body s timeout when id it state named delay told h said e =
      let is = refused_is state (timeout_of s.loop id).state told in
      inactive_so task c body s timeout when id it state named delay is.0 is.1
      (subst (λ b. IsInStep task c body (in_loop (reschedule_where b id it) s)) is.0 h) said e

  pub finished_so : (task : ℕ) (c : Context a) (body : RunState X) (s : State a.Kept) (timeout when : Value) (id : ℕ) (it : Option ℤ)
      → as_timeout timeout ≡ Some id → as_delay when ≡ Some it → length body.timeouts ≤ id → IsInStep task c body s
      → (said : RequestReply) → said ≡ Raises (reschedule_exception Finished) → Says task c body said (reply a.meaning task (request.Reschedule timeout when) s)
  finished_so task c body s timeout when id it named delay past h said e =
      let count = count_is (Some task) c body s h.stands in
      let over : length s.loop.timeouts ≤ id = omega (arith, count, past) in
      let is = unmade_is s.loop id over in
      inactive_so task c body s timeout when id it Finished named delay (ap is_active is) (sym is) h said e
