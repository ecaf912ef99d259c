-- What is added serves a request, in code as in the machine.
use Rattle.std.proofs.Common.{◌≡◌, ℕ, ℤ, suc, ◌+◌, ◌-◌, ◌<◌, true, List, [], ◌++◌, Option, Some, None, Result, Ok, Err, length}
use Rattle.std.proofs.Common.{slice_get, ◌∙◌, refl, sym, ap, subst, append-nil, arith}
use Rattle.std.specs.List.{list_all}
use Rattle.std.specs.Option.{option_map_or}
use Rattle.std.specs.Prelude.{IfOk, is_none, is_some}
use Rattle.std.proofs.Math.Logic.{∥∥₁_elim, ∥∥₁_map}
use Rattle.std.proofs.Props.{props}
use Rattle.std.proofs.lemmas.Bool.{eq-eqb}
use Rattle.std.proofs.lemmas.Option.{none-some}
use Rattle.model_value.specs.Input.{Input}
use Rattle.model_wire.specs.Event.{Event}
use Rattle.model_value.specs.Value.{Exc, Items, Outcome, Value, list_of}
use Rattle.model_value.specs.declared.request.Request.TheVariants as request
use Rattle.model_wire.specs.declared.call.Call.TheVariants as call
use Rattle.model_loop.specs.Futures.{future_outcome, is_pending_at, outcome_at}
use Rattle.model_loop.specs.Suspend.{suspend}
use Rattle.model_loop.specs.Tasks.{next_task}
use Rattle.model_machine.specs.Arguments.{as_int, as_list}
use Rattle.model_machine.specs.Extra as extra
use Rattle.model_machine.specs.Extra.{Extra, ExtraAnswer, ExtraSaid, WakesFall, called, is_woken_at_once, key_of}
use Rattle.model_machine.specs.Outcomes.{input_of}
use Rattle.model_machine.specs.Replies as plain
use Rattle.model_machine.specs.Replies.{ended, input_by, serves_as, serves_until, waits, woken, woken_within}
use Rattle.model_machine.specs.State as resume_point
use Rattle.model_machine.specs.Sound.{AreKeysKept, Ids, IsFree, ids_of, names_made, sends_made}
use Rattle.model_machine.specs.State.{Generator, State, stands}
use Rattle.law_runs.specs.Allowed.{IsSaidAllowed, MayCall}
use Rattle.law_runs.proofs.Called.{IsWokenFree, ended_sends, keys_called, may_call, may_on, none_free, said_free}
use Rattle.law_replies.proofs.Given.{made_closed, of_all}
use Rattle.law_replies.proofs.Replying.{handed_on}
use Rattle.law_replies.proofs.Counts.{get_there, lives_within}
use Rattle.refine_parts.proofs.Telling.{outcome_kept, pending_kept}
use Rattle.law_runs.proofs.Waking.{asks_alike, woken_ends}
use Rattle.aio_cancel.specs.Awaitables.{Appended}
use Rattle.aio_task.specs.Keeps.{NameMap}
use Rattle.aio_task.specs.View.{View, parts}
use Rattle.aio_extra.specs.Added.{Added, named_in}
use Rattle.aio_extra.specs.Called as by_call
use Rattle.aio_extra.specs.Called.{IsAskedOf, IsServed, MayAsk, MayServe, SaysAs}
use Rattle.aio_extra.specs.declared.asked.Asked.{Asked}
use Rattle.aio_extra.specs.declared.asked.Asked.TheVariants.{Answer, Raise, Wait}
use Rattle.aio_body.specs.Asked.{HasSuspended, IsAskingFor, IsDeciding, IsInStep, Says}
use Rattle.aio_body.specs.Ids.{ids_in}
use Rattle.aio_body.specs.Slots.{resume_point_at}
use Rattle.aio_body.specs.Stands.{IsOwnSleep, Context, Possible}
use Rattle.aio_body.specs.declared.run_state.RunState.{RunState}
use Rattle.aio_body.specs.declared.reply.RequestReply.{RequestReply}
use Rattle.aio_body.specs.declared.reply.RequestReply.TheVariants as reply
use Rattle.aio_body.specs.declared.resume_point.ResumePoint.TheVariants.{Serving}
use Rattle.aio_wire.specs.Outside.{Outside}
use Rattle.aio_wire.specs.Port.{ported}
use Rattle.aio_exchange.proofs.Among.{told_none}
use Rattle.aio_exchange.specs.Among.{AreTold}
use Rattle.aio_exchange.specs.Exchanged.{All, Exchange}
use Rattle.aio_base.specs.declared.memory.Memory.{Memory}
use Rattle.aio_wire.specs.EventList.{EventList}
use Rattle.std.proofs.lemmas.Result.{IfOk-weaker}
use Rattle.aio_wire.specs.declared.stop.Stop.{Stop}
use Rattle.aio_wire.specs.declared.stop.Stop.TheVariants as stop
use Rattle.aio_body.proofs.Asking.{HasCome, come_none, come_then, comes_alone, comes_ends, comes_goes, comes_starved, comes_stops, comes_without}
use Rattle.aio_body.specs.Asking.{Comes, ReplyBegins, or_stop, serving}
use Rattle.aio_body.proofs.Answering.{alive_come}
use Rattle.aio_body.specs.Answers.{with_answers}
use Rattle.aio_body.proofs.Adding.{served_of, sound_called, stands_called, name_map_called}
use Rattle.aio_body.proofs.Ids.{ids_as}
use Rattle.aio_body.proofs.Lasting.{Spares}
use Rattle.aio_body.proofs.Left.{leaves_suspend}
use Rattle.aio_body.proofs.May.{same_prop}
use Rattle.aio_body.proofs.Rooms.{waits_so}
use Rattle.aio_body.proofs.Slotting.{stands_resume_point}
use Rattle.aio_body.proofs.Telling.{named_also}
use Rattle.aio_body.proofs.Growing.{decides_begins, replies_begin, row_begins}
use Rattle.law_reach.proofs.Opened.{decides_comes}
use Rattle.law_reach.proofs.Rows.{in_answer, in_callback, in_turn}
use Rattle.law_reach.proofs.Streams.{done_row}
use Rattle.law_reach.specs.Reaches.{left_by}
use Rattle.model_stream.specs.Doing as doing
use Rattle.aio_serve.specs.Adding.{AnswersAgain, AnswersAs, IsAnswering, answered, answering, answering_once, HasAnswer, waking}
use Rattle.aio_serve.proofs.Again.{answering_again}
use Rattle.aio_serve.proofs.Meaning.{added_means}
use Rattle.aio_serve.specs.declared.added.Answered.{Answered}
use Rattle.aio_serve.specs.declared.added.Answered.TheVariants.{Again, Replies}

-- ---- in the machine
-- a request is woken no more often than it says, so that the bound is not met
module _ {S : Type 0} (added : Extra S) (falls : WakesFall added) (task : ℕ) where
  enough : (count key : ℕ) (input : Input) (s : State S) → added.wakes_left key s.extra < count
      → woken_within added count task key input s ≡ woken added task key input s
  enough count key input s h =
      let split : count ≡ suc (added.wakes_left key s.extra) + (count - suc (added.wakes_left key s.extra)) = omega (arith, h) in
      ap (λ k. woken_within added k task key input s) split
      ∙ woken_ends added falls task (suc (added.wakes_left key s.extra)) (count - suc (added.wakes_left key s.extra)) key input s (omega arith)

  -- what a wait came to is answered, whatever comes after
  pub woken_on : (key : ℕ) (input : Input) (s : State S)
      → woken added task key input s ≡ answered added task (added.wake key input s).answer (called (added.wake key input s).call s)
  woken_on key input s = at (added.wake key input s).answer refl
    where
      now : State S
      now = called (added.wake key input s).call s

      until : (on next : ℕ) (o : Option Outcome)
          → (is_some o ≡ true → added.wakes_left next (added.wake key input s).call.state < added.wakes_left key s.extra)
          → serves_until o (woken_within added (added.wakes_left key s.extra) task) task on next now ≡ serves_until o (woken added task) task on next now
      until on next (Some outcome) less = enough (added.wakes_left key s.extra) next (input_of outcome) now (less refl)
      until on next None less = refl

      -- fewer are left, where the request is woken at once
      fewer : (answer : ExtraAnswer) (next : ℕ) → (added.wake key input s).answer ≡ answer → key_of answer ≡ Some next
          → is_woken_at_once answer now.loop ≡ true → added.wakes_left next (added.wake key input s).call.state < added.wakes_left key s.extra
      fewer answer next e named once =
          falls key input s next (ap key_of e ∙ named) (ap (λ it. is_woken_at_once it now.loop) e ∙ once)

      at : (answer : ExtraAnswer) → (added.wake key input s).answer ≡ answer
          → serves_as answer (woken_within added (added.wakes_left key s.extra) task) task now ≡ serves_as answer (woken added task) task now
      at (extra.Answers value) e = refl
      at (extra.Raises fault) e = refl
      at (extra.Waits on next) e = until on next (ended now on) (λ done. fewer (extra.Waits on next) next e refl done)
      at (extra.Asks code bytes next) e =
          let less = fewer (extra.Asks code bytes next) next e refl refl in
          asks_alike (call.Extra code bytes) (λ said. woken_within added (added.wakes_left key s.extra) task next (input_by said))
          (λ said. woken added task next (input_by said)) now
          (λ said t same. enough (added.wakes_left key s.extra) next (input_by said) t (let is = ap (added.wakes_left next) same in omega (arith, less, is)))

-- an answer only adds events
pub answered_begins : {S : Type 0} (added : Extra S) (task : ℕ) (it : ExtraAnswer) (s : State S) (events : List Event) → s.events ≡ events
    → ReplyBegins events (answered added task it s)
answered_begins added task (extra.Answers value) s events same = ([], same ∙ sym (append-nil events))
answered_begins added task (extra.Raises fault) s events same = ([], same ∙ sym (append-nil events))
answered_begins added task (extra.Waits on key) s events same = by (ended s on)
  where
    by : (o : Option Outcome) → ReplyBegins events (serves_until o (woken added task) task on key s)
    by (Some outcome) = decides_begins added task events s same (resume_point.Serving key) (input_of outcome)
    by None = ([], same ∙ sym (append-nil events))
answered_begins added task (extra.Asks code bytes key) s events same =
    replies_begin events (answered added task (extra.Asks code bytes key) s)
    (row_begins events s (left_by (answered added task (extra.Asks code bytes key) s))
    (done_row left_by plain.Halts (λ how t. refl) (doing.Asks (call.Extra code bytes) doing.Ends) (λ said. woken added task key (input_by said)) s
    (λ said t. in_turn added
    (in_callback added (in_answer added (decides_comes added task (resume_point.Serving key) (input_by said) t).reaches)))) same)

-- ---- what it may rely on
some_of : {A : Type 0} (o : Option A) → is_some o ≡ true → (x : A) × (o ≡ Some x)
some_of None e = absurd (cc)
some_of (Some x) e = (x, refl)

-- the items of a list that is handed on were made
arguments_made : (n : Ids) (it : Value) (items : List Value) → names_made n it ≡ true → as_list it ≡ Some items → list_all (names_made n) items ≡ true
arguments_made n (Items held) items made e =
    subst (λ l. list_all (names_made n) l ≡ true) (ap (λ o. option_map_or (λ (l : List Value). l) o items) e)
    (of_all n (list_of held) ((made_closed n).held held made))
arguments_made n _ items made e = absurd (none-some items e)

-- nobody stands under this key
pub alone_free : (generators : List Generator) (key : ℕ) → IsFree generators key → IsWokenFree generators (Some key)
alone_free generators key free other same =
    subst (IsFree generators) (ap (λ o. option_map_or (λ (x : ℕ). x) o key) same) free

-- in a step
step_may : {S : Type 0} (added : Extra S) (task : ℕ) (running : Option ℕ) (s : State S) → running ≡ Some task → MayCall added (Some task) s
    → MayCall added running s
step_may added task running s same may = subst (λ r. MayCall added r s) (sym same) may

module _ {X : Type 0} {a : Added X} where
  -- what it is asked, in whichever state
  asked_of : (task : ℕ) (c : Context a) (body : RunState X) (s : State a.Kept) (code arguments : Value) (items : List Value)
      → as_list arguments ≡ Some items → (h : IsAskingFor task (request.Extra code arguments) c body s)
      → IsAskedOf a task h.going.in_step.stands.name_map s body.futures.items arguments items body.extra body.parts
  asked_of task c body s code arguments items listed h =
      let in_step = h.going.in_step in
      let others = h.going.sound.others in
      record {
        served =
            served_of (Some task) (Some task) c body s in_step.stands in_step.called in_step.running (may_call a.meaning (Some task) (Some task) s others);
        named = in_step.stands.futures;
        listed = listed;
        made = arguments_made (ids_of s) arguments items (handed_on a.meaning task s h.going.sound (request.Extra code arguments) h.says)
            listed;
      }

  pub asks_served : (task : ℕ) (body : RunState X) (code arguments : Value) → is_some (as_list arguments) ≡ true
      → Possible a (IsAskingFor task (request.Extra code arguments)) body → MayAsk a task body.futures.items arguments body.extra body.parts
  asks_served task body code arguments listed m =
      let items = some_of (as_list arguments) listed in
      ∥∥₁_map m (λ w.
      (w.1.1.going.in_step.stands.name_map, (w.1.0, (items.0, asked_of task w.0 body w.1.0 code arguments items.0 items.1 w.1.1))))

  pub decides_served : (task key : ℕ) (body : RunState X) → Possible a (IsDeciding task (resume_point.Serving key)) body
      → MayServe a body.parts.running body.extra body.parts
  decides_served task key body m =
      ∥∥₁_map m (λ w.
      let h = w.1.1.in_step in (
        h.stands.name_map,
        (
          w.1.0,
          served_of (Some task) body.parts.running w.0 body w.1.0 h.stands h.called refl
              (step_may a.meaning task body.parts.running w.1.0 h.running (may_call a.meaning (Some task) (Some task) w.1.0 w.1.1.asked.others)),
        ),
      ))

  pub answers_served : (task : ℕ) (asked : Asked) (body : RunState X) → Possible a (HasAnswer task asked) body
      → MayServe a body.parts.running body.extra body.parts
  answers_served task asked body m =
      ∥∥₁_map m (λ w.
      let h = w.1.1.1.in_step in (
        h.stands.name_map,
        (
          w.1.0,
          served_of (Some task) body.parts.running w.0 body w.1.0 h.stands h.called refl
              (step_may a.meaning task body.parts.running w.1.0 h.running w.1.1.1.may),
        ),
      ))

-- what is known where an answer has come
module _ {X : Type 0} {a : Added X} (task : ℕ) (asked : Asked) (body : RunState X) (m : Possible a (HasAnswer task asked) body) where
  pub answers_idle : body.parts.called ≡ None
  answers_idle = ∥∥₁_elim m (same_prop body.parts.called None) (λ w. w.1.1.1.in_step.called)

  pub answers_run : body.parts.running ≡ Some task
  answers_run = ∥∥₁_elim m (same_prop body.parts.running (Some task)) (λ w. w.1.1.1.in_step.running)

  pub answers_there : task < length body.slots.items
  answers_there =
      ∥∥₁_elim m (hlevel props) (λ w.
      subst (λ n. task < n) (sym w.1.1.1.in_step.stands.made)
      (lives_within w.1.0.loop.parts task (w.1.1.1.may.loop.parts.runs task (eq-eqb task task refl))))

pub decides_run : {X : Type 0} {a : Added X} (task key : ℕ) (body : RunState X) → Possible a (IsDeciding task (resume_point.Serving key)) body
    → body.parts.running ≡ Some task
decides_run task key body m = ∥∥₁_elim m (same_prop body.parts.running (Some task)) (λ w. w.1.1.in_step.running)

-- ---- what comes of a call
module _ {X : Type 0} {a : Added X} (task : ℕ) (c : Context a) (old : RunState X) (s : State a.Kept) (h : IsInStep task c old s)
    (called_may : MayCall a.meaning (Some task) s) (keys : AreKeysKept (a.meaning.keeps s.extra).has_key s.generators) (v : View) (x : X) (asked : Asked) (woken : Option ℕ) (free : IsWokenFree s.generators woken)
    (said : ExtraSaid a.Kept) (may : IsSaidAllowed a.meaning woken said s) (r : SaysAs a h.stands.name_map s old.parts v x asked said) where
  pub answering_so : IsAnswering task asked said.answer c (record old { parts = v; extra = x }) (called said.call s)
  answering_so = record {
    in_step = record {
      stands = stands_called (Some task) (Some task) c old s v x said.call h.stands woken may.call called_may.loop r.calls;
      called = r.calls.called ∙ h.called;
      running = r.calls.running ∙ h.running;
    };
    may = may_on a.meaning (Some task) woken said.call s may.call called_may;
    keys = keys_called a.meaning woken said.call s free may.call keys;
    answers =
        subst (λ t. by_call.AnswersAs a t (called said.call s) asked said.answer)
        (sym (name_map_called (Some task) (Some task) c old s v x said.call h.stands woken may.call called_may.loop r.calls)) r.answers;
    allowed = may.answer;
    keyed = said_free a.meaning woken said s free may keys;
  }

-- an answer that is none, and one that is
module _ {X : Type 0} {a : Added X} (task : ℕ) (c : Context a) (body : RunState X) (s : State a.Kept) where
  pub answer_so : (value : Value) (it : ExtraAnswer) → IsAnswering task (Answer value) it c body s
      → Says task c body (reply.Answers value) (answered a.meaning task it s)
  answer_so value (extra.Answers said) h = (h.answers, h.in_step)
  answer_so value (extra.Raises fault) h = absurd h.answers
  answer_so value (extra.Waits on key) h = absurd h.answers
  answer_so value (extra.Asks code bytes key) h = absurd h.answers

  pub raise_so : (fault : Exc) (it : ExtraAnswer) → IsAnswering task (Raise fault) it c body s
      → Says task c body (reply.Raises fault) (answered a.meaning task it s)
  raise_so fault (extra.Raises said) h = (h.answers, h.in_step)
  raise_so fault (extra.Answers value) h = absurd h.answers
  raise_so fault (extra.Waits on key) h = absurd h.answers
  raise_so fault (extra.Asks code bytes key) h = absurd h.answers

  waits_is : (on key : ℕ) (it : ExtraAnswer) → IsAnswering task (Wait on key) it c body s → extra.Waits on key ≡ it
  waits_is on key (extra.Waits future kept) h = ap (λ f. extra.Waits f key) h.answers.0 ∙ ap (extra.Waits future) h.answers.1
  waits_is on key (extra.Answers value) h = absurd h.answers
  waits_is on key (extra.Raises fault) h = absurd h.answers
  waits_is on key (extra.Asks code bytes other) h = absurd h.answers

  -- of a wait, whatever the answer is called
  pub waits_as : (P : ExtraAnswer → Type 0) (on key : ℕ) (it : ExtraAnswer) → IsAnswering task (Wait on key) it c body s
      → (IsAnswering task (Wait on key) (extra.Waits on key) c body s → P (extra.Waits on key)) → P it
  waits_as P on key it h go =
      subst P (waits_is on key it h) (go (subst (λ x. IsAnswering task (Wait on key) x c body s) (sym (waits_is on key it h)) h))

-- ---- a wait
module _ {X : Type 0} {a : Added X} (task on key : ℕ) (c : Context a) (body : RunState X) (s : State a.Kept)
    (h : IsAnswering task (Wait on key) (extra.Waits on key) c body s) where
  pub outcome_is : outcome_at (slice_get body.parts.futures on) ≡ future_outcome s.loop.parts on
  outcome_is = outcome_kept h.in_step.stands.name_map body.parts s.loop.parts h.in_step.stands.keeps on h.answers.2

  pub waits_pending : outcome_at (slice_get body.parts.futures on) ≡ None → is_pending_at (slice_get body.parts.futures on) ≡ true
  waits_pending none =
      let it = get_there s.loop.parts.futures on h.allowed in
      pending_kept h.in_step.stands.name_map body.parts s.loop.parts h.in_step.stands.keeps on ∙ ap is_pending_at it.1
      ∙ ap is_none (sym (ap outcome_at it.1) ∙ sym outcome_is ∙ none)

  pub within : task < next_task s.loop.parts
  within = lives_within s.loop.parts task (h.may.loop.parts.runs task (eq-eqb task task refl))

  -- what is waited for is no sleep's own
  spares : Spares (Some (task, on)) s.loop.parts (named_in a s)
  spares other id new sleeper own =
      let there = subst (IsOwnSleep s.loop.parts (named_in a s) sleeper) new.1 own in
      absurd (there.unnamed (named_also a s on (h.answers.3 there.plain)))

  -- the task waits
  pub suspends_so : (new : RunState X) (v : View) → outcome_at (slice_get body.parts.futures on) ≡ None
      → parts v ≡ (suspend task on (parts body.parts)).parts → Appended body.parts.queue v.queue
      → v ≡ record body.parts { queue = v.queue; futures = v.futures; tasks = v.tasks; running = None }
      → new ≡ record body { parts = v; slots = new.slots } → new.slots.items ≡ resume_point_at task (Serving key) body.slots.items
      → Says task c new reply.Suspends (answered a.meaning task (extra.Waits on key) s)
  suspends_so new v none after appended frame slots items =
      subst (λ o. Says task c new reply.Suspends (serves_until o (woken a.meaning task) task on key s)) (sym (sym outcome_is ∙ none)) suspended
    where
      waited : HasSuspended task c (record body { parts = v }) (waits task on s)
      waited = waits_so task on c body s v h.in_step spares after appended frame

      suspended : HasSuspended task c new (stands (resume_point.Serving key) task (waits task on s))
      suspended = record {
        stands =
            stands_resume_point c (record body { parts = v }) new (waits task on s) task (Serving key) (resume_point.Serving key) waited.stands refl slots items
            (subst (λ n. task < n) (sym (leaves_suspend task on s.loop.parts).tasks) within);
        called = ap (λ (b : RunState X). b.parts.called) slots ∙ waited.called;
        running = ap (λ (b : RunState X). b.parts.running) slots ∙ waited.running;
      }

  -- it is done: the request is woken at once
  pub wakes_so : (outcome : Outcome) (input : Input) → outcome_at (slice_get body.parts.futures on) ≡ Some outcome → input ≡ input_of outcome
      → (v : View) (x : X) (asked : Asked)
      → ((t : NameMap) (now : State a.Kept) → IsServed a body.parts.running t now body.extra body.parts
      → (a.meaning.keeps now.extra).has_key key ≡ true → sends_made (ids_of now) input ≡ true
      → SaysAs a t now body.parts v x asked (a.meaning.wake key input now))
      → AnswersAgain task asked c (record body { parts = v; extra = x }) (answered a.meaning task (extra.Waits on key) s)
  wakes_so outcome input is heard v x asked wakes = record {
    now = called (a.meaning.wake key input s).call s;
    it = (a.meaning.wake key input s).answer;
    answering =
        answering_so task c body s h.in_step h.may h.keys v x asked (Some key) (alone_free s.generators key (h.keyed key refl).0) (a.meaning.wake key input s)
        (a.allowed.wake task key input s h.may (h.keyed key refl).1 made)
        (wakes h.in_step.stands.name_map s
        (served_of (Some task) body.parts.running c body s h.in_step.stands h.in_step.called refl
        (step_may a.meaning task body.parts.running s h.in_step.running h.may)) (h.keyed key refl).1 made);
    same =
        sym (woken_on a.meaning a.falls task key input s)
        ∙ ap (λ i. woken a.meaning task key i s) heard
        ∙ ap (λ o. serves_until o (woken a.meaning task) task on key s) (sym (sym outcome_is ∙ is));
  }
    where
      made : sends_made (ids_of s) input ≡ true
      made =
          ap (sends_made (ids_of s)) heard ∙ ended_sends a.meaning (Some task) s h.may on outcome (sym outcome_is ∙ is)

pub waits_may : {X : Type 0} {a : Added X} (task on key : ℕ) (body : RunState X) → Possible a (HasAnswer task (Wait on key)) body
    → outcome_at (slice_get body.parts.futures on) ≡ None → is_pending_at (slice_get body.parts.futures on) ≡ true
waits_may task on key body m none =
    ∥∥₁_elim m (hlevel props) (λ w.
    waits_as task w.0 body w.1.0 (λ k. is_pending_at (slice_get body.parts.futures on) ≡ true) on key w.1.1.0 w.1.1.1
    (λ h. waits_pending task on key w.0 body w.1.0 h none))

-- After some asks this answer has come, from wherever it began.
abbrev pub AreAnswered : {X W : Type 0} → (a : Added X) → Outside W
    → (task : ℕ) (first : Asked) (old : RunState X) (was : W) (asked : Asked) (body : RunState X)
    (is : W) → Type 0
AreAnswered a o task first old was asked body is =
    (had : List Exchange)
    × HasCome {At = State a.Kept × ExtraAnswer} {a = a} o (λ c at. IsAnswering task first at.1 c old at.0) had (ported was old.events) (ported is body.events)
    (λ c at. AnswersAgain task asked c body (answered a.meaning task at.1 at.0))

-- ---- from a request, and from the wait of one
-- it was asked, with this code, where scripts have these futures
abbrev pub AsksOver : {X : Type 0} → (a : Added X) → (task : ℕ) (body : RunState X) (arguments : Value) (v : View) (x : X) (asked : Asked)
    (futures : List ℕ) (number : ℤ) → Type 0
AsksOver a task body arguments v x asked futures number =
    (t : NameMap) (s : State a.Kept) (items : List Value) → IsAskedOf a task t s futures arguments items body.extra body.parts
    → SaysAs a t s body.parts v x asked (a.meaning.ask task number items s)

abbrev pub Asks : {X : Type 0} → (a : Added X) → (task : ℕ) (body : RunState X) (arguments : Value) (v : View) (x : X) (asked : Asked) (number : ℤ) → Type 0
Asks a task body arguments v x asked number = AsksOver a task body arguments v x asked body.futures.items number

module _ {X : Type 0} (a : Added X) (task : ℕ) (body : RunState X) (code arguments : Value) (number : ℤ) (items : List Value)
    (is_code : as_int code ≡ Some number) (are_items : as_list arguments ≡ Some items) (v : View) (x : X) (asked : Asked)
    (asks : Asks a task body arguments v x asked number) where
  asked_so : (c : Context a) (s : State a.Kept) → IsAskingFor task (request.Extra code arguments) c body s
      → IsAnswering task asked (a.meaning.ask task number items s).answer c (record body { parts = v; extra = x })
      (called (a.meaning.ask task number items s).call s)
  asked_so c s h =
      let may = may_call a.meaning (Some task) (Some task) s h.going.sound.others in
      let it = asked_of task c body s code arguments items are_items h in
      answering_so task c body s h.going.in_step may h.going.sound.others.keys v x asked None (none_free s.generators) (a.meaning.ask task number items s)
      (a.allowed.ask task number items s may it.made) (asks h.going.in_step.stands.name_map s items it)

  pub asks_answer : Possible a (IsAskingFor task (request.Extra code arguments)) body → Possible a (HasAnswer task asked) (record body { parts = v; extra = x })
  asks_answer m =
      ∥∥₁_map m (λ w.
      (w.0, (called (a.meaning.ask task number items w.1.0).call w.1.0, ((a.meaning.ask task number items w.1.0).answer, asked_so w.0 w.1.0 w.1.1))))

  pub asks_go : {W : Type 0} (o : Outside W) (new : RunState X) (was is : W) (result : Result RequestReply Stop)
      → Comes o (answering a task asked (record body { parts = v; extra = x }) new) (ported was body.events) (ported is new.events) result
      → Comes o (serving a task (request.Extra code arguments) body new) (ported was body.events) (ported is new.events) result
  asks_go o new was is result answers =
      comes_goes o (serving a task (request.Extra code arguments) body new) [] (ported was body.events) (ported was body.events)
      (λ c at. IsAnswering task asked at.1 c (record body { parts = v; extra = x }) at.0) (λ at. answered a.meaning task at.1 at.0)
      (ported is new.events) result
      (come_none o (λ c s. IsAskingFor task (request.Extra code arguments) c body s) (ported was body.events) (ported was body.events)
      (λ c s. (at : State a.Kept × ExtraAnswer) × (IsAnswering task asked at.1 c (record body { parts = v; extra = x }) at.0
      × (plain.reply a.meaning task (request.Extra code arguments) s ≡ answered a.meaning task at.1 at.0))) refl
      (λ c s h. (
        told_none body.events.events,
        (
          (called (a.meaning.ask task number items s).call s, (a.meaning.ask task number items s).answer),
          (asked_so c s h, added_means a.meaning task s code arguments number items is_code are_items),
        ),
      )))
      answers

module _ {X : Type 0} {a : Added X} (task key : ℕ) (body : RunState X) (input : Input) (v : View) (x : X) (asked : Asked)
    (made : sends_made (ids_in body) input ≡ true)
    (wakes : (t : NameMap) (s : State a.Kept) → IsServed a body.parts.running t s body.extra body.parts
    → (a.meaning.keeps s.extra).has_key key ≡ true → sends_made (ids_of s) input ≡ true
    → SaysAs a t s body.parts v x asked (a.meaning.wake key input s)) where
  woken_so : (c : Context a) (s : State a.Kept) → IsDeciding task (resume_point.Serving key) c body s
      → IsAnswering task asked (a.meaning.wake key input s).answer c (record body { parts = v; extra = x })
      (called (a.meaning.wake key input s).call s)
  woken_so c s h =
      let may = may_call a.meaning (Some task) (Some task) s h.asked.others in
      let good : sends_made (ids_of s) input ≡ true = subst (λ n. sends_made n input ≡ true) (ids_as (Some task) c body s h.in_step.stands) made in
      answering_so task c body s h.in_step may h.asked.others.keys v x asked (Some key) (alone_free s.generators key h.asked.alone.0) (a.meaning.wake key input s)
      (a.allowed.wake task key input s may h.asked.alone.1 good)
      (wakes h.in_step.stands.name_map s
      (served_of (Some task) body.parts.running c body s h.in_step.stands h.in_step.called refl
      (step_may a.meaning task body.parts.running s h.in_step.running may)) h.asked.alone.1 good)

  pub wakes_answer : Possible a (IsDeciding task (resume_point.Serving key)) body → Possible a (HasAnswer task asked) (record body { parts = v; extra = x })
  wakes_answer m =
      ∥∥₁_map m (λ w.
      (w.0, (called (a.meaning.wake key input w.1.0).call w.1.0, ((a.meaning.wake key input w.1.0).answer, woken_so w.0 w.1.0 w.1.1))))

  pub wakes_go : {W : Type 0} (o : Outside W) (new : RunState X) (was is : W) (result : Result RequestReply Stop)
      → Comes o (answering a task asked (record body { parts = v; extra = x }) new) (ported was body.events) (ported is new.events) result
      → Comes o (waking a task key input body new) (ported was body.events) (ported is new.events) result
  wakes_go o new was is result answers =
      comes_goes o (waking a task key input body new) [] (ported was body.events) (ported was body.events)
      (λ c at. IsAnswering task asked at.1 c (record body { parts = v; extra = x }) at.0) (λ at. answered a.meaning task at.1 at.0)
      (ported is new.events) result
      (come_none o (λ c s. IsDeciding task (resume_point.Serving key) c body s) (ported was body.events) (ported was body.events)
      (λ c s. (at : State a.Kept × ExtraAnswer) × (IsAnswering task asked at.1 c (record body { parts = v; extra = x }) at.0
      × (plain.decides a.meaning (resume_point.Serving key) task input s ≡ answered a.meaning task at.1 at.0))) refl
      (λ c s h. (
        told_none body.events.events,
        (
          (called (a.meaning.wake key input s).call s, (a.meaning.wake key input s).answer),
          (woken_so c s h, woken_on a.meaning a.falls task key input s),
        ),
      )))
      answers

-- ---- one answer after another
module _ {X W : Type 0} (a : Added X) (o : Outside W) (task : ℕ) (first : Asked) (old : RunState X) (was : W) where
  abbrev From : Context a → State a.Kept × ExtraAnswer → Type 0
  From c at = IsAnswering task first at.1 c old at.0

  -- another answer has come, from which the machine's reply is the same
  abbrev Again_ : Asked → RunState X → Context a → State a.Kept × ExtraAnswer → Type 0
  Again_ asked body c at = AnswersAgain task asked c body (answered a.meaning task at.1 at.0)

  pub on_first : AreAnswered a o task first old was first old was
  on_first = (
    [],
    come_none o From (ported was old.events) (ported was old.events) (Again_ first old) refl
        (λ c at h. (told_none old.events.events, record { now = at.0; it = at.1; answering = h; same = refl })),
  )

  module _ (asked : Asked) (body : RunState X) (mid : W) (are : AreAnswered a o task first old was asked body mid) where
    pub on_answer : Possible a (HasAnswer task first) old → Possible a (HasAnswer task asked) body
    on_answer m =
        ∥∥₁_map
        (alive_come o From (λ answers c at h. ((with_answers answers at.0, at.1), answering_again a answers task first at.1 c old at.0 h)) are.0
        (ported was old.events) (ported mid body.events) (Again_ asked body) are.1 (∥∥₁_map m (λ w. (w.0, ((w.1.0, w.1.1.0), w.1.1.1)))))
        (λ w. (w.0, (w.1.1.now, (w.1.1.it, w.1.1.answering))))

    pub on_starved : (new : RunState X) → Comes o (answering a task first old new) (ported was old.events) (ported mid new.events) (Err stop.Memory)
    on_starved new =
        comes_starved o (answering a task first old new) are.0 (ported was old.events) (ported mid body.events) (ported mid new.events) refl
        (record {
          exchanged = are.1.exchanged;
          told = λ c at h.
              let t = are.1.told c at h in (
                t.0,
                subst (ReplyBegins (c.past ++ body.events.events)) t.1.same
                    (answered_begins a.meaning task t.1.it t.1.now (c.past ++ body.events.events) t.1.answering.in_step.stands.events),
              );
        })

    module _ (new : RunState X) (is : W) where
      pub on_next : (next : Asked)
          → Comes o (answering_once a task asked body new) (ported mid body.events) (ported is new.events) (Ok (Again next))
          → AreAnswered a o task first old was next new is
      on_next next one =
          come_then o From are.0 (ported was old.events) (ported mid body.events) (answering_once a task asked body new) (ported is new.events)
          (Again_ asked body) (Again_ next new) (Again next) are.1 one (λ more c at t. (
            (t.now, t.it),
            (t.answering, λ came. record { now = came.now; it = came.it; answering = came.answering; same = came.same ∙ t.same }),
          ))

      pub on_end : (said : RequestReply)
          → Comes o (answering_once a task asked body new) (ported mid body.events) (ported is new.events) (Ok (Replies said))
          → Comes o (answering a task first old new) (ported was old.events) (ported is new.events) (Ok said)
      on_end said one =
          let all = come_then o From are.0 (ported was old.events) (ported mid body.events) (answering_once a task asked body new)
          (ported is new.events) (Again_ asked body) (λ c at. Says task c new said (answered a.meaning task at.1 at.0)) (Replies said) are.1 one
          (λ more c at t. ((t.now, t.it), (t.answering, λ says. subst (Says task c new said) t.same says))) in
          comes_ends o (answering a task first old new) all.0 (ported was old.events) (ported is new.events) said all.1

      pub on_stop : (why : Stop)
          → Comes o (answering_once a task asked body new) (ported mid body.events) (ported is new.events) (Err why)
          → Comes o (answering a task first old new) (ported was old.events) (ported is new.events) (Err why)
      on_stop why one =
          comes_stops o From are.0 (ported was old.events) (ported mid body.events) (answering_once a task asked body new) (ported is new.events)
          ((λ at. answered a.meaning task at.1 at.0), (plain.Halts, (λ c said it. Says task c new said it, ReplyBegins))) why
          (record {
            exchanged = are.1.exchanged;
            told = λ c at h.
                let t = are.1.told c at h in (
                  t.0,
                  (
                    (t.1.now, t.1.it),
                    (t.1.answering, (λ end last e. sym t.1.same ∙ e, λ events begins. subst (ReplyBegins events) t.1.same begins)),
                  ),
                );
          }) one

-- ---- an answer by itself asks nothing
module _ {X W : Type 0} (a : Added X) (o : Outside W) (task : ℕ) (asked : Asked) (old new : RunState X) (wire : W)
    (same : new.events ≡ old.events) where
  abbrev Answers_ : Answered → Type 0
  Answers_ told =
      (c : Context a) (s : State a.Kept) (it : ExtraAnswer) → IsAnswering task asked it c old s → AnswersAs task c new told (answered a.meaning task it s)

  told_same : AreTold [] All old.events.events new.events.events
  told_same = subst (λ (l : EventList). AreTold [] All old.events.events l.events) (sym same) (told_none old.events.events)

  pub once_alone : (result : Result Answered Memory) → IfOk result Answers_
      → Comes o (answering_once a task asked old new) (ported wire old.events) (ported wire new.events) (or_stop result)
  once_alone result answers =
      comes_alone o (answering_once a task asked old new) (ported wire old.events) (ported wire new.events)
      (λ c at h. answered_begins a.meaning task at.1 at.0 (c.past ++ old.events.events) h.in_step.stands.events) result refl
      (IfOk-weaker result _ _ (λ told are c at h. (told_same, are c at.0 at.1 h)) answers)

-- what lacks memory
module _ {X W : Type 0} (a : Added X) (o : Outside W) (task key : ℕ) (input : Input) (old : RunState X) (wire : W) where
  pub wakes_without : (new : RunState X)
      → Comes o (waking a task key input old new) (ported wire old.events) (ported wire new.events) (Err stop.Memory)
  wakes_without new =
      comes_without o (waking a task key input old new) (ported wire old.events) (ported wire new.events)
      (λ c s h. decides_begins a.meaning task (c.past ++ old.events.events) s h.in_step.stands.events (resume_point.Serving key) input) refl
