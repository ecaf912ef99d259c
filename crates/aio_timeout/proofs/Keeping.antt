-- Each call of timeouts keeps the relation to the machine's.
use Rattle.std.proofs.Common.{◌≡◌, ℕ, zero, suc, ℤ, ◌<◌, ◌≤◌, Bool, true, false, ◌&&◌, List, [], ◌∷◌, ◌++◌, Option, Some, None, length, nat_le, option_map}
use Rattle.std.proofs.Common.{slice_set, slice_get, slice_index_or, refl, ap, sym, subst, ◌∙◌, arith}
use Rattle.std.specs.Option.{option_map_or}
use Rattle.std.proofs.lemmas.Option.{slice_get_within, get_or_from_slice_get}
use Rattle.model_value.specs.Value.{Exc}
use Rattle.model_loop.proofs.TimeoutCases.{reschedule_where}
use Rattle.model_loop.specs.Parts.{Task, Parts, Profile}
use Rattle.model_loop.specs.Loop as loop
use Rattle.model_loop.specs.Loop.{Loop}
use Rattle.model_loop.specs.Handles.{deadline}
use Rattle.model_loop.specs.Cancel.{cancel}
use Rattle.model_loop.specs.Ledger.{ByTimeout, request}
use Rattle.model_loop.specs.Tasks.{cancelling, uncancel, future_of, is_cancelled}
use Rattle.model_loop.specs.Timeouts.{no_timeout, timeout_of, give_up, enter_timeout, reschedule, is_active, moment, schedule, fire, exit_timeout, has_expired}
use Rattle.aio_task.specs.View.{View, parts}
use Rattle.aio_task.specs.Keeps.{NameMap, Keeps, Kept, Extends, Becomes}
use Rattle.aio_timeout.specs.declared.handler.TimeoutHandler.{TimeoutHandler}
use Rattle.aio_timeout.specs.declared.timeout.Timeout.{Timeout}
use Rattle.aio_timeout.specs.declared.state.TimeoutState.TheVariants as code
use Rattle.aio_timeout.specs.States.{state_of, is_expiring, refusal}
use Rattle.aio_timeout.specs.Kept.{IsHandler, IsTimeout, AreTimeouts, KeepsTimeouts, KeptTimeouts, handler_at}
use Rattle.aio_timeout.specs.Scheduled.{Made, fires_if, tag_if}
use Rattle.aio_timeout.proofs.Zips.{zip_set, zip_at, zip_push, zip_length, zip_weaker}
use Rattle.refine_parts.proofs.Appending.{extends_same, extends_on}
use Rattle.refine_parts.proofs.Calls.{keeps_uncancel, kept_request}
use Rattle.refine_parts.proofs.Telling.{future_of_kept}
use Rattle.aio_timeout.proofs.Handlers.{give_up_extends, uncancel_extends, StaysKnown, handler_on, handler_given}
use Rattle.aio_timeout.proofs.Loops.{give_up_after, scheduled_parts, scheduled_timeouts, entered_parts, entered_timeouts, expiring_is, late_parts}
use Rattle.aio_timeout.proofs.Loops.{late_timeouts, late_answer, early_parts, early_timeouts, early_answer}

count_kept : (t : NameMap) (v : View) (p : Parts) (task : ℕ) → Keeps t v p → cancelling (parts v) task ≡ cancelling p task
count_kept t v p task keeps =
    ap (λ (tasks : List Task). option_map_or (λ (it : Task). it.cancels) (slice_get tasks task) 0) keeps.tasks

-- ---- timeouts go on
timeout_on : (t u : NameMap) (p q : Parts) → StaysKnown t p u → p.next_tag ≤ q.next_tag → (timeout : Timeout) (it : loop.Timeout)
    → IsTimeout t p timeout it → IsTimeout u q timeout it
timeout_on t u p q stays tags timeout it h = record {
  state = h.state;
  task = h.task;
  stored = h.stored;
  handler = handler_on t u p q timeout.handler it.tag stays tags h.handler;
}

pub timeouts_stay : (t u : NameMap) (p q : Parts) (timeouts : List Timeout) (them : List loop.Timeout)
    → StaysKnown t p u → p.next_tag ≤ q.next_tag → AreTimeouts t p timeouts them → AreTimeouts u q timeouts them
timeouts_stay t u p q timeouts them stays tags =
    zip_weaker (IsTimeout t p) (IsTimeout u q) (timeout_on t u p q stays tags) timeouts them

timeouts_on : (t u : NameMap) (p q : Parts) (timeouts : List Timeout) (them : List loop.Timeout)
    → Extends p t q u → AreTimeouts t p timeouts them → AreTimeouts u q timeouts them
timeouts_on t u p q timeouts them e = timeouts_stay t u p q timeouts them e.known e.tags

pub timeouts_count : (t : NameMap) (p : Parts) (timeouts : List Timeout) (them : List loop.Timeout)
    → AreTimeouts t p timeouts them → length timeouts ≡ length them
timeouts_count t p timeouts them = zip_length (IsTimeout t p) timeouts them

-- the machine's timeout of a number is the code's
pub timeout_is : (t : NameMap) (l : Loop) (timeouts : List Timeout) (id : ℕ) (timeout : Timeout) → AreTimeouts t l.parts timeouts l.timeouts
    → id < length timeouts → timeout ≡ slice_index_or timeouts id timeout → IsTimeout t l.parts timeout (timeout_of l id)
timeout_is t l timeouts id timeout are within read =
    subst (λ (it : Timeout). IsTimeout t l.parts it (timeout_of l id)) (sym read)
    (zip_at (IsTimeout t l.parts) timeouts l.timeouts id timeout no_timeout are within)

-- ---- the loop after a call, by its parts and its timeouts
kept_as : (t : NameMap) (l m : Loop) (timeouts : List Timeout) (w : View) (q : Parts) (them : List loop.Timeout)
    → m.parts ≡ q → m.timeouts ≡ them → (kept : Kept t l.parts w q) → AreTimeouts kept.name_map q timeouts them
    → KeptTimeouts t l timeouts w m
kept_as t l m timeouts w q them e f kept are = record {
  name_map = kept.name_map;
  keeps = record {
    parts = subst (Keeps kept.name_map w) (sym e) kept.keeps;
    timeouts =
        subst (λ (p : Parts). AreTimeouts kept.name_map p timeouts m.timeouts) (sym e)
        (subst (AreTimeouts kept.name_map q timeouts) (sym f) are);
  };
  extends = subst (λ (p : Parts). Extends l.parts t p kept.name_map) (sym e) kept.extends;
}

-- one timeout is another now
kept_set : (t : NameMap) (l m : Loop) (timeouts : List Timeout) (w : View) (q : Parts) (id : ℕ) (timeout : Timeout) (it : loop.Timeout)
    → m.parts ≡ q → m.timeouts ≡ slice_set l.timeouts id it → (kept : Kept t l.parts w q)
    → AreTimeouts t l.parts timeouts l.timeouts → IsTimeout kept.name_map q timeout it
    → KeptTimeouts t l (slice_set timeouts id timeout) w m
kept_set t l m timeouts w q id timeout it e f kept are is =
    kept_as t l m (slice_set timeouts id timeout) w q (slice_set l.timeouts id it) e f kept
    (zip_set (IsTimeout kept.name_map q) timeouts l.timeouts id timeout it
    (timeouts_on t kept.name_map l.parts q timeouts l.timeouts kept.extends are) is)

pub nothing_changed : (t : NameMap) (l : Loop) (timeouts : List Timeout) (v : View) → KeepsTimeouts t timeouts v l → KeptTimeouts t l timeouts v l
nothing_changed t l timeouts v keeps = record { name_map = t; keeps = keeps; extends = extends_same t l.parts }

-- ---- a block is entered
pub entered : (t : NameMap) (l : Loop) (timeouts : List Timeout) (v w : View) (task stored : ℕ) (delay : Option ℤ) (handler : Option TimeoutHandler)
    → KeepsTimeouts t timeouts v l → stored ≡ cancelling (parts v) task
    → ((u : NameMap) (p : Parts) → Keeps u v p
    → Made u p handler w (fires_if (length timeouts) (option_map (deadline v.time) delay) p)
    (tag_if (option_map (deadline v.time) delay) p))
    → KeptTimeouts t l (timeouts ++ record { state = code.Active; task = task; stored = stored; handler = handler } ∷ []) w
    (enter_timeout task delay l)
entered t l timeouts v w task stored delay handler keeps counted making =
    let count : length timeouts ≡ length l.timeouts = timeouts_count t l.parts timeouts l.timeouts keeps.timeouts in
    let when : Option ℕ = option_map (deadline l.parts.time) delay in
    let at : ℕ → ℕ → Type 0 = λ id time. Made t l.parts handler w (fires_if id (option_map (deadline time) delay) l.parts)
    (tag_if (option_map (deadline time) delay) l.parts) in
    let made : at (length l.timeouts) l.parts.time =
    subst (λ (id : ℕ). at id l.parts.time) count (subst (at (length timeouts)) keeps.parts.time (making t l.parts keeps.parts)) in
    let q : Parts = fires_if (length l.timeouts) when l.parts in
    let new : Timeout = record { state = code.Active; task = task; stored = stored; handler = handler } in
    let it : loop.Timeout = record {
      state = loop.Active;
      task = task;
      stored = cancelling l.parts task;
      tag = tag_if when l.parts;
    } in
    kept_as t l (enter_timeout task delay l) (timeouts ++ new ∷ []) w q (l.timeouts ++ it ∷ [])
    (entered_parts task delay l) (entered_timeouts task delay l) made.kept
    (zip_push (IsTimeout made.kept.name_map q) timeouts l.timeouts new it
    (timeouts_on t made.kept.name_map l.parts q timeouts l.timeouts made.kept.extends keeps.timeouts)
    (record { state = refl; task = refl; stored = counted ∙ count_kept t v l.parts task keeps.parts; handler = made.handler }))

-- ---- another deadline
module _ (t : NameMap) (l : Loop) (timeouts : List Timeout) (v : View) (id : ℕ) (timeout : Timeout) (keeps : KeepsTimeouts t timeouts v l)
    (within : id < length timeouts) (read : timeout ≡ slice_index_or timeouts id timeout) where
  abbrev it : loop.Timeout
  it = timeout_of l id

  is : IsTimeout t l.parts timeout (timeout_of l id)
  is = timeout_is t l timeouts id timeout keeps.timeouts within read

  there : id < length l.timeouts
  there = let e = timeouts_count t l.parts timeouts l.timeouts keeps.timeouts in omega (arith, e, within)

  pub refused_same : (when : Option ℤ) → is_active (state_of timeout.state) ≡ false → KeptTimeouts t l timeouts v (reschedule id when l)
  refused_same when inactive =
      let e : is_active it.state ≡ false = ap is_active (sym is.state) ∙ inactive in
      subst (λ (b : Bool). KeptTimeouts t l timeouts v (reschedule_where b id when l)) (sym e) (nothing_changed t l timeouts v keeps)

  pub refusal_same : refusal (state_of timeout.state) ≡ refusal (timeout_of l id).state
  refusal_same = ap refusal is.state

  pub rescheduled : (w x : View) (handler : Option TimeoutHandler) (when : Option ℤ) → is_active (state_of timeout.state) ≡ true
      → ((u : NameMap) (p : Parts) → Keeps u v p → Made u p handler w (fires_if id (option_map moment when) p) (tag_if (option_map moment when) p))
      → ((u : NameMap) (p : Parts) (tag : Option ℕ) → Keeps u w p → IsHandler u p timeout.handler tag → Keeps u x (give_up tag p))
      → KeptTimeouts t l (slice_set timeouts id (record timeout { handler = handler })) x (reschedule id when l)
  rescheduled w x handler when active making giving =
      let made = making t l.parts keeps.parts in
      let u : NameMap = made.kept.name_map in
      let q : Parts = fires_if id (option_map moment when) l.parts in
      let old : IsHandler u q timeout.handler it.tag =
      handler_on t u l.parts q timeout.handler it.tag made.kept.extends.known made.kept.extends.tags is.handler in
      let after : give_up it.tag q ≡ fires_if id (option_map moment when) (give_up it.tag l.parts) =
      give_up_after id (option_map moment when) l.parts it.tag (handler_given t l.parts timeout.handler it.tag is.handler) in
      let kept : Kept t l.parts x (give_up it.tag q) = record {
        name_map = u;
        keeps = giving u q it.tag made.kept.keeps old;
        extends = extends_on t u u l.parts q (give_up it.tag q) made.kept.extends (give_up_extends u q it.tag);
      } in
      let e : is_active it.state ≡ true = ap is_active (sym is.state) ∙ active in
      subst (λ (b : Bool). KeptTimeouts t l (slice_set timeouts id (record timeout { handler = handler })) x (reschedule_where b id when l)) (sym e)
      (kept_set t l (schedule id (option_map moment when) l) timeouts x (give_up it.tag q) id (record timeout { handler = handler })
      (record it { tag = tag_if (option_map moment when) l.parts })
      (scheduled_parts id (option_map moment when) l there ∙ sym after)
      (scheduled_timeouts id (option_map moment when) l there)
      kept keeps.timeouts
      (record {
        state = is.state;
        task = is.task;
        stored = is.stored;
        handler =
            handler_on u u q (give_up it.tag q) handler (tag_if (option_map moment when) l.parts) (give_up_extends u q it.tag).known
            (give_up_extends u q it.tag).tags made.handler;
      }))

  -- ---- the deadline comes
  pub fired : (w : View) → Becomes v w (cancel (future_of (parts v) timeout.task) (parts v)).parts
      → KeptTimeouts t l (slice_set timeouts id (record timeout { state = code.Expiring; handler = None })) w (fire id l)
  fired w becomes =
      let future : future_of (parts v) timeout.task ≡ future_of l.parts it.task =
      future_of_kept t v l.parts keeps.parts timeout.task ∙ ap (future_of l.parts) is.task in
      let kept : Kept t l.parts w (request (ByTimeout id) (future_of l.parts it.task) l.parts).booked.parts =
      kept_request t v w l.parts keeps.parts (ByTimeout id) (future_of l.parts it.task)
      (subst (λ (target : ℕ). Becomes v w (cancel target (parts v)).parts) future becomes) in
      kept_set t l (fire id l) timeouts w (request (ByTimeout id) (future_of l.parts it.task) l.parts).booked.parts id
      (record timeout { state = code.Expiring; handler = None }) (record it { state = loop.Expiring; tag = None })
      refl refl kept keeps.timeouts
      (record { state = refl; task = is.task; stored = is.stored; handler = tt })

  -- ---- the block is left
  module _ (raised : Option Exc) (x : View)
      (giving : (u : NameMap) (p : Parts) (tag : Option ℕ) → Keeps u v p → IsHandler u p timeout.handler tag → Keeps u x (give_up tag p)) where
    bare : Keeps t x (give_up it.tag l.parts)
    bare = giving t l.parts it.tag keeps.parts is.handler

    module _ (early : is_expiring (state_of timeout.state) ≡ false) where
      inactive : is_expiring it.state ≡ false
      inactive = ap is_expiring (sym is.state) ∙ early

      pub finished : KeptTimeouts t l (slice_set timeouts id (record timeout { state = code.Finished; handler = None })) x
          (exit_timeout raised id l).loop
      finished =
          kept_set t l (exit_timeout raised id l).loop timeouts x (give_up it.tag l.parts) id
          (record timeout { state = code.Finished; handler = None }) (record it { state = loop.Finished; tag = None })
          (early_parts raised id l there inactive) (early_timeouts raised id l there inactive)
          (record { name_map = t; keeps = bare; extends = give_up_extends t l.parts it.tag }) keeps.timeouts
          (record { state = refl; task = is.task; stored = is.stored; handler = tt })

      pub finished_passes : (exit_timeout raised id l).timed_out ≡ false
      finished_passes = early_answer raised id l there inactive

    module _ (late : is_expiring (state_of timeout.state) ≡ true) (profile : Profile) (ruled : l.profile ≡ profile) (w : View)
        (becomes : Becomes x w (uncancel profile timeout.task (parts x))) where
      over : it.state ≡ loop.Expiring
      over = expiring_is it.state (ap is_expiring (sym is.state) ∙ late)

      taken : Keeps t w (uncancel profile it.task (give_up it.tag l.parts))
      taken =
          subst (λ (task : ℕ). Keeps t w (uncancel profile task (give_up it.tag l.parts))) is.task
          (keeps_uncancel t x w (give_up it.tag l.parts) bare profile timeout.task becomes)

      pub expired : KeptTimeouts t l (slice_set timeouts id (record timeout { state = code.Expired; handler = None })) w
          (exit_timeout raised id l).loop
      expired =
          kept_set t l (exit_timeout raised id l).loop timeouts w (uncancel profile it.task (give_up it.tag l.parts)) id
          (record timeout { state = code.Expired; handler = None }) (record it { state = loop.Expired; tag = None })
          (late_parts raised id l there over ∙ ap (λ (r : Profile). uncancel r it.task (give_up it.tag l.parts)) ruled) (late_timeouts raised id l there over)
          (record {
            name_map = t;
            keeps = taken;
            extends =
                extends_on t t t l.parts (give_up it.tag l.parts) (uncancel profile it.task (give_up it.tag l.parts))
                (give_up_extends t l.parts it.tag) (uncancel_extends t (give_up it.tag l.parts) profile it.task);
          }) keeps.timeouts
          (record { state = refl; task = is.task; stored = is.stored; handler = tt })

      pub expired_says : (count : ℕ) → count ≡ cancelling (parts w) timeout.task
          → (nat_le count timeout.stored && option_map_or is_cancelled raised false) ≡ (exit_timeout raised id l).timed_out
      expired_says count counted =
          let q : Parts = uncancel profile it.task (give_up it.tag l.parts) in
          let same : count ≡ cancelling q it.task =
          counted ∙ count_kept t w q timeout.task taken ∙ ap (cancelling q) is.task in
          ap (λ (n : ℕ). nat_le n timeout.stored && option_map_or is_cancelled raised false) same
          ∙ ap (λ (n : ℕ). nat_le (cancelling q it.task) n && option_map_or is_cancelled raised false) is.stored
          ∙ ap (λ (r : Profile). nat_le (cancelling (uncancel r it.task (give_up it.tag l.parts)) it.task) it.stored
          && option_map_or is_cancelled raised false) (sym ruled)
          ∙ sym (late_answer raised id l there over)

-- ---- `expired()`
pub told_expired : (t : NameMap) (l : Loop) (timeouts : List Timeout) (id : ℕ) (timeout : Timeout) → AreTimeouts t l.parts timeouts l.timeouts
    → id < length timeouts → timeout ≡ slice_index_or timeouts id timeout → has_expired (state_of timeout.state) ≡ has_expired (timeout_of l id).state
told_expired t l timeouts id timeout are within read = ap has_expired (timeout_is t l timeouts id timeout are within read).state

-- a timeout without a tag keeps no handle
pub untagged : (t : NameMap) (p : Parts) (timeouts : List Timeout) (them : List loop.Timeout) (id : ℕ) → AreTimeouts t p timeouts them
    → (slice_index_or them id no_timeout).tag ≡ None → handler_at id timeouts ≡ None
untagged t p timeouts them id are none = at (slice_get timeouts id) refl
  where
    handler : (h : Option TimeoutHandler) (tag : Option ℕ) → IsHandler t p h tag → tag ≡ None → h ≡ None
    handler None tag is e = refl
    handler (Some h) None is e = absurd is
    handler (Some h) (Some tag) is e = cc

    at : (o : Option Timeout) → slice_get timeouts id ≡ o → handler_at id timeouts ≡ None
    at None e = rw e refl
    at (Some timeout) e =
        let within : id < length timeouts = slice_get_within timeouts id timeout e in
        let read : slice_index_or timeouts id timeout ≡ timeout = get_or_from_slice_get timeouts id timeout timeout e in
        let is : IsTimeout t p (slice_index_or timeouts id timeout) (slice_index_or them id no_timeout) =
        zip_at (IsTimeout t p) timeouts them id timeout no_timeout are within in
        let own : IsTimeout t p timeout (slice_index_or them id no_timeout) =
        subst (λ (it : Timeout). IsTimeout t p it (slice_index_or them id no_timeout)) read is in
        rw e (handler timeout.handler (slice_index_or them id no_timeout).tag own.handler none)

-- whether a new deadline is refused
pub told_refusal : (t : NameMap) (l : Loop) (timeouts : List Timeout) (id : ℕ) (timeout : Timeout) → AreTimeouts t l.parts timeouts l.timeouts
    → id < length timeouts → timeout ≡ slice_index_or timeouts id timeout → refusal (state_of timeout.state) ≡ refusal (timeout_of l id).state
told_refusal t l timeouts id timeout are within read = ap refusal (timeout_is t l timeouts id timeout are within read).state

-- ---- the handle that a timeout keeps
pub handler_is : (timeouts : List Timeout) (id : ℕ) (timeout : Timeout) → id < length timeouts → timeout ≡ slice_index_or timeouts id timeout
    → handler_at id timeouts ≡ timeout.handler
handler_is [] id timeout within read = absurd (omega arith)
handler_is (first ∷ others) zero timeout within read = ap (λ (it : Timeout). it.handler) (sym read)
handler_is (first ∷ others) (suc id) timeout within read = handler_is others id timeout (omega arith) read

pub given_up_at : (timeouts : List Timeout) (id : ℕ) (timeout : Timeout) → timeout.handler ≡ None → handler_at id (slice_set timeouts id timeout) ≡ None
given_up_at [] id timeout e = refl
given_up_at (first ∷ others) zero timeout e = e
given_up_at (first ∷ others) (suc id) timeout e = given_up_at others id timeout e
