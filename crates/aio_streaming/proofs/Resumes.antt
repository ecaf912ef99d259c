-- A task's step begins with an input, which the request at which it stood decides: what its calls require, and what comes of
-- them.
use Rattle.std.proofs.Common.{◌≡◌, ℕ, [], None, Some, Ok, Err, Result, refl, sym, ap, subst}
use Rattle.std.proofs.Math.Logic.{∥∥₁_elim, ∥∥₁_map}
use Rattle.model_value.specs.declared.input.Input.TheVariants.{Send, Throw}
use Rattle.model_value.specs.Input.{Input}
use Rattle.model_value.specs.Value.{Exc, Value}
use Rattle.model_loop.specs.Futures.{next_future}
use Rattle.model_stream.specs.Requests.{StreamReader, drop_connect, give_up_read}
use Rattle.model_machine.specs.Replies as plain
use Rattle.model_machine.specs.Replies.{decides, hears, waits_no_more}
use Rattle.model_machine.specs.State as state
use Rattle.model_machine.specs.State.{State}
use Rattle.aio_wire.specs.Outside.{Outside}
use Rattle.aio_wire.specs.Port.{ported}
use Rattle.aio_wire.specs.declared.stop.Stop.{Stop}
use Rattle.aio_exchange.proofs.Among.{told_none}
use Rattle.aio_exchange.specs.Follows.{reach}
use Rattle.law_cases.specs.TreeEnd.{owned_in as plain_in}
use Rattle.law_cases.proofs.Asking.{drops}
use Rattle.aio_transports.specs.Kept.{Kept as Transports}
use Rattle.aio_transports.specs.Owned.{OwnsTransports}
use Rattle.aio_transports.specs.Standing.{Becomes, Comes as Changes}
use Rattle.aio_base.specs.declared.memory.Memory.{Memory}
use Rattle.aio_extra.specs.Added.{Added}
use Rattle.aio_body.specs.declared.run_state.RunState.{RunState}
use Rattle.aio_body.specs.declared.reply.RequestReply.{RequestReply}
use Rattle.aio_body.specs.declared.reply.RequestReply.TheVariants as said
use Rattle.aio_body.specs.Asked.{IsDeciding, IsInStep, Says}
use Rattle.aio_body.specs.Asking.{Comes}
use Rattle.aio_body.specs.Stands.{Possible, Context}
use Rattle.aio_body.proofs.Asking.{come_none, comes_ends}
use Rattle.aio_body.proofs.May.{same_prop}
use Rattle.refine_streams.specs.Streams.{HasStreams}
use Rattle.refine_streams.specs.Went.{MayCall}
use Rattle.refine_streams.proofs.Forgetting.{drop_connect_forgets}
use Rattle.refine_streams.proofs.GivingUp.{gives_up_in_step, gives_up_so}
use Rattle.refine_streams.proofs.May.{may_deciding}
use Rattle.refine_streams.proofs.Nexts.{raises_add}
use Rattle.refine_streams.proofs.Possible.{has_streams, transports_owned}
use Rattle.refine_streams.proofs.Replying.{changed_fails, changed_goes, raises_go}
use Rattle.aio_streaming.specs.Done.{raised_as}
use Rattle.aio_streaming.specs.Going.{RepliesOn, RunsOn}
use Rattle.aio_streaming.specs.Resuming.{Resumes, resuming}
use Rattle.aio_streaming.specs.Written.{fault_in}

-- ---- what an input says
pub hears_value : {S : Type 0} (input : Input) (next : State S → plain.RequestReply S) (s : State S) → fault_in input ≡ None
    → hears input next s ≡ next s
hears_value (Send value) next s e = refl
hears_value (Throw fault) next s e = absurd (cc)

pub hears_fault : {S : Type 0} (input : Input) (next : State S → plain.RequestReply S) (s : State S) (fault : Exc)
    → fault_in input ≡ Some fault
    → hears input next s ≡ plain.Raises fault s
hears_fault (Send value) next s fault e = absurd (cc)
hears_fault (Throw it) next s fault e = same it e
  where
    same : (one : Exc) → Some one ≡ Some fault → plain.Raises one s ≡ plain.Raises fault s
    same one e = let is : one ≡ fault = cc in ap (λ x. plain.Raises x s) is

module _ {X : Type 0} (a : Added X) (task : ℕ) (stood : state.ResumePoint) (old : RunState X) where
  may : (c : Context a) (s : State a.Kept) → IsDeciding task stood c old s → MayCall (Some task) c old s
  may c s h = may_deciding c old s task stood h

  in_step : (c : Context a) (s : State a.Kept) → IsDeciding task stood c old s → IsInStep task c old s
  in_step c s h = h.in_step

  -- ---- where nothing was changed yet
  pub on_deciding : (c : Context a) (s : State a.Kept) → IsDeciding task stood c old s → RunsOn task c old s
  on_deciding c s h = record { in_step = h.in_step; sound = h.asked.others.loop; streams = h.asked.others.streams }

  pub possible_deciding : Possible a (IsDeciding task stood) old → Possible a (RunsOn task) old
  possible_deciding m = ∥∥₁_map m (λ w. (w.0, (w.1.0, on_deciding w.0 w.1.0 w.1.1)))

  pub resumes_so : (input : Input) (new : RunState X) (machine : State a.Kept → plain.RequestReply a.Kept)
      → ((s : State a.Kept) → decides a.meaning stood task input s ≡ machine s)
      → (result : Result RequestReply Memory) → RepliesOn a task machine old new result
      → Resumes a task stood input old new result
  resumes_so input new machine means (Ok it) goes =
      λ c s h. subst (Says task c new it) (sym (means s)) (goes c s (on_deciding c s h))
  resumes_so input new machine means (Err why) goes = tt

  pub resumes_raising : (input : Input) (fault : Exc)
      → ((s : State a.Kept) → decides a.meaning stood task input s ≡ plain.Raises fault s)
      → Resumes a task stood input old old (Ok (said.Raises fault))
  resumes_raising input fault means = λ c s h. subst (Says task c old (said.Raises fault)) (sym (means s)) (refl, h.in_step)

  -- ---- a read waits no more
  module _ (on : ℕ) (from : StreamReader) (k : Transports) (becomes : Becomes (give_up_read on from) old.transports k) where
    abbrev left : RunState X
    left = record old { transports = k }

    may_left : (c : Context a) (s : State a.Kept) → IsDeciding task stood c old s
        → MayCall (Some task) c left (waits_no_more on from s)
    may_left c s h = gives_up_so (Some task) c old left s on from (may c s h) becomes refl

    in_step_left : (c : Context a) (s : State a.Kept) → IsDeciding task stood c old s
        → IsInStep task c left (waits_no_more on from s)
    in_step_left c s h = gives_up_in_step task c old left s (waits_no_more on from s) h.in_step refl (may_left c s h)

    pub on_left : (c : Context a) (s : State a.Kept) → IsDeciding task stood c old s
        → RunsOn task c left (waits_no_more on from s)
    on_left c s h = record { in_step = in_step_left c s h; sound = h.asked.others.loop; streams = (may_left c s h).streams }

    pub possible_left : Possible a (IsDeciding task stood) old → Possible a (RunsOn task) left
    possible_left m = ∥∥₁_map m (λ w. (w.0, (waits_no_more on from w.1.0, on_left w.0 w.1.0 w.1.1)))

    -- it goes on
    pub resumes_left : (input : Input) (new : RunState X) (machine : State a.Kept → plain.RequestReply a.Kept)
        → ((s : State a.Kept) → decides a.meaning stood task input s ≡ machine (waits_no_more on from s))
        → (result : Result RequestReply Memory) → RepliesOn a task machine left new result
        → Resumes a task stood input old new result
    resumes_left input new machine means (Ok it) goes =
        λ c s h. subst (Says task c new it) (sym (means s)) (goes c (waits_no_more on from s) (on_left c s h))
    resumes_left input new machine means (Err why) goes = tt

    -- or raises what came
    pub raises_left : (input : Input) (fault : Exc)
        → ((s : State a.Kept) → decides a.meaning stood task input s ≡ plain.Raises fault (waits_no_more on from s))
        → Resumes a task stood input old left (Ok (said.Raises fault))
    raises_left input fault means =
        λ c s h. subst (Says task c left (said.Raises fault)) (sym (means s)) (refl, in_step_left c s h)

  -- ---- what a call requires before it
  module _ (possible : Possible a (IsDeciding task stood) old) where
    deciding_streams : HasStreams old.transports
    deciding_streams = has_streams (Some task) (IsDeciding task stood) old may possible

    pub deciding_owned : OwnsTransports old.parts old.transports
    deciding_owned = transports_owned (Some task) (IsDeciding task stood) old may possible

    pub deciding_idle : old.parts.called ≡ None
    deciding_idle = ∥∥₁_elim possible (same_prop old.parts.called None) (λ w. w.1.1.in_step.called)

  -- ---- a connect
  module _ {W : Type 0} (o : Outside W) where
    -- the connection stands
    pub connect_answers : (value : Value) (wire : W)
        → ((s : State a.Kept) → decides a.meaning stood task (Send value) s ≡ plain.Answers value s)
        → Comes o (resuming a task stood (Send value) old old) (ported wire old.events) (ported wire old.events) (Ok (said.Answers value))
    connect_answers value wire means =
        comes_ends o (resuming a task stood (Send value) old old) [] (ported wire old.events) (ported wire old.events)
        (said.Answers value)
        (come_none o (λ c s. IsDeciding task stood c old s) (ported wire old.events) (ported wire old.events) _ refl
        (λ c s h. (told_none old.events.events, subst (Says task c old (said.Answers value)) (sym (means s)) (refl, h.in_step))))

    -- or an exception came, and the connection is dropped
    module _ (possible : Possible a (IsDeciding task stood) old) (new : RunState X) (wire after : W) (conn : ℕ) (fault : Exc)
        (means : (s : State a.Kept)
        → decides a.meaning stood task (Throw fault) s ≡ plain.streams_change (drop_connect conn s.streams) (plain.Raises fault) s)
        (frame : new ≡ record old { parts = new.parts; events = new.events; transports = new.transports }) where
      pub connect_raises : {R : Type 0} (result : Result R Stop)
          → Changes o (drop_connect conn) old.transports new.transports (reach old.parts wire old.events) (reach new.parts after new.events) result
          → Comes o (resuming a task stood (Throw fault) old new) (ported wire old.events) (ported after new.events) (raised_as fault result)
      connect_raises (Ok it) call =
          raises_go o task old new new wire after (λ c s. IsDeciding task stood c old s)
          (decides a.meaning stood task (Throw fault)) may in_step
          (λ first now. Unit {0}) (plain.Raises fault)
          (changed_goes o task old new new wire after (λ c s. IsDeciding task stood c old s)
          (decides a.meaning stood task (Throw fault)) may in_step
          (λ n. drop_connect conn) (plain.Raises fault) (λ c s h. means s) (deciding_streams possible) it call
          (λ s kept. drops (plain_in s) (next_future s.loop.parts) conn s.streams kept) frame)
          refl fault (λ t. refl)
      connect_raises {R} (Err why) call =
          changed_fails o task old new new wire after (λ c s. IsDeciding task stood c old s)
          (decides a.meaning stood task (Throw fault)) may in_step
          (λ n. drop_connect conn) (plain.Raises fault) (λ c s h. means s) (deciding_streams possible) R (raises_add fault)
          (drop_connect_forgets conn) why
          call
