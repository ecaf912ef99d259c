-- A read in a task's step that goes on: what it requires, and what comes of one look.
use Rattle.std.proofs.Common.{◌≡◌, ℕ, ◌<◌, ℤ, pos, negsuc, true, List, [], ◌++◌, Some, None, length, slice_get, refl}
use Rattle.std.proofs.Common.{Ok, Err, Result, ap, sym, subst, ◌∙◌}
use Rattle.std.proofs.Math.Logic.{∥∥₁_elim, ∥∥₁_map}
use Rattle.std.proofs.Props.{props}
use Rattle.std.proofs.lemmas.Bool.{eq-eqb}
use Rattle.std.specs.Prelude.{IfOk}
use Rattle.model_value.specs.declared.request.Request.TheVariants as request
use Rattle.model_value.specs.Request.{Request}
use Rattle.model_value.specs.Value.{Bytes, Exc, Value}
use Rattle.model_loop.specs.Futures.{is_pending_at, next_future}
use Rattle.model_stream.specs.declared.answers.StreamGot.TheVariants as got
use Rattle.model_stream.specs.Reading.{ReadOp}
use Rattle.model_stream.specs.Receivers.{AllGot, StreamGot}
use Rattle.model_stream.specs.declared.read_op.ReadOp.TheVariants.{UpTo}
use Rattle.model_stream.specs.Requests as streams
use Rattle.model_stream.specs.Requests.{read, read_all}
use Rattle.model_machine.specs.Arguments.{as_int, as_reader}
use Rattle.model_machine.specs.Extra.{Extra}
use Rattle.model_machine.specs.Replies as plain
use Rattle.model_machine.specs.Replies.{reads, reads_all, reads_all_as, reads_as, reply}
use Rattle.model_machine.specs.State as state
use Rattle.model_machine.specs.State.{State}
use Rattle.law_replies.proofs.Counts.{lives_within}
use Rattle.law_cases.specs.TreeEnd.{owned_in as plain_in}
use Rattle.law_cases.specs.Trees.{AllWaits, IsMade, ReadWaits}
use Rattle.law_cases.proofs.Asking.{reads as reads_keep, reads_all as reads_all_keep}
use Rattle.aio_task.specs.View.{View}
use Rattle.aio_transports.specs.declared.reader.StreamReader.{StreamReader}
use Rattle.aio_transports.specs.Kept.{Kept as Transports}
use Rattle.aio_transports.specs.Owned.{OwnsTransports}
use Rattle.aio_transports.specs.Readers.{reader_as}
use Rattle.aio_transports.specs.Standing.{ToldWith}
use Rattle.aio_base.specs.declared.memory.Memory.{Memory}
use Rattle.aio_extra.specs.Added.{Added}
use Rattle.aio_body.specs.declared.run_state.RunState.{RunState}
use Rattle.aio_body.specs.declared.reply.RequestReply.{RequestReply}
use Rattle.aio_body.specs.declared.reply.RequestReply.TheVariants as said
use Rattle.aio_body.specs.declared.resume_point.ResumePoint.TheVariants as code
use Rattle.aio_body.specs.Asked.{IsAskingFor, IsInStep, Says, Serves}
use Rattle.aio_body.specs.Slots.{resume_point_at}
use Rattle.aio_body.specs.Stands.{Possible, Context}
use Rattle.aio_body.proofs.May.{same_prop}
use Rattle.refine_streams.specs.Streams.{HasStreams}
use Rattle.refine_streams.specs.Went.{MayCall, CallsSuspend}
use Rattle.refine_streams.proofs.Meaning.{read_all_means, read_means}
use Rattle.refine_streams.proofs.Possible.{has_streams, transports_owned}
use Rattle.refine_streams.proofs.Unasking.{tells_answers, tells_pending, tells_raises, tells_running, tells_stands}
use Rattle.aio_streaming.specs.Counts.{natural_in}
use Rattle.aio_streaming.specs.Going.{RepliesOn, RunsOn}

-- ---- the count of a read
module _ {S : Type 0} (added : Extra S) (task : ℕ) (s : State S) (stream count : Value) (from : streams.StreamReader)
    (of : as_reader s stream ≡ Some from) where
  pub read_counts : (number : ℤ) (most : ℕ) → as_int count ≡ Some number → natural_in number ≡ Some most
      → reply added task (request.Read stream count) s ≡ reads task (UpTo most) from s
  read_counts (pos n) most is same =
      let one : n ≡ most = cc in read_means added task s stream count from n of is ∙ ap (λ m. reads task (UpTo m) from s) one
  read_counts (negsuc n) most is same = absurd (cc)

  pub read_whole : (number : ℤ) → as_int count ≡ Some number → natural_in number ≡ None
      → reply added task (request.Read stream count) s ≡ reads_all task from [] s
  read_whole (pos n) is same = absurd (cc)
  read_whole (negsuc n) is same = read_all_means added task s stream count from n of is

module _ {X : Type 0} {a : Added X} (task : ℕ) where
  pub may_on : (c : Context a) (body : RunState X) (s : State a.Kept) → RunsOn task c body s → MayCall (Some task) c body s
  may_on c body s h = record { stands = h.in_step.stands; streams = h.streams; owns = h.sound.parts.owns }

  -- as a request begins
  pub on_asking : (request : Request) (c : Context a) (body : RunState X) (s : State a.Kept) → IsAskingFor task request c body s
      → RunsOn task c body s
  on_asking request c body s h = record {
    in_step = h.going.in_step;
    sound = h.going.sound.others.loop;
    streams = h.going.sound.others.streams;
  }

  pub possible_asking : (request : Request) (body : RunState X) → Possible a (IsAskingFor task request) body
      → Possible a (RunsOn task) body
  possible_asking request body m = ∥∥₁_map m (λ w. (w.0, (w.1.0, on_asking request w.0 body w.1.0 w.1.1)))

  -- it is served by what goes on so
  pub serves_on : (request : Request) (old new : RunState X) (machine : State a.Kept → plain.RequestReply a.Kept)
      → ((c : Context a) (s : State a.Kept) → IsAskingFor task request c old s → reply a.meaning task request s ≡ machine s)
      → (result : Result RequestReply Memory) → RepliesOn a task machine old new result → Serves a task request old new result
  serves_on request old new machine means (Ok it) goes =
      λ c s h. subst (Says task c new it) (sym (means c s h)) (goes c s (on_asking request c old s h))
  serves_on request old new machine means (Err why) goes = tt

  -- what is answered may be made by a call
  pub answers_on : (old new : RunState X) (machine : State a.Kept → plain.RequestReply a.Kept) (value : Value)
      → RepliesOn a task machine old new (Ok (said.Answers value)) → (result : Result RequestReply Memory)
      → IfOk result (λ it. it ≡ said.Answers value) → RepliesOn a task machine old new result
  answers_on old new machine value goes (Ok it) is =
      subst (λ (one : RequestReply). RepliesOn a task machine old new (Ok one)) (sym is) goes
  answers_on old new machine value goes (Err why) is = tt

  -- ---- what a look requires
  module _ (old : RunState X) (possible : Possible a (RunsOn task) old) where
    in_step : (c : Context a) (s : State a.Kept) → RunsOn task c old s → IsInStep task c old s
    in_step c s h = h.in_step

    may : (c : Context a) (s : State a.Kept) → RunsOn task c old s → MayCall (Some task) c old s
    may c s h = may_on c old s h

    on_streams : HasStreams old.transports
    on_streams = has_streams (Some task) (RunsOn task) old may possible

    pub on_owned : OwnsTransports old.parts old.transports
    on_owned = transports_owned (Some task) (RunsOn task) old may possible

    pub on_idle : old.parts.called ≡ None
    on_idle = ∥∥₁_elim possible (same_prop old.parts.called None) (λ w. w.1.1.in_step.called)

    -- the task has its slot
    pub on_within : task < length old.slots.items
    on_within =
        ∥∥₁_elim possible (hlevel props) (λ w.
        subst (λ n. task < n) (sym w.1.1.in_step.stands.made)
        (lives_within w.1.0.loop.parts task (w.1.1.sound.parts.runs task (eq-eqb task task refl))))

    -- ---- one look
    module _ (from : StreamReader) (v : View) (k : Transports) where
      abbrev looked : RunState X
      looked = record old { parts = v; transports = k }

      module _ (op : ReadOp) (it : StreamGot)
          (told : ToldWith (read (length old.parts.futures) op (reader_as from)) old.transports k old.parts v it) where
        abbrev machine : State a.Kept → plain.RequestReply a.Kept
        machine = reads task op (reader_as from)

        pub read_answers : (bytes : List ℕ) → it ≡ got.Bytes bytes
            → RepliesOn a task machine old looked (Ok (said.Answers (Bytes bytes)))
        read_answers bytes is =
            tells_answers task old looked (λ c s. RunsOn task c old s) machine may in_step on_streams refl refl
            (λ n. read n op (reader_as from))
            (reads_as task op (reader_as from)) (λ c s h. refl) ReadWaits it told
            (λ s kept. reads_keep (plain_in s) (next_future s.loop.parts) op (reader_as from) s.streams kept)
            (Bytes bytes)
            (λ t. ap (λ w. reads_as task op (reader_as from) w t) is)

        pub read_raises : (fault : Exc) → it ≡ got.Raises fault → RepliesOn a task machine old looked (Ok (said.Raises fault))
        read_raises fault is =
            tells_raises task old looked (λ c s. RunsOn task c old s) machine may in_step on_streams refl refl
            (λ n. read n op (reader_as from))
            (reads_as task op (reader_as from)) (λ c s h. refl) ReadWaits it told
            (λ s kept. reads_keep (plain_in s) (next_future s.loop.parts) op (reader_as from) s.streams kept) fault
            (λ t. ap (λ w. reads_as task op (reader_as from) w t) is)

        module _ (on : ℕ) (is : it ≡ got.Waits on) where
          pub read_running : v.running ≡ Some task
          read_running =
              tells_running task old looked (λ c s. RunsOn task c old s) machine may in_step on_streams refl refl
              (λ n. read n op (reader_as from))
              (reads_as task op (reader_as from)) (λ c s h. refl) ReadWaits it told
              (λ s kept. reads_keep (plain_in s) (next_future s.loop.parts) op (reader_as from) s.streams kept)
              possible

          pub read_pending : is_pending_at (slice_get v.futures on) ≡ true
          read_pending =
              tells_pending task old looked (λ c s. RunsOn task c old s) machine may in_step on_streams refl refl
              (λ n. read n op (reader_as from))
              (reads_as task op (reader_as from)) (λ c s h. refl) ReadWaits it told
              (λ s kept. reads_keep (plain_in s) (next_future s.loop.parts) op (reader_as from) s.streams kept)
              possible on
              (λ first now made. subst (ReadWaits (IsMade first now)) is made)

          pub read_suspends : (last : RunState X) (w : View) → last ≡ record looked { parts = w; slots = last.slots }
              → last.slots.items ≡ resume_point_at task (code.Reading from op on) old.slots.items → CallsSuspend task on v w
              → RepliesOn a task machine old last (Ok said.Suspends)
          read_suspends last w whole items suspends =
              tells_stands task old looked (λ c s. RunsOn task c old s) machine may in_step on_streams refl refl
              (λ n. read n op (reader_as from))
              (reads_as task op (reader_as from)) (λ c s h. refl) ReadWaits it told
              (λ s kept. reads_keep (plain_in s) (next_future s.loop.parts) op (reader_as from) s.streams kept) last on
              w
              (code.Reading from op on) (state.Reading (reader_as from) op on) whole items on_within
              (λ t p named. (refl, refl, refl))
              (λ first now made. subst (ReadWaits (IsMade first now)) is made) suspends
              (λ t. ap (λ r. reads_as task op (reader_as from) r t) is)

      -- with a negative count, after what was taken
      module _ (taken : List ℕ) (it : AllGot)
          (told : ToldWith (read_all (length old.parts.futures) (reader_as from)) old.transports k old.parts v it) where
        abbrev joins : State a.Kept → plain.RequestReply a.Kept
        joins = reads_all task (reader_as from) taken

        abbrev next : AllGot → State a.Kept → plain.RequestReply a.Kept
        next one = reads_all_as task (reader_as from) (taken ++ one.taken) one.got

        pub all_answers : (bytes : List ℕ) → it.got ≡ got.Bytes bytes
            → RepliesOn a task joins old looked (Ok (said.Answers (Bytes (taken ++ it.taken))))
        all_answers bytes is =
            tells_answers task old looked (λ c s. RunsOn task c old s) joins may in_step on_streams refl refl
            (λ n. read_all n (reader_as from)) next
            (λ c s h. refl) AllWaits it told
            (λ s kept. reads_all_keep (plain_in s) (next_future s.loop.parts) (reader_as from) s.streams kept)
            (Bytes (taken ++ it.taken))
            (λ t. ap (λ w. reads_all_as task (reader_as from) (taken ++ it.taken) w t) is)

        pub all_raises : (fault : Exc) → it.got ≡ got.Raises fault → RepliesOn a task joins old looked (Ok (said.Raises fault))
        all_raises fault is =
            tells_raises task old looked (λ c s. RunsOn task c old s) joins may in_step on_streams refl refl
            (λ n. read_all n (reader_as from)) next
            (λ c s h. refl) AllWaits it told
            (λ s kept. reads_all_keep (plain_in s) (next_future s.loop.parts) (reader_as from) s.streams kept) fault
            (λ t. ap (λ w. reads_all_as task (reader_as from) (taken ++ it.taken) w t) is)

        module _ (on : ℕ) (is : it.got ≡ got.Waits on) where
          pub all_running : v.running ≡ Some task
          all_running =
              tells_running task old looked (λ c s. RunsOn task c old s) joins may in_step on_streams refl refl
              (λ n. read_all n (reader_as from)) next
              (λ c s h. refl) AllWaits it told
              (λ s kept. reads_all_keep (plain_in s) (next_future s.loop.parts) (reader_as from) s.streams kept)
              possible

          pub all_pending : is_pending_at (slice_get v.futures on) ≡ true
          all_pending =
              tells_pending task old looked (λ c s. RunsOn task c old s) joins may in_step on_streams refl refl
              (λ n. read_all n (reader_as from)) next
              (λ c s h. refl) AllWaits it told
              (λ s kept. reads_all_keep (plain_in s) (next_future s.loop.parts) (reader_as from) s.streams kept)
              possible on
              (λ first now made. subst (ReadWaits (IsMade first now)) is made)

          pub all_suspends : (last : RunState X) (w : View) → last ≡ record looked { parts = w; slots = last.slots }
              → last.slots.items ≡ resume_point_at task (code.ReadingAll from (taken ++ it.taken) on) old.slots.items
              → CallsSuspend task on v w
              → RepliesOn a task joins old last (Ok said.Suspends)
          all_suspends last w whole items suspends =
              tells_stands task old looked (λ c s. RunsOn task c old s) joins may in_step on_streams refl refl
              (λ n. read_all n (reader_as from)) next
              (λ c s h. refl) AllWaits it told
              (λ s kept. reads_all_keep (plain_in s) (next_future s.loop.parts) (reader_as from) s.streams kept) last
              on w
              (code.ReadingAll from (taken ++ it.taken) on) (state.ReadingAll (reader_as from) (taken ++ it.taken) on) whole items
              on_within
              (λ t p named. (refl, refl, refl)) (λ first now made. subst (ReadWaits (IsMade first now)) is made) suspends
              (λ t. ap (λ r. reads_all_as task (reader_as from) (taken ++ it.taken) r t) is)
