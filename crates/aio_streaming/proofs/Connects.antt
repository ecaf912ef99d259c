-- A connect, by the call that begins its connection.
use Rattle.std.proofs.Common.{◌≡◌, ℕ, ◌<◌, ◌+◌, Bool, true, false, cond, if◌then◌else◌, arith, List, [], ◌∷◌, Option, Some, None, length, slice_get, Result, Ok}
use Rattle.std.proofs.Common.{Err, refl, sym, ap, subst, ◌∙◌}
use Rattle.std.proofs.Common.{OnOk}
use Rattle.std.proofs.lemmas.Bool.{ne_eqb}
use Rattle.std.proofs.lemmas.List.Sums.{sum_by_push}
use Rattle.std.specs.List.{sum_by}
use Rattle.std.specs.Result.{IfOk}
use Rattle.model_value.specs.Request.{Request}
use Rattle.model_stream.specs.Connections.{connect_refused, connecting}
use Rattle.model_wire.specs.Journal.{Entry}
use Rattle.model_loop.specs.Futures.{is_pending_at, next_future}
use Rattle.model_loop.specs.Owning.{is_plain}
use Rattle.model_stream.specs.Answers.{is_conn}
use Rattle.model_stream.specs.Doing.{Doing, Changes, Ends, MakeFuture}
use Rattle.model_stream.specs.Kept.{child_times, connection_asked, one_time, times_asked}
use Rattle.model_stream.specs.Streams.{Streams, add_connection, connect}
use Rattle.model_machine.specs.Replies as plain
use Rattle.model_machine.specs.Replies.{connects_as, reply, streams_do, waits}
use Rattle.model_machine.specs.Sound.{AreStreamsFutures, IsOwned}
use Rattle.model_machine.specs.State.{State}
use Rattle.model_machine.specs.State as state
use Rattle.aio_base.specs.declared.memory.Memory.{Memory}
use Rattle.aio_wire.specs.Outside.{Outside}
use Rattle.aio_wire.specs.Port.{ported}
use Rattle.aio_wire.specs.declared.stop.Stop.{Stop}
use Rattle.aio_exchange.specs.Exchanged.{Exchange, Last, All, Met, Starved}
use Rattle.aio_exchange.specs.Follows.{EndsBy, Follows, reach}
use Rattle.aio_exchange.specs.Ways.{Move, Did, Heard, Leads}
use Rattle.refine_parts.proofs.Telling.{next_kept}
use Rattle.law_steps.proofs.CancelSound.{plain_within}
use Rattle.law_cases.specs.TreeEnd.{owned_in as plain_in}
use Rattle.law_cases.specs.Trees.{AnswersStreams, IsMade, Keeping}
use Rattle.law_cases.proofs.Fits.{asked_kept, kept_nowhere}
use Rattle.law_cases.proofs.Opening.{connects}
use Rattle.aio_transports.specs.Standing.{Answers as AnswersTree, StandsAfter, TransportsStandFor as AreTransports}
use Rattle.aio_task.specs.Keeps.{NameMap}
use Rattle.aio_body.proofs.Adding.{each_among}
use Rattle.aio_extra.specs.Added.{Added, named_in}
use Rattle.aio_body.specs.declared.run_state.RunState.{RunState}
use Rattle.aio_body.specs.declared.reply.RequestReply.{RequestReply}
use Rattle.aio_body.specs.declared.reply.RequestReply.TheVariants as said
use Rattle.aio_body.specs.declared.resume_point.ResumePoint.TheVariants as code
use Rattle.aio_body.specs.Asked.{IsAskingFor}
use Rattle.aio_body.specs.Asking.{Comes, or_stop, serving}
use Rattle.aio_body.specs.Slots.{resume_point_at}
use Rattle.aio_body.specs.Stands.{Possible, Context, Stands, StandsAt}
use Rattle.aio_body.proofs.Asking.{HasCome}
use Rattle.aio_body.specs.Answers.{with_answers, with_rest}
use Rattle.aio_body.proofs.Answering.{asking_again}
use Rattle.aio_change.specs.Seen.{seen_changed}
use Rattle.aio_body.proofs.May.{going_of, running_of}
use Rattle.aio_body.proofs.Sound.{plain_named}
use Rattle.refine_streams.specs.Went.{BegunWaits, HasGone, MayCall, CallsSuspend}
use Rattle.refine_streams.proofs.Forgetting.{connect_forgets}
use Rattle.refine_streams.proofs.May.{may_asking}
use Rattle.refine_streams.proofs.Nexts.{connects_add}
use Rattle.refine_streams.proofs.Possible.{called_gone, pending_gone, running_gone}
use Rattle.refine_streams.proofs.Requests.{begun_waits}
use Rattle.refine_streams.proofs.Served.{asking_idle, serving_fails, serving_goes, serving_raises, serving_stands, serving_starves}
use Rattle.aio_body.proofs.HasSlot.{slot_there}

-- ---- what a connect leaves, where it began a connection
abbrev Left : ℕ → Streams → Streams → ℕ × ℕ → Type 0
Left next s after begun = (after ≡ add_connection (connecting next (next + 1)) s) × (begun.1 ≡ next + 1)

ends_same : {A : Type 0} {a b : A} → Ends a ≡ Ends b → a ≡ b
ends_same e = cc

some_same : {A : Type 0} {a b : A} → Some a ≡ Some b → a ≡ b
some_same e = cc

begun_leaves : (port next : ℕ) (s after : Streams) (begun : ℕ × ℕ) (way : List Move) (left : Doing (Streams × Option (ℕ × ℕ)))
    → Leads (connect port next s) way left → left ≡ Ends (after, Some begun) → Left next s after begun
begun_leaves port next s after begun [] left leads e = absurd (cc)
begun_leaves port next s after begun (Did it ∷ way) left leads e = absurd leads
begun_leaves port next s after begun (Heard asked answer ∷ way) left leads e = by (is_conn answer) way leads.1
  where
    by : (b : Bool) (way : List Move) → Leads (if b
        then Changes MakeFuture (Changes MakeFuture
        (Ends (add_connection (connecting next (next + 1)) s, Some (length s.connections, next + 1))))
        else Ends (s, None)) way left → Left next s after begun
    by false [] l = absurd (let none = ap (λ x. x.1) (ends_same (l ∙ e)) in cc)
    by false (it ∷ way) l = absurd l
    by true [] l = absurd (cc)
    by true (Heard other reply_ ∷ way) l = absurd l
    by true (Did it ∷ []) l = absurd (let same = l.1 in cc)
    by true (Did it ∷ Heard other reply_ ∷ way) l = absurd l.1
    by true (Did it ∷ Did also ∷ (more ∷ way)) l = absurd l.1.1
    by true (Did it ∷ Did also ∷ []) l =
        let same = ends_same (l.1.1 ∙ e) in
        let begins = some_same (ap (λ x. x.1) same) in
        (sym (ap (λ x. x.0) same), sym (ap (λ x. x.1) begins))

-- with its result nothing is left to do
by_all : {A : Type 0} (last : Last) (left : Doing A) (count : ℕ) (result : A) → EndsBy last left count (Ok result) → left ≡ Ends result
by_all All left count result ends = ends
by_all (Met asked came) left count result ends = absurd ends
by_all Starved left count result ends = absurd ends

-- no connection and no child asks for the future that it waits on
none_asked : (next : ℕ) (s : Streams) → times_asked (next + 1) s ≡ 0 → times_asked (next + 1) (add_connection (connecting next (next + 1)) s) ≡ 0
none_asked next s none =
    let more = sum_by_push (connection_asked (next + 1)) s.connections (connecting next (next + 1)) in
    let other : one_time (next + 1) (Some next) ≡ 0 = ap (λ b. cond b 1 0) (ne_eqb (next + 1) next (λ e. omega (arith, e))) in
    omega (arith, more, other, none)

module _ {X W : Type 0} {a : Added X} (task number : ℕ) (request : Request) (old : RunState X) (o : Outside W)
    (possible : Possible a (IsAskingFor task request) old) (new : RunState X) (wire after : W)
    (means : (c : Context a) (s : State a.Kept) → IsAskingFor task request c old s
    → reply a.meaning task request s ≡ streams_do (connect number (next_future s.loop.parts) s.streams) (connects_as task) s) where
  abbrev Says : Result (Option (ℕ × ℕ)) Stop → Type 0
  Says result =
      AnswersTree o (connect number (length old.parts.futures)) old.transports new.transports (reach old.parts wire old.events)
      (reach new.parts after new.events) result

  keeping : (s : State a.Kept) → AreStreamsFutures s
      → Keeping (AnswersStreams BegunWaits (plain_in s) (next_future s.loop.parts) s.streams) (plain_in s) (next_future s.loop.parts)
      (connect number (next_future s.loop.parts) s.streams)
  keeping s kept =
      let own = plain_in s in
      let next = next_future s.loop.parts in
      begun_waits own next next s.streams (connect number next s.streams) (connects own next number s.streams kept)

  -- it stopped
  pub connect_fails : (why : Stop) → Says (Err why) → Comes o (serving a task request old new) (ported wire old.events) (ported after new.events) (Err why)
  connect_fails why call =
      serving_fails task request old o possible new wire after (connect number) (connects_as task) means (connects_add task)
      (connect_forgets number (length old.parts.futures)) why call

  module _ (it : Option (ℕ × ℕ)) (call : Says (Ok it))
      (frame : new ≡ record old { parts = new.parts; events = new.events; transports = new.transports }) where
    -- it was refused
    pub connect_raises : it ≡ None → (result : Result RequestReply Memory) → IfOk result (λ it_. it_ ≡ said.Raises connect_refused)
        → Comes o (serving a task request old new) (ported wire old.events) (ported after new.events) (or_stop result)
    connect_raises none (Ok reply_) is =
        subst (λ r. Comes o (serving a task request old new) (ported wire old.events) (ported after new.events) (Ok r)) (sym is)
        (serving_raises task request old o possible new wire after (connect number) (connects_as task) means BegunWaits it call keeping frame
        connect_refused (λ t. ap (λ k. connects_as task k t) none))
    connect_raises none (Err memory) is =
        serving_starves task request old o possible new wire after (connect number) (connects_as task) means BegunWaits it call keeping frame new
        (connects_add task it)

    module _ (begun : ℕ × ℕ) (is : it ≡ Some begun) where
      made_it : (first now : ℕ) → BegunWaits (IsMade first now) it → IsMade first now begun.1
      made_it first now waits = subst (BegunWaits (IsMade first now)) is waits

      come : (had : List Exchange) × HasCome {a = a} o (λ (c : Context a) (s : State a.Kept). IsAskingFor task request c old s) had
          (ported wire old.events) (ported after new.events)
          (λ (c : Context a) (s : State a.Kept).
          HasGone (Some task) (λ first now. BegunWaits (IsMade first now) it) (reply a.meaning task request s) (connects_as task it) c old new s)
      come =
          serving_goes task request old o possible new wire after (connect number) (connects_as task) means BegunWaits it call keeping frame

      may : (c : Context a) (s : State a.Kept) → IsAskingFor task request c old s → MayCall (Some task) c old s
      may c s from = may_asking c old s task request from

      again : (answers : List Entry) (c : Context a) (s : State a.Kept) → IsAskingFor task request c old s
          → (t : State a.Kept) × IsAskingFor task request (with_rest answers c) old t
      again answers c s from = (with_answers answers s, asking_again answers c old s task request from)

      pub connect_idle : new.parts.called ≡ None
      connect_idle =
          called_gone (Some task) (IsAskingFor task request) old may possible o again come.0 (ported wire old.events) (ported after new.events)
          (λ first now. BegunWaits (IsMade first now) it) (reply a.meaning task request) (connects_as task it) new come.1
          (asking_idle task request old possible)

      pub connect_running : new.parts.running ≡ Some task
      connect_running =
          running_gone (Some task) (IsAskingFor task request) old may possible o again come.0 (ported wire old.events) (ported after new.events)
          (λ first now. BegunWaits (IsMade first now) it) (reply a.meaning task request) (connects_as task it) new come.1 (Some task)
          (running_of task old (going_of task request old possible))

      pub connect_pending : is_pending_at (slice_get new.parts.futures begun.1) ≡ true
      connect_pending =
          pending_gone (Some task) (IsAskingFor task request) old may possible o again come.0 (ported wire old.events) (ported after new.events)
          (λ first now. BegunWaits (IsMade first now) it) (reply a.meaning task request) (connects_as task it) new come.1 begun.1 made_it

      pub connect_there : task < length new.slots.items
      connect_there =
          subst (λ (b : RunState X). task < length b.slots.items) (sym frame) (slot_there task old (going_of task request old possible))

      -- its own future, which nobody else waits for
      none : (d : Context a) (s : State a.Kept) → IsAskingFor task request d old s → (now : Streams) → AreTransports new.transports now
          → times_asked begun.1 now ≡ 0
      none d s from now transports =
          subst (λ n. times_asked n now ≡ 0) (sym left.1)
          (omega (arith, same, none_asked next s.streams before))
        where
          next : ℕ
          next = length old.parts.futures

          stands : Stands (Some task) d old s
          stands = from.going.in_step.stands

          called : (after_ : Streams) × (Follows o seen_changed (connect number next s.streams) (reach old.parts wire old.events)
              (reach new.parts after new.events) (Ok (after_, it)) × StandsAfter new.transports s.streams after_)
          called = call s.streams stands.transports

          ended : called.1.0.left ≡ Ends (called.0, it)
          ended = by_all called.1.0.last called.1.0.left new.events.answers (called.0, it) called.1.0.ends

          left : Left next s.streams called.0 begun
          left =
              begun_leaves number next s.streams called.0 begun called.1.0.way called.1.0.left called.1.0.leads
              (ended ∙ ap (λ x. Ends (called.0, x)) is)

          before : times_asked (next + 1) s.streams ≡ 0
          before =
              let most = asked_kept (next + 1) s.streams in
              let made = next_kept stands.name_map old.parts s.loop.parts stands.keeps in
              let nowhere =
              kept_nowhere (λ future. is_plain s.loop.parts future ≡ true) (next + 1) (λ plain.
              let within = (plain_within s.loop.parts (next + 1) plain).1 in omega (arith, within, made)) s.streams from.going.sound.others.streams in
              omega (arith, most, nowhere)

          same : times_asked (next + 1) now ≡ times_asked (next + 1) (add_connection (connecting next (next + 1)) s.streams)
          same =
              ap (λ cs. sum_by (connection_asked (next + 1)) cs + sum_by (child_times (next + 1)) now.children)
              (transports.streams.connections ∙ sym called.1.1.0.streams.connections)
              ∙ ap (λ ps. sum_by (connection_asked (next + 1)) called.0.connections + sum_by (child_times (next + 1)) ps)
              (transports.children.children ∙ sym called.1.1.0.children.children)
              ∙ ap (times_asked (next + 1)) left.0

      alone : (c d : Context a) (s : State a.Kept) → IsAskingFor task request d old s
          → (g : HasGone (Some task) (λ first now. BegunWaits (IsMade first now) it) (reply a.meaning task request s) (connects_as task it) c old new s)
          → (t : NameMap) → StandsAt t (waits task begun.1 g.now).loop.parts (named_in a (waits task begun.1 g.now)) task
          (code.Connecting begun.0 begun.1) (state.Connecting begun.0)
      alone c d s from g t = (
        refl,
        g.alone task begun.1 (made_it _ _ g.made) (none d s from g.now.streams g.stands.transports) (record {
          scripts = plain_named a.meaning task s from.going.sound;
          waiting = from.going.sound.others.loop.parts.waits_made;
          own = λ id mine.
              (each_among (IsOwned s.loop.parts) (a.meaning.keeps s.extra).own from.going.sound.others.kept.own mine.0 id mine.1).0;
        }),
      )

      rests : (last : RunState X) → CallsSuspend task begun.1 new.parts last.parts → last ≡ record new { parts = last.parts; slots = last.slots }
          → last.slots.items ≡ resume_point_at task (code.Connecting begun.0 begun.1) new.slots.items
          → Comes o (serving a task request old last) (ported wire old.events) (ported after last.events) (Ok said.Suspends)
      rests last suspends same items =
          serving_stands task request old o possible new wire after (connect number) (connects_as task) means BegunWaits it call keeping frame last
          begun.1 last.parts (code.Connecting begun.0 begun.1) (state.Connecting begun.0) same items connect_there alone suspends made_it
          (λ t. ap (λ k. connects_as task k t) is)

      -- or memory is refused after it
      pub connect_stands : (last : RunState X) (result : Result RequestReply Memory) → IfOk result (λ it_. it_ ≡ said.Suspends)
          → CallsSuspend task begun.1 new.parts last.parts → last ≡ record new { parts = last.parts; slots = last.slots }
          → OnOk result (last.slots.items ≡ resume_point_at task (code.Connecting begun.0 begun.1) new.slots.items)
          → Comes o (serving a task request old last) (ported wire old.events) (ported after last.events) (or_stop result)
      connect_stands last (Ok reply_) answer suspends same items =
          subst (λ r. Comes o (serving a task request old last) (ported wire old.events) (ported after last.events) (Ok r)) (sym answer)
          (rests last suspends same items)
      connect_stands last (Err memory) answer suspends same items =
          serving_starves task request old o possible new wire after (connect number) (connects_as task) means BegunWaits it call keeping frame last
          (connects_add task it)
