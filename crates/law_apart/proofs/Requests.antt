-- A request that isn't for what is added, and what a task makes of its input where it stands at none of its requests, leave the futures
-- that the loop of itself doesn't hold, but for cancels.
use Rattle.std.proofs.Common.{◌≡◌, inl, inr, ℕ, suc, ◌+◌, ◌<◌, ◌≤◌, ◌&&◌, not, arith, length-append, ap, subst, ◌∙◌, le_refl, ℤ, pos, negsuc, Bool, true}
use Rattle.std.proofs.Common.{false, List, [], ◌∷◌, ◌++◌, Option, Some, None, length, nat_lt, refl, sym}
use Rattle.std.specs.List.{AllByRecursion as Each}
use Rattle.std.proofs.lemmas.Bool.{and_from, and_parts, false≢true, lt-ltb, ltb-true}
use Rattle.model_value.specs.Action.{Action}
use Rattle.model_value.specs.declared.action.Action.TheVariants as action
use Rattle.model_value.specs.declared.input.Input.TheVariants.{Send, Throw}
use Rattle.model_value.specs.declared.request.Request.TheVariants as request
use Rattle.model_value.specs.Input.{Input}
use Rattle.model_value.specs.Request.{Request}
use Rattle.model_value.specs.Value.{Value, Fut, Nothing, Outcome, Exc}
use Rattle.model_wire.specs.declared.event.Event.TheVariants as event
use Rattle.model_wire.specs.declared.event.Handed.{Handed}
use Rattle.model_wire.specs.Call.{Answer, Call}
use Rattle.model_wire.specs.Fits.{fits}
use Rattle.model_wire.specs.Journal.{Entry, Answered, Refused}
use Rattle.model_wire.specs.Trace.{End}
use Rattle.model_loop.specs.Futures.{next_future}
use Rattle.model_loop.specs.Groups.{GroupExit, Waits, Passes, Raises as RaisedBy, create, exit_begin, exit_woken}
use Rattle.model_loop.specs.Ledger.{ByScript}
use Rattle.model_loop.specs.Handles.{deadline}
use Rattle.model_loop.specs.Loop.{Loop}
use Rattle.model_loop.specs.Parts.{Plain}
use Rattle.model_loop.specs.Timeouts.{exit_timeout}
use Rattle.model_stream.specs.declared.answers.ChildWait.{ChildWait}
use Rattle.model_stream.specs.declared.answers.ChildWait.TheVariants as wait_as
use Rattle.model_stream.specs.declared.answers.Drain.TheVariants as drain_as
use Rattle.model_stream.specs.declared.answers.StreamGot.TheVariants as got
use Rattle.model_stream.specs.declared.answers.Wrote.{Wrote}
use Rattle.model_stream.specs.declared.answers.Wrote.TheVariants as wrote
use Rattle.model_stream.specs.declared.put.Limited.{Limited}
use Rattle.model_stream.specs.declared.put.Limited.TheVariants as limited
use Rattle.model_stream.specs.declared.read_op.ReadOp.TheVariants.{UpTo, Exactly, Until, Line}
use Rattle.model_stream.specs.Doing as doing
use Rattle.model_stream.specs.Doing.{Doing, Ends, Changes, Asks}
use Rattle.model_stream.specs.Reading.{ReadOp}
use Rattle.model_stream.specs.Receivers.{StreamGot}
use Rattle.model_stream.specs.Requests.{StreamReader, write, drain, limits, write_eof, close, closed_future, drop_connect, read, read_all, give_up_read}
use Rattle.model_stream.specs.Requests.{wait, kill}
use Rattle.model_stream.specs.Senders.{Drain}
use Rattle.model_stream.specs.Streams.{Streams, may_listen, may_connect, may_launch, listen, connect, launch, close_server}
use Rattle.model_machine.specs.Arguments.{AServer, AWriter, Closable, as_bytes, as_child, as_closable, as_conn, as_delay, as_int, as_reader, as_words}
use Rattle.model_machine.specs.Arguments.{as_writer}
use Rattle.model_machine.specs.Does.{changed, does}
use Rattle.model_machine.specs.Extra.{Extra}
use Rattle.model_machine.specs.Outcomes.{input_of}
use Rattle.model_machine.specs.Replies.{RequestReply, Answers, Raises, Halts, alarmed, awaits, awaits_as, awaits_closed_as, awaits_exit_as, closes}
use Rattle.model_machine.specs.Replies.{connects, connects_as, decides, drains, drains_as, ended, exits_as, exits_timeout, given, hears, launches, sleeps_for}
use Rattle.model_machine.specs.Replies.{launches_as, limits_as, listens, listens_as, numbered_if, reads, reads_all, reads_all_as, reads_as, reads_count}
use Rattle.model_machine.specs.Replies.{replied, reply, streams_change, streams_do, timed_out_if, to_port, to_port_if, waits, waits_no_more, writes_as}
use Rattle.model_machine.specs.State.{ResumePoint, Asked, Sleeping, Leaving, Serving, Connecting, Yielding, Reading, ReadingAll, State, noted}
use Rattle.model_machine.specs.State.{stands, unbooked_in, with_coroutine, with_loop, with_streams}
use Rattle.model_machine.specs.Went.{answered_so, ask_so, fitted_so}
use Rattle.law_cases.specs.Cases.{Replies, raises, leaves_none, exits_none, tells, names_itself, hands_on, pauses_on, alarms, awaits as awaits_it, prints}
use Rattle.law_cases.specs.Cases.{makes, sets, fails, cancels, uncancels, spawns_it, enters, leaves, moves, enters_one, exits, creates_it, serves_it}
use Rattle.law_cases.specs.Closed.{is_to_streams}
use Rattle.law_cases.specs.Trees.{AllWaits, AnswersStreams, ConnectsStreams, DrainWaits, ExitWaits, Keeping, KeepsStreams, ReadWaits, WaitsNever}
use Rattle.law_cases.specs.Trees.{is_of_streams}
use Rattle.law_cases.proofs.Asking as asking
use Rattle.law_cases.proofs.Cases.{reply_is}
use Rattle.law_cases.proofs.Opening as opening
use Rattle.law_changes.specs.Changes.{PartsChange, CallsLater, CallsSoon, MakesFuture, MakesTask, Settles, made_of_parts}
use Rattle.law_reach.specs.Reaches.{left_by}
use Rattle.model_machine.specs.Arguments.{as_future}
use Rattle.model_stream.specs.Kept.{StreamsKeep}
use Rattle.law_cases.specs.Trees.{IsKnown, IsOwn, Owned}
use Rattle.law_cases.proofs.Composing.{streams_more}
use Rattle.law_sync.proofs.Lists.{each_append, each_at, each_on}
use Rattle.law_apart.specs.Apart.{IsApart, IsLoopApart, IsTheirs, Leaves, ends_sleep, is_extra_request, serves_none}
use Rattle.law_apart.proofs.Parts.{MayBe, leaves_then, new_theirs, no_sleep, settle_made, theirs_more}
use Rattle.law_apart.proofs.Loops.{Safe, asks_safe, change_safe, create_safe, enter_group_safe, enter_safe, exit_begin_safe, exit_timeout_safe}
use Rattle.law_apart.proofs.Loops.{exit_woken_safe}
use Rattle.law_apart.proofs.Loops.{reschedule_safe, suspend_safe, takes_safe}

-- ---- small changes
of_streams : (it : Action) → is_of_streams it ≡ true → ends_sleep it ≡ false
of_streams (action.SleepDone task future) is = absurd (false≢true is)
of_streams _ is = refl

module _ (ours : ℕ → Bool) (made : ℕ) (below : (future : ℕ) → ours future ≡ true → future < made) where
  module _ {S : Type 0} where
    pub record StateBoth (s t : State S) : Type 0 where
      pub apart : IsApart ours made t
      pub leaves : Leaves ours s.loop.parts t.loop.parts

    abbrev pub Beside : State S → State S → Type 0
    Beside s t = IsApart ours made s → StateBoth s t

    pub then_both : (s t u : State S) → StateBoth s t → Beside t u → StateBoth s u
    then_both s t u b next =
        let c = next b.apart in record { apart = c.apart; leaves = leaves_then ours s.loop.parts t.loop.parts u.loop.parts b.leaves c.leaves }

    pub beside_then : (s t u : State S) → Beside s t → Beside t u → Beside s u
    beside_then s t u first next a = then_both s t u (first a) next

    -- the loop, the streams and the names of scripts stay
    pub beside_as : (s t : State S) → t.loop ≡ s.loop → t.streams ≡ s.streams → t.futures ≡ s.futures → Beside s t
    beside_as s t loop streams futures a = record {
      apart = record {
        loop = subst (λ l. IsLoopApart ours made l) (sym loop) a.loop;
        streams = subst (λ l. StreamsKeep (IsTheirs ours (next_future l.parts)) t.streams) (sym loop)
            (subst (StreamsKeep (IsTheirs ours (next_future s.loop.parts))) (sym streams) a.streams);
        scripts = subst (λ l. Each (IsTheirs ours (next_future l.parts)) t.futures) (sym loop)
            (subst (Each (IsTheirs ours (next_future s.loop.parts))) (sym futures) a.scripts);
      };
      leaves = subst (λ l. Leaves ours s.loop.parts l.parts) (sym loop) (record { more = le_refl _; stay = λ future is. inl refl });
    }

    pub beside_same : (s : State S) → Beside s s
    beside_same s = beside_as s s refl refl refl

    -- of the loop alone
    pub loop_beside : (s : State S) (l : Loop) → Safe ours made below s.loop l → Beside s (record s { loop = l })
    loop_beside s l safe a =
        let b = safe a.loop in
        let le = b.leaves.more in
        record {
          apart = record {
            loop = b.apart;
            streams = streams_more (IsTheirs ours (next_future s.loop.parts)) (IsTheirs ours (next_future l.parts))
                (theirs_more ours (next_future s.loop.parts) (next_future l.parts) le) s.streams a.streams;
            scripts = each_on (IsTheirs ours (next_future s.loop.parts)) (IsTheirs ours (next_future l.parts))
                (theirs_more ours (next_future s.loop.parts) (next_future l.parts) le) s.futures a.scripts;
          };
          leaves = b.leaves;
        }

    pub parts_beside : (change : PartsChange) (s : State S) → (IsApart ours made s → MayBe ours made below change s.loop.parts)
        → Beside s (unbooked_in (made_of_parts change) s)
    parts_beside change s may a =
        loop_beside s (record s.loop { parts = made_of_parts change s.loop.parts }) (change_safe ours made below change s.loop (λ b. may a)) a

    pub waits_beside : (task id : ℕ) (s : State S) → Beside s (waits task id s)
    waits_beside task id s = loop_beside s (waits task id s).loop (suspend_safe ours made below task id s.loop)

    pub stands_beside : (resume_point : ResumePoint) (task : ℕ) (s : State S) → Beside s (stands resume_point task s)
    stands_beside resume_point task s = beside_as s (stands resume_point task s) refl refl refl

    pub coroutine_beside : (coroutine : ℕ) (arguments : List Value) (s : State S) → Beside s (with_coroutine coroutine arguments s)
    coroutine_beside coroutine arguments s = beside_as s (with_coroutine coroutine arguments s) refl refl refl

    -- ---- streams
    abbrev pub own : State S → Owned
    own s =
        record {
          has = λ future. not (ours future) && nat_lt future (next_future s.loop.parts);
          connections = length s.streams.connections;
        }

    own_theirs : (s : State S) (future : ℕ) → IsOwn (own s) future → IsTheirs ours (next_future s.loop.parts) future
    own_theirs s future is =
        let parts = and_parts (not (ours future)) (nat_lt future (next_future s.loop.parts)) is in
        (not_true (ours future) parts.0, ltb-true future (next_future s.loop.parts) parts.1)
      where
        not_true : (b : Bool) → not b ≡ true → b ≡ false
        not_true true h = absurd (false≢true h)
        not_true false h = refl

    pub kept_own : (s : State S) → IsApart ours made s → StreamsKeep (IsOwn (own s)) s.streams
    kept_own s a =
        streams_more (IsTheirs ours (next_future s.loop.parts)) (IsOwn (own s))
        (λ future is. and_from (not (ours future)) (nat_lt future (next_future s.loop.parts)) (ap not is.0)
        (lt-ltb future (next_future s.loop.parts) is.1)) s.streams a.streams

    -- those with which a tree ends
    pub ends_streams : (s t : State S) (number : ℕ) (streams : Streams) → IsApart ours made s → StateBoth s t → number ≡ next_future t.loop.parts
        → StreamsKeep (IsKnown (own s) (next_future s.loop.parts) number) streams → StateBoth s (with_streams streams t)
    ends_streams s t number streams a b is keeps = record {
      apart = record {
        loop = b.apart.loop;
        streams = streams_more (IsKnown (own s) (next_future s.loop.parts) number) (IsTheirs ours (next_future t.loop.parts)) known streams keeps;
        scripts = b.apart.scripts;
      };
      leaves = b.leaves;
    }
      where
        new : (future : ℕ) → next_future s.loop.parts ≤ future → (o : Bool) → ours future ≡ o → ours future ≡ false
        new future late true e = let l = below future e in let r = a.loop.parts.reached in absurd (omega (arith, l, r, late))
        new future late false e = e

        known : (future : ℕ) → IsKnown (own s) (next_future s.loop.parts) number future → IsTheirs ours (next_future t.loop.parts) future
        known future (inl mine) =
            theirs_more ours (next_future s.loop.parts) (next_future t.loop.parts) b.leaves.more future (own_theirs s future mine)
        known future (inr made_in) = (new future made_in.0 (ours future) refl, let l = made_in.1 in omega (arith, l, is))

  -- ---- calls, and trees of streams, from one state on
  module _ {S R : Type 0} (halts : End → State S → R) (Comes : R → Type 0) (from : State S)
      (ends : (how : End) (last : State S) → StateBoth from last → Comes (halts how last)) where
    pub asked_on : (it : Call) (next : Answer → State S → R) (s : State S) → StateBoth from s
        → ((came : Answer) (t : State S) → StateBoth from t → t.loop ≡ s.loop → Comes (next came t)) → Comes (ask_so halts it next s)
    asked_on it next s so each = by s.answers
      where
        noted_so : StateBoth from (noted (event.Called it) s)
        noted_so = then_both from s (noted (event.Called it) s) so (beside_as s (noted (event.Called it) s) refl refl refl)

        heard : (came : Answer) (entries : List Entry)
            → StateBoth from (noted (event.Got came) (record (noted (event.Called it) s) { answers = entries }))
        heard came entries =
            then_both from s (noted (event.Got came) (record (noted (event.Called it) s) { answers = entries })) so
            (beside_as s (noted (event.Got came) (record (noted (event.Called it) s) { answers = entries })) refl refl refl)

        fit : (b : Bool) (came : Answer) (t : State S) → StateBoth from t → t.loop ≡ s.loop → Comes (fitted_so halts b it came next t)
        fit true came t here same = each came t here same
        fit false came t here same = ends _ t here

        by : (entries : List Entry) → Comes (answered_so halts entries it next (noted (event.Called it) s))
        by [] = ends _ _ noted_so
        by (Refused line cause ∷ entries) = ends _ _ noted_so
        by (Answered came ∷ entries) = fit (fits it came) came _ (heard came entries) refl

    pub does_on : {A : Type 0} (Left : ℕ → A → Type 0) (number : ℕ) (tree : Doing A) (next : A → State S → R) (s : State S)
        → StateBoth from s → number ≡ next_future s.loop.parts → Keeping Left (own from) number tree
        → ((it : A) (t : State S) (last : ℕ) → StateBoth from t → last ≡ next_future t.loop.parts → Left last it → Comes (next it t))
        → Comes (does halts tree next s)
    does_on Left number (Ends result) next s so is keeps each = each result s number so is keeps
    does_on Left number (Changes doing.MakeFuture rest) next s so is keeps each =
        let more = length-append s.loop.parts.futures (record { kind = Plain; outcome = None; callbacks = [] } ∷ []) in
        does_on Left (number + 1) rest next (unbooked_in (changed doing.MakeFuture) s)
        (then_both from s (unbooked_in (changed doing.MakeFuture) s) so (parts_beside (MakesFuture Plain) s (λ a. tt))) (omega (arith, is, more)) keeps each
    does_on Left number (Changes (doing.CallSoon it) rest) next s so is keeps each =
        does_on Left number rest next (unbooked_in (changed (doing.CallSoon it)) s)
        (then_both from s (unbooked_in (changed (doing.CallSoon it)) s) so
        (parts_beside (CallsSoon it) s (λ a. no_sleep ours (next_future s.loop.parts) it (of_streams it keeps.0)))) is keeps.1 each
    does_on Left number (Changes (doing.Settle future outcome) rest) next s so is keeps each =
        let same = settle_made future outcome s.loop.parts in
        does_on Left number rest next (unbooked_in (changed (doing.Settle future outcome)) s)
        (then_both from s (unbooked_in (changed (doing.Settle future outcome)) s) so
        (parts_beside (Settles future outcome) s (λ a. inl (own_theirs from future keeps.0.0).0))) (omega (arith, is, same)) keeps.1 each
    does_on Left number (Asks it rest) next s so is keeps each =
        asked_on it (λ came. does halts (rest came) next) s so
        (λ came t here same. does_on Left number (rest came) next t here (is ∙ ap (λ (l : Loop). next_future l.parts) (sym same)) (keeps.1 came) each)

  module _ {S : Type 0} (added : Extra S) (task : ℕ) where
    abbrev Goes : State S → RequestReply S → Type 0
    Goes s it = Beside s (left_by it)

    -- ---- what is no tree
    replied_goes : (input : Input) (s : State S) → Goes s (replied input s)
    replied_goes (Send value) s = beside_same s
    replied_goes (Throw fault) s = beside_same s

    given_goes : {A : Type 0} (o : Option A) (next : A → State S → RequestReply S) (s : State S) → ((a : A) → Goes s (next a s)) → Goes s (given o next s)
    given_goes None next s each = beside_same s
    given_goes (Some a) next s each = each a

    numbered_goes : (b : Bool) (next : State S → RequestReply S) (s : State S) → Goes s (next s) → Goes s (numbered_if b next s)
    numbered_goes true next s it = it
    numbered_goes false next s it = beside_same s

    port_goes : (number : ℤ) (next : ℕ → State S → RequestReply S) (s : State S) → ((port : ℕ) → Goes s (next port s)) → Goes s (to_port number next s)
    port_goes (negsuc before) next s each = beside_same s
    port_goes (pos port) next s each = at (nat_lt 0 port && nat_lt port 65536)
      where
        at : (b : Bool) → Goes s (to_port_if b port next s)
        at true = each port
        at false = beside_same s

    awaits_goes : (id : ℕ) (s : State S) → Goes s (awaits task id s)
    awaits_goes id s = at (ended s id)
      where
        at : (o : Option Outcome) → Goes s (awaits_as o task id s)
        at (Some outcome) = replied_goes (input_of outcome) s
        at None = waits_beside task id s

    stood_goes : (resume_point : ResumePoint) (id : ℕ) (s : State S) → Beside s (stands resume_point task (waits task id s))
    stood_goes resume_point id s =
        beside_then s (waits task id s) (stands resume_point task (waits task id s)) (waits_beside task id s)
        (stands_beside resume_point task (waits task id s))

    pauses_goes : (s : State S) → Beside s (unbooked_in (made_of_parts (CallsSoon (action.Step task))) s)
    pauses_goes s = parts_beside (CallsSoon (action.Step task)) s (λ a. tt)

    exits_timeout_goes : (raised : Option Exc) (id : ℕ) (s : State S) → Goes s (exits_timeout raised id s)
    exits_timeout_goes raised id s = at (exit_timeout raised id s.loop).timed_out
      where
        at : (b : Bool) → Goes s (timed_out_if b (with_loop (exit_timeout raised id s.loop).loop s))
        at true = loop_beside s (exit_timeout raised id s.loop).loop (exit_timeout_safe ours made below raised id s.loop)
        at false = loop_beside s (exit_timeout raised id s.loop).loop (exit_timeout_safe ours made below raised id s.loop)

    exits_goes : (answer : GroupExit) (id : ℕ) (l : Loop) (s : State S) → Safe ours made below s.loop l → Goes s (exits_as answer task id (with_loop l s))
    exits_goes (Waits future) id l s row =
        beside_then s (with_loop l s) (stands (Leaving id) task (waits task future (with_loop l s))) (loop_beside s l row)
        (stood_goes (Leaving id) future (with_loop l s))
    exits_goes Passes id l s row = loop_beside s l row
    exits_goes (RaisedBy fault) id l s row = loop_beside s l row

    named : (s : State S) (x : Value) (id : ℕ) → as_future s x ≡ Some id → IsApart ours made s → ours id ≡ false
    named s (Fut place) id e a = (each_at (IsTheirs ours (next_future s.loop.parts)) s.futures place id e a.scripts).0
    named s _ id e a = absurd (cc)

    case_goes : (s : State S) {asked : Request} {it : RequestReply S} → is_extra_request asked ≡ false → Replies added task s asked it → Goes s it
    case_goes s other (raises fault f) = beside_same s
    case_goes s other (leaves_none timeout raised fault e) = beside_same s
    case_goes s other (exits_none group raised fault e) = beside_same s
    case_goes s other (tells value none b) = beside_same s
    case_goes s other names_itself = beside_same s
    case_goes s other (hands_on id outcome e b) = replied_goes (input_of outcome) s
    case_goes s other (pauses_on may b) = pauses_goes s
    case_goes s other (alarms x delay) = λ a.
        let t = unbooked_in (made_of_parts (MakesFuture Plain)) s in
        let u = unbooked_in (alarmed task (pos (suc delay))) s in
        let more = length-append s.loop.parts.futures (record { kind = Plain; outcome = None; callbacks = [] } ∷ []) in
        let new = new_theirs ours made below s.loop.parts a.loop.parts (next_future t.loop.parts) (omega (arith, more)) in
        beside_then s t (left_by (sleeps_for task (pos (suc delay)) s)) (parts_beside (MakesFuture Plain) s (λ b. tt))
        (beside_then t u (left_by (sleeps_for task (pos (suc delay)) s))
        (parts_beside (CallsLater (deadline s.loop.parts.time (pos (suc delay))) (action.SleepDone task (next_future s.loop.parts))) t (λ b. new))
        (stood_goes (Sleeping s.loop.parts.next_tag) (next_future s.loop.parts) u)) a
    case_goes s other (awaits_it x id e none) = waits_beside task id s
    case_goes s other (prints values) = beside_as s _ refl refl refl
    case_goes s other (makes few) = λ a.
        let t = unbooked_in (made_of_parts (MakesFuture Plain)) s in
        let more = length-append s.loop.parts.futures (record { kind = Plain; outcome = None; callbacks = [] } ∷ []) in
        let new = new_theirs ours made below s.loop.parts a.loop.parts (next_future t.loop.parts) (omega (arith, more)) in
        let b = parts_beside (MakesFuture Plain) s (λ c. tt) a in
        record {
          apart = record {
            loop = b.apart.loop;
            streams = b.apart.streams;
            scripts = each_append (IsTheirs ours (next_future t.loop.parts)) s.futures (next_future s.loop.parts ∷ []) b.apart.scripts (new, tt);
          };
          leaves = b.leaves;
        }
    case_goes s other (sets future value id e) = parts_beside (Settles id _) s (λ a. inl (named s future id e a))
    case_goes s other (fails future fault id it e) = parts_beside (Settles id _) s (λ a. inl (named s future id e a))
    case_goes s other (cancels x id) = loop_beside s _ (asks_safe ours made below (ByScript task) id s.loop)
    case_goes s other (uncancels x whom) = loop_beside s _ (takes_safe ours made below (ByScript task) whom s.loop)
    case_goes s other (spawns_it coroutine arguments few) =
        beside_then s (unbooked_in (made_of_parts MakesTask) s) _ (parts_beside MakesTask s (λ a. tt)) (coroutine_beside coroutine arguments _)
    case_goes s other (enters x delay few) = loop_beside s _ (enter_safe ours made below task delay s.loop)
    case_goes s other (leaves timeout raised id e) = exits_timeout_goes raised id s
    case_goes s other (moves timeout x id when e) = loop_beside s _ (reschedule_safe ours made below id when s.loop)
    case_goes s other (enters_one few) = loop_beside s _ (enter_group_safe ours made below task s.loop)
    case_goes s other (exits group raised id e) =
        exits_goes (exit_begin raised id s.loop).answer id (exit_begin raised id s.loop).loop s (exit_begin_safe ours made below raised id s.loop)
    case_goes s other (creates_it group id coroutine arguments few e) =
        beside_then s (record s { loop = create id s.loop }) _ (loop_beside s (create id s.loop) (create_safe ours made below id s.loop))
        (coroutine_beside coroutine arguments _)
    case_goes s other (serves_it code arguments number items) = absurd (false≢true (sym other))

    -- ---- trees
    change_goes : (n : ℕ) (tree : Doing Streams) (next : State S → RequestReply S) (s : State S)
        → (IsApart ours made s → Keeping (KeepsStreams (own s) (next_future s.loop.parts) s.streams) (own s) (next_future s.loop.parts) tree)
        → ((t : State S) → Goes t (next t)) → Goes s (streams_change tree next s)
    change_goes n tree next s keeps each a =
        does_on Halts (λ it. StateBoth s (left_by it)) s (λ how last it. it) (KeepsStreams (own s) (next_future s.loop.parts) s.streams)
        (next_future s.loop.parts) tree (λ streams now. next (with_streams streams now)) s (beside_same s a) refl (keeps a)
        (λ streams t last here is left.
        then_both s (with_streams streams t) (left_by (next (with_streams streams t))) (ends_streams s t last streams a here is left.kept)
        (each (with_streams streams t)))

    do_goes : {R : Type 0} (Awaits : (ℕ → Type 0) → R → Type 0) (n : ℕ) (tree : Doing (Streams × R)) (next : R → State S → RequestReply S) (s : State S)
        → (IsApart ours made s → Keeping (AnswersStreams Awaits (own s) (next_future s.loop.parts) s.streams) (own s) (next_future s.loop.parts) tree)
        → ((answer : R) (t : State S) → Goes t (next answer t)) → Goes s (streams_do tree next s)
    do_goes Awaits n tree next s keeps each a =
        does_on Halts (λ it. StateBoth s (left_by it)) s (λ how last it. it) (AnswersStreams Awaits (own s) (next_future s.loop.parts) s.streams)
        (next_future s.loop.parts) tree (λ done now. next done.1 (with_streams done.0 now)) s (beside_same s a) refl (keeps a)
        (λ done t last here is left.
        then_both s (with_streams done.0 t) (left_by (next done.1 (with_streams done.0 t))) (ends_streams s t last done.0 a here is left.0.kept)
        (each done.1 (with_streams done.0 t)))

    -- ---- what follows
    listened_goes : (server : Option ℕ) (s : State S) → Goes s (listens_as server s)
    listened_goes None s = beside_same s
    listened_goes (Some id) s = beside_same s

    connected_goes : (begun : Option (ℕ × ℕ)) (s : State S) → Goes s (connects_as task begun s)
    connected_goes None s = beside_same s
    connected_goes (Some begun) s = stood_goes (Connecting begun.0) begun.1 s

    connects_goes : (port : ℕ) (s : State S) → Goes s (connects task port s)
    connects_goes port s a =
        let n = next_future s.loop.parts in
        does_on Halts (λ it. StateBoth s (left_by it)) s (λ how last it. it) (ConnectsStreams (own s) n s.streams) n (connect port n s.streams)
        (λ done now. connects_as task done.1 (with_streams done.0 now)) s (beside_same s a) refl
        (opening.connects (own s) n port s.streams (kept_own s a))
        (λ done t last here is left.
        then_both s (with_streams done.0 t) (left_by (connects_as task done.1 (with_streams done.0 t)))
        (ends_streams s t last done.0 a here is left.0.kept) (connected_goes done.1 (with_streams done.0 t)))

    wrote_goes : (it : Wrote) (s : State S) → Goes s (writes_as it s)
    wrote_goes wrote.Done s = beside_same s
    wrote_goes wrote.AfterEof s = beside_same s

    closed_goes : (id : Option ℕ) (s : State S) → Goes s (awaits_closed_as id task s)
    closed_goes None s = beside_same s
    closed_goes (Some id) s = awaits_goes id s

    drained_goes : (whom : Handed) (it : Drain) (s : State S) → Goes s (drains_as task whom it s)
    drained_goes whom drain_as.Goes s = beside_same s
    drained_goes whom drain_as.Yields s =
        beside_then s (unbooked_in (made_of_parts (CallsSoon (action.Step task))) s) _ (pauses_goes s) (stands_beside (Yielding whom) task _)
    drained_goes whom (drain_as.Waits id) s = waits_beside task id s
    drained_goes whom (drain_as.Raises fault) s = beside_same s

    limited_goes : (it : Limited) (s : State S) → Goes s (limits_as it s)
    limited_goes limited.Set s = beside_same s
    limited_goes limited.BadLimits s = beside_same s

    read_goes : (op : ReadOp) (from : StreamReader) (it : StreamGot) (s : State S) → Goes s (reads_as task op from it s)
    read_goes op from (got.Bytes bytes) s = beside_same s
    read_goes op from (got.Raises fault) s = beside_same s
    read_goes op from (got.Waits id) s = stood_goes (Reading from op id) id s

    all_goes : (from : StreamReader) (taken : List ℕ) (it : StreamGot) (s : State S) → Goes s (reads_all_as task from taken it s)
    all_goes from taken (got.Bytes bytes) s = beside_same s
    all_goes from taken (got.Raises fault) s = beside_same s
    all_goes from taken (got.Waits id) s = stood_goes (ReadingAll from taken id) id s

    launched_goes : (child : Option ℕ) (s : State S) → Goes s (launches_as child s)
    launched_goes None s = beside_same s
    launched_goes (Some id) s = beside_same s

    exited_goes : (it : ChildWait) (s : State S) → Goes s (awaits_exit_as task it s)
    exited_goes (wait_as.Code code) s = beside_same s
    exited_goes (wait_as.Waits id) s = waits_beside task id s

    drains_goes : (yielded : Bool) (whom : Handed) (s : State S) → Goes s (drains yielded task whom s)
    drains_goes yielded whom s =
        do_goes DrainWaits (next_future s.loop.parts) (drain yielded (next_future s.loop.parts) whom s.streams) (drains_as task whom) s
        (λ a. asking.drains (own s) (next_future s.loop.parts) yielded whom s.streams (kept_own s a)) (drained_goes whom)

    reads_goes : (op : ReadOp) (from : StreamReader) (s : State S) → Goes s (reads task op from s)
    reads_goes op from s =
        do_goes ReadWaits (next_future s.loop.parts) (read (next_future s.loop.parts) op from s.streams) (reads_as task op from) s
        (λ a. asking.reads (own s) (next_future s.loop.parts) op from s.streams (kept_own s a)) (read_goes op from)

    reads_all_goes : (from : StreamReader) (taken : List ℕ) (s : State S) → Goes s (reads_all task from taken s)
    reads_all_goes from taken s =
        do_goes AllWaits (next_future s.loop.parts) (read_all (next_future s.loop.parts) from s.streams)
        (λ said. reads_all_as task from (taken ++ said.taken) said.got) s
        (λ a. asking.reads_all (own s) (next_future s.loop.parts) from s.streams (kept_own s a))
        (λ said t. all_goes from (taken ++ said.taken) said.got t)

    counts_goes : (number : ℤ) (from : StreamReader) (s : State S) → Goes s (reads_count task number from s)
    counts_goes (pos count) from s = reads_goes (UpTo count) from s
    counts_goes (negsuc before) from s = reads_all_goes from [] s

  module _ {S : Type 0} (added : Extra S) (task : ℕ) where
    -- ---- the requests on listeners, connections and children
    streams_goes : (asked : Request) (s : State S) → is_to_streams asked ≡ true → Goes added task s (reply added task asked s)
    unfolding reply
    streams_goes (request.Listen port handler) s is =
        given_goes added task (as_int port) _ s (λ number. numbered_goes added task (may_listen s.streams) _ s
        (port_goes added task number (listens handler) s (λ at.
        do_goes added task {R = Option ℕ} WaitsNever (next_future s.loop.parts) (listen at handler s.streams) listens_as s
        (λ a. opening.listens (own s) (next_future s.loop.parts) at handler s.streams (kept_own s a)) (listened_goes added task))))
    streams_goes (request.Connect port) s is =
        given_goes added task (as_int port) _ s (λ number. numbered_goes added task (may_connect s.streams) _ s
        (port_goes added task number (connects task) s (λ at. connects_goes added task at s)))
    streams_goes (request.Launch words) s is =
        given_goes added task (as_words words) _ s (λ program. numbered_goes added task (may_launch s.streams) (launches program) s
        (do_goes added task {R = Option ℕ} WaitsNever (next_future s.loop.parts) (launch program (next_future s.loop.parts) s.streams) launches_as s
        (λ a. opening.launches (own s) (next_future s.loop.parts) program s.streams (kept_own s a)) (launched_goes added task)))
    streams_goes (request.Write stream bytes) s is =
        given_goes added task (as_writer s stream) _ s (λ whom. given_goes added task (as_bytes bytes) _ s (λ piece.
        do_goes added task {R = Wrote} WaitsNever (next_future s.loop.parts) (write whom piece s.streams) writes_as s
        (λ a. asking.writes (own s) (next_future s.loop.parts) whom piece s.streams (kept_own s a)) (wrote_goes added task)))
    streams_goes (request.WriteEof stream) s is =
        given_goes added task (as_conn s stream) _ s (λ conn.
        change_goes added task (next_future s.loop.parts) (write_eof conn s.streams) (Answers Nothing) s
        (λ a. asking.ends (own s) (next_future s.loop.parts) conn s.streams (kept_own s a)) beside_same)
    streams_goes (request.Close x) s is = given_goes added task (as_closable s x) closes s shut
      where
        shut : (it : Closable) → Goes added task s (closes it s)
        shut (AServer id) =
            change_goes added task (next_future s.loop.parts) (close_server id s.streams) (Answers Nothing) s
            (λ a. opening.closes_server (own s) (next_future s.loop.parts) id s.streams (kept_own s a)) beside_same
        shut (AWriter whom) =
            change_goes added task (next_future s.loop.parts) (close whom s.streams) (Answers Nothing) s
            (λ a. asking.closes (own s) (next_future s.loop.parts) whom s.streams (kept_own s a)) beside_same
    streams_goes (request.WaitClosed stream) s is =
        given_goes added task (as_writer s stream) _ s (λ whom. closed_goes added task (closed_future whom s.streams) s)
    streams_goes (request.Drain stream) s is = given_goes added task (as_writer s stream) (drains false task) s (λ whom. drains_goes added task false whom s)
    streams_goes (request.Limits stream high low) s is =
        given_goes added task (as_writer s stream) _ s
        (λ whom. given_goes added task (as_delay high) _ s (λ most. given_goes added task (as_delay low) _ s (λ least.
        do_goes added task {R = Limited} WaitsNever (next_future s.loop.parts) (limits most least whom s.streams) limits_as s
        (λ a. asking.limits_keep (own s) (next_future s.loop.parts) most least whom s.streams (kept_own s a)) (limited_goes added task))))
    streams_goes (request.Read stream count) s is =
        given_goes added task (as_reader s stream) _ s
        (λ from. given_goes added task (as_int count) _ s (λ number. counts_goes added task number from s))
    streams_goes (request.ReadExactly stream count) s is =
        given_goes added task (as_reader s stream) _ s
        (λ from. given_goes added task (as_int count) _ s (λ number. reads_goes added task (Exactly number) from s))
    streams_goes (request.ReadUntil stream separator) s is =
        given_goes added task (as_reader s stream) _ s
        (λ from. given_goes added task (as_bytes separator) _ s (λ bytes. reads_goes added task (Until bytes) from s))
    streams_goes (request.ReadLine stream) s is = given_goes added task (as_reader s stream) _ s (λ from. reads_goes added task Line from s)
    streams_goes (request.StandardError child) s is = given_goes added task (as_child s child) _ s (λ id. beside_same s)
    streams_goes (request.WaitChild child) s is =
        given_goes added task (as_child s child) _ s (λ id.
        do_goes added task ExitWaits (next_future s.loop.parts) (wait (next_future s.loop.parts) id s.streams) (awaits_exit_as task) s
        (λ a. asking.waits (own s) (next_future s.loop.parts) id s.streams (kept_own s a)) (exited_goes added task))
    streams_goes (request.ReturnCode child) s is = given_goes added task (as_child s child) _ s (λ id. beside_same s)
    streams_goes (request.Kill child) s is =
        given_goes added task (as_child s child) _ s (λ id.
        change_goes added task (next_future s.loop.parts) (kill id s.streams) (Answers Nothing) s
        (λ a. asking.kills (own s) (next_future s.loop.parts) id s.streams (kept_own s a)) beside_same)
    streams_goes _ s is = absurd (false≢true is)

    pub reply_goes : (asked : Request) (s : State S) → is_extra_request asked ≡ false → Beside s (left_by (reply added task asked s))
    reply_goes asked s other = at (is_to_streams asked) refl
      where
        at : (b : Bool) → is_to_streams asked ≡ b → Goes added task s (reply added task asked s)
        at true is = streams_goes asked s is
        at false is = case_goes added task s other (reply_is added task s asked is)

    -- ---- what a task stands at
    given_up : (id : ℕ) (from : StreamReader) (s : State S) → Beside s (waits_no_more id from s)
    given_up id from s a =
        ends_streams s s (next_future s.loop.parts) (give_up_read id from s.streams) a (beside_same s a) refl
        (asking.gives_up (own s) (next_future s.loop.parts) id from s.streams (kept_own s a)).kept

    hears_goes : (input : Input) (next : State S → RequestReply S) (s : State S) → Goes added task s (next s) → Goes added task s (hears input next s)
    hears_goes (Send value) next s it = it
    hears_goes (Throw fault) next s it = beside_same s

    pub decides_goes : (resume_point : ResumePoint) (input : Input) (s : State S) → serves_none resume_point ≡ true
        → Beside s (left_by (decides added resume_point task input s))
    decides_goes Asked input s other = replied_goes added task input s
    decides_goes (Sleeping tag) input s other = replied_goes added task input s
    decides_goes (Leaving group) input s other =
        exits_goes added task (exit_woken input group s.loop).answer group (exit_woken input group s.loop).loop s
        (exit_woken_safe ours made below input group s.loop)
    decides_goes (Serving key) input s other = absurd (false≢true other)
    decides_goes (Connecting conn) (Send value) s other = beside_same s
    decides_goes (Connecting conn) (Throw fault) s other =
        change_goes added task (next_future s.loop.parts) (drop_connect conn s.streams) (Raises fault) s
        (λ a. asking.drops (own s) (next_future s.loop.parts) conn s.streams (kept_own s a)) beside_same
    decides_goes (Yielding whom) input s other = hears_goes input (drains true task whom) s (drains_goes added task true whom s)
    decides_goes (Reading from op id) input s other =
        beside_then s (waits_no_more id from s) _ (given_up id from s)
        (hears_goes input (reads task op from) (waits_no_more id from s) (reads_goes added task op from (waits_no_more id from s)))
    decides_goes (ReadingAll from taken id) input s other =
        beside_then s (waits_no_more id from s) _ (given_up id from s)
        (hears_goes input (reads_all task from taken) (waits_no_more id from s) (reads_all_goes added task from taken (waits_no_more id from s)))
