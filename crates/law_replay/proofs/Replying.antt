-- A request, and what a task makes of its input where it stands at one, go by the answers that they have alone.
use Rattle.std.proofs.Common.{◌≡◌, ℕ, zero, suc, ◌&&◌, ℤ, pos, negsuc, refl, ap, sym, ◌∙◌, append-nil, Bool, true, false, List, [], ◌∷◌, ◌++◌, map}
use Rattle.std.proofs.Common.{Option, Some, None, nat_lt, length, is_some}
use Rattle.model_value.specs.declared.input.Input.TheVariants.{Send, Throw}
use Rattle.model_value.specs.declared.outcome.Outcome.TheVariants.{Value as Returned, Failed}
use Rattle.model_value.specs.declared.request.Request.TheVariants as request
use Rattle.model_value.specs.Input.{Input}
use Rattle.model_value.specs.Request.{Request}
use Rattle.model_value.specs.Value.{Value, Nothing, Outcome, Exc}
use Rattle.model_wire.specs.declared.call.Call.TheVariants as call
use Rattle.model_wire.specs.declared.event.Event.TheVariants as event
use Rattle.model_wire.specs.declared.event.Handed.{Handed}
use Rattle.model_wire.specs.Call.{Answer}
use Rattle.model_wire.specs.Journal.{Entry, Answered}
use Rattle.model_wire.specs.Trace.{End}
use Rattle.model_loop.specs.Futures.{next_future}
use Rattle.model_loop.specs.Groups.{GroupExit, Waits, Passes, Raises as RaisedBy, Refusal, exit_begin, exit_woken, group_of, next_group, refusal}
use Rattle.model_loop.specs.Loop.{Loop}
use Rattle.model_loop.specs.Tasks.{next_task}
use Rattle.model_loop.specs.Timeouts.{exit_timeout, is_active, next_timeout, timeout_of}
use Rattle.model_stream.specs.declared.answers.ChildWait.{ChildWait}
use Rattle.model_stream.specs.declared.answers.ChildWait.TheVariants as wait_as
use Rattle.model_stream.specs.declared.answers.Drain.TheVariants as drain_as
use Rattle.model_stream.specs.declared.answers.StreamGot.TheVariants as got
use Rattle.model_stream.specs.declared.answers.Wrote.{Wrote}
use Rattle.model_stream.specs.declared.answers.Wrote.TheVariants as wrote
use Rattle.model_stream.specs.declared.put.Limited.{Limited}
use Rattle.model_stream.specs.declared.put.Limited.TheVariants as limited
use Rattle.model_stream.specs.declared.read_op.ReadOp.TheVariants.{UpTo, Exactly, Until, Line}
use Rattle.model_stream.specs.Doing.{Doing}
use Rattle.model_stream.specs.Reading.{ReadOp}
use Rattle.model_stream.specs.Receivers.{AllGot, StreamGot}
use Rattle.model_stream.specs.Requests.{StreamReader, write, drain, limits, write_eof, close, closed_future, drop_connect, read, read_all}
use Rattle.model_stream.specs.Requests.{wait, kill}
use Rattle.model_stream.specs.Senders.{Drain}
use Rattle.model_stream.specs.Streams.{Streams, may_listen, may_connect, may_launch, listen, connect, launch, close_server}
use Rattle.model_machine.specs.Arguments.{AServer, AWriter, Closable, as_awaited, as_bytes, as_child, as_closable, as_conn, as_delay, as_failure}
use Rattle.model_machine.specs.Arguments.{as_future, as_group, as_int, as_list, as_reader, as_task, as_timeout, as_words, as_writer}
use Rattle.model_machine.specs.Extra as extra
use Rattle.model_machine.specs.Extra.{Extra, ExtraAnswer, ExtraSaid, called}
use Rattle.model_machine.specs.Outcomes.{input_of}
use Rattle.model_machine.specs.Replies.{Wake, RequestReply, Answers, Raises, Suspends, Halts, awaits, awaits_as, awaits_closed_as, awaits_exit_as, closes}
use Rattle.model_machine.specs.Replies.{connects, connects_as, counted, creates, creates_unless, decides, drains, drains_as, ended, enters_group}
use Rattle.model_machine.specs.Replies.{enters_timeout, exits_as, exits_group, exits_timeout, given, hears, launches_as, limits_as, listens, listens_as}
use Rattle.model_machine.specs.Replies.{launches, makes_future, numbered, numbered_if, most_ids, reads, reads_all, reads_all_as, reads_as, reads_count}
use Rattle.model_machine.specs.Replies.{replied, reply, requests, reschedules, reschedules_if, result_of, serves, settles, settles_if, shown_all, sleeps}
use Rattle.model_machine.specs.Replies.{spawns, streams_change, streams_do, timed_out_if, to_port, to_port_if, waits_no_more, woken, writes_as}
use Rattle.model_machine.specs.Replies.{input_by, serves_as, serves_until, woken_within}
use Rattle.model_machine.specs.State.{ResumePoint, Asked, Sleeping, Leaving, Serving, Connecting, Yielding, Reading, ReadingAll, State}
use Rattle.model_machine.specs.State.{with_loop, with_streams}
use Rattle.law_journal.specs.RecordedAnswers.{answers_of}
use Rattle.law_replay.specs.Reads.{MayFollow}
use Rattle.law_replay.specs.Foreseeing.{ForeseesNothing}
use Rattle.law_replay.proofs.Reading.{Alone, Reads, answers_of-append, ask_alone, does_alone, over, reads_more, reads_none}

module _ {S : Type 0} where
  abbrev pub state : RequestReply S → State S
  state (Answers value now) = now
  state (Raises fault now) = now
  state (Suspends now) = now
  state (Halts how last) = last

  abbrev pub put : List Entry → RequestReply S → RequestReply S
  put answers (Answers value now) = Answers value (over answers now)
  put answers (Raises fault now) = Raises fault (over answers now)
  put answers (Suspends now) = Suspends (over answers now)
  put answers (Halts how last) = Halts how (over answers last)

  abbrev pub Follows : RequestReply S → List Entry → Type 0
  Follows (Answers value now) more = Unit {0}
  Follows (Raises fault now) more = Unit {0}
  Follows (Suspends now) more = Unit {0}
  Follows (Halts how last) more = MayFollow how more

  abbrev pub ReadsIn : State S → RequestReply S → (List Entry → RequestReply S) → Type 0
  ReadsIn s it by = Reads state put Follows s.answers (answers_of s.events) it by

  abbrev pub IsAlone : (State S → RequestReply S) → Type 0
  IsAlone f = Alone state put Follows f

  stops : (answers : List Entry) (had used : List Answer) (how : End) (last : State S) (by : List Entry → RequestReply S)
      → answers ≡ map Answered used ++ last.answers
      → answers_of last.events ≡ had ++ used → MayFollow how last.answers
      → ((more : List Entry) → MayFollow how more → by (map Answered used ++ more) ≡ Halts how (over more last))
      → Reads state put Follows answers had (Halts how last) by
  stops answers had used how last by are told follows again =
      record { used = used; are = are; told = told; follows = follows; again = again }

  -- nothing is read
  still : (s : State S) (it : RequestReply S) (by : List Entry → RequestReply S) → s.answers ≡ (state it).answers → (state it).events ≡ s.events
      → Follows it (state it).answers → ((more : List Entry) → by more ≡ put more it) → ReadsIn s it by
  still s it by are events follows again =
      reads_none state put Follows s.answers (answers_of s.events) it by are (ap answers_of events) follows (λ more may. again more)

  -- the same, by something that is found in the state
  found : (s : State S) (it : RequestReply S) (by then_by : List Entry → RequestReply S) → ((more : List Entry) → by more ≡ then_by more)
      → ReadsIn s it then_by → ReadsIn s it by
  found s it by then_by same r =
      reads_more state put Follows s.answers s.answers (answers_of s.events) (answers_of s.events) [] it by then_by refl
      (sym (append-nil (answers_of s.events)))
      same r

  -- ---- what is no tree
  replied_alone : (input : Input) → IsAlone (replied input)
  replied_alone (Send value) s = still s _ _ refl refl tt (λ more. refl)
  replied_alone (Throw fault) s = still s _ _ refl refl tt (λ more. refl)

  given_alone : {A : Type 0} (o : Option A) (others : List Entry → Option A) (next : A → State S → RequestReply S) (s : State S) →
      ((more : List Entry) → others more ≡ o)
      → ((a : A) → ReadsIn s (next a s) (λ more. next a (over more s))) → ReadsIn s (given o next s) (λ more. given (others more) next (over more s))
  given_alone {A} o others next s same each =
      found s (given o next s) (λ more. given (others more) next (over more s)) (λ more. given o next (over more s))
      (λ more. ap (λ (it : Option A). given it next (over more s)) (same more)) (by o each)
    where
      by : (it : Option A) → ((a : A) → ReadsIn s (next a s) (λ more. next a (over more s))) → ReadsIn s (given it next s) (λ more. given it next (over more s))
      by None each = still s _ _ refl refl tt (λ more. refl)
      by (Some a) each = each a

  numbered_alone : (b : Bool) (next : State S → RequestReply S) (s : State S) → ReadsIn s (next s) (λ more. next (over more s))
      → ReadsIn s (numbered_if b next s) (λ more. numbered_if b next (over more s))
  numbered_alone true next s it = it
  numbered_alone false next s it = still s _ _ refl refl tt (λ more. refl)

  port_alone : (number : ℤ) (next : ℕ → State S → RequestReply S) → ((port : ℕ) → IsAlone (next port)) → IsAlone (to_port number next)
  port_alone (negsuc before) next each s = still s _ _ refl refl tt (λ more. refl)
  port_alone (pos port) next each s = at (nat_lt 0 port && nat_lt port 65536)
    where
      at : (b : Bool) → ReadsIn s (to_port_if b port next s) (λ more. to_port_if b port next (over more s))
      at true = each port s
      at false = still s _ _ refl refl tt (λ more. refl)

  result_alone : (o : Option Outcome) → IsAlone (result_of o)
  result_alone None s = still s _ _ refl refl tt (λ more. refl)
  result_alone (Some outcome) s = replied_alone (input_of outcome) s

  settles_alone : (on : ℕ) (outcome : Outcome) → IsAlone (settles on outcome)
  settles_alone on outcome s = at (is_some (ended s on))
    where
      at : (b : Bool) → ReadsIn s (settles_if b on outcome s) (λ more. settles_if b on outcome (over more s))
      at true = still s _ _ refl refl tt (λ more. refl)
      at false = still s _ _ refl refl tt (λ more. refl)

  module _ (added : Extra S) (foresees : ForeseesNothing added) (task : ℕ) where
    awaits_alone : (on : ℕ) → IsAlone (awaits task on)
    awaits_alone on s = at (ended s on)
      where
        at : (o : Option Outcome) → ReadsIn s (awaits_as o task on s) (λ more. awaits_as o task on (over more s))
        at (Some outcome) = replied_alone (input_of outcome) s
        at None = still s _ _ refl refl tt (λ more. refl)

    sleeps_alone : (delay : ℤ) → IsAlone (sleeps task delay)
    sleeps_alone (negsuc before) s = still s _ _ refl refl tt (λ more. refl)
    sleeps_alone (pos zero) s = still s _ _ refl refl tt (λ more. refl)
    sleeps_alone (pos (suc delay)) s = still s _ _ refl refl tt (λ more. refl)

    -- ---- blocks
    exits_timeout_alone : (raised : Option Exc) (id : ℕ) → IsAlone (exits_timeout raised id)
    exits_timeout_alone raised id s = at (exit_timeout raised id s.loop).timed_out
      where
        left : State S
        left = with_loop (exit_timeout raised id s.loop).loop s

        at : (b : Bool) → ReadsIn s (timed_out_if b left) (λ more. timed_out_if b (over more left))
        at true = still s _ _ refl refl tt (λ more. refl)
        at false = still s _ _ refl refl tt (λ more. refl)

    reschedules_alone : (id : ℕ) (when : Option ℤ) → IsAlone (reschedules id when)
    reschedules_alone id when s = at (is_active (timeout_of s.loop id).state)
      where
        at : (b : Bool) → ReadsIn s (reschedules_if b id when s) (λ more. reschedules_if b id when (over more s))
        at true = still s _ _ refl refl tt (λ more. refl)
        at false = still s _ _ refl refl tt (λ more. refl)

    exits_alone : (answer : GroupExit) (id : ℕ) (l : Loop) (s : State S)
        → ReadsIn s (exits_as answer task id (with_loop l s)) (λ more. exits_as answer task id (with_loop l (over more s)))
    exits_alone (Waits on) id l s = still s _ _ refl refl tt (λ more. refl)
    exits_alone Passes id l s = still s _ _ refl refl tt (λ more. refl)
    exits_alone (RaisedBy fault) id l s = still s _ _ refl refl tt (λ more. refl)

    creates_alone : (id coroutine : ℕ) (arguments : List Value) → IsAlone (creates id coroutine arguments)
    creates_alone id coroutine arguments s = at (refusal (group_of s.loop id))
      where
        at : (o : Option Refusal) → ReadsIn s (creates_unless o id coroutine arguments s) (λ more. creates_unless o id coroutine arguments (over more s))
        at (Some cause) = still s _ _ refl refl tt (λ more. refl)
        at None = still s _ _ refl refl tt (λ more. refl)

    -- ---- trees
    change_alone : (tree : Doing Streams) (next : State S → RequestReply S) → IsAlone next → IsAlone (streams_change tree next)
    change_alone tree next each s =
        does_alone state put Follows Halts stops tree (λ streams now. next (with_streams streams now)) (λ streams t. each (with_streams streams t)) s

    do_alone : {R : Type 0} (tree : Doing (Streams × R)) (next : R → State S → RequestReply S) → ((answer : R) → IsAlone (next answer)) → IsAlone
        (streams_do tree next)
    do_alone {R} tree next each s =
        does_alone state put Follows Halts stops tree (λ (done : Streams × R) now. next done.1 (with_streams done.0 now))
        (λ done t. each done.1 (with_streams done.0 t)) s

    nothing_alone : IsAlone (Answers Nothing)
    nothing_alone s = still s _ _ refl refl tt (λ more. refl)

    raises_alone : (fault : Exc) → IsAlone (Raises fault)
    raises_alone fault s = still s _ _ refl refl tt (λ more. refl)

    -- ---- what follows
    listened_alone : (server : Option ℕ) → IsAlone (listens_as server)
    listened_alone None s = still s _ _ refl refl tt (λ more. refl)
    listened_alone (Some id) s = still s _ _ refl refl tt (λ more. refl)

    connected_alone : (begun : Option (ℕ × ℕ)) → IsAlone (connects_as task begun)
    connected_alone None s = still s _ _ refl refl tt (λ more. refl)
    connected_alone (Some begun) s = still s _ _ refl refl tt (λ more. refl)

    wrote_alone : (it : Wrote) → IsAlone (writes_as it)
    wrote_alone wrote.Done s = still s _ _ refl refl tt (λ more. refl)
    wrote_alone wrote.AfterEof s = still s _ _ refl refl tt (λ more. refl)

    closed_alone : (on : Option ℕ) → IsAlone (awaits_closed_as on task)
    closed_alone None s = still s _ _ refl refl tt (λ more. refl)
    closed_alone (Some on) s = awaits_alone on s

    drained_alone : (whom : Handed) (it : Drain) → IsAlone (drains_as task whom it)
    drained_alone whom drain_as.Goes s = still s _ _ refl refl tt (λ more. refl)
    drained_alone whom drain_as.Yields s = still s _ _ refl refl tt (λ more. refl)
    drained_alone whom (drain_as.Waits on) s = still s _ _ refl refl tt (λ more. refl)
    drained_alone whom (drain_as.Raises fault) s = still s _ _ refl refl tt (λ more. refl)

    limited_alone : (it : Limited) → IsAlone (limits_as it)
    limited_alone limited.Set s = still s _ _ refl refl tt (λ more. refl)
    limited_alone limited.BadLimits s = still s _ _ refl refl tt (λ more. refl)

    read_alone : (op : ReadOp) (from : StreamReader) (it : StreamGot) → IsAlone (reads_as task op from it)
    read_alone op from (got.Bytes bytes) s = still s _ _ refl refl tt (λ more. refl)
    read_alone op from (got.Raises fault) s = still s _ _ refl refl tt (λ more. refl)
    read_alone op from (got.Waits on) s = still s _ _ refl refl tt (λ more. refl)

    all_alone : (from : StreamReader) (taken : List ℕ) (it : StreamGot) → IsAlone (reads_all_as task from taken it)
    all_alone from taken (got.Bytes bytes) s = still s _ _ refl refl tt (λ more. refl)
    all_alone from taken (got.Raises fault) s = still s _ _ refl refl tt (λ more. refl)
    all_alone from taken (got.Waits on) s = still s _ _ refl refl tt (λ more. refl)

    launched_alone : (child : Option ℕ) → IsAlone (launches_as child)
    launched_alone None s = still s _ _ refl refl tt (λ more. refl)
    launched_alone (Some id) s = still s _ _ refl refl tt (λ more. refl)

    exited_alone : (it : ChildWait) → IsAlone (awaits_exit_as task it)
    exited_alone (wait_as.Code code) s = still s _ _ refl refl tt (λ more. refl)
    exited_alone (wait_as.Waits on) s = still s _ _ refl refl tt (λ more. refl)

    drains_alone : (yielded : Bool) (whom : Handed) → IsAlone (drains yielded task whom)
    drains_alone yielded whom s = do_alone {R = Drain} (drain yielded (next_future s.loop.parts) whom s.streams) (drains_as task whom) (drained_alone whom) s

    reads_alone : (op : ReadOp) (from : StreamReader) → IsAlone (reads task op from)
    reads_alone op from s = do_alone {R = StreamGot} (read (next_future s.loop.parts) op from s.streams) (reads_as task op from) (read_alone op from) s

    reads_all_alone : (from : StreamReader) (taken : List ℕ) → IsAlone (reads_all task from taken)
    reads_all_alone from taken s =
        do_alone {R = AllGot} (read_all (next_future s.loop.parts) from s.streams) (λ said. reads_all_as task from (taken ++ said.taken) said.got)
        (λ said. all_alone from (taken ++ said.taken) said.got) s

    counts_alone : (number : ℤ) (from : StreamReader) → IsAlone (reads_count task number from)
    counts_alone (pos count) from s = reads_alone (UpTo count) from s
    counts_alone (negsuc before) from s = reads_all_alone from [] s

    closes_alone : (it : Closable) → IsAlone (closes it)
    closes_alone (AServer id) s = change_alone (close_server id s.streams) (Answers Nothing) nothing_alone s
    closes_alone (AWriter whom) s = change_alone (close whom s.streams) (Answers Nothing) nothing_alone s

    -- ---- requests that are added
    abbrev WakesAlone : Wake S → Type 0
    WakesAlone wake = (key : ℕ) (input : Input) → IsAlone (wake key input)

    until_alone : (o : Option Outcome) (wake : Wake S) → WakesAlone wake → (on key : ℕ) (s : State S)
        → ReadsIn s (serves_until o wake task on key s) (λ more. serves_until o wake task on key (over more s))
    until_alone (Some outcome) wake each on key s = each key (input_of outcome) s
    until_alone None wake each on key s = still s _ _ refl refl tt (λ more. refl)

    serves_alone : (answer : ExtraAnswer) (wake : Wake S) → WakesAlone wake → IsAlone (serves_as answer wake task)
    serves_alone (extra.Answers value) wake each s = still s _ _ refl refl tt (λ more. refl)
    serves_alone (extra.Raises fault) wake each s = still s _ _ refl refl tt (λ more. refl)
    serves_alone (extra.Waits on key) wake each s = until_alone (ended s on) wake each on key s
    serves_alone (extra.Asks code bytes key) wake each s =
        ask_alone state put Follows Halts stops (call.Extra code bytes) (λ said. wake key (input_by said)) (λ said. each key (input_by said)) s

    said_alone : (says : State S → ExtraSaid S) → ((s : State S) (more : List Entry) → says (over more s) ≡ says s)
        → (wake : Wake S) → WakesAlone wake → IsAlone (λ s. serves (says s) wake task s)
    said_alone says same wake each s =
        found s (serves (says s) wake task s) (λ more. serves (says (over more s)) wake task (over more s)) (λ more. serves (says s) wake task (over more s))
        (λ more. ap (λ (it : ExtraSaid S). serves it wake task (over more s)) (same s more))
        (serves_alone (says s).answer wake each (called (says s).call s))

    within_alone : (wakes : ℕ) → WakesAlone (woken_within added wakes task)
    within_alone zero key input s = still s _ _ refl refl tt (λ more. refl)
    within_alone (suc wakes) key input s =
        said_alone (added.wake key input) (foresees.wake key input) (woken_within added wakes task) (within_alone wakes) s

    woken_alone : WakesAlone (woken added task)
    woken_alone key input s = within_alone (suc (added.wakes_left key s.extra)) key input s

    -- ---- the table
    pub reply_alone : (asked : Request) → IsAlone (reply added task asked)
    unfolding reply
    reply_alone request.Pause s = still s _ _ refl refl tt (λ more. refl)
    reply_alone (request.Await x) s =
        given_alone (as_awaited s x) (λ more. as_awaited (over more s) x) (awaits task) s (λ more. refl) (λ on. awaits_alone on s)
    reply_alone (request.Print values) s =
        reads_none state put Follows s.answers (answers_of s.events) _ _ refl
        (answers_of-append s.events (event.Said task (shown_all values) ∷ []) ∙ append-nil (answers_of s.events)) tt (λ more may. refl)
    reply_alone request.MakeFuture s =
        numbered_alone (nat_lt (length s.futures) most_ids) makes_future s (still s _ _ refl refl tt (λ more. refl))
    reply_alone (request.Set future value) s =
        given_alone (as_future s future) (λ more. as_future (over more s) future) (λ on. settles on (Returned value)) s (λ more. refl)
        (λ on. settles_alone on (Returned value) s)
    reply_alone (request.Fail future fault) s =
        given_alone (as_future s future) (λ more. as_future (over more s) future) (λ on. given (as_failure fault) (λ it. settles on (Failed it))) s
        (λ more. refl)
        (λ on.
        given_alone (as_failure fault) (λ more. as_failure fault) (λ it. settles on (Failed it)) s (λ more. refl) (λ it. settles_alone on (Failed it) s))
    reply_alone (request.IsDone x) s =
        given_alone (as_awaited s x) (λ more. as_awaited (over more s) x) _ s (λ more. refl) (λ on. still s _ _ refl refl tt (λ more. refl))
    reply_alone (request.IsCancelled x) s =
        given_alone (as_awaited s x) (λ more. as_awaited (over more s) x) _ s (λ more. refl) (λ on. still s _ _ refl refl tt (λ more. refl))
    reply_alone (request.ResultOf x) s =
        given_alone (as_awaited s x) (λ more. as_awaited (over more s) x) _ s (λ more. refl) (λ on. result_alone (ended s on) s)
    reply_alone (request.Cancel x) s =
        given_alone (as_awaited s x) (λ more. as_awaited (over more s) x) (requests task) s (λ more. refl)
        (λ on. still s _ _ refl refl tt (λ more. refl))
    reply_alone (request.Cancelling x) s =
        given_alone (as_task x) (λ more. as_task x) counted s (λ more. refl) (λ other. still s _ _ refl refl tt (λ more. refl))
    reply_alone (request.Uncancel x) s =
        given_alone (as_task x) (λ more. as_task x) _ s (λ more. refl) (λ other. still s _ _ refl refl tt (λ more. refl))
    reply_alone request.Current s = still s _ _ refl refl tt (λ more. refl)
    reply_alone request.Time s = still s _ _ refl refl tt (λ more. refl)
    reply_alone (request.Spawn coroutine arguments) s =
        numbered_alone (nat_lt (next_task s.loop.parts) most_ids) (spawns coroutine arguments) s (still s _ _ refl refl tt (λ more. refl))
    reply_alone (request.Sleep delay) s =
        given_alone (as_int delay) (λ more. as_int delay) (sleeps task) s (λ more. refl) (λ it. sleeps_alone it s)
    reply_alone (request.TimeoutEnter delay) s =
        given_alone (as_delay delay) (λ more. as_delay delay) (λ it now. numbered (next_timeout now.loop) (enters_timeout task it) now) s (λ more. refl)
        (λ it. numbered_alone (nat_lt (next_timeout s.loop) most_ids) (enters_timeout task it) s (still s _ _ refl refl tt (λ more. refl)))
    reply_alone (request.TimeoutExit timeout raised) s =
        given_alone (as_timeout timeout) (λ more. as_timeout timeout) (exits_timeout raised) s (λ more. refl) (λ id. exits_timeout_alone raised id s)
    reply_alone (request.Reschedule timeout when) s =
        given_alone (as_timeout timeout) (λ more. as_timeout timeout) (λ id. given (as_delay when) (λ it. reschedules id it)) s (λ more. refl)
        (λ id. given_alone (as_delay when) (λ more. as_delay when) (λ it. reschedules id it) s (λ more. refl) (λ it. reschedules_alone id it s))
    reply_alone (request.Expired timeout) s =
        given_alone (as_timeout timeout) (λ more. as_timeout timeout) _ s (λ more. refl) (λ id. still s _ _ refl refl tt (λ more. refl))
    reply_alone request.GroupEnter s =
        numbered_alone (nat_lt (next_group s.loop) most_ids) (enters_group task) s (still s _ _ refl refl tt (λ more. refl))
    reply_alone (request.GroupExit group raised) s =
        given_alone (as_group group) (λ more. as_group group) (λ id now. exits_group (exit_begin raised id now.loop) task id now) s (λ more. refl)
        (λ id. exits_alone (exit_begin raised id s.loop).answer id (exit_begin raised id s.loop).loop s)
    reply_alone (request.Create group coroutine arguments) s =
        given_alone (as_group group) (λ more. as_group group) (λ id now. numbered (next_task now.loop.parts) (creates id coroutine arguments) now) s
        (λ more. refl)
        (λ id. numbered_alone (nat_lt (next_task s.loop.parts) most_ids) (creates id coroutine arguments) s (creates_alone id coroutine arguments s))
    reply_alone (request.Extra code arguments) s =
        given_alone (as_int code) (λ more. as_int code)
        (λ number. given (as_list arguments) (λ items now. serves (added.ask task number items now) (woken added task) task now)) s (λ more. refl)
        (λ number.
        given_alone (as_list arguments) (λ more. as_list arguments)
        (λ items now. serves (added.ask task number items now) (woken added task) task now) s (λ more. refl)
        (λ items. said_alone (added.ask task number items) (foresees.ask task number items) (woken added task) woken_alone s))
    reply_alone (request.Listen port handler) s =
        given_alone (as_int port) (λ more. as_int port) _ s (λ more. refl)
        (λ number. numbered_alone (may_listen s.streams) _ s
        (port_alone number (listens handler) (λ at t. do_alone {R = Option ℕ} (listen at handler t.streams) listens_as listened_alone t) s))
    reply_alone (request.Connect port) s =
        given_alone (as_int port) (λ more. as_int port) _ s (λ more. refl)
        (λ number. numbered_alone (may_connect s.streams) _ s
        (port_alone number (connects task)
        (λ at t. do_alone {R = Option (ℕ × ℕ)} (connect at (next_future t.loop.parts) t.streams) (connects_as task) connected_alone t) s))
    reply_alone (request.Write stream bytes) s =
        given_alone (as_writer s stream) (λ more. as_writer (over more s) stream) _ s (λ more. refl)
        (λ whom. given_alone (as_bytes bytes) (λ more. as_bytes bytes) _ s (λ more. refl)
        (λ piece. do_alone {R = Wrote} (write whom piece s.streams) writes_as wrote_alone s))
    reply_alone (request.WriteEof stream) s =
        given_alone (as_conn s stream) (λ more. as_conn (over more s) stream) _ s (λ more. refl)
        (λ conn. change_alone (write_eof conn s.streams) (Answers Nothing) nothing_alone s)
    reply_alone (request.Close x) s =
        given_alone (as_closable s x) (λ more. as_closable (over more s) x) closes s (λ more. refl) (λ it. closes_alone it s)
    reply_alone (request.WaitClosed stream) s =
        given_alone (as_writer s stream) (λ more. as_writer (over more s) stream) _ s (λ more. refl)
        (λ whom. closed_alone (closed_future whom s.streams) s)
    reply_alone (request.Drain stream) s =
        given_alone (as_writer s stream) (λ more. as_writer (over more s) stream) (drains false task) s (λ more. refl)
        (λ whom. drains_alone false whom s)
    reply_alone (request.Limits stream high low) s =
        given_alone (as_writer s stream) (λ more. as_writer (over more s) stream) _ s (λ more. refl)
        (λ whom. given_alone (as_delay high) (λ more. as_delay high) _ s (λ more. refl)
        (λ most. given_alone (as_delay low) (λ more. as_delay low) _ s (λ more. refl)
        (λ least. do_alone {R = Limited} (limits most least whom s.streams) limits_as limited_alone s)))
    reply_alone (request.Read stream count) s =
        given_alone (as_reader s stream) (λ more. as_reader (over more s) stream) _ s (λ more. refl)
        (λ from. given_alone (as_int count) (λ more. as_int count) _ s (λ more. refl) (λ number. counts_alone number from s))
    reply_alone (request.ReadExactly stream count) s =
        given_alone (as_reader s stream) (λ more. as_reader (over more s) stream) _ s (λ more. refl)
        (λ from. given_alone (as_int count) (λ more. as_int count) _ s (λ more. refl) (λ number. reads_alone (Exactly number) from s))
    reply_alone (request.ReadUntil stream separator) s =
        given_alone (as_reader s stream) (λ more. as_reader (over more s) stream) _ s (λ more. refl)
        (λ from. given_alone (as_bytes separator) (λ more. as_bytes separator) _ s (λ more. refl) (λ bytes. reads_alone (Until bytes) from s))
    reply_alone (request.ReadLine stream) s =
        given_alone (as_reader s stream) (λ more. as_reader (over more s) stream) _ s (λ more. refl) (λ from. reads_alone Line from s)
    reply_alone (request.Launch words) s =
        given_alone (as_words words) (λ more. as_words words) _ s (λ more. refl)
        (λ program. numbered_alone (may_launch s.streams) (launches program) s
        (do_alone {R = Option ℕ} (launch program (next_future s.loop.parts) s.streams) launches_as launched_alone s))
    reply_alone (request.StandardError child) s =
        given_alone (as_child s child) (λ more. as_child (over more s) child) _ s (λ more. refl) (λ id. still s _ _ refl refl tt (λ more. refl))
    reply_alone (request.WaitChild child) s =
        given_alone (as_child s child) (λ more. as_child (over more s) child) _ s (λ more. refl)
        (λ id. do_alone {R = ChildWait} (wait (next_future s.loop.parts) id s.streams) (awaits_exit_as task) exited_alone s)
    reply_alone (request.ReturnCode child) s =
        given_alone (as_child s child) (λ more. as_child (over more s) child) _ s (λ more. refl) (λ id. still s _ _ refl refl tt (λ more. refl))
    reply_alone (request.Kill child) s =
        given_alone (as_child s child) (λ more. as_child (over more s) child) _ s (λ more. refl)
        (λ id. change_alone (kill id s.streams) (Answers Nothing) nothing_alone s)

    -- ---- what a task stands at
    hears_alone : (input : Input) (next : State S → RequestReply S) → IsAlone next → IsAlone (hears input next)
    hears_alone (Send value) next each s = each s
    hears_alone (Throw fault) next each s = still s _ _ refl refl tt (λ more. refl)

    pub decides_alone : (resume_point : ResumePoint) (input : Input) → IsAlone (decides added resume_point task input)
    decides_alone Asked input s = replied_alone input s
    decides_alone (Sleeping tag) input s = replied_alone input s
    decides_alone (Leaving group) input s =
        exits_alone (exit_woken input group s.loop).answer group (exit_woken input group s.loop).loop s
    decides_alone (Serving key) input s = woken_alone key input s
    decides_alone (Connecting conn) (Send value) s = still s _ _ refl refl tt (λ more. refl)
    decides_alone (Connecting conn) (Throw fault) s = change_alone (drop_connect conn s.streams) (Raises fault) (raises_alone fault) s
    decides_alone (Yielding whom) input s = hears_alone input (drains true task whom) (drains_alone true whom) s
    decides_alone (Reading from op on) input s = hears_alone input (reads task op from) (reads_alone op from) (waits_no_more on from s)
    decides_alone (ReadingAll from taken on) input s =
        hears_alone input (reads_all task from taken) (reads_all_alone from taken) (waits_no_more on from s)
