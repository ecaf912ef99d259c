-- What each request of a task, what it stood at, and the rest of its step do to the loop, told by its operations: what goes on with each of
-- these goes on with a whole step.
use Rattle.std.proofs.Common.{◌≡◌, ℕ, zero, suc, ◌&&◌, ℤ, pos, negsuc, Bool, true, false, List, [], ◌∷◌, ◌++◌, Option, Some, None, Result, Ok, Err, refl}
use Rattle.std.proofs.Common.{nat_lt}
use Rattle.std.proofs.lemmas.Bool.{false≢true}
use Rattle.model_value.specs.declared.input.Input.TheVariants.{Send, Throw}
use Rattle.model_value.specs.declared.outcome.Outcome.TheVariants.{Value as Returned, Failed}
use Rattle.model_value.specs.declared.request.Request.TheVariants as request
use Rattle.model_value.specs.Input.{Input}
use Rattle.model_value.specs.Request.{Request}
use Rattle.model_value.specs.Value.{Value, Nothing, Exc, Outcome}
use Rattle.model_says.specs.Endings as says
use Rattle.model_wire.specs.declared.call.Call.TheVariants as call
use Rattle.model_wire.specs.declared.event.Event.TheVariants as event
use Rattle.model_wire.specs.declared.event.Handed.{Handed}
use Rattle.model_wire.specs.Call.{Answer, Call}
use Rattle.model_wire.specs.Fits.{fits}
use Rattle.model_wire.specs.Journal.{Entry, Answered, Refused}
use Rattle.model_wire.specs.Trace.{End}
use Rattle.model_loop.specs.Futures.{new_plain, next_future, settle}
use Rattle.model_loop.specs.Groups.{GroupExit, Waits, Passes, Raises as RaisedBy, create, enter_group, exit_begin, exit_woken, make_group, next_group}
use Rattle.model_loop.specs.Handles.{soon}
use Rattle.model_loop.specs.Ledger.{ByScript, Origin, ask_cancel}
use Rattle.model_loop.specs.Loop.{Loop, book, in_parts, take_one_back}
use Rattle.model_loop.specs.Parts.{Parts}
use Rattle.model_loop.specs.Suspend.{suspend}
use Rattle.model_loop.specs.Tasks.{finish, pause, spawn}
use Rattle.model_loop.specs.Timeouts.{enter_timeout, exit_timeout, reschedule}
use Rattle.model_stream.specs.declared.answers.ChildWait.{ChildWait}
use Rattle.model_stream.specs.declared.answers.ChildWait.TheVariants as wait_as
use Rattle.model_stream.specs.declared.answers.Drain.TheVariants as drain_as
use Rattle.model_stream.specs.declared.answers.StreamGot.TheVariants as got
use Rattle.model_stream.specs.declared.answers.Wrote.{Wrote}
use Rattle.model_stream.specs.declared.answers.Wrote.TheVariants as wrote
use Rattle.model_stream.specs.declared.put.Limited.{Limited}
use Rattle.model_stream.specs.declared.put.Limited.TheVariants as limited
use Rattle.model_stream.specs.declared.read_op.ReadOp.TheVariants.{UpTo, Exactly, Until, Line}
use Rattle.model_stream.specs.Doing.{Change, MakeFuture, CallSoon, Settle, Doing, Ends, Changes, Asks}
use Rattle.model_stream.specs.Reading.{ReadOp}
use Rattle.model_stream.specs.Receivers.{StreamGot}
use Rattle.model_stream.specs.Requests.{StreamReader, write, drain, limits, write_eof, close, closed_future, drop_connect, read, read_all}
use Rattle.model_stream.specs.Requests.{wait, kill}
use Rattle.model_stream.specs.Senders.{Drain}
use Rattle.model_stream.specs.Streams.{Streams, may_listen, may_connect, may_launch, listen, connect, launch, close_server}
use Rattle.model_machine.specs.Arguments.{AServer, AWriter, Closable, as_bytes, as_child, as_closable, as_conn, as_delay, as_int, as_reader, as_words}
use Rattle.model_machine.specs.Arguments.{as_writer}
use Rattle.model_machine.specs.Does.{changed, does}
use Rattle.model_machine.specs.Extra as extra
use Rattle.model_machine.specs.Extra.{Extra, ExtraAnswer, ExtraSaid, ExtraStep, called, made_by_all}
use Rattle.model_machine.specs.Outcomes.{input_of}
use Rattle.model_machine.specs.Replies.{RequestReply, Answers, Raises, Suspends, Halts, Wake, alarmed, awaits, awaits_as, awaits_closed_as, awaits_exit_as}
use Rattle.model_machine.specs.Replies.{closes, connects, connects_as, decides, drains, drains_as, ended, exits_as, exits_timeout, given, hears, input_by}
use Rattle.model_machine.specs.Replies.{launches, launches_as, limits_as, listens, listens_as, numbered_if, reads, reads_all, reads_all_as, reads_as}
use Rattle.model_machine.specs.Replies.{reads_count}
use Rattle.model_machine.specs.Replies.{replied, reply, serves, serves_as, serves_until, streams_change, streams_do, timed_out_if, to_port, to_port_if, waits}
use Rattle.model_machine.specs.Replies.{waits_no_more, woken, woken_within, writes_as}
use Rattle.model_machine.specs.State.{ResumePoint, Asked, Sleeping, Leaving, Serving, Connecting, Yielding, Reading, ReadingAll, State, noted, unbooked_in}
use Rattle.model_machine.specs.State.{with_loop, with_streams}
use Rattle.model_machine.specs.Step.{says_of, serve, served, taken_as}
use Rattle.model_machine.specs.Went.{Went, Goes, Stops, answered_so, ask_so, fitted_so}
use Rattle.law_cases.specs.Cases.{Replies, raises, leaves_none, exits_none, tells, names_itself, hands_on, pauses_on, alarms, prints, makes, sets}
use Rattle.law_cases.specs.Cases as cases
use Rattle.law_cases.specs.Cases.{fails, cancels, uncancels, spawns_it, enters, leaves, moves, enters_one, exits, creates_it, serves_it}
use Rattle.law_cases.specs.Closed.{is_to_streams}
use Rattle.law_cases.proofs.Cases.{reply_is}

-- What goes on with each operation by which a task changes the loop in its own step: `R` while the step goes on, and `E` where it ends.
pub record StepWalk (me : ℕ) (R E : Loop → Loop → Type 0) : Type 0 where
  pub same : (l : Loop) → R l l
  pub next : (l m q : Loop) → R l m → R m q → R l q
  pub ends : (l m q : Loop) → R l m → E m q → E l q
  pub rests : (l q : Loop) → R l q → E l q
  -- the step ends with a wait, or the task is over
  pub waits : (on : ℕ) (l : Loop) → E l (book (suspend me on) l)
  pub over : (end : Result Value Exc) (l : Loop) → E l (in_parts (finish me end) l)
  -- handles are appended, and futures made
  pub parts : (l : Loop) (q : Parts) → q.tasks ≡ l.parts.tasks → R l (record l { parts = q })
  pub settles : (future : ℕ) (outcome : Outcome) (l : Loop) → R l (in_parts (settle future outcome) l)
  pub asks : (by : Origin) (on : ℕ) (l : Loop) → R l (book (ask_cancel by on) l)
  pub takes : (by : Origin) (task : ℕ) (l : Loop) → R l (take_one_back by task l)
  pub spawns : (l : Loop) → R l (in_parts spawn l)
  -- timeouts and groups
  pub enters : (delay : Option ℤ) (l : Loop) → R l (enter_timeout me delay l)
  pub leaves : (raised : Option Exc) (id : ℕ) (l : Loop) → R l (exit_timeout raised id l).loop
  pub moves : (id : ℕ) (when : Option ℤ) (l : Loop) → R l (reschedule id when l)
  pub enters_group : (l : Loop) → R l (enter_group (next_group l) (make_group me l))
  pub begins : (raised : Option Exc) (id : ℕ) (l : Loop) → R l (exit_begin raised id l).loop
  pub wakes : (input : Input) (id : ℕ) (l : Loop) → R l (exit_woken input id l).loop
  pub creates : (id : ℕ) (l : Loop) → R l (create id l)
  -- what is added
  pub added : (steps : List ExtraStep) (l : Loop) → R l (made_by_all steps l)

-- of a request, and of the rest of a step; where the run ends nothing is said
abbrev pub ReplyComes : {S : Type 0} → (R E : Loop → Loop → Type 0) → State S → RequestReply S → Type 0
ReplyComes R E s (Answers value now) = R s.loop now.loop
ReplyComes R E s (Raises fault now) = R s.loop now.loop
ReplyComes R E s (Suspends now) = E s.loop now.loop
ReplyComes R E s (Halts end last) = Unit {0}

abbrev pub WentComes : {S : Type 0} → (E : Loop → Loop → Type 0) → State S → Went S → Type 0
WentComes E s (Goes now) = E s.loop now.loop
WentComes E s (Stops end last) = Unit {0}

module _ {S : Type 0} {R E : Loop → Loop → Type 0} (me : ℕ) (w : StepWalk me R E) (added : Extra S) where
  abbrev Comes : State S → RequestReply S → Type 0
  Comes s it = ReplyComes R E s it

  abbrev StepComes : State S → Went S → Type 0
  StepComes s went = WentComes E s went

  abbrev same : (s : State S) → R s.loop s.loop
  same s = w.same s.loop

  parts_so : (l : Loop) (q : Parts) → q.tasks ≡ l.parts.tasks → R l (record l { parts = q })
  parts_so l q tasks = w.parts l q tasks

  after : (s t : State S) (it : RequestReply S) → R s.loop t.loop → Comes t it → Comes s it
  after s t (Answers value now) first then_ = w.next s.loop t.loop now.loop first then_
  after s t (Raises fault now) first then_ = w.next s.loop t.loop now.loop first then_
  after s t (Suspends now) first then_ = w.ends s.loop t.loop now.loop first then_
  after s t (Halts end last) first then_ = tt

  replied_comes : (input : Input) (s : State S) → Comes s (replied input s)
  replied_comes (Send value) s = same s
  replied_comes (Throw fault) s = same s

  waits_comes : (on : ℕ) (s : State S) → E s.loop (waits me on s).loop
  waits_comes on s = w.waits on s.loop

  -- ---- blocks
  timeout_comes : (raised : Option Exc) (id : ℕ) (s : State S) → Comes s (exits_timeout raised id s)
  timeout_comes raised id s = at (exit_timeout raised id s.loop).timed_out
    where
      at : (b : Bool) → Comes s (timed_out_if b (with_loop (exit_timeout raised id s.loop).loop s))
      at true = w.leaves raised id s.loop
      at false = w.leaves raised id s.loop

  exits_comes : (answer : GroupExit) (id : ℕ) (l : Loop) (s : State S) → R s.loop l → Comes s (exits_as answer me id (with_loop l s))
  exits_comes (Waits on) id l s goes = w.ends s.loop l (waits me on (with_loop l s)).loop goes (w.waits on l)
  exits_comes Passes id l s goes = goes
  exits_comes (RaisedBy fault) id l s goes = goes

  -- ---- a call on the outside
  asked_comes : (it : Call) (next : Answer → State S → RequestReply S) (s : State S)
      → ((came : Answer) (t : State S) → t.loop ≡ s.loop → Comes t (next came t)) → Comes s (ask_so Halts it next s)
  asked_comes it next s each = by s.answers
    where
      fit : (b : Bool) (came : Answer) (left : List Entry)
          → Comes s (fitted_so Halts b it came next (noted (event.Got came) (record (noted (event.Called it) s) { answers = left })))
      fit true came left =
          let t = noted (event.Got came) (record (noted (event.Called it) s) { answers = left }) in after s t (next came t) (same s) (each came t refl)
      fit false came left = tt

      by : (entries : List Entry) → Comes s (answered_so Halts entries it next (noted (event.Called it) s))
      by [] = tt
      by (Refused line cause ∷ entries) = tt
      by (Answered came ∷ entries) = fit (fits it came) came entries

  -- ---- what is added
  abbrev WakeComes : Wake S → Type 0
  WakeComes wake = (key : ℕ) (input : Input) (s : State S) → Comes s (wake key input s)

  until_comes : (o : Option Outcome) (wake : Wake S) (on key : ℕ) (s : State S) → WakeComes wake → Comes s (serves_until o wake me on key s)
  until_comes (Some outcome) wake on key s wakes = wakes key (input_of outcome) s
  until_comes None wake on key s wakes = waits_comes on s

  as_comes : (answer : ExtraAnswer) (wake : Wake S) (s : State S) → WakeComes wake → Comes s (serves_as answer wake me s)
  as_comes (extra.Answers value) wake s wakes = same s
  as_comes (extra.Raises fault) wake s wakes = same s
  as_comes (extra.Waits on key) wake s wakes = until_comes (ended s on) wake on key s wakes
  as_comes (extra.Asks code bytes key) wake s wakes =
      asked_comes (call.Extra code bytes) (λ said. wake key (input_by said)) s (λ said t is. wakes key (input_by said) t)

  serves_comes : (said : ExtraSaid S) (wake : Wake S) (s : State S) → WakeComes wake → Comes s (serves said wake me s)
  serves_comes said wake s wakes =
      let t = called said.call s in
      after s t (serves_as said.answer wake me t) (w.added said.call.steps s.loop) (as_comes said.answer wake t wakes)

  within_comes : (wakes : ℕ) → WakeComes (woken_within added wakes me)
  within_comes zero key input s = tt
  within_comes (suc wakes) key input s = serves_comes (added.wake key input s) (woken_within added wakes me) s (within_comes wakes)

  woken_comes : WakeComes (woken added me)
  woken_comes key input s = within_comes (suc (added.wakes_left key s.extra)) key input s

  -- ---- the table, where no listener, connection or child is asked
  case_comes : (s : State S) {asked : Request} {it : RequestReply S} → Replies added me s asked it → Comes s it
  case_comes s (raises fault f) = same s
  case_comes s (leaves_none timeout raised fault e) = same s
  case_comes s (exits_none group raised fault e) = same s
  case_comes s (tells value none b) = same s
  case_comes s names_itself = same s
  case_comes s (hands_on on outcome e b) = replied_comes (input_of outcome) s
  case_comes s (pauses_on may b) = w.rests s.loop (unbooked_in (pause me) s).loop (parts_so s.loop (pause me s.loop.parts) refl)
  case_comes s (alarms x delay) =
      let t = unbooked_in (alarmed me (pos (suc delay))) s in
      w.ends s.loop t.loop (waits me (next_future s.loop.parts) t).loop (parts_so s.loop t.loop.parts refl)
      (w.waits (next_future s.loop.parts) t.loop)
  case_comes s (cases.awaits x on e none) = waits_comes on s
  case_comes s (prints values) = same s
  case_comes s (makes few) = parts_so s.loop (new_plain s.loop.parts) refl
  case_comes s (sets future value on e) = w.settles on (Returned value) s.loop
  case_comes s (fails future fault on it e) = w.settles on (Failed it) s.loop
  case_comes s (cancels x on) = w.asks (ByScript me) on s.loop
  case_comes s (uncancels x other) = w.takes (ByScript me) other s.loop
  case_comes s (spawns_it coroutine arguments few) = w.spawns s.loop
  case_comes s (enters x delay few) = w.enters delay s.loop
  case_comes s (leaves timeout raised id e) = timeout_comes raised id s
  case_comes s (moves timeout x id when e) = w.moves id when s.loop
  case_comes s (enters_one few) = w.enters_group s.loop
  case_comes s (exits group raised id e) =
      exits_comes (exit_begin raised id s.loop).answer id (exit_begin raised id s.loop).loop s (w.begins raised id s.loop)
  case_comes s (creates_it group id coroutine arguments few e) = w.creates id s.loop
  case_comes s (serves_it code arguments number items) = serves_comes (added.ask me number items s) (woken added me) s woken_comes

  -- ---- trees of listeners, connections and children
  change_goes : (change : Change) (s : State S) → R s.loop (unbooked_in (changed change) s).loop
  change_goes MakeFuture s = parts_so s.loop (new_plain s.loop.parts) refl
  change_goes (CallSoon action) s = parts_so s.loop (soon action s.loop.parts) refl
  change_goes (Settle future outcome) s = w.settles future outcome s.loop

  does_comes : {A : Type 0} (tree : Doing A) (next : A → State S → RequestReply S) (s : State S)
      → ((it : A) (t : State S) → Comes t (next it t)) → Comes s (does Halts tree next s)
  does_comes (Ends result) next s each = each result s
  does_comes (Changes change rest) next s each =
      let t = unbooked_in (changed change) s in after s t (does Halts rest next t) (change_goes change s) (does_comes rest next t each)
  does_comes (Asks it rest) next s each =
      asked_comes it (λ came. does Halts (rest came) next) s (λ came t is. does_comes (rest came) next t each)

  given_comes : {A : Type 0} (o : Option A) (next : A → State S → RequestReply S) (s : State S) → ((a : A) → Comes s (next a s))
      → Comes s (given o next s)
  given_comes None next s each = same s
  given_comes (Some a) next s each = each a

  numbered_comes : (b : Bool) (next : State S → RequestReply S) (s : State S) → Comes s (next s) → Comes s (numbered_if b next s)
  numbered_comes true next s it = it
  numbered_comes false next s it = same s

  port_comes : (number : ℤ) (next : ℕ → State S → RequestReply S) (s : State S) → ((port : ℕ) → Comes s (next port s))
      → Comes s (to_port number next s)
  port_comes (negsuc before) next s each = same s
  port_comes (pos port) next s each = at (nat_lt 0 port && nat_lt port 65536)
    where
      at : (b : Bool) → Comes s (to_port_if b port next s)
      at true = each port
      at false = same s

  -- streams that change leave the loop as it is
  with_comes : (streams : Streams) (t : State S) (it : RequestReply S) → Comes (with_streams streams t) it → Comes t it
  with_comes streams t it comes = after t (with_streams streams t) it (same t) comes

  do_comes : {R : Type 0} (tree : Doing (Streams × R)) (next : R → State S → RequestReply S) (s : State S)
      → ((answer : R) (t : State S) → Comes t (next answer t)) → Comes s (streams_do tree next s)
  do_comes tree next s each =
      does_comes tree (λ done now. next done.1 (with_streams done.0 now)) s
      (λ done t. with_comes done.0 t (next done.1 (with_streams done.0 t)) (each done.1 (with_streams done.0 t)))

  go_comes : (tree : Doing Streams) (next : State S → RequestReply S) (s : State S) → ((t : State S) → Comes t (next t))
      → Comes s (streams_change tree next s)
  go_comes tree next s each =
      does_comes tree (λ streams now. next (with_streams streams now)) s
      (λ streams t. with_comes streams t (next (with_streams streams t)) (each (with_streams streams t)))

  -- ---- what follows
  listened : (server : Option ℕ) (s : State S) → Comes s (listens_as server s)
  listened None s = same s
  listened (Some id) s = same s

  connected : (begun : Option (ℕ × ℕ)) (s : State S) → Comes s (connects_as me begun s)
  connected None s = same s
  connected (Some begun) s = waits_comes begun.1 s

  wrote_so : (it : Wrote) (s : State S) → Comes s (writes_as it s)
  wrote_so wrote.Done s = same s
  wrote_so wrote.AfterEof s = same s

  awaited : (o : Option Outcome) (on : ℕ) (s : State S) → Comes s (awaits_as o me on s)
  awaited (Some outcome) on s = replied_comes (input_of outcome) s
  awaited None on s = waits_comes on s

  closed : (on : Option ℕ) (s : State S) → Comes s (awaits_closed_as on me s)
  closed None s = same s
  closed (Some on) s = awaited (ended s on) on s

  drained : (whom : Handed) (it : Drain) (s : State S) → Comes s (drains_as me whom it s)
  drained whom drain_as.Goes s = same s
  drained whom drain_as.Yields s = w.rests s.loop (unbooked_in (pause me) s).loop (parts_so s.loop (pause me s.loop.parts) refl)
  drained whom (drain_as.Waits on) s = waits_comes on s
  drained whom (drain_as.Raises fault) s = same s

  limited_so : (it : Limited) (s : State S) → Comes s (limits_as it s)
  limited_so limited.Set s = same s
  limited_so limited.BadLimits s = same s

  read_so : (op : ReadOp) (from : StreamReader) (it : StreamGot) (s : State S) → Comes s (reads_as me op from it s)
  read_so op from (got.Bytes bytes) s = same s
  read_so op from (got.Raises fault) s = same s
  read_so op from (got.Waits on) s = waits_comes on s

  read_all_so : (from : StreamReader) (taken : List ℕ) (it : StreamGot) (s : State S) → Comes s (reads_all_as me from taken it s)
  read_all_so from taken (got.Bytes bytes) s = same s
  read_all_so from taken (got.Raises fault) s = same s
  read_all_so from taken (got.Waits on) s = waits_comes on s

  launched : (child : Option ℕ) (s : State S) → Comes s (launches_as child s)
  launched None s = same s
  launched (Some id) s = same s

  exited : (it : ChildWait) (s : State S) → Comes s (awaits_exit_as me it s)
  exited (wait_as.Code code) s = same s
  exited (wait_as.Waits on) s = waits_comes on s

  drains_comes : (yielded : Bool) (whom : Handed) (s : State S) → Comes s (drains yielded me whom s)
  drains_comes yielded whom s = do_comes (drain yielded (next_future s.loop.parts) whom s.streams) (drains_as me whom) s (drained whom)

  reads_comes : (op : ReadOp) (from : StreamReader) (s : State S) → Comes s (reads me op from s)
  reads_comes op from s = do_comes (read (next_future s.loop.parts) op from s.streams) (reads_as me op from) s (read_so op from)

  reads_all_comes : (from : StreamReader) (taken : List ℕ) (s : State S) → Comes s (reads_all me from taken s)
  reads_all_comes from taken s =
      do_comes (read_all (next_future s.loop.parts) from s.streams) (λ said. reads_all_as me from (taken ++ said.taken) said.got) s
      (λ said t. read_all_so from (taken ++ said.taken) said.got t)

  counts_comes : (number : ℤ) (from : StreamReader) (s : State S) → Comes s (reads_count me number from s)
  counts_comes (pos count) from s = reads_comes (UpTo count) from s
  counts_comes (negsuc before) from s = reads_all_comes from [] s

  streams_comes : (asked : Request) (s : State S) → is_to_streams asked ≡ true → Comes s (reply added me asked s)
  unfolding reply
  streams_comes (request.Listen port handler) s is =
      given_comes (as_int port) _ s (λ number. numbered_comes (may_listen s.streams) _ s (port_comes number (listens handler) s
      (λ at. do_comes {R = Option ℕ} (listen at handler s.streams) listens_as s listened)))
  streams_comes (request.Connect port) s is =
      given_comes (as_int port) _ s (λ number. numbered_comes (may_connect s.streams) _ s (port_comes number (connects me) s
      (λ at. do_comes {R = Option (ℕ × ℕ)} (connect at (next_future s.loop.parts) s.streams) (connects_as me) s connected)))
  streams_comes (request.Launch words) s is =
      given_comes (as_words words) _ s (λ program. numbered_comes (may_launch s.streams) (launches program) s
      (do_comes {R = Option ℕ} (launch program (next_future s.loop.parts) s.streams) launches_as s launched))
  streams_comes (request.Write stream bytes) s is =
      given_comes (as_writer s stream) _ s (λ whom. given_comes (as_bytes bytes) _ s
      (λ piece. do_comes {R = Wrote} (write whom piece s.streams) writes_as s wrote_so))
  streams_comes (request.WriteEof stream) s is =
      given_comes (as_conn s stream) _ s (λ conn. go_comes (write_eof conn s.streams) (Answers Nothing) s same)
  streams_comes (request.Close x) s is = given_comes (as_closable s x) closes s shut
    where
      shut : (it : Closable) → Comes s (closes it s)
      shut (AServer id) = go_comes (close_server id s.streams) (Answers Nothing) s same
      shut (AWriter whom) = go_comes (close whom s.streams) (Answers Nothing) s same
  streams_comes (request.WaitClosed stream) s is =
      given_comes (as_writer s stream) _ s (λ whom. closed (closed_future whom s.streams) s)
  streams_comes (request.Drain stream) s is = given_comes (as_writer s stream) (drains false me) s (λ whom. drains_comes false whom s)
  streams_comes (request.Limits stream high low) s is =
      given_comes (as_writer s stream) _ s (λ whom. given_comes (as_delay high) _ s (λ most. given_comes (as_delay low) _ s
      (λ least. do_comes {R = Limited} (limits most least whom s.streams) limits_as s limited_so)))
  streams_comes (request.Read stream count) s is =
      given_comes (as_reader s stream) _ s (λ from. given_comes (as_int count) _ s (λ number. counts_comes number from s))
  streams_comes (request.ReadExactly stream count) s is =
      given_comes (as_reader s stream) _ s (λ from. given_comes (as_int count) _ s (λ number. reads_comes (Exactly number) from s))
  streams_comes (request.ReadUntil stream separator) s is =
      given_comes (as_reader s stream) _ s (λ from. given_comes (as_bytes separator) _ s (λ bytes. reads_comes (Until bytes) from s))
  streams_comes (request.ReadLine stream) s is = given_comes (as_reader s stream) _ s (λ from. reads_comes Line from s)
  streams_comes (request.StandardError child) s is = given_comes (as_child s child) _ s (λ id. same s)
  streams_comes (request.WaitChild child) s is =
      given_comes (as_child s child) _ s
      (λ id. do_comes {R = ChildWait} (wait (next_future s.loop.parts) id s.streams) (awaits_exit_as me) s exited)
  streams_comes (request.ReturnCode child) s is = given_comes (as_child s child) _ s (λ id. same s)
  streams_comes (request.Kill child) s is = given_comes (as_child s child) _ s (λ id. go_comes (kill id s.streams) (Answers Nothing) s same)
  streams_comes _ s is = absurd (false≢true is)

  pub reply_comes : (asked : Request) (s : State S) → Comes s (reply added me asked s)
  reply_comes asked s = at (is_to_streams asked) refl
    where
      at : (b : Bool) → is_to_streams asked ≡ b → Comes s (reply added me asked s)
      at true is = streams_comes asked s is
      at false is = case_comes s (reply_is added me s asked is)

  -- ---- what the task stood at
  hears_comes : (input : Input) (next : State S → RequestReply S) (s : State S) → Comes s (next s) → Comes s (hears input next s)
  hears_comes (Send value) next s it = it
  hears_comes (Throw fault) next s it = same s

  pub decides_comes : (resume_point : ResumePoint) (input : Input) (s : State S) → Comes s (decides added resume_point me input s)
  decides_comes Asked input s = replied_comes input s
  decides_comes (Sleeping tag) input s = replied_comes input s
  decides_comes (Leaving group) input s =
      exits_comes (exit_woken input group s.loop).answer group (exit_woken input group s.loop).loop s (w.wakes input group s.loop)
  decides_comes (Serving key) input s = woken_comes key input s
  decides_comes (Connecting conn) (Send value) s = same s
  decides_comes (Connecting conn) (Throw fault) s = go_comes (drop_connect conn s.streams) (Raises fault) s same
  decides_comes (Yielding whom) input s = hears_comes input (drains true me whom) s (drains_comes true whom s)
  decides_comes (Reading from op on) input s =
      let t = waits_no_more on from s in
      with_comes t.streams s (hears input (reads me op from) t) (hears_comes input (reads me op from) t (reads_comes op from t))
  decides_comes (ReadingAll from taken on) input s =
      let t = waits_no_more on from s in
      with_comes t.streams s (hears input (reads_all me from taken) t) (hears_comes input (reads_all me from taken) t (reads_all_comes from taken t))

  -- ---- the rest of a step
  went_after : (s t : State S) (went : Went S) → R s.loop t.loop → StepComes t went → StepComes s went
  went_after s t (Goes now) first then_ = w.ends s.loop t.loop now.loop first then_
  went_after s t (Stops end last) first then_ = tt

  pub taken_ends : (s : State S) (it : RequestReply S) (fresh : Bool) (go_on : State S → Went S) → Comes s it
      → ((t : State S) → StepComes t (go_on t)) → StepComes s (taken_as it fresh me go_on)
  taken_ends s (Answers value now) fresh go_on comes each = went_after s now (go_on _) comes (each _)
  taken_ends s (Raises fault now) fresh go_on comes each = went_after s now (go_on _) comes (each _)
  taken_ends s (Suspends now) fresh go_on comes each = comes
  taken_ends s (Halts end last) fresh go_on comes each = tt

  said_ends : (limit : ℕ) (said : says.Saying) (go_on : State S → Went S) (s : State S) → ((t : State S) → StepComes t (go_on t))
      → StepComes s (served limit added said me go_on s)
  said_ends limit (says.Asks asked) go_on s each = taken_ends s (reply added me asked s) false go_on (reply_comes asked s) each
  said_ends limit (says.Returns value) go_on s each = w.over (Ok value) s.loop
  said_ends limit (says.Raises fault) go_on s each = w.over (Err fault) s.loop
  said_ends limit says.Runaway go_on s each = tt

  pub serve_comes : (limit answers : ℕ) (s : State S) → StepComes s (serve limit added answers me s)
  unfolding serve
  serve_comes limit zero s = tt
  serve_comes limit (suc answers) s = said_ends limit (says_of limit added me s) (serve limit added answers me) s (serve_comes limit answers)
