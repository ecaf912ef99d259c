-- A request that isn't for what is added, and what a task makes of its input where it stands at none of its requests, leave all that
-- is kept as it is.
use Rattle.std.proofs.Common.{◌≡◌, ℕ, suc, ◌+◌, ◌&&◌, ℤ, pos, negsuc, Bool, true, false, List, [], ◌∷◌, ◌++◌, Option, Some, None, nat_lt, refl, sym}
use Rattle.std.proofs.lemmas.Bool.{false≢true}
use Rattle.model_value.specs.Action.{Action}
use Rattle.model_value.specs.declared.action.Action.TheVariants as action
use Rattle.model_value.specs.declared.input.Input.TheVariants.{Send, Throw}
use Rattle.model_value.specs.declared.request.Request.TheVariants as request
use Rattle.model_value.specs.Input.{Input}
use Rattle.model_value.specs.Request.{Request}
use Rattle.model_value.specs.Value.{Value, Nothing, Outcome, Exc}
use Rattle.model_wire.specs.declared.event.Event.TheVariants as event
use Rattle.model_wire.specs.declared.event.Handed.{Handed}
use Rattle.model_wire.specs.Call.{Answer, Call}
use Rattle.model_wire.specs.Event.{Event}
use Rattle.model_wire.specs.Fits.{fits}
use Rattle.model_wire.specs.Journal.{Entry, Answered, Refused}
use Rattle.model_wire.specs.Trace.{End}
use Rattle.model_loop.specs.Futures.{next_future}
use Rattle.model_loop.specs.Groups.{GroupExit, Waits, Passes, Raises as RaisedBy, exit_begin, exit_woken}
use Rattle.model_loop.specs.Ledger.{ByScript}
use Rattle.model_loop.specs.Loop.{Loop}
use Rattle.model_loop.specs.Parts.{Plain}
use Rattle.model_loop.specs.Timeouts.{exit_timeout}
use Rattle.model_stream.specs.declared.answers.ChildWait.{ChildWait}
use Rattle.model_stream.specs.declared.answers.ChildWait.TheVariants as wait_as
use Rattle.model_stream.specs.declared.answers.Drain.TheVariants as drain_as
use Rattle.model_stream.specs.declared.answers.StreamGot.TheVariants as got
use Rattle.model_stream.specs.declared.answers.Wrote.{Wrote}
use Rattle.model_stream.specs.declared.answers.Wrote.TheVariants as wrote
use Rattle.model_stream.specs.declared.put.Limited.{Limited}
use Rattle.model_stream.specs.declared.put.Limited.TheVariants as limited
use Rattle.model_stream.specs.declared.read_op.ReadOp.TheVariants.{UpTo, Exactly, Until, Line}
use Rattle.model_stream.specs.Doing as doing
use Rattle.model_stream.specs.Doing.{Doing, Ends, Changes, Asks}
use Rattle.model_stream.specs.Reading.{ReadOp}
use Rattle.model_stream.specs.Receivers.{StreamGot}
use Rattle.model_stream.specs.Requests.{StreamReader, write, drain, limits, write_eof, close, closed_future, drop_connect, read, read_all, give_up_read}
use Rattle.model_stream.specs.Requests.{wait, kill}
use Rattle.model_stream.specs.Senders.{Drain}
use Rattle.model_stream.specs.Streams.{Streams, may_listen, may_connect, may_launch, listen, connect, launch, close_server}
use Rattle.model_machine.specs.Arguments.{AServer, AWriter, Closable, as_bytes, as_child, as_closable, as_conn, as_delay, as_int, as_reader, as_words}
use Rattle.model_machine.specs.Arguments.{as_writer}
use Rattle.model_machine.specs.Does.{changed, does}
use Rattle.model_machine.specs.Extra.{Extra}
use Rattle.model_machine.specs.Outcomes.{input_of}
use Rattle.model_machine.specs.Replies.{RequestReply, Answers, Raises, Halts, alarmed, awaits, awaits_as, awaits_closed_as, awaits_exit_as, closes}
use Rattle.model_machine.specs.Replies.{connects, connects_as, decides, drains, drains_as, ended, exits_as, exits_timeout, given, hears, launches}
use Rattle.model_machine.specs.Replies.{launches_as, limits_as, listens, listens_as, numbered_if, reads, reads_all, reads_all_as, reads_as, reads_count}
use Rattle.model_machine.specs.Replies.{replied, reply, streams_change, streams_do, timed_out_if, to_port, to_port_if, waits, waits_no_more, writes_as}
use Rattle.model_machine.specs.Sound.{is_extra}
use Rattle.model_machine.specs.State.{ResumePoint, Asked, Sleeping, Leaving, Serving, Connecting, Yielding, Reading, ReadingAll, State, noted}
use Rattle.model_machine.specs.State.{resumed, stands, unbooked_in, with_coroutine, with_loop, with_streams}
use Rattle.model_machine.specs.Went.{answered_so, ask_so, fitted_so}
use Rattle.law_cases.specs.Cases.{Replies, raises, leaves_none, exits_none, tells, names_itself, hands_on, pauses_on, alarms, awaits as awaits_it, prints}
use Rattle.law_cases.specs.Cases.{makes, sets, fails, cancels, uncancels, spawns_it, enters, leaves, moves, enters_one, exits, creates_it, serves_it}
use Rattle.law_cases.specs.Closed.{is_to_streams}
use Rattle.law_cases.specs.Trees.{AllWaits, AnswersStreams, ConnectsStreams, DrainWaits, ExitWaits, Keeping, KeepsStreams, Owned, ReadWaits, WaitsNever, is_of_streams}
use Rattle.law_cases.proofs.Asking as asking
use Rattle.law_cases.proofs.Cases.{reply_is}
use Rattle.law_cases.proofs.Opening as opening
use Rattle.law_changes.specs.Changes.{PartsChange, CallsLater, CallsSoon, MakesFuture, MakesTask, Settles, OfParts, AsksCancel, TakesBack}
use Rattle.law_changes.specs.Changes.{made_of_parts}
use Rattle.law_changes.specs.Reaches.{Reaches, goes}
use Rattle.law_changes.specs.Reaches as rows
use Rattle.law_changes.proofs.Folds.{on, one}
use Rattle.law_reach.specs.Reaches.{left_by}
use Rattle.law_reach.proofs.Opened.{any, any_kept}
use Rattle.law_kept.specs.Walks.{Beside, MayBeside, is_extra_request, serves_none}
use Rattle.law_kept.proofs.Loops.{Row, create_row, enter_group_row, enter_row, exit_begin_row, exit_timeout_row, exit_woken_row, reschedule_row, suspend_row}
use Rattle.law_kept.proofs.Standing.{push_fewer, set_fewer, set_same}

-- ---- small changes
module _ {S : Type 0} where
  pub beside_same : (s : State S) → Beside s s
  beside_same s = record { kept = refl; loop = rows.stays; stands = λ task key h. h }

  pub beside_then : {s t u : State S} → Beside s t → Beside t u → Beside s u
  beside_then {s} {t} {u} a b = record {
    kept = kept;
    loop = on a.loop b.loop;
    stands = λ task key h. a.stands task key (b.stands task key h);
  }
    where
      kept : u.extra ≡ s.extra
      kept = cc

  -- of the loop alone
  pub loop_beside : (s : State S) {l : Loop} → Row s.loop l → Beside s (record s { loop = l })
  loop_beside s row = record { kept = refl; loop = row; stands = λ task key h. h }

  pub parts_beside : (change : PartsChange) (s : State S) → MayBeside change s.loop.parts → Beside s (unbooked_in (made_of_parts change) s)
  parts_beside change s may = record { kept = refl; loop = one (OfParts change) may; stands = λ task key h. h }

  pub waits_beside : (task on_ : ℕ) (s : State S) → Beside s (waits task on_ s)
  waits_beside task on_ s = loop_beside s (suspend_row task on_ s.loop)

  -- of events and of streams
  pub noted_beside : (it : Event) (s : State S) → Beside s (noted it s)
  noted_beside it s = record { kept = refl; loop = rows.stays; stands = λ task key h. h }

  pub streams_beside : (streams : Streams) (s : State S) → Beside s (with_streams streams s)
  streams_beside streams s = record { kept = refl; loop = rows.stays; stands = λ task key h. h }

  -- of what tasks run
  pub stands_beside : (resume_point : ResumePoint) (task : ℕ) (s : State S) → ((key : ℕ) → resume_point ≡ Serving key → ⊥)
      → Beside s (stands resume_point task s)
  stands_beside resume_point task s never = record {
    kept = refl;
    loop = rows.stays;
    stands = λ other key h. set_fewer s.generators task _ other key never h;
  }

  pub resumed_beside : (fresh : Bool) (task : ℕ) (input : Input) (s : State S) → Beside s (resumed fresh task input s)
  resumed_beside fresh task input s = record {
    kept = refl;
    loop = rows.stays;
    stands = λ other key h. set_same s.generators task _ other key refl h;
  }

  pub coroutine_beside : (coroutine : ℕ) (arguments : List Value) (s : State S) → Beside s (with_coroutine coroutine arguments s)
  coroutine_beside coroutine arguments s = record {
    kept = refl;
    loop = rows.stays;
    stands = λ other key h. push_fewer s.generators coroutine arguments other key h;
  }

-- ---- calls, and trees of streams, from one state on
of_streams : (it : Action) → is_of_streams it ≡ true → is_extra it ≡ false
of_streams (action.Extra key) is = absurd (false≢true is)
of_streams _ is = refl

module _ {S R : Type 0} (halts : End → State S → R) (Comes : R → Type 0) (from : State S)
    (ends : (how : End) (last : State S) → Beside from last → Comes (halts how last)) where
  pub asked_on : (it : Call) (next : Answer → State S → R) (s : State S) → Beside from s
      → ((came : Answer) (t : State S) → Beside from t → Comes (next came t)) → Comes (ask_so halts it next s)
  asked_on it next s so each = by s.answers
    where
      heard : (came : Answer) (entries : List Entry)
          → Beside from (noted (event.Got came) (record (noted (event.Called it) s) { answers = entries }))
      heard came entries = record { kept = so.kept; loop = so.loop; stands = so.stands }

      fit : (b : Bool) (came : Answer) (t : State S) → Beside from t → Comes (fitted_so halts b it came next t)
      fit true came t here = each came t here
      fit false came t here = ends _ t here

      by : (entries : List Entry) → Comes (answered_so halts entries it next (noted (event.Called it) s))
      by [] = ends _ _ (beside_then so (noted_beside (event.Called it) s))
      by (Refused line cause ∷ entries) = ends _ _ (beside_then so (noted_beside (event.Called it) s))
      by (Answered came ∷ entries) = fit (fits it came) came _ (heard came entries)

  pub does_on : {A : Type 0} (Left : ℕ → A → Type 0) (own : Owned) (number : ℕ) (tree : Doing A) (next : A → State S → R) (s : State S)
      → Beside from s → Keeping Left own number tree → ((it : A) (t : State S) → Beside from t → Comes (next it t))
      → Comes (does halts tree next s)
  does_on Left own number (Ends result) next s so keeps each = each result s so
  does_on Left own number (Changes doing.MakeFuture rest) next s so keeps each =
      does_on Left own (number + 1) rest next (unbooked_in (changed doing.MakeFuture) s)
      (beside_then so (parts_beside (MakesFuture Plain) s tt)) keeps each
  does_on Left own number (Changes (doing.CallSoon it) rest) next s so keeps each =
      does_on Left own number rest next (unbooked_in (changed (doing.CallSoon it)) s)
      (beside_then so (parts_beside (CallsSoon it) s (of_streams it keeps.0))) keeps.1 each
  does_on Left own number (Changes (doing.Settle future outcome) rest) next s so keeps each =
      does_on Left own number rest next (unbooked_in (changed (doing.Settle future outcome)) s)
      (beside_then so (parts_beside (Settles future outcome) s tt)) keeps.1 each
  does_on Left own number (Asks it rest) next s so keeps each =
      asked_on it (λ came. does halts (rest came) next) s so (λ came t here. does_on Left own number (rest came) next t here (keeps.1 came) each)

module _ {S : Type 0} (added : Extra S) (task : ℕ) where
  abbrev Goes : State S → RequestReply S → Type 0
  Goes s it = Beside s (left_by it)

  -- ---- what is no tree
  replied_goes : (input : Input) (s : State S) → Goes s (replied input s)
  replied_goes (Send value) s = beside_same s
  replied_goes (Throw fault) s = beside_same s

  given_goes : {A : Type 0} (o : Option A) (next : A → State S → RequestReply S) (s : State S) → ((a : A) → Goes s (next a s)) → Goes s (given o next s)
  given_goes None next s each = beside_same s
  given_goes (Some a) next s each = each a

  numbered_goes : (b : Bool) (next : State S → RequestReply S) (s : State S) → Goes s (next s) → Goes s (numbered_if b next s)
  numbered_goes true next s it = it
  numbered_goes false next s it = beside_same s

  port_goes : (number : ℤ) (next : ℕ → State S → RequestReply S) (s : State S) → ((port : ℕ) → Goes s (next port s)) → Goes s (to_port number next s)
  port_goes (negsuc before) next s each = beside_same s
  port_goes (pos port) next s each = at (nat_lt 0 port && nat_lt port 65536)
    where
      at : (b : Bool) → Goes s (to_port_if b port next s)
      at true = each port
      at false = beside_same s

  awaits_goes : (id : ℕ) (s : State S) → Goes s (awaits task id s)
  awaits_goes id s = at (ended s id)
    where
      at : (o : Option Outcome) → Goes s (awaits_as o task id s)
      at (Some outcome) = replied_goes (input_of outcome) s
      at None = waits_beside task id s

  stood_goes : (resume_point : ResumePoint) (id : ℕ) (s : State S) → ((key : ℕ) → resume_point ≡ Serving key → ⊥)
      → Beside s (stands resume_point task (waits task id s))
  stood_goes resume_point id s never = beside_then (waits_beside task id s) (stands_beside resume_point task (waits task id s) never)

  pauses_goes : (s : State S) → Beside s (unbooked_in (made_of_parts (CallsSoon (action.Step task))) s)
  pauses_goes s = parts_beside (CallsSoon (action.Step task)) s refl

  exits_timeout_goes : (raised : Option Exc) (id : ℕ) (s : State S) → Goes s (exits_timeout raised id s)
  exits_timeout_goes raised id s = at (exit_timeout raised id s.loop).timed_out
    where
      at : (b : Bool) → Goes s (timed_out_if b (with_loop (exit_timeout raised id s.loop).loop s))
      at true = loop_beside s (exit_timeout_row raised id s.loop)
      at false = loop_beside s (exit_timeout_row raised id s.loop)

  exits_goes : (answer : GroupExit) (id : ℕ) (l : Loop) (s : State S) → Row s.loop l → Goes s (exits_as answer task id (with_loop l s))
  exits_goes (Waits future) id l s row = beside_then (loop_beside s row) (stood_goes (Leaving id) future (with_loop l s) (λ key e. absurd (cc)))
  exits_goes Passes id l s row = loop_beside s row
  exits_goes (RaisedBy fault) id l s row = loop_beside s row

  case_goes : (s : State S) {asked : Request} {it : RequestReply S} → is_extra_request asked ≡ false → Replies added task s asked it → Goes s it
  case_goes s other (raises fault f) = beside_same s
  case_goes s other (leaves_none timeout raised fault e) = beside_same s
  case_goes s other (exits_none group raised fault e) = beside_same s
  case_goes s other (tells value none b) = beside_same s
  case_goes s other names_itself = beside_same s
  case_goes s other (hands_on id outcome e b) = replied_goes (input_of outcome) s
  case_goes s other (pauses_on may b) = pauses_goes s
  case_goes s other (alarms x delay) =
      let made = parts_beside (MakesFuture Plain) s tt in
      let timed = parts_beside (CallsLater _ (action.SleepDone task (next_future s.loop.parts))) _ refl in
      beside_then (beside_then made timed)
      (stood_goes (Sleeping s.loop.parts.next_tag) (next_future s.loop.parts) (unbooked_in (alarmed task (pos (suc delay))) s) (λ key e. absurd (cc)))
  case_goes s other (awaits_it x id e none) = waits_beside task id s
  case_goes s other (prints values) = noted_beside _ s
  case_goes s other (makes few) = record { kept = refl; loop = one (OfParts (MakesFuture Plain)) tt; stands = λ other key h. h }
  case_goes s other (sets future value id e) = parts_beside (Settles id _) s tt
  case_goes s other (fails future fault id it e) = parts_beside (Settles id _) s tt
  case_goes s other (cancels x id) = loop_beside s (one (AsksCancel (ByScript task) id) refl)
  case_goes s other (uncancels x whom) = loop_beside s (one (TakesBack (ByScript task) whom) refl)
  case_goes s other (spawns_it coroutine arguments few) =
      beside_then (parts_beside MakesTask s tt) (coroutine_beside coroutine arguments _)
  case_goes s other (enters x delay few) = loop_beside s (enter_row task delay s.loop)
  case_goes s other (leaves timeout raised id e) = exits_timeout_goes raised id s
  case_goes s other (moves timeout x id when e) = loop_beside s (reschedule_row id when s.loop)
  case_goes s other (enters_one few) = loop_beside s (enter_group_row task s.loop)
  case_goes s other (exits group raised id e) =
      exits_goes (exit_begin raised id s.loop).answer id (exit_begin raised id s.loop).loop s (exit_begin_row raised id s.loop)
  case_goes s other (creates_it group id coroutine arguments few e) =
      beside_then (loop_beside s (create_row id s.loop)) (coroutine_beside coroutine arguments _)
  case_goes s other (serves_it code arguments number items) = absurd (false≢true (sym other))

  -- ---- trees
  change_goes : (n : ℕ) (tree : Doing Streams) (next : State S → RequestReply S) (s : State S)
      → Keeping (KeepsStreams any n s.streams) any n tree → ((t : State S) → Goes t (next t)) → Goes s (streams_change tree next s)
  change_goes n tree next s keeps each =
      does_on Halts (Goes s) s (λ how last it. it) (KeepsStreams any n s.streams) any n tree (λ streams now. next (with_streams streams now)) s
      (beside_same s) keeps
      (λ streams t here. beside_then (beside_then here (streams_beside streams t)) (each (with_streams streams t)))

  do_goes : {R : Type 0} (Awaits : (ℕ → Type 0) → R → Type 0) (n : ℕ) (tree : Doing (Streams × R)) (next : R → State S → RequestReply S) (s : State S)
      → Keeping (AnswersStreams Awaits any n s.streams) any n tree → ((answer : R) (t : State S) → Goes t (next answer t))
      → Goes s (streams_do tree next s)
  do_goes Awaits n tree next s keeps each =
      does_on Halts (Goes s) s (λ how last it. it) (AnswersStreams Awaits any n s.streams) any n tree (λ done now. next done.1 (with_streams done.0 now)) s
      (beside_same s)
      keeps (λ done t here. beside_then (beside_then here (streams_beside done.0 t)) (each done.1 (with_streams done.0 t)))

  -- ---- what follows
  listened_goes : (server : Option ℕ) (s : State S) → Goes s (listens_as server s)
  listened_goes None s = beside_same s
  listened_goes (Some id) s = beside_same s

  connected_goes : (begun : Option (ℕ × ℕ)) (s : State S) → Goes s (connects_as task begun s)
  connected_goes None s = beside_same s
  connected_goes (Some begun) s = stood_goes (Connecting begun.0) begun.1 s (λ key e. absurd (cc))

  connects_goes : (port : ℕ) (s : State S) → Goes s (connects task port s)
  connects_goes port s =
      let n = next_future s.loop.parts in
      does_on Halts (Goes s) s (λ how last it. it) (ConnectsStreams any n s.streams) any n (connect port n s.streams)
      (λ done now. connects_as task done.1 (with_streams done.0 now)) s (beside_same s) (opening.connects any n port s.streams (any_kept s.streams))
      (λ done t here. beside_then (beside_then here (streams_beside done.0 t)) (connected_goes done.1 (with_streams done.0 t)))

  wrote_goes : (it : Wrote) (s : State S) → Goes s (writes_as it s)
  wrote_goes wrote.Done s = beside_same s
  wrote_goes wrote.AfterEof s = beside_same s

  closed_goes : (id : Option ℕ) (s : State S) → Goes s (awaits_closed_as id task s)
  closed_goes None s = beside_same s
  closed_goes (Some id) s = awaits_goes id s

  drained_goes : (whom : Handed) (it : Drain) (s : State S) → Goes s (drains_as task whom it s)
  drained_goes whom drain_as.Goes s = beside_same s
  drained_goes whom drain_as.Yields s = beside_then (pauses_goes s) (stands_beside (Yielding whom) task _ (λ key e. absurd (cc)))
  drained_goes whom (drain_as.Waits id) s = waits_beside task id s
  drained_goes whom (drain_as.Raises fault) s = beside_same s

  limited_goes : (it : Limited) (s : State S) → Goes s (limits_as it s)
  limited_goes limited.Set s = beside_same s
  limited_goes limited.BadLimits s = beside_same s

  read_goes : (op : ReadOp) (from : StreamReader) (it : StreamGot) (s : State S) → Goes s (reads_as task op from it s)
  read_goes op from (got.Bytes bytes) s = beside_same s
  read_goes op from (got.Raises fault) s = beside_same s
  read_goes op from (got.Waits id) s = stood_goes (Reading from op id) id s (λ key e. absurd (cc))

  all_goes : (from : StreamReader) (taken : List ℕ) (it : StreamGot) (s : State S) → Goes s (reads_all_as task from taken it s)
  all_goes from taken (got.Bytes bytes) s = beside_same s
  all_goes from taken (got.Raises fault) s = beside_same s
  all_goes from taken (got.Waits id) s = stood_goes (ReadingAll from taken id) id s (λ key e. absurd (cc))

  launched_goes : (child : Option ℕ) (s : State S) → Goes s (launches_as child s)
  launched_goes None s = beside_same s
  launched_goes (Some id) s = beside_same s

  exited_goes : (it : ChildWait) (s : State S) → Goes s (awaits_exit_as task it s)
  exited_goes (wait_as.Code code) s = beside_same s
  exited_goes (wait_as.Waits id) s = waits_beside task id s

  drains_goes : (yielded : Bool) (whom : Handed) (s : State S) → Goes s (drains yielded task whom s)
  drains_goes yielded whom s =
      do_goes DrainWaits (next_future s.loop.parts) (drain yielded (next_future s.loop.parts) whom s.streams) (drains_as task whom) s
      (asking.drains any (next_future s.loop.parts) yielded whom s.streams (any_kept s.streams)) (drained_goes whom)

  reads_goes : (op : ReadOp) (from : StreamReader) (s : State S) → Goes s (reads task op from s)
  reads_goes op from s =
      do_goes ReadWaits (next_future s.loop.parts) (read (next_future s.loop.parts) op from s.streams) (reads_as task op from) s
      (asking.reads any (next_future s.loop.parts) op from s.streams (any_kept s.streams)) (read_goes op from)

  reads_all_goes : (from : StreamReader) (taken : List ℕ) (s : State S) → Goes s (reads_all task from taken s)
  reads_all_goes from taken s =
      do_goes AllWaits (next_future s.loop.parts) (read_all (next_future s.loop.parts) from s.streams)
      (λ said. reads_all_as task from (taken ++ said.taken) said.got) s
      (asking.reads_all any (next_future s.loop.parts) from s.streams (any_kept s.streams))
      (λ said t. all_goes from (taken ++ said.taken) said.got t)

  counts_goes : (number : ℤ) (from : StreamReader) (s : State S) → Goes s (reads_count task number from s)
  counts_goes (pos count) from s = reads_goes (UpTo count) from s
  counts_goes (negsuc before) from s = reads_all_goes from [] s

module _ {S : Type 0} (added : Extra S) (task : ℕ) where
  -- ---- the requests on listeners, connections and children
  streams_goes : (asked : Request) (s : State S) → is_to_streams asked ≡ true → Goes added task s (reply added task asked s)
  unfolding reply
  streams_goes (request.Listen port handler) s is =
      given_goes added task (as_int port) _ s (λ number. numbered_goes added task (may_listen s.streams) _ s
      (port_goes added task number (listens handler) s (λ at.
      do_goes added task {R = Option ℕ} WaitsNever (next_future s.loop.parts) (listen at handler s.streams) listens_as s
      (opening.listens any (next_future s.loop.parts) at handler s.streams (any_kept s.streams)) (listened_goes added task))))
  streams_goes (request.Connect port) s is =
      given_goes added task (as_int port) _ s (λ number. numbered_goes added task (may_connect s.streams) _ s
      (port_goes added task number (connects task) s (λ at. connects_goes added task at s)))
  streams_goes (request.Launch words) s is =
      given_goes added task (as_words words) _ s (λ program. numbered_goes added task (may_launch s.streams) (launches program) s
      (do_goes added task {R = Option ℕ} WaitsNever (next_future s.loop.parts) (launch program (next_future s.loop.parts) s.streams) launches_as s
      (opening.launches any (next_future s.loop.parts) program s.streams (any_kept s.streams)) (launched_goes added task)))
  streams_goes (request.Write stream bytes) s is =
      given_goes added task (as_writer s stream) _ s (λ whom. given_goes added task (as_bytes bytes) _ s (λ piece.
      do_goes added task {R = Wrote} WaitsNever (next_future s.loop.parts) (write whom piece s.streams) writes_as s
      (asking.writes any (next_future s.loop.parts) whom piece s.streams (any_kept s.streams)) (wrote_goes added task)))
  streams_goes (request.WriteEof stream) s is =
      given_goes added task (as_conn s stream) _ s (λ conn.
      change_goes added task (next_future s.loop.parts) (write_eof conn s.streams) (Answers Nothing) s
      (asking.ends any (next_future s.loop.parts) conn s.streams (any_kept s.streams)) beside_same)
  streams_goes (request.Close x) s is = given_goes added task (as_closable s x) closes s shut
    where
      shut : (it : Closable) → Goes added task s (closes it s)
      shut (AServer id) =
          change_goes added task (next_future s.loop.parts) (close_server id s.streams) (Answers Nothing) s
          (opening.closes_server any (next_future s.loop.parts) id s.streams (any_kept s.streams)) beside_same
      shut (AWriter whom) =
          change_goes added task (next_future s.loop.parts) (close whom s.streams) (Answers Nothing) s
          (asking.closes any (next_future s.loop.parts) whom s.streams (any_kept s.streams)) beside_same
  streams_goes (request.WaitClosed stream) s is =
      given_goes added task (as_writer s stream) _ s (λ whom. closed_goes added task (closed_future whom s.streams) s)
  streams_goes (request.Drain stream) s is = given_goes added task (as_writer s stream) (drains false task) s (λ whom. drains_goes added task false whom s)
  streams_goes (request.Limits stream high low) s is =
      given_goes added task (as_writer s stream) _ s
      (λ whom. given_goes added task (as_delay high) _ s (λ most. given_goes added task (as_delay low) _ s (λ least.
      do_goes added task {R = Limited} WaitsNever (next_future s.loop.parts) (limits most least whom s.streams) limits_as s
      (asking.limits_keep any (next_future s.loop.parts) most least whom s.streams (any_kept s.streams)) (limited_goes added task))))
  streams_goes (request.Read stream count) s is =
      given_goes added task (as_reader s stream) _ s
      (λ from. given_goes added task (as_int count) _ s (λ number. counts_goes added task number from s))
  streams_goes (request.ReadExactly stream count) s is =
      given_goes added task (as_reader s stream) _ s
      (λ from. given_goes added task (as_int count) _ s (λ number. reads_goes added task (Exactly number) from s))
  streams_goes (request.ReadUntil stream separator) s is =
      given_goes added task (as_reader s stream) _ s
      (λ from. given_goes added task (as_bytes separator) _ s (λ bytes. reads_goes added task (Until bytes) from s))
  streams_goes (request.ReadLine stream) s is = given_goes added task (as_reader s stream) _ s (λ from. reads_goes added task Line from s)
  streams_goes (request.StandardError child) s is = given_goes added task (as_child s child) _ s (λ id. beside_same s)
  streams_goes (request.WaitChild child) s is =
      given_goes added task (as_child s child) _ s (λ id.
      do_goes added task ExitWaits (next_future s.loop.parts) (wait (next_future s.loop.parts) id s.streams) (awaits_exit_as task) s
      (asking.waits any (next_future s.loop.parts) id s.streams (any_kept s.streams)) (exited_goes added task))
  streams_goes (request.ReturnCode child) s is = given_goes added task (as_child s child) _ s (λ id. beside_same s)
  streams_goes (request.Kill child) s is =
      given_goes added task (as_child s child) _ s (λ id.
      change_goes added task (next_future s.loop.parts) (kill id s.streams) (Answers Nothing) s
      (asking.kills any (next_future s.loop.parts) id s.streams (any_kept s.streams)) beside_same)
  streams_goes _ s is = absurd (false≢true is)

  pub reply_goes : (asked : Request) (s : State S) → is_extra_request asked ≡ false → Beside s (left_by (reply added task asked s))
  reply_goes asked s other = at (is_to_streams asked) refl
    where
      at : (b : Bool) → is_to_streams asked ≡ b → Goes added task s (reply added task asked s)
      at true is = streams_goes asked s is
      at false is = case_goes added task s other (reply_is added task s asked is)

  -- ---- what a task stands at
  hears_goes : (input : Input) (next : State S → RequestReply S) (s : State S) → Goes added task s (next s) → Goes added task s (hears input next s)
  hears_goes (Send value) next s it = it
  hears_goes (Throw fault) next s it = beside_same s

  pub decides_goes : (resume_point : ResumePoint) (input : Input) (s : State S) → serves_none resume_point ≡ true
      → Beside s (left_by (decides added resume_point task input s))
  decides_goes Asked input s other = replied_goes added task input s
  decides_goes (Sleeping tag) input s other = replied_goes added task input s
  decides_goes (Leaving group) input s other =
      exits_goes added task (exit_woken input group s.loop).answer group (exit_woken input group s.loop).loop s (exit_woken_row input group s.loop)
  decides_goes (Serving key) input s other = absurd (false≢true other)
  decides_goes (Connecting conn) (Send value) s other = beside_same s
  decides_goes (Connecting conn) (Throw fault) s other =
      change_goes added task (next_future s.loop.parts) (drop_connect conn s.streams) (Raises fault) s
      (asking.drops any (next_future s.loop.parts) conn s.streams (any_kept s.streams)) beside_same
  decides_goes (Yielding whom) input s other = hears_goes input (drains true task whom) s (drains_goes added task true whom s)
  decides_goes (Reading from op id) input s other =
      beside_then (streams_beside (give_up_read id from s.streams) s)
      (hears_goes input (reads task op from) (waits_no_more id from s) (reads_goes added task op from (waits_no_more id from s)))
  decides_goes (ReadingAll from taken id) input s other =
      beside_then (streams_beside (give_up_read id from s.streams) s)
      (hears_goes input (reads_all task from taken) (waits_no_more id from s) (reads_all_goes added task from taken (waits_no_more id from s)))
