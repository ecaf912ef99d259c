-- What each request and each wait comes to, whatever is open.
use Rattle.std.proofs.Common.{◌≡◌, inl, inr, ◌⊎◌, ℕ, ◌&&◌, ℤ, pos, negsuc, refl, sym, subst}
use Rattle.std.proofs.Common.{Bool, true, false, List, [], ◌++◌, Option, Some, None}
use Rattle.std.proofs.Common.{nat_lt}
use Rattle.std.proofs.lemmas.Bool.{false≢true}
use Rattle.model_value.specs.declared.action.Action.TheVariants as action
use Rattle.model_value.specs.declared.input.Input.TheVariants.{Send, Throw}
use Rattle.model_value.specs.declared.request.Request.TheVariants as request
use Rattle.model_value.specs.Input.{Input}
use Rattle.model_value.specs.Request.{Request}
use Rattle.model_value.specs.Value.{Value, Nothing, Bytes, Outcome, Exc}
use Rattle.model_wire.specs.declared.event.Handed.{Handed}
use Rattle.model_loop.specs.Futures.{next_future}
use Rattle.model_loop.specs.Groups.{exit_woken}
use Rattle.model_stream.specs.declared.answers.ChildWait.{ChildWait}
use Rattle.model_stream.specs.declared.answers.ChildWait.TheVariants as wait_as
use Rattle.model_stream.specs.declared.answers.Drain.TheVariants as drain_as
use Rattle.model_stream.specs.declared.answers.StreamGot.TheVariants as got
use Rattle.model_stream.specs.declared.answers.Wrote.{Wrote}
use Rattle.model_stream.specs.declared.answers.Wrote.TheVariants as wrote
use Rattle.model_stream.specs.declared.put.Limited.{Limited}
use Rattle.model_stream.specs.declared.put.Limited.TheVariants as limited
use Rattle.model_stream.specs.declared.read_op.ReadOp.TheVariants.{UpTo, Exactly, Until, Line}
use Rattle.model_stream.specs.Doing.{Doing}
use Rattle.model_stream.specs.Reading.{ReadOp}
use Rattle.model_stream.specs.Receivers.{StreamGot}
use Rattle.model_stream.specs.Requests.{StreamReader, write, drain, limits, write_eof, close, closed_future}
use Rattle.model_stream.specs.Requests.{drop_connect, read, read_all, give_up_read, wait, kill}
use Rattle.model_stream.specs.Senders.{Drain}
use Rattle.model_stream.specs.Streams.{Streams, may_listen, may_connect, may_launch, listen, connect, launch, close_server}
use Rattle.model_machine.specs.Arguments.{AServer, AWriter, Closable, as_bytes, as_child, as_closable}
use Rattle.model_machine.specs.Arguments.{as_conn, as_delay, as_int, as_reader, as_words, as_writer}
use Rattle.model_machine.specs.Extra.{Extra}
use Rattle.model_machine.specs.Outcomes.{input_of}
use Rattle.model_machine.specs.Replies.{RequestReply, Answers, Raises, Suspends, awaits, awaits_as}
use Rattle.model_machine.specs.Replies.{awaits_closed_as, awaits_exit_as, closes, connects, connects_as}
use Rattle.model_machine.specs.Replies.{decides, drains, drains_as, ended, given, hears, launches}
use Rattle.model_machine.specs.Replies.{launches_as, limits_as, listens, listens_as, numbered_if, reads}
use Rattle.model_machine.specs.Replies.{reads_all, reads_all_as, reads_as, reads_count, reply, streams_change, streams_do, to_port, to_port_if, waits}
use Rattle.model_machine.specs.Replies.{waits_no_more, writes_as}
use Rattle.model_machine.specs.Sound.{IsClosed}
use Rattle.model_machine.specs.State.{ResumePoint, Asked, Sleeping, Leaving, Serving, Connecting, Yielding, Reading, ReadingAll, State, stands}
use Rattle.model_machine.specs.State.{with_streams}
use Rattle.law_changes.specs.Changes.{CallsSoon, OfParts}
use Rattle.law_changes.specs.Reaches.{stays, goes}
use Rattle.law_changes.proofs.LoopRows.{exit_woken_row}
use Rattle.law_changes.proofs.Folds.{one}
use Rattle.model_stream.specs.Kept.{StreamsKeep}
use Rattle.law_cases.specs.Trees.{AllWaits, AnswersStreams, ConnectsStreams, DrainWaits, ExitWaits, IsOwn, Keeping, KeepsStreams, Owned, ReadWaits, WaitsNever}
use Rattle.law_cases.proofs.Composing.{streams_all}
use Rattle.law_cases.proofs.Asking as asking
use Rattle.law_cases.proofs.Opening as opening
use Rattle.law_reach.specs.Changes.{ChangesStreams, IsOpen, OfLoop, SetsResumePoint}
use Rattle.law_cases.specs.Closed.{is_to_streams}
use Rattle.law_reach.specs.Reaches.{ComesTo}
use Rattle.law_reach.proofs.Answering.{case_comes, exits_comes, replied_comes, waits_row, woken_comes}
use Rattle.law_cases.proofs.Cases.{reply_is}
use Rattle.law_cases.proofs.Closed.{drains_none, drops_none, gives_up_none, reads_all_none, reads_none, refused}
use Rattle.law_reach.proofs.Rows.{closed_or_open}
use Rattle.law_reach.proofs.Trees.{comes_after, tree_comes}

-- any future may be kept, and so many connections be there: what is kept matters to no row
abbrev pub any_of : (connections : ℕ) → Owned
any_of connections = record { has = λ future. true; connections = connections }

abbrev pub any : Owned
any = any_of 0

pub any_kept : (s : Streams) → StreamsKeep (IsOwn any) s
any_kept s = streams_all (IsOwn any) (λ future. refl) s

module _ {S : Type 0} (added : Extra S) (task : ℕ) where
  abbrev Comes : State S → RequestReply S → Type 0
  Comes s it = ComesTo added (Some task) s it

  -- ---- what is no tree
  answers_comes : (value : Value) (s : State S) → Comes s (Answers value s)
  answers_comes value s = record { reaches = stays; ends = tt; asks = refl }

  raises_comes : (fault : Exc) (s : State S) → Comes s (Raises fault s)
  raises_comes fault s = record { reaches = stays; ends = tt; asks = refl }

  waits_comes : (on : ℕ) (s : State S) → Comes s (Suspends (waits task on s))
  waits_comes on s = record { reaches = waits_row added task on s; ends = tt; asks = refl }

  stood_comes : (resume_point : ResumePoint) (on : ℕ) (s : State S) → Comes s (Suspends (stands resume_point task (waits task on s)))
  stood_comes resume_point on s = record { reaches = goes (waits_row added task on s) (SetsResumePoint resume_point task) refl; ends = tt; asks = refl }

  given_comes : {A : Type 0} (o : Option A) (next : A → State S → RequestReply S) (s : State S) → ((a : A) → Comes s (next a s))
      → Comes s (given o next s)
  given_comes None next s each = raises_comes _ s
  given_comes (Some a) next s each = each a

  numbered_comes : (b : Bool) (next : State S → RequestReply S) (s : State S) → Comes s (next s) → Comes s (numbered_if b next s)
  numbered_comes true next s it = it
  numbered_comes false next s it = raises_comes _ s

  port_comes : (number : ℤ) (next : ℕ → State S → RequestReply S) (s : State S) → ((port : ℕ) → Comes s (next port s))
      → Comes s (to_port number next s)
  port_comes (negsuc before) next s each = raises_comes _ s
  port_comes (pos port) next s each = at (nat_lt 0 port && nat_lt port 65536)
    where
      at : (b : Bool) → Comes s (to_port_if b port next s)
      at true = each port
      at false = raises_comes _ s

  -- ---- what is one
  with_comes : (streams : Streams) (t : State S) (it : RequestReply S) → IsOpen t → Comes (with_streams streams t) it → Comes t it
  with_comes streams t it opened comes = comes_after added (Some task) (one (ChangesStreams streams) opened) refl comes

  change_comes : (n : ℕ) (tree : Doing Streams) (next : State S → RequestReply S) (s : State S)
      → Keeping (KeepsStreams any n s.streams) any n tree → IsOpen s
      → ((t : State S) → Comes t (next t)) → Comes s (streams_change tree next s)
  change_comes n tree next s keeps opened each =
      tree_comes added (Some task) (KeepsStreams any n s.streams) any n tree (λ streams now. next (with_streams streams now)) s keeps opened
      (λ streams t o. with_comes streams t (next (with_streams streams t)) o (each (with_streams streams t)))

  do_comes : {R : Type 0} (Waits : (ℕ → Type 0) → R → Type 0) (n : ℕ) (tree : Doing (Streams × R))
      (next : R → State S → RequestReply S) (s : State S)
      → Keeping (AnswersStreams Waits any n s.streams) any n tree → IsOpen s
      → ((answer : R) (t : State S) → Comes t (next answer t)) → Comes s (streams_do tree next s)
  do_comes Waits n tree next s keeps opened each =
      tree_comes added (Some task) (AnswersStreams Waits any n s.streams) any n tree (λ done now. next done.1 (with_streams done.0 now)) s keeps opened
      (λ done t o. with_comes done.0 t (next done.1 (with_streams done.0 t)) o (each done.1 (with_streams done.0 t)))

  -- ---- what follows
  listened_comes : (server : Option ℕ) (s : State S) → Comes s (listens_as server s)
  listened_comes None s = raises_comes _ s
  listened_comes (Some id) s = answers_comes _ s

  connected_comes : (begun : Option (ℕ × ℕ)) (s : State S) → Comes s (connects_as task begun s)
  connected_comes None s = raises_comes _ s
  connected_comes (Some begun) s = stood_comes (Connecting begun.0) begun.1 s

  connects_comes : (port : ℕ) (s : State S) → IsOpen s → Comes s (connects task port s)
  connects_comes port s opened =
      let n = next_future s.loop.parts in
      tree_comes added (Some task) (ConnectsStreams any n s.streams) any n (connect port n s.streams)
      (λ done now. connects_as task done.1 (with_streams done.0 now)) s (opening.connects any n port s.streams (any_kept s.streams)) opened
      (λ done t o. with_comes done.0 t (connects_as task done.1 (with_streams done.0 t)) o (connected_comes done.1 (with_streams done.0 t)))

  wrote_comes : (it : Wrote) (s : State S) → Comes s (writes_as it s)
  wrote_comes wrote.Done s = answers_comes _ s
  wrote_comes wrote.AfterEof s = raises_comes _ s

  awaits_comes : (on : ℕ) (s : State S) → Comes s (awaits task on s)
  awaits_comes on s = at (ended s on)
    where
      at : (o : Option Outcome) → Comes s (awaits_as o task on s)
      at (Some outcome) = replied_comes added task (input_of outcome) s
      at None = waits_comes on s

  closed_comes : (on : Option ℕ) (s : State S) → Comes s (awaits_closed_as on task s)
  closed_comes None s = answers_comes _ s
  closed_comes (Some on) s = awaits_comes on s

  drained_comes : (whom : Handed) (it : Drain) (s : State S) → Comes s (drains_as task whom it s)
  drained_comes whom drain_as.Goes s = answers_comes _ s
  drained_comes whom drain_as.Yields s = record {
    reaches = goes (one (OfLoop (OfParts (CallsSoon (action.Step task)))) refl) (SetsResumePoint (Yielding whom) task) refl;
    ends = tt;
    asks = refl;
  }
  drained_comes whom (drain_as.Waits on) s = waits_comes on s
  drained_comes whom (drain_as.Raises fault) s = raises_comes fault s

  limited_comes : (it : Limited) (s : State S) → Comes s (limits_as it s)
  limited_comes limited.Set s = answers_comes _ s
  limited_comes limited.BadLimits s = raises_comes _ s

  read_comes : (op : ReadOp) (from : StreamReader) (it : StreamGot) (s : State S) → Comes s (reads_as task op from it s)
  read_comes op from (got.Bytes bytes) s = answers_comes _ s
  read_comes op from (got.Raises fault) s = raises_comes fault s
  read_comes op from (got.Waits on) s = stood_comes (Reading from op on) on s

  all_comes : (from : StreamReader) (taken : List ℕ) (it : StreamGot) (s : State S) → Comes s (reads_all_as task from taken it s)
  all_comes from taken (got.Bytes bytes) s = answers_comes _ s
  all_comes from taken (got.Raises fault) s = raises_comes fault s
  all_comes from taken (got.Waits on) s = stood_comes (ReadingAll from taken on) on s

  launched_comes : (child : Option ℕ) (s : State S) → Comes s (launches_as child s)
  launched_comes None s = raises_comes _ s
  launched_comes (Some id) s = answers_comes _ s

  exited_comes : (it : ChildWait) (s : State S) → Comes s (awaits_exit_as task it s)
  exited_comes (wait_as.Code code) s = answers_comes _ s
  exited_comes (wait_as.Waits on) s = waits_comes on s

  -- ---- trees that tasks stand at too: where nothing is open they do nothing
  drains_comes : (yielded : Bool) (whom : Handed) (s : State S) → Comes s (drains yielded task whom s)
  drains_comes yielded whom s = at (closed_or_open s)
    where
      at : IsClosed s ⊎ IsOpen s → Comes s (drains yielded task whom s)
      at (inl closed) = subst (Comes s) (sym (drains_none s closed yielded task whom)) (answers_comes Nothing s)
      at (inr opened) =
          do_comes DrainWaits (next_future s.loop.parts) (drain yielded (next_future s.loop.parts) whom s.streams) (drains_as task whom) s
          (asking.drains any (next_future s.loop.parts) yielded whom s.streams (any_kept s.streams)) opened (drained_comes whom)

  reads_comes : (op : ReadOp) (from : StreamReader) (s : State S) → Comes s (reads task op from s)
  reads_comes op from s = at (closed_or_open s)
    where
      at : IsClosed s ⊎ IsOpen s → Comes s (reads task op from s)
      at (inl closed) = subst (Comes s) (sym (reads_none s closed task op from)) (answers_comes (Bytes []) s)
      at (inr opened) =
          do_comes ReadWaits (next_future s.loop.parts) (read (next_future s.loop.parts) op from s.streams) (reads_as task op from) s
          (asking.reads any (next_future s.loop.parts) op from s.streams (any_kept s.streams)) opened (read_comes op from)

  reads_all_comes : (from : StreamReader) (taken : List ℕ) (s : State S) → Comes s (reads_all task from taken s)
  reads_all_comes from taken s = at (closed_or_open s)
    where
      at : IsClosed s ⊎ IsOpen s → Comes s (reads_all task from taken s)
      at (inl closed) = subst (Comes s) (sym (reads_all_none s closed task from taken)) (answers_comes (Bytes (taken ++ [])) s)
      at (inr opened) =
          do_comes AllWaits (next_future s.loop.parts) (read_all (next_future s.loop.parts) from s.streams)
          (λ said. reads_all_as task from (taken ++ said.taken) said.got) s
          (asking.reads_all any (next_future s.loop.parts) from s.streams (any_kept s.streams)) opened
          (λ said t. all_comes from (taken ++ said.taken) said.got t)

  counts_comes : (number : ℤ) (from : StreamReader) (s : State S) → Comes s (reads_count task number from s)
  counts_comes (pos count) from s = reads_comes (UpTo count) from s
  counts_comes (negsuc before) from s = reads_all_comes from [] s

module _ {S : Type 0} (added : Extra S) (task : ℕ) where
  -- ---- the requests, where something is open
  streams_comes : (asked : Request) (s : State S) → IsOpen s → is_to_streams asked ≡ true → ComesTo added (Some task) s (reply added task asked s)
  unfolding reply
  streams_comes (request.Listen port handler) s o is =
      given_comes added task (as_int port) _ s (λ number. numbered_comes added task (may_listen s.streams) _ s
      (port_comes added task number (listens handler) s (λ at.
      do_comes added task {R = Option ℕ} WaitsNever (next_future s.loop.parts) (listen at handler s.streams) listens_as s
      (opening.listens any (next_future s.loop.parts) at handler s.streams (any_kept s.streams)) o (listened_comes added task))))
  streams_comes (request.Connect port) s o is =
      given_comes added task (as_int port) _ s (λ number. numbered_comes added task (may_connect s.streams) _ s
      (port_comes added task number (connects task) s (λ at.
      connects_comes added task at s o)))
  streams_comes (request.Launch words) s o is =
      given_comes added task (as_words words) _ s (λ program. numbered_comes added task (may_launch s.streams) (launches program) s
      (do_comes added task {R = Option ℕ} WaitsNever (next_future s.loop.parts) (launch program (next_future s.loop.parts) s.streams) launches_as s
      (opening.launches any (next_future s.loop.parts) program s.streams (any_kept s.streams)) o (launched_comes added task)))
  streams_comes (request.Write stream bytes) s o is =
      given_comes added task (as_writer s stream) _ s (λ whom. given_comes added task (as_bytes bytes) _ s (λ piece.
      do_comes added task {R = Wrote} WaitsNever (next_future s.loop.parts) (write whom piece s.streams) writes_as s
      (asking.writes any (next_future s.loop.parts) whom piece s.streams (any_kept s.streams)) o (wrote_comes added task)))
  streams_comes (request.WriteEof stream) s o is =
      given_comes added task (as_conn s stream) _ s (λ conn.
      change_comes added task (next_future s.loop.parts) (write_eof conn s.streams) (Answers Nothing) s
      (asking.ends any (next_future s.loop.parts) conn s.streams (any_kept s.streams)) o (answers_comes added task Nothing))
  streams_comes (request.Close x) s o is = given_comes added task (as_closable s x) closes s shut
    where
      shut : (it : Closable) → ComesTo added (Some task) s (closes it s)
      shut (AServer id) =
          change_comes added task (next_future s.loop.parts) (close_server id s.streams) (Answers Nothing) s
          (opening.closes_server any (next_future s.loop.parts) id s.streams (any_kept s.streams)) o (answers_comes added task Nothing)
      shut (AWriter whom) =
          change_comes added task (next_future s.loop.parts) (close whom s.streams) (Answers Nothing) s
          (asking.closes any (next_future s.loop.parts) whom s.streams (any_kept s.streams)) o (answers_comes added task Nothing)
  streams_comes (request.WaitClosed stream) s o is =
      given_comes added task (as_writer s stream) _ s (λ whom. closed_comes added task (closed_future whom s.streams) s)
  streams_comes (request.Drain stream) s o is = given_comes added task (as_writer s stream) (drains false task) s (λ whom. drains_comes added task false whom s)
  streams_comes (request.Limits stream high low) s o is =
      given_comes added task (as_writer s stream) _ s
      (λ whom. given_comes added task (as_delay high) _ s (λ most. given_comes added task (as_delay low) _ s (λ least.
      do_comes added task {R = Limited} WaitsNever (next_future s.loop.parts) (limits most least whom s.streams) limits_as s
      (asking.limits_keep any (next_future s.loop.parts) most least whom s.streams (any_kept s.streams)) o (limited_comes added task))))
  streams_comes (request.Read stream count) s o is =
      given_comes added task (as_reader s stream) _ s
      (λ from. given_comes added task (as_int count) _ s (λ number. counts_comes added task number from s))
  streams_comes (request.ReadExactly stream count) s o is =
      given_comes added task (as_reader s stream) _ s
      (λ from. given_comes added task (as_int count) _ s (λ number. reads_comes added task (Exactly number) from s))
  streams_comes (request.ReadUntil stream separator) s o is =
      given_comes added task (as_reader s stream) _ s
      (λ from. given_comes added task (as_bytes separator) _ s (λ bytes. reads_comes added task (Until bytes) from s))
  streams_comes (request.ReadLine stream) s o is = given_comes added task (as_reader s stream) _ s (λ from. reads_comes added task Line from s)
  streams_comes (request.StandardError child) s o is = given_comes added task (as_child s child) _ s (λ id. answers_comes added task _ s)
  streams_comes (request.WaitChild child) s o is =
      given_comes added task (as_child s child) _ s (λ id.
      do_comes added task ExitWaits (next_future s.loop.parts) (wait (next_future s.loop.parts) id s.streams) (awaits_exit_as task) s
      (asking.waits any (next_future s.loop.parts) id s.streams (any_kept s.streams)) o (exited_comes added task))
  streams_comes (request.ReturnCode child) s o is = given_comes added task (as_child s child) _ s (λ id. answers_comes added task _ s)
  streams_comes (request.Kill child) s o is =
      given_comes added task (as_child s child) _ s (λ id.
      change_comes added task (next_future s.loop.parts) (kill id s.streams) (Answers Nothing) s
      (asking.kills any (next_future s.loop.parts) id s.streams (any_kept s.streams)) o (answers_comes added task Nothing))
  streams_comes _ s o is = absurd (false≢true is)

  -- ---- each request
  pub reply_comes : (asked : Request) (s : State S) → ComesTo added (Some task) s (reply added task asked s)
  reply_comes asked s = at (is_to_streams asked) refl
    where
      by : IsClosed s ⊎ IsOpen s → is_to_streams asked ≡ true → ComesTo added (Some task) s (reply added task asked s)
      by (inl closed) is = let none = refused s closed added task asked is in
          subst (ComesTo added (Some task) s) (sym none.1) (raises_comes added task none.0 s)
      by (inr opened) is = streams_comes asked s opened is

      at : (b : Bool) → is_to_streams asked ≡ b → ComesTo added (Some task) s (reply added task asked s)
      at true is = by (closed_or_open s) is
      at false is = case_comes added task s (reply_is added task s asked is)

  -- ---- what a task stands at
  drops_comes : (conn : ℕ) (fault : Exc) (s : State S) → ComesTo added (Some task) s (streams_change (drop_connect conn s.streams) (Raises fault) s)
  drops_comes conn fault s = at (closed_or_open s)
    where
      at : IsClosed s ⊎ IsOpen s → ComesTo added (Some task) s (streams_change (drop_connect conn s.streams) (Raises fault) s)
      at (inl closed) = subst (ComesTo added (Some task) s) (sym (drops_none s closed conn fault)) (raises_comes added task fault s)
      at (inr opened) =
          change_comes added task (next_future s.loop.parts) (drop_connect conn s.streams) (Raises fault) s
          (asking.drops any (next_future s.loop.parts) conn s.streams (any_kept s.streams)) opened (raises_comes added task fault)

  hears_comes : (input : Input) (next : State S → RequestReply S) (s : State S) → ComesTo added (Some task) s (next s)
      → ComesTo added (Some task) s (hears input next s)
  hears_comes (Send value) next s it = it
  hears_comes (Throw fault) next s it = raises_comes added task fault s

  -- a read that was resumed waits no more
  woken_read : (on : ℕ) (from : StreamReader) (s : State S) (next : State S → RequestReply S)
      → ((t : State S) → ComesTo added (Some task) t (next t)) → ComesTo added (Some task) s (next (waits_no_more on from s))
  woken_read on from s next each = at (closed_or_open s)
    where
      at : IsClosed s ⊎ IsOpen s → ComesTo added (Some task) s (next (waits_no_more on from s))
      at (inl closed) = subst (λ t. ComesTo added (Some task) s (next t)) (sym (gives_up_none s closed on from)) (each s)
      at (inr opened) = with_comes added task (give_up_read on from s.streams) s _ opened (each (waits_no_more on from s))

  pub decides_comes : (resume_point : ResumePoint) (input : Input) (s : State S) → ComesTo added (Some task) s (decides added resume_point task input s)
  decides_comes Asked input s = replied_comes added task input s
  decides_comes (Sleeping tag) input s = replied_comes added task input s
  decides_comes (Leaving group) input s =
      exits_comes added task (exit_woken input group s.loop).answer group (exit_woken input group s.loop).loop s (exit_woken_row (Some task) input group s.loop)
  decides_comes (Serving key) input s = woken_comes added task key input s
  decides_comes (Connecting conn) (Send value) s = answers_comes added task value s
  decides_comes (Connecting conn) (Throw fault) s = drops_comes conn fault s
  decides_comes (Yielding whom) input s = hears_comes input (drains true task whom) s (drains_comes added task true whom s)
  decides_comes (Reading from op on) input s =
      woken_read on from s (λ t. hears input (reads task op from) t) (λ t. hears_comes input (reads task op from) t (reads_comes added task op from t))
  decides_comes (ReadingAll from taken on) input s =
      woken_read on from s (λ t. hears input (reads_all task from taken) t)
      (λ t. hears_comes input (reads_all task from taken) t (reads_all_comes added task from taken t))
