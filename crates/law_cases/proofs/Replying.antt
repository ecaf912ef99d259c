-- What each request on listeners, connections and children comes to is one of the cases, whatever is open; and what the request
-- at which a task stands makes of its input.
use Rattle.std.proofs.Common.{◌≡◌, inl, inr, ◌⊎◌, ℕ, ◌<◌, ◌&&◌, ℤ, pos, negsuc, refl, subst, cond, length, arith}
use Rattle.std.proofs.Common.{ap, Bool, true, false, List, [], ◌++◌, Option, Some, None}
use Rattle.std.proofs.Common.{is_none, nat_lt, slice_get}
use Rattle.std.proofs.lemmas.Bool.{false≢true, lt-ltb, ltb-true}
use Rattle.std.specs.Option.{option_map, option_map_or}
use Rattle.model_value.specs.declared.input.Input.TheVariants.{Send, Throw}
use Rattle.model_value.specs.declared.request.Request.TheVariants as request
use Rattle.model_value.specs.Input.{Input}
use Rattle.model_value.specs.Request.{Request}
use Rattle.model_value.specs.Value.{Value, Nothing, Bytes, Int, Server, Child, Conn, Errs, Outcome, Exc}
use Rattle.model_wire.specs.declared.event.Handed.{Handed}
use Rattle.model_wire.specs.declared.event.Handed.TheVariants as to
use Rattle.model_loop.specs.Futures.{future_outcome, is_pending, is_pending_at, next_future, outcome_at}
use Rattle.model_loop.specs.Owning.{is_plain}
use Rattle.model_loop.specs.Parts.{Future}
use Rattle.model_loop.proofs.FutureCases.{is_plain_at}
use Rattle.model_stream.specs.declared.answers.ChildWait.{ChildWait}
use Rattle.model_stream.specs.declared.answers.ChildWait.TheVariants as wait_as
use Rattle.model_stream.specs.declared.answers.Drain.TheVariants as drain_as
use Rattle.model_stream.specs.declared.answers.StreamGot.TheVariants as got
use Rattle.model_stream.specs.declared.answers.Wrote.{Wrote}
use Rattle.model_stream.specs.declared.answers.Wrote.TheVariants as wrote
use Rattle.model_stream.specs.declared.put.Limited.{Limited}
use Rattle.model_stream.specs.declared.put.Limited.TheVariants as limited
use Rattle.model_stream.specs.declared.read_op.ReadOp.TheVariants.{UpTo, Exactly, Until, Line}
use Rattle.model_stream.specs.Connections as connection
use Rattle.model_stream.specs.Children as child
use Rattle.model_stream.specs.Doing.{Doing}
use Rattle.model_stream.specs.Reading.{ReadOp}
use Rattle.model_stream.specs.Receivers.{StreamGot}
use Rattle.model_pump.specs.declared.stream.Stream.TheVariants as stream
use Rattle.model_stream.specs.Requests.{StreamReader, OfConn, OfChild, write, drain, limits, write_eof, close, closed_future}
use Rattle.model_stream.specs.Requests.{drop_connect, read, read_all, wait, kill}
use Rattle.model_stream.specs.Requests.{returncode}
use Rattle.model_stream.specs.Senders.{Drain}
use Rattle.model_stream.specs.Streams.{Streams, may_listen, may_connect, may_launch, listen, connect, launch, close_server}
use Rattle.model_machine.specs.Arguments.{AServer, AWriter, Closable, as_bytes, as_child, as_closable}
use Rattle.model_machine.specs.Arguments.{as_conn, as_delay, as_int, as_reader, as_words, as_writer}
use Rattle.model_machine.specs.Extra.{Extra}
use Rattle.model_machine.specs.Replies.{RequestReply, Answers, Raises, Halts, awaits_as, awaits_closed_as, awaits_exit_as, closes, code_of, connects}
use Rattle.model_machine.specs.Replies.{connects_as, decides, drains, drains_as, ended, given, launches}
use Rattle.model_machine.specs.Replies.{launches_as, limits_as, listens, listens_as, numbered_if}
use Rattle.model_machine.specs.Replies.{reads, reads_all, reads_all_as, reads_as, reads_count, reply}
use Rattle.model_machine.specs.Replies.{streams_change, streams_do, to_port, to_port_if, waits_no_more}
use Rattle.model_machine.specs.Replies.{writes_as}
use Rattle.model_machine.specs.Sound.{AreStreamsFutures, IsOpenedAt, IsOpenedReader, IsOpenedWriter, stands_at}
use Rattle.model_machine.specs.State.{ResumePoint, Asked, Sleeping, Leaving, Serving, Connecting, Yielding, Reading, ReadingAll, State, with_streams}
use Rattle.law_cases.specs.Trees.{AllWaits, AnswersStreams, ConnectWaits, ConnectsStreams, DrainWaits, ExitWaits, IsKnown}
use Rattle.law_cases.specs.Trees.{IsMade, IsOneOf, Keeping, KeepsStreams, OpensStreams, Owned, ReadWaits, WaitsNever}
use Rattle.law_cases.proofs.Composing.{streams_more}
use Rattle.law_cases.proofs.Asking as asking
use Rattle.law_cases.proofs.Opening as opening
use Rattle.law_cases.specs.Closed.{is_to_streams, stands_at_streams}
use Rattle.law_cases.specs.StreamReplies.{StreamReplies, refuses, tells, hands_on, awaits, halts, answers, raises, waits_on, stands_on, yields}
use Rattle.law_cases.specs.TreeEnd.{IsStreamsEnd, IsTreeEnd, owned_in}
use Rattle.law_cases.proofs.Ending.{tree_ends}

some_is : (x y : ℕ) → Some x ≡ Some y → x ≡ y
some_is x y e = ap (λ o. option_map_or (λ (z : ℕ). z) o x) e

-- what is known where a tree ends: what was plain, and what was made
pub end_keeps : {S : Type 0} (s t : State S) (streams : Streams) → IsTreeEnd s t
    → KeepsStreams (owned_in s) (next_future s.loop.parts) s.streams (next_future t.loop.parts) streams → IsStreamsEnd s t streams
end_keeps s t streams it keeps = record {
  ended = it;
  kept = streams_more (IsKnown (owned_in s) (next_future s.loop.parts) (next_future t.loop.parts))
      (λ future. is_plain t.loop.parts future ≡ true) plain streams keeps.kept;
  times = keeps.times;
  asked = keeps.asked;
  servers = keeps.servers;
  connections = keeps.connections;
  children = keeps.children;
}
  where
    plain : (future : ℕ) → IsKnown (owned_in s) (next_future s.loop.parts) (next_future t.loop.parts) future
        → is_plain t.loop.parts future ≡ true
    plain future (inl own) = it.kept future own
    plain future (inr made) = (it.made future made.0 made.1).0

-- ---- what an argument names was opened
module _ {S : Type 0} (s : State S) where
  pub conn_opened : (x : Value) (conn : ℕ) → as_conn s x ≡ Some conn → conn < length s.streams.connections
  conn_opened (Conn id) conn e = at (nat_lt id (length s.streams.connections)) refl e
    where
      at : (b : Bool) → nat_lt id (length s.streams.connections) ≡ b → cond b (Some id) None ≡ Some conn → conn < length s.streams.connections
      at true h e = subst (λ (k : ℕ). k < length s.streams.connections) (some_is id conn e) (ltb-true id (length s.streams.connections) h)
      at false h e = absurd (let bad : ⊥ = cc in bad)
  conn_opened _ conn e = absurd (let bad : ⊥ = cc in bad)

  pub child_opened : (x : Value) (child : ℕ) → as_child s x ≡ Some child → child < length s.streams.children
  child_opened (Child id) child e = at (nat_lt id (length s.streams.children)) refl e
    where
      at : (b : Bool) → nat_lt id (length s.streams.children) ≡ b → cond b (Some id) None ≡ Some child → child < length s.streams.children
      at true h e = subst (λ (k : ℕ). k < length s.streams.children) (some_is id child e) (ltb-true id (length s.streams.children) h)
      at false h e = absurd (let bad : ⊥ = cc in bad)
  child_opened _ child e = absurd (let bad : ⊥ = cc in bad)

  -- by a number that was found
  mapped : {A : Type 0} (f : ℕ → A) (P : A → Type 0) (o : Option ℕ) (a : A) → option_map f o ≡ Some a → ((id : ℕ) → o ≡ Some id → P (f id)) → P a
  mapped f P None a e each = absurd (let bad : ⊥ = cc in bad)
  mapped f P (Some id) a e each = subst P (ap (λ o. option_map_or (λ z. z) o (f id)) e) (each id refl)

  writer_opened : (x : Value) (whom : Handed) → as_writer s x ≡ Some whom → IsOpenedWriter s.streams whom
  writer_opened (Conn id) whom e = mapped to.Conn (IsOpenedWriter s.streams) (as_conn s (Conn id)) whom e (conn_opened (Conn id))
  writer_opened (Child id) whom e = mapped to.Child (IsOpenedWriter s.streams) (as_child s (Child id)) whom e (child_opened (Child id))
  writer_opened _ whom e = absurd (let bad : ⊥ = cc in bad)

  reader_opened : (x : Value) (from : StreamReader) → as_reader s x ≡ Some from → IsOpenedReader s.streams from
  reader_opened (Conn id) from e = mapped OfConn (IsOpenedReader s.streams) (as_conn s (Conn id)) from e (conn_opened (Conn id))
  reader_opened (Child id) from e = mapped (OfChild stream.Out) (IsOpenedReader s.streams) (as_child s (Child id)) from e (child_opened (Child id))
  reader_opened (Errs id) from e = mapped (OfChild stream.Errs) (IsOpenedReader s.streams) (as_child s (Child id)) from e (child_opened (Child id))
  reader_opened _ from e = absurd (let bad : ⊥ = cc in bad)

-- and stays so
module _ {S : Type 0} (s t : State S) (streams : Streams) (it : IsStreamsEnd s t streams) where
  writer_on : (whom : Handed) → IsOpenedWriter s.streams whom → IsOpenedWriter streams whom
  writer_on (to.Conn id) h = let a = it.connections in omega (arith, a, h)
  writer_on (to.Child id) h = let a = it.children in omega (arith, a, h)

  reader_on : (from : StreamReader) → IsOpenedReader s.streams from → IsOpenedReader streams from
  reader_on (OfConn id) h = let a = it.connections in omega (arith, a, h)
  reader_on (OfChild pipe id) h = let a = it.children in omega (arith, a, h)

module _ {S : Type 0} (task : ℕ) (stood : ResumePoint) (s : State S) (asked : Request) where
  abbrev Is : RequestReply S → Type 0
  Is it = StreamReplies task stood s asked it

  -- what the task stands at is opened where what it stood at was
  abbrev Opens : Type 0 → Type 0
  Opens Opened = IsOpenedAt s.streams stood → Opened

  given_is : {A : Type 0} (o : Option A) (next : A → State S → RequestReply S) → ((a : A) → o ≡ Some a → Is (next a s)) → Is (given o next s)
  given_is None next each = refuses _
  given_is (Some a) next each = each a refl

  numbered_is : (b : Bool) (next : State S → RequestReply S) → Is (next s) → Is (numbered_if b next s)
  numbered_is true next it = it
  numbered_is false next it = refuses _

  port_is : (number : ℤ) (next : ℕ → State S → RequestReply S) → ((port : ℕ) → Is (next port s)) → Is (to_port number next s)
  port_is (negsuc before) next each = refuses _
  port_is (pos port) next each = at (nat_lt 0 port && nat_lt port 65536)
    where
      at : (b : Bool) → Is (to_port_if b port next s)
      at true = each port
      at false = refuses _

  -- ---- trees
  abbrev own : Owned
  own = owned_in s

  abbrev first : ℕ
  first = next_future s.loop.parts

  change_is : (tree : Doing Streams) (next : State S → RequestReply S) → Keeping (KeepsStreams own first s.streams) own first tree
      → ((t : State S) (streams : Streams) → IsStreamsEnd s t streams → Is (next (with_streams streams t))) → Is (streams_change tree next s)
  change_is tree next keeps each =
      tree_ends Halts Is s halts (KeepsStreams own first s.streams) (λ streams now. next (with_streams streams now))
      (λ streams t it k. each t streams (end_keeps s t streams it k)) tree keeps

  do_is : {R : Type 0} (Waits : (ℕ → Type 0) → R → Type 0) (tree : Doing (Streams × R)) (next : R → State S → RequestReply S)
      → Keeping (AnswersStreams Waits own first s.streams) own first tree
      → ((answer : R) (t : State S) (streams : Streams) → IsStreamsEnd s t streams → Waits (IsMade first (next_future t.loop.parts)) answer
      → Is (next answer (with_streams streams t))) → Is (streams_do tree next s)
  do_is Waits tree next keeps each =
      tree_ends Halts Is s halts (AnswersStreams Waits own first s.streams) (λ done now. next done.1 (with_streams done.0 now))
      (λ done t it k. each done.1 t done.0 (end_keeps s t done.0 it k.0) k.1) tree keeps

  pending_is : (t : State S) (streams : Streams) (on : ℕ) → IsStreamsEnd s t streams → IsMade first (next_future t.loop.parts) on
      → is_pending t.loop.parts on ≡ true
  pending_is t streams on it made = (it.ended.made on made.0 made.1).1

  -- ---- what follows
  listened_is : (server : Option ℕ) (t : State S) (streams : Streams) → IsStreamsEnd s t streams → IsOneOf (length streams.servers) server
      → Is (listens_as server (with_streams streams t))
  listened_is None t streams it w = raises t streams _ it
  listened_is (Some id) t streams it w = answers t streams (Server id) it (lt-ltb id (length streams.servers) w)

  connected_is : stands_at (Connecting 0) asked ≡ true → (begun : Option (ℕ × ℕ)) (t : State S) (streams : Streams) → IsStreamsEnd s t streams
      → ConnectWaits (length streams.connections) (IsMade first (next_future t.loop.parts)) begun → Is (connects_as task begun (with_streams streams t))
  connected_is may None t streams it w = raises t streams _ it
  connected_is may (Some begun) t streams it w =
      stands_on t streams (Connecting begun.0) begun.1 it (pending_is t streams begun.1 it w.1) refl may (λ was. w.0)

  connect_is : (port : ℕ) → AreStreamsFutures s → stands_at (Connecting 0) asked ≡ true → Is (connects task port s)
  connect_is port kept may =
      tree_ends Halts Is s halts (ConnectsStreams own first s.streams) (λ done now. connects_as task done.1 (with_streams done.0 now))
      (λ done t it k. connected_is may done.1 t done.0 (end_keeps s t done.0 it k.0) k.1) (connect port first s.streams)
      (opening.connects own first port s.streams kept)

  opened_is : (count : Streams → ℕ) (tree : Doing (Streams × Option ℕ)) (next : Option ℕ → State S → RequestReply S)
      → Keeping (OpensStreams count own first s.streams) own first tree
      → ((it : Option ℕ) (t : State S) (streams : Streams) → IsStreamsEnd s t streams → IsOneOf (count streams) it
      → Is (next it (with_streams streams t))) → Is (streams_do tree next s)
  opened_is count tree next keeps each =
      tree_ends Halts Is s halts (OpensStreams count own first s.streams) (λ done now. next done.1 (with_streams done.0 now))
      (λ done t it k. each done.1 t done.0 (end_keeps s t done.0 it k.0) k.1) tree keeps

  wrote_is : (it : Wrote) (t : State S) (streams : Streams) → IsStreamsEnd s t streams → Unit {0} → Is (writes_as it (with_streams streams t))
  wrote_is wrote.Done t streams it w = answers t streams Nothing it refl
  wrote_is wrote.AfterEof t streams it w = raises t streams _ it

  drained_is : stands_at Asked asked ≡ true → (whom : Handed) → stands_at (Yielding whom) asked ≡ true → Opens (IsOpenedWriter s.streams whom)
      → (it : Drain) (t : State S) (streams : Streams)
      → IsStreamsEnd s t streams → DrainWaits (IsMade first (next_future t.loop.parts)) it → Is (drains_as task whom it (with_streams streams t))
  drained_is may whom yield was drain_as.Goes t streams it w = answers t streams Nothing it refl
  drained_is may whom yield was drain_as.Yields t streams it w = yields t streams whom it yield (λ h. writer_on s t streams it whom (was h))
  drained_is may whom yield was (drain_as.Waits on) t streams it w = waits_on t streams on it (pending_is t streams on it w) may
  drained_is may whom yield was (drain_as.Raises fault) t streams it w = raises t streams fault it

  limited_is : (it : Limited) (t : State S) (streams : Streams) → IsStreamsEnd s t streams → Unit {0} → Is (limits_as it (with_streams streams t))
  limited_is limited.Set t streams it w = answers t streams Nothing it refl
  limited_is limited.BadLimits t streams it w = raises t streams _ it

  launched_is : (it : Option ℕ) (t : State S) (streams : Streams) → IsStreamsEnd s t streams → IsOneOf (length streams.children) it
      → Is (launches_as it (with_streams streams t))
  launched_is None t streams it w = raises t streams _ it
  launched_is (Some id) t streams it w = answers t streams (Child id) it (lt-ltb id (length streams.children) w)

  exited_is : stands_at Asked asked ≡ true → (it : ChildWait) (t : State S) (streams : Streams) → IsStreamsEnd s t streams
      → ExitWaits (IsMade first (next_future t.loop.parts)) it → Is (awaits_exit_as task it (with_streams streams t))
  exited_is may (wait_as.Code code) t streams it w = answers t streams (Int code) it refl
  exited_is may (wait_as.Waits on) t streams it w = waits_on t streams on it (pending_is t streams on it w) may

  read_is : (op : ReadOp) (from : StreamReader) → stands_at (Reading from op 0) asked ≡ true → Opens (IsOpenedReader s.streams from)
      → (it : StreamGot) (t : State S) (streams : Streams) → IsStreamsEnd s t streams
      → ReadWaits (IsMade first (next_future t.loop.parts)) it → Is (reads_as task op from it (with_streams streams t))
  read_is op from may was (got.Bytes bytes) t streams it w = answers t streams (Bytes bytes) it refl
  read_is op from may was (got.Raises fault) t streams it w = raises t streams fault it
  read_is op from may was (got.Waits on) t streams it w =
      stands_on t streams (Reading from op on) on it (pending_is t streams on it w) refl may
      (λ h. reader_on s t streams it from (was h))

  all_is : (from : StreamReader) (taken : List ℕ) → stands_at (ReadingAll from taken 0) asked ≡ true → Opens (IsOpenedReader s.streams from)
      → (it : StreamGot) (t : State S) (streams : Streams) → IsStreamsEnd s t streams
      → ReadWaits (IsMade first (next_future t.loop.parts)) it → Is (reads_all_as task from taken it (with_streams streams t))
  all_is from taken may was (got.Bytes bytes) t streams it w = answers t streams (Bytes taken) it refl
  all_is from taken may was (got.Raises fault) t streams it w = raises t streams fault it
  all_is from taken may was (got.Waits on) t streams it w =
      stands_on t streams (ReadingAll from taken on) on it (pending_is t streams on it w) refl may (λ h. reader_on s t streams it from (was h))

  -- ---- the future that `wait_closed` awaits is a plain one
  plain_pending : (on : ℕ) → is_plain s.loop.parts on ≡ true → future_outcome s.loop.parts on ≡ None → is_pending s.loop.parts on ≡ true
  plain_pending on plain none = at (slice_get s.loop.parts.futures on) plain none
    where
      at : (found : Option Future) → is_plain_at found ≡ true → outcome_at found ≡ None → is_pending_at found ≡ true
      at None h e = absurd (false≢true h)
      at (Some future) h e = ap is_none e

  closed_plain : (whom : Handed) → AreStreamsFutures s → (on : ℕ) → closed_future whom s.streams ≡ Some on → is_plain s.loop.parts on ≡ true
  closed_plain (to.Conn id) kept on e = at (slice_get s.streams.connections id) refl e
    where
      at : (found : Option connection.Connection) → slice_get s.streams.connections id ≡ found
          → option_map (λ sender. sender.closed_future) (option_map (λ (c : connection.Connection). c.sender) found) ≡ Some on
          → is_plain s.loop.parts on ≡ true
      at None f e = absurd (let bad : ⊥ = cc in bad)
      at (Some c) f e = subst (λ k. is_plain s.loop.parts k ≡ true) (some_is _ on e) (kept.connections id c f).1.0
  closed_plain (to.Child id) kept on e = at (slice_get s.streams.children id) refl e
    where
      at : (found : Option child.Child) → slice_get s.streams.children id ≡ found
          → option_map (λ sender. sender.closed_future) (option_map (λ (p : child.Child). p.stdin) found) ≡ Some on
          → is_plain s.loop.parts on ≡ true
      at None f e = absurd (let bad : ⊥ = cc in bad)
      at (Some p) f e = subst (λ k. is_plain s.loop.parts k ≡ true) (some_is _ on e) (kept.children id p f).0.0

  closed_is : stands_at Asked asked ≡ true → AreStreamsFutures s → (whom : Handed) → Is (awaits_closed_as (closed_future whom s.streams) task s)
  closed_is may kept whom = at (closed_future whom s.streams) refl
    where
      until : (on : ℕ) → is_plain s.loop.parts on ≡ true → (o : Option Outcome) → ended s on ≡ o → Is (awaits_as o task on s)
      until on plain (Some outcome) e = hands_on on outcome e
      until on plain None e = awaits on (plain_pending on plain e) may

      at : (found : Option ℕ) → closed_future whom s.streams ≡ found → Is (awaits_closed_as found task s)
      at None e = tells Nothing refl
      at (Some on) e = until on (closed_plain whom kept on e) (ended s on) refl

  -- ---- trees that tasks stand at too
  pub drains_is : AreStreamsFutures s → stands_at Asked asked ≡ true → (yielded : Bool) (whom : Handed) → stands_at (Yielding whom) asked ≡ true
      → Opens (IsOpenedWriter s.streams whom) → Is (drains yielded task whom s)
  drains_is kept may yielded whom yield was =
      do_is DrainWaits (drain yielded first whom s.streams) (drains_as task whom) (asking.drains own first yielded whom s.streams kept)
      (drained_is may whom yield was)

  pub reads_is : AreStreamsFutures s → (op : ReadOp) (from : StreamReader) → stands_at (Reading from op 0) asked ≡ true
      → Opens (IsOpenedReader s.streams from) → Is (reads task op from s)
  reads_is kept op from may was =
      do_is ReadWaits (read first op from s.streams) (reads_as task op from) (asking.reads own first op from s.streams kept) (read_is op from may was)

  pub reads_all_is : AreStreamsFutures s → (from : StreamReader) (taken : List ℕ) → stands_at (ReadingAll from [] 0) asked ≡ true
      → Opens (IsOpenedReader s.streams from) → Is (reads_all task from taken s)
  reads_all_is kept from taken may was =
      do_is AllWaits (read_all first from s.streams) (λ said. reads_all_as task from (taken ++ said.taken) said.got)
      (asking.reads_all own first from s.streams kept) (λ said t streams it w. all_is from (taken ++ said.taken) may was said.got t streams it w)

  pub drops_is : AreStreamsFutures s → (conn : ℕ) (fault : Exc) → Is (streams_change (drop_connect conn s.streams) (Raises fault) s)
  drops_is kept conn fault =
      change_is (drop_connect conn s.streams) (Raises fault) (asking.drops own first conn s.streams kept) (λ t streams it. raises t streams fault it)

  done_is : (tree : Doing Streams) → Keeping (KeepsStreams own first s.streams) own first tree → Is (streams_change tree (Answers Nothing) s)
  done_is tree keeps = change_is tree (Answers Nothing) keeps (λ t streams it. answers t streams Nothing it refl)

module _ {S : Type 0} (added : Extra S) (task : ℕ) (s : State S) (kept : AreStreamsFutures s) where
  abbrev before : Owned
  before = owned_in s

  abbrev number : ℕ
  number = next_future s.loop.parts

  counts_is : (asked : Request) (count : ℤ) (from : StreamReader) → IsOpenedReader s.streams from → stands_at (Reading from Line 0) asked ≡ true
      → stands_at (ReadingAll from [] 0) asked ≡ true → StreamReplies task Asked s asked (reads_count task count from s)
  counts_is asked (pos count) from opened one all = reads_is task Asked s asked kept (UpTo count) from one (λ was. opened)
  counts_is asked (negsuc before_) from opened one all = reads_all_is task Asked s asked kept from [] all (λ was. opened)

  pub streams_reply : (asked : Request) → is_to_streams asked ≡ true → StreamReplies task Asked s asked (reply added task asked s)
  unfolding reply
  streams_reply (request.Listen port handler) is =
      let q = request.Listen port handler in
      given_is task Asked s q (as_int port) _ (λ at e. numbered_is task Asked s q (may_listen s.streams) _ (port_is task Asked s q at (listens handler) (λ it.
      opened_is task Asked s q (λ now. length now.servers) (listen it handler s.streams) listens_as
      (opening.opens_server before number it handler s.streams kept) (listened_is task Asked s q))))
  streams_reply (request.Connect port) is =
      let q = request.Connect port in
      given_is task Asked s q (as_int port) _ (λ at e. numbered_is task Asked s q (may_connect s.streams) _ (port_is task Asked s q at (connects task) (λ it.
      connect_is task Asked s q it kept refl)))
  streams_reply (request.Launch words) is =
      let q = request.Launch words in
      given_is task Asked s q (as_words words) _ (λ program e. numbered_is task Asked s q (may_launch s.streams) (launches program)
      (opened_is task Asked s q (λ now. length now.children) (launch program number s.streams) launches_as
      (opening.opens_child before number program s.streams kept) (launched_is task Asked s q)))
  streams_reply (request.Write stream bytes) is =
      let q = request.Write stream bytes in
      given_is task Asked s q (as_writer s stream) _ (λ whom e. given_is task Asked s q (as_bytes bytes) _ (λ piece f.
      do_is task Asked s q {R = Wrote} WaitsNever (write whom piece s.streams) writes_as (asking.writes before number whom piece s.streams kept)
      (wrote_is task Asked s q)))
  streams_reply (request.WriteEof stream) is =
      let q = request.WriteEof stream in
      given_is task Asked s q (as_conn s stream) _ (λ conn e. done_is task Asked s q (write_eof conn s.streams) (asking.ends before number conn s.streams kept))
  streams_reply (request.Close x) is = given_is task Asked s (request.Close x) (as_closable s x) closes (λ it e. shut it)
    where
      shut : (it : Closable) → StreamReplies task Asked s (request.Close x) (closes it s)
      shut (AServer id) = done_is task Asked s (request.Close x) (close_server id s.streams) (opening.closes_server before number id s.streams kept)
      shut (AWriter whom) = done_is task Asked s (request.Close x) (close whom s.streams) (asking.closes before number whom s.streams kept)
  streams_reply (request.WaitClosed stream) is =
      let q = request.WaitClosed stream in
      given_is task Asked s q (as_writer s stream) _ (λ whom e. closed_is task Asked s q refl kept whom)
  streams_reply (request.Drain stream) is =
      let q = request.Drain stream in
      given_is task Asked s q (as_writer s stream) (drains false task)
      (λ whom e. drains_is task Asked s q kept refl false whom refl (λ was. writer_opened s stream whom e))
  streams_reply (request.Limits stream high low) is =
      let q = request.Limits stream high low in
      given_is task Asked s q (as_writer s stream) _
      (λ whom e. given_is task Asked s q (as_delay high) _ (λ most f. given_is task Asked s q (as_delay low) _ (λ least g.
      do_is task Asked s q {R = Limited} WaitsNever (limits most least whom s.streams) limits_as
      (asking.limits_keep before number most least whom s.streams kept) (limited_is task Asked s q))))
  streams_reply (request.Read stream count) is =
      let q = request.Read stream count in
      given_is task Asked s q (as_reader s stream) _ (λ from e. given_is task Asked s q (as_int count) _
      (λ many f. counts_is q many from (reader_opened s stream from e) refl refl))
  streams_reply (request.ReadExactly stream count) is =
      let q = request.ReadExactly stream count in
      given_is task Asked s q (as_reader s stream) _ (λ from e. given_is task Asked s q (as_int count) _
      (λ many f. reads_is task Asked s q kept (Exactly many) from refl (λ was. reader_opened s stream from e)))
  streams_reply (request.ReadUntil stream separator) is =
      let q = request.ReadUntil stream separator in
      given_is task Asked s q (as_reader s stream) _ (λ from e. given_is task Asked s q (as_bytes separator) _
      (λ bytes f. reads_is task Asked s q kept (Until bytes) from refl (λ was. reader_opened s stream from e)))
  streams_reply (request.ReadLine stream) is =
      let q = request.ReadLine stream in
      given_is task Asked s q (as_reader s stream) _ (λ from e. reads_is task Asked s q kept Line from refl (λ was. reader_opened s stream from e))
  streams_reply (request.StandardError child) is =
      let q = request.StandardError child in
      given_is task Asked s q (as_child s child) _ (λ id e. tells (Errs id) (lt-ltb id (length s.streams.children) (child_opened s child id e)))
  streams_reply (request.WaitChild child) is =
      let q = request.WaitChild child in
      given_is task Asked s q (as_child s child) _ (λ id e.
      do_is task Asked s q ExitWaits (wait number id s.streams) (awaits_exit_as task)
      (asking.waits before number id s.streams kept) (exited_is task Asked s q refl))
  streams_reply (request.ReturnCode child) is =
      let q = request.ReturnCode child in
      given_is task Asked s q (as_child s child) _ (λ id e. code (returncode id s.streams))
    where
      code : (it : Option ℤ) → StreamReplies task Asked s (request.ReturnCode child) (Answers (code_of it) s)
      code None = tells Nothing refl
      code (Some it) = tells (Int it) refl
  streams_reply (request.Kill child) is =
      let q = request.Kill child in
      given_is task Asked s q (as_child s child) _ (λ id e. done_is task Asked s q (kill id s.streams) (asking.kills before number id s.streams kept))
  streams_reply _ is = absurd (false≢true is)

-- ---- what a task stands at: a read that was resumed waits no more
abbrev pub woken_at : {S : Type 0} → ResumePoint → State S → State S
woken_at (Reading from op on) s = waits_no_more on from s
woken_at (ReadingAll from taken on) s = waits_no_more on from s
woken_at _ s = s

pub woken_kept : {S : Type 0} (resume_point : ResumePoint) (s : State S) → AreStreamsFutures s → AreStreamsFutures (woken_at resume_point s)
woken_kept Asked s kept = kept
woken_kept (Sleeping tag) s kept = kept
woken_kept (Leaving group) s kept = kept
woken_kept (Serving key) s kept = kept
woken_kept (Connecting conn) s kept = kept
woken_kept (Yielding whom) s kept = kept
woken_kept (Reading from op on) s kept = asking.gives_up_own (owned_in s) on from s.streams kept
woken_kept (ReadingAll from taken on) s kept = asking.gives_up_own (owned_in s) on from s.streams kept

drain_stands : (whom : Handed) (asked : Request) → stands_at (Yielding whom) asked ≡ true → stands_at Asked asked ≡ true
drain_stands whom (request.Drain stream) h = refl
drain_stands whom _ h = absurd (false≢true h)

-- either the input is handed on, or a tree goes on
pub streams_decide : {S : Type 0} (added : Extra S) (task : ℕ) (s : State S) → AreStreamsFutures s
    → (asked : Request) (resume_point : ResumePoint) (input : Input)
    → stands_at_streams resume_point ≡ true → stands_at resume_point asked ≡ true
    → ((value : Value) × (input ≡ Send value) × (decides added resume_point task input s ≡ Answers value s))
    ⊎ StreamReplies task resume_point (woken_at resume_point s) asked (decides added resume_point task input s)
streams_decide added task s kept asked (Connecting conn) (Send value) is may = inl (value, refl, refl)
streams_decide added task s kept asked (Connecting conn) (Throw fault) is may = inr (drops_is task (Connecting conn) s asked kept conn fault)
streams_decide added task s kept asked (Yielding whom) (Send value) is may =
    inr (drains_is task (Yielding whom) s asked kept (drain_stands whom asked may) true whom may (λ was. was))
streams_decide added task s kept asked (Yielding whom) (Throw fault) is may = inr (refuses fault)
streams_decide added task s kept asked (Reading from op on) (Send value) is may =
    inr (reads_is task (Reading from op on) (waits_no_more on from s) asked (woken_kept (Reading from op on) s kept) op from may (λ was. was))
streams_decide added task s kept asked (Reading from op on) (Throw fault) is may = inr (refuses fault)
streams_decide added task s kept asked (ReadingAll from taken on) (Send value) is may =
    inr (reads_all_is task (ReadingAll from taken on) (waits_no_more on from s) asked (woken_kept (ReadingAll from taken on) s kept) from taken may
    (λ was. was))
streams_decide added task s kept asked (ReadingAll from taken on) (Throw fault) is may = inr (refuses fault)
streams_decide added task s kept asked Asked input is may = absurd (false≢true is)
streams_decide added task s kept asked (Sleeping tag) input is may = absurd (false≢true is)
streams_decide added task s kept asked (Leaving group) input is may = absurd (false≢true is)
streams_decide added task s kept asked (Serving key) input is may = absurd (false≢true is)
