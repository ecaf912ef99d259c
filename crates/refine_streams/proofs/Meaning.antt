-- What each request on listeners, connections and children means where its arguments are found: by which call of streams the
-- machine serves it, and how it is refused.
use Rattle.std.proofs.Common.{◌≡◌, ℕ, ℤ, pos, negsuc, true, false, ◌&&◌, List, [], Option, Some, None, nat_lt, refl}
use Rattle.model_value.specs.declared.request.Request.TheVariants as request
use Rattle.model_value.specs.Value.{Nothing, Errs, Value}
use Rattle.model_says.specs.Operations.{out_of_range}
use Rattle.model_says.specs.Requests.{bad_argument}
use Rattle.model_wire.specs.declared.event.Handed.{Handed}
use Rattle.model_loop.specs.Futures.{next_future}
use Rattle.model_stream.specs.declared.read_op.ReadOp.TheVariants.{UpTo, Exactly, Until, Line}
use Rattle.model_stream.specs.Requests.{StreamReader, closed_future, kill, limits, returncode, wait, write, write_eof}
use Rattle.model_stream.specs.Streams.{may_connect, may_launch, may_listen}
use Rattle.model_machine.specs.Arguments.{Closable, as_bytes, as_child, as_closable, as_conn, as_delay, as_int, as_reader, as_words, as_writer}
use Rattle.model_machine.specs.Extra.{Extra}
use Rattle.model_machine.specs.Replies.{Answers, Raises, awaits_closed_as, awaits_exit_as, bad_port, closes, code_of, connects, drains, launches}
use Rattle.model_machine.specs.Replies.{limits_as, listens, reads, reads_all, reply, streams_change, streams_do, writes_as}
use Rattle.model_machine.specs.State.{State}

module _ {S : Type 0} (added : Extra S) (task : ℕ) (s : State S) where
  -- ---- what is written
  pub write_means : (stream bytes : Value) (whom : Handed) (piece : List ℕ) → as_writer s stream ≡ Some whom → as_bytes bytes ≡ Some piece
      → reply added task (request.Write stream bytes) s ≡ streams_do (write whom piece s.streams) writes_as s
  unfolding reply
  write_means stream bytes whom piece e f = rw e (rw f refl)

  pub write_to_none : (stream bytes : Value) → as_writer s stream ≡ None → reply added task (request.Write stream bytes) s ≡ Raises bad_argument s
  unfolding reply
  write_to_none stream bytes e = rw e refl

  pub write_of_none : (stream bytes : Value) (whom : Handed) → as_writer s stream ≡ Some whom → as_bytes bytes ≡ None
      → reply added task (request.Write stream bytes) s ≡ Raises bad_argument s
  unfolding reply
  write_of_none stream bytes whom e f = rw e (rw f refl)

  pub eof_means : (stream : Value) (conn : ℕ) → as_conn s stream ≡ Some conn
      → reply added task (request.WriteEof stream) s ≡ streams_change (write_eof conn s.streams) (Answers Nothing) s
  unfolding reply
  eof_means stream conn e = rw e refl

  pub eof_refused : (stream : Value) → as_conn s stream ≡ None → reply added task (request.WriteEof stream) s ≡ Raises bad_argument s
  unfolding reply
  eof_refused stream e = rw e refl

  pub close_means : (x : Value) (it : Closable) → as_closable s x ≡ Some it → reply added task (request.Close x) s ≡ closes it s
  unfolding reply
  close_means x it e = rw e refl

  pub close_refused : (x : Value) → as_closable s x ≡ None → reply added task (request.Close x) s ≡ Raises bad_argument s
  unfolding reply
  close_refused x e = rw e refl

  pub closed_means : (stream : Value) (whom : Handed) → as_writer s stream ≡ Some whom
      → reply added task (request.WaitClosed stream) s ≡ awaits_closed_as (closed_future whom s.streams) task s
  unfolding reply
  closed_means stream whom e = rw e refl

  pub closed_refused : (stream : Value) → as_writer s stream ≡ None → reply added task (request.WaitClosed stream) s ≡ Raises bad_argument s
  unfolding reply
  closed_refused stream e = rw e refl

  pub drain_means : (stream : Value) (whom : Handed) → as_writer s stream ≡ Some whom
      → reply added task (request.Drain stream) s ≡ drains false task whom s
  unfolding reply
  drain_means stream whom e = rw e refl

  pub drain_refused : (stream : Value) → as_writer s stream ≡ None → reply added task (request.Drain stream) s ≡ Raises bad_argument s
  unfolding reply
  drain_refused stream e = rw e refl

  pub limits_mean : (stream high low : Value) (whom : Handed) (most least : Option ℤ) → as_writer s stream ≡ Some whom → as_delay high ≡ Some most
      → as_delay low ≡ Some least
      → reply added task (request.Limits stream high low) s ≡ streams_do (limits most least whom s.streams) limits_as s
  unfolding reply
  limits_mean stream high low whom most least e f g = rw e (rw f (rw g refl))

  pub limits_to_none : (stream high low : Value) → as_writer s stream ≡ None
      → reply added task (request.Limits stream high low) s ≡ Raises bad_argument s
  unfolding reply
  limits_to_none stream high low e = rw e refl

  pub limits_no_high : (stream high low : Value) (whom : Handed) → as_writer s stream ≡ Some whom → as_delay high ≡ None
      → reply added task (request.Limits stream high low) s ≡ Raises bad_argument s
  unfolding reply
  limits_no_high stream high low whom e f = rw e (rw f refl)

  pub limits_no_low : (stream high low : Value) (whom : Handed) (most : Option ℤ) → as_writer s stream ≡ Some whom → as_delay high ≡ Some most
      → as_delay low ≡ None → reply added task (request.Limits stream high low) s ≡ Raises bad_argument s
  unfolding reply
  limits_no_low stream high low whom most e f g = rw e (rw f (rw g refl))

  -- ---- what is read
  pub read_means : (stream count : Value) (from : StreamReader) (number : ℕ) → as_reader s stream ≡ Some from → as_int count ≡ Some (pos number)
      → reply added task (request.Read stream count) s ≡ reads task (UpTo number) from s
  unfolding reply
  read_means stream count from number e f = rw e (rw f refl)

  pub read_all_means : (stream count : Value) (from : StreamReader) (before : ℕ) → as_reader s stream ≡ Some from → as_int count ≡ Some (negsuc before)
      → reply added task (request.Read stream count) s ≡ reads_all task from [] s
  unfolding reply
  read_all_means stream count from before e f = rw e (rw f refl)

  pub read_of_none : (stream count : Value) → as_reader s stream ≡ None → reply added task (request.Read stream count) s ≡ Raises bad_argument s
  unfolding reply
  read_of_none stream count e = rw e refl

  pub read_no_count : (stream count : Value) (from : StreamReader) → as_reader s stream ≡ Some from → as_int count ≡ None
      → reply added task (request.Read stream count) s ≡ Raises bad_argument s
  unfolding reply
  read_no_count stream count from e f = rw e (rw f refl)

  pub exactly_means : (stream count : Value) (from : StreamReader) (number : ℤ) → as_reader s stream ≡ Some from → as_int count ≡ Some number
      → reply added task (request.ReadExactly stream count) s ≡ reads task (Exactly number) from s
  unfolding reply
  exactly_means stream count from number e f = rw e (rw f refl)

  pub exactly_of_none : (stream count : Value) → as_reader s stream ≡ None
      → reply added task (request.ReadExactly stream count) s ≡ Raises bad_argument s
  unfolding reply
  exactly_of_none stream count e = rw e refl

  pub exactly_no_count : (stream count : Value) (from : StreamReader) → as_reader s stream ≡ Some from → as_int count ≡ None
      → reply added task (request.ReadExactly stream count) s ≡ Raises bad_argument s
  unfolding reply
  exactly_no_count stream count from e f = rw e (rw f refl)

  pub until_means : (stream separator : Value) (from : StreamReader) (bytes : List ℕ) → as_reader s stream ≡ Some from → as_bytes separator ≡ Some bytes
      → reply added task (request.ReadUntil stream separator) s ≡ reads task (Until bytes) from s
  unfolding reply
  until_means stream separator from bytes e f = rw e (rw f refl)

  pub until_of_none : (stream separator : Value) → as_reader s stream ≡ None
      → reply added task (request.ReadUntil stream separator) s ≡ Raises bad_argument s
  unfolding reply
  until_of_none stream separator e = rw e refl

  pub until_no_bytes : (stream separator : Value) (from : StreamReader) → as_reader s stream ≡ Some from → as_bytes separator ≡ None
      → reply added task (request.ReadUntil stream separator) s ≡ Raises bad_argument s
  unfolding reply
  until_no_bytes stream separator from e f = rw e (rw f refl)

  pub line_means : (stream : Value) (from : StreamReader) → as_reader s stream ≡ Some from
      → reply added task (request.ReadLine stream) s ≡ reads task Line from s
  unfolding reply
  line_means stream from e = rw e refl

  pub line_refused : (stream : Value) → as_reader s stream ≡ None → reply added task (request.ReadLine stream) s ≡ Raises bad_argument s
  unfolding reply
  line_refused stream e = rw e refl

  -- ---- what is opened
  pub listen_means : (port : Value) (handler number : ℕ) → as_int port ≡ Some (pos number) → may_listen s.streams ≡ true
      → (nat_lt 0 number && nat_lt number 65536) ≡ true → reply added task (request.Listen port handler) s ≡ listens handler number s
  unfolding reply
  listen_means port handler number e f g = rw e (rw f (rw g refl))

  pub listen_refused : (port : Value) (handler : ℕ) → as_int port ≡ None → reply added task (request.Listen port handler) s ≡ Raises bad_argument s
  unfolding reply
  listen_refused port handler e = rw e refl

  pub listen_past : (port : Value) (handler : ℕ) (number : ℤ) → as_int port ≡ Some number → may_listen s.streams ≡ false
      → reply added task (request.Listen port handler) s ≡ Raises out_of_range s
  unfolding reply
  listen_past port handler number e f = rw e (rw f refl)

  pub listen_below : (port : Value) (handler before : ℕ) → as_int port ≡ Some (negsuc before) → may_listen s.streams ≡ true
      → reply added task (request.Listen port handler) s ≡ Raises bad_port s
  unfolding reply
  listen_below port handler before e f = rw e (rw f refl)

  pub listen_above : (port : Value) (handler number : ℕ) → as_int port ≡ Some (pos number) → may_listen s.streams ≡ true
      → (nat_lt 0 number && nat_lt number 65536) ≡ false → reply added task (request.Listen port handler) s ≡ Raises bad_port s
  unfolding reply
  listen_above port handler number e f g = rw e (rw f (rw g refl))

  pub connect_means : (port : Value) (number : ℕ) → as_int port ≡ Some (pos number) → may_connect s.streams ≡ true
      → (nat_lt 0 number && nat_lt number 65536) ≡ true → reply added task (request.Connect port) s ≡ connects task number s
  unfolding reply
  connect_means port number e f g = rw e (rw f (rw g refl))

  pub connect_no_port : (port : Value) → as_int port ≡ None → reply added task (request.Connect port) s ≡ Raises bad_argument s
  unfolding reply
  connect_no_port port e = rw e refl

  pub connect_past : (port : Value) (number : ℤ) → as_int port ≡ Some number → may_connect s.streams ≡ false
      → reply added task (request.Connect port) s ≡ Raises out_of_range s
  unfolding reply
  connect_past port number e f = rw e (rw f refl)

  pub connect_below : (port : Value) (before : ℕ) → as_int port ≡ Some (negsuc before) → may_connect s.streams ≡ true
      → reply added task (request.Connect port) s ≡ Raises bad_port s
  unfolding reply
  connect_below port before e f = rw e (rw f refl)

  pub connect_above : (port : Value) (number : ℕ) → as_int port ≡ Some (pos number) → may_connect s.streams ≡ true
      → (nat_lt 0 number && nat_lt number 65536) ≡ false → reply added task (request.Connect port) s ≡ Raises bad_port s
  unfolding reply
  connect_above port number e f g = rw e (rw f (rw g refl))

  pub launch_means : (words : Value) (program : List (List ℕ)) → as_words words ≡ Some program → may_launch s.streams ≡ true
      → reply added task (request.Launch words) s ≡ launches program s
  unfolding reply
  launch_means words program e f = rw e (rw f refl)

  pub launch_refused : (words : Value) → as_words words ≡ None → reply added task (request.Launch words) s ≡ Raises bad_argument s
  unfolding reply
  launch_refused words e = rw e refl

  pub launch_past : (words : Value) (program : List (List ℕ)) → as_words words ≡ Some program → may_launch s.streams ≡ false
      → reply added task (request.Launch words) s ≡ Raises out_of_range s
  unfolding reply
  launch_past words program e f = rw e (rw f refl)

  -- ---- children
  pub errors_mean : (child : Value) (id : ℕ) → as_child s child ≡ Some id → reply added task (request.StandardError child) s ≡ Answers (Errs id) s
  unfolding reply
  errors_mean child id e = rw e refl

  pub errors_refused : (child : Value) → as_child s child ≡ None → reply added task (request.StandardError child) s ≡ Raises bad_argument s
  unfolding reply
  errors_refused child e = rw e refl

  pub wait_means : (child : Value) (id : ℕ) → as_child s child ≡ Some id
      → reply added task (request.WaitChild child) s ≡ streams_do (wait (next_future s.loop.parts) id s.streams) (awaits_exit_as task) s
  unfolding reply
  wait_means child id e = rw e refl

  pub wait_refused : (child : Value) → as_child s child ≡ None → reply added task (request.WaitChild child) s ≡ Raises bad_argument s
  unfolding reply
  wait_refused child e = rw e refl

  pub code_means : (child : Value) (id : ℕ) → as_child s child ≡ Some id
      → reply added task (request.ReturnCode child) s ≡ Answers (code_of (returncode id s.streams)) s
  unfolding reply
  code_means child id e = rw e refl

  pub code_refused : (child : Value) → as_child s child ≡ None → reply added task (request.ReturnCode child) s ≡ Raises bad_argument s
  unfolding reply
  code_refused child e = rw e refl

  pub kill_means : (child : Value) (id : ℕ) → as_child s child ≡ Some id
      → reply added task (request.Kill child) s ≡ streams_change (kill id s.streams) (Answers Nothing) s
  unfolding reply
  kill_means child id e = rw e refl

  pub kill_refused : (child : Value) → as_child s child ≡ None → reply added task (request.Kill child) s ≡ Raises bad_argument s
  unfolding reply
  kill_refused child e = rw e refl
