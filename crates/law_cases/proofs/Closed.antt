-- Where nothing is open and nothing can be opened, no value is a connection, a listener or a child, and callbacks of these do
-- nothing.
use Rattle.std.proofs.Common.{◌≡◌, ℕ, refl, sym, ap, arith, ◌∙◌, Bool, true, false, List, [], ◌++◌, Option, Some, None, nat_lt}
use Rattle.std.specs.Option.{option_map}
use Rattle.std.proofs.lemmas.Bool.{false≢true, ltb-true}
use Rattle.model_value.specs.declared.action.Action.TheVariants as action
use Rattle.model_value.specs.Action.{Action}
use Rattle.std.specs.Prelude.{length, if◌then◌else◌}
use Rattle.model_value.specs.Value.{Value, Nothing, Bytes, Conn, Child, Server, Errs, Exc}
use Rattle.model_wire.specs.declared.event.Handed.{Handed}
use Rattle.model_wire.specs.declared.event.Handed.TheVariants as to
use Rattle.model_stream.specs.Reading.{ReadOp}
use Rattle.model_stream.specs.Requests.{StreamReader, OfConn, OfChild, drop_connect, drain, read, read_all, give_up_read}
use Rattle.model_stream.specs.Doing.{Ends}
use Rattle.model_stream.specs.Streams.{Streams, act, handler_of, no_streams, may_connect, may_launch, may_listen}
use Rattle.model_loop.specs.Futures.{next_future}
use Rattle.model_value.specs.declared.request.Request.TheVariants as request
use Rattle.model_value.specs.Request.{Request}
use Rattle.model_says.specs.Operations.{out_of_range}
use Rattle.model_says.specs.Requests.{bad_argument}
use Rattle.model_machine.specs.Arguments.{AServer, AWriter, as_conn, as_child, as_writer, as_reader, as_closable, as_int, as_words}
use Rattle.model_machine.specs.Does.{does}
use Rattle.model_value.specs.declared.input.Input.TheVariants.{Send, Throw}
use Rattle.model_value.specs.Input.{Input}
use Rattle.model_machine.specs.Replies.{RequestReply, Answers, Raises, Halts, decides, given, numbered_if, replied, reply, drains, drains_as, reads}
use Rattle.model_machine.specs.Replies.{reads_as, reads_all, reads_all_as, streams_change, waits_no_more}
use Rattle.model_machine.specs.Sound.{Ids, IsClosed, sends_made}
use Rattle.model_machine.specs.State.{ResumePoint, Asked, Sleeping, Leaving, Serving, Connecting, Yielding, Reading, ReadingAll, State, with_streams}
use Rattle.model_machine.specs.Extra.{Extra}
use Rattle.model_machine.specs.Turn.{effect, has_returned, made_by, streams_go}
use Rattle.model_machine.specs.Went.{Goes}
use Rattle.law_cases.specs.Closed.{is_to_streams, stands_at_streams}
use Rattle.law_cases.specs.Trees.{is_of_streams}

none_below : (id : ℕ) → nat_lt id 0 ≡ false
none_below id = at (nat_lt id 0) refl
  where
    at : (b : Bool) → nat_lt id 0 ≡ b → b ≡ false
    at false e = refl
    at true e = absurd (let w = ltb-true id 0 e in omega (arith, w))

acts_none : (next : ℕ) (returned : Bool) (it : Action) → act next returned it (no_streams 0) ≡ Ends (no_streams 0)
acts_none next returned (action.ReadableServer id) = refl
acts_none next returned (action.StartRead id) = refl
acts_none next returned (action.Readable id) = refl
acts_none next returned (action.Writable id) = refl
acts_none next returned (action.Up id) = refl
acts_none next returned (action.Down id) = refl
acts_none next returned (action.Lost id broken) = refl
acts_none next returned (action.HandlerDone id task) = refl
acts_none next returned (action.WritableChild id) = refl
acts_none next returned (action.ChildItem id item) = refl
acts_none next returned (action.LostChild id broken) = refl
acts_none next returned _ = refl

module _ {S : Type 0} (s : State S) (closed : IsClosed s) where
  conn_none : (id : ℕ) → as_conn s (Conn id) ≡ None
  conn_none id =
      ap (λ (streams : Streams). if nat_lt id (length streams.connections) then Some id else None) closed
      ∙ ap (λ b. if b then Some id else None) (none_below id)

  child_none : (id : ℕ) → as_child s (Child id) ≡ None
  child_none id =
      ap (λ (streams : Streams). if nat_lt id (length streams.children) then Some id else None) closed
      ∙ ap (λ b. if b then Some id else None) (none_below id)

  pub no_conn : (x : Value) → as_conn s x ≡ None
  no_conn (Conn id) = conn_none id
  no_conn _ = refl

  pub no_child : (x : Value) → as_child s x ≡ None
  no_child (Child id) = child_none id
  no_child _ = refl

  pub no_writer : (x : Value) → as_writer s x ≡ None
  no_writer (Conn id) = ap (option_map to.Conn) (conn_none id)
  no_writer (Child id) = ap (option_map to.Child) (child_none id)
  no_writer _ = refl

  pub no_reader : (x : Value) → as_reader s x ≡ None
  no_reader (Conn id) = ap (option_map OfConn) (conn_none id)
  no_reader (Child id) = ap (option_map (OfChild _)) (child_none id)
  no_reader (Errs id) = ap (option_map (OfChild _)) (child_none id)
  no_reader _ = refl

  pub no_closable : (x : Value) → as_closable s x ≡ None
  no_closable (Server id) =
      ap (λ (streams : Streams). if nat_lt id (length streams.servers) then Some (AServer id) else None) closed
      ∙ ap (λ b. if b then Some (AServer id) else None) (none_below id)
  no_closable (Conn id) = ap (option_map AWriter) (no_writer (Conn id))
  no_closable (Child id) = ap (option_map AWriter) (no_writer (Child id))
  no_closable _ = refl

  pub no_listen : may_listen s.streams ≡ false
  no_listen = ap may_listen closed

  pub no_connect : may_connect s.streams ≡ false
  no_connect = ap may_connect closed

  pub no_launch : may_launch s.streams ≡ false
  no_launch = ap may_launch closed

  -- ---- requests
  abbrev Refused : RequestReply S → Type 0
  Refused it = (fault : Exc) × (it ≡ Raises fault s)

  -- an argument of a kind of which none is open
  none : {A : Type 0} (o : Option A) (next : A → State S → RequestReply S) → o ≡ None → Refused (given o next s)
  none o next e = (bad_argument, ap (λ found. given found next s) e)

  -- and where none can be opened
  full : {A : Type 0} (o : Option A) (b : Bool) (next : A → State S → RequestReply S) → b ≡ false → Refused (given o (λ a. numbered_if b (next a)) s)
  full None b next e = (bad_argument, refl)
  full (Some a) b next e = (out_of_range, ap (λ numbered. numbered_if numbered (next a) s) e)

  pub refused : (added : Extra S) (task : ℕ) (asked : Request) → is_to_streams asked ≡ true → Refused (reply added task asked s)
  unfolding reply
  refused added task (request.Listen port handler) is = full (as_int port) (may_listen s.streams) _ no_listen
  refused added task (request.Connect port) is = full (as_int port) (may_connect s.streams) _ no_connect
  refused added task (request.Launch words) is = full (as_words words) (may_launch s.streams) _ no_launch
  refused added task (request.Write stream bytes) is = none (as_writer s stream) _ (no_writer stream)
  refused added task (request.WriteEof stream) is = none (as_conn s stream) _ (no_conn stream)
  refused added task (request.Close x) is = none (as_closable s x) _ (no_closable x)
  refused added task (request.WaitClosed stream) is = none (as_writer s stream) _ (no_writer stream)
  refused added task (request.Drain stream) is = none (as_writer s stream) _ (no_writer stream)
  refused added task (request.Limits stream high low) is = none (as_writer s stream) _ (no_writer stream)
  refused added task (request.Read stream count) is = none (as_reader s stream) _ (no_reader stream)
  refused added task (request.ReadExactly stream count) is = none (as_reader s stream) _ (no_reader stream)
  refused added task (request.ReadUntil stream separator) is = none (as_reader s stream) _ (no_reader stream)
  refused added task (request.ReadLine stream) is = none (as_reader s stream) _ (no_reader stream)
  refused added task (request.StandardError child) is = none (as_child s child) _ (no_child child)
  refused added task (request.WaitChild child) is = none (as_child s child) _ (no_child child)
  refused added task (request.ReturnCode child) is = none (as_child s child) _ (no_child child)
  refused added task (request.Kill child) is = none (as_child s child) _ (no_child child)
  refused added task _ is = absurd (false≢true is)

  pub unchanged : with_streams (no_streams 0) s ≡ s
  unchanged = ap (λ streams. with_streams streams s) (sym closed)

  -- ---- callbacks
  goes_none : (next : ℕ) (returned : Bool) (it : Action) → streams_go (act next returned it s.streams) s ≡ Goes s
  goes_none next returned it =
      ap (λ streams. streams_go (act next returned it streams) s) closed ∙ ap (λ tree. streams_go tree s) (acts_none next returned it)
      ∙ ap Goes unchanged

  made_none : (conn : ℕ) → made_by (handler_of conn s.streams) conn s ≡ Goes s
  made_none conn = ap (λ streams. made_by (handler_of conn streams) conn s) closed

  -- one of a listener, a connection or a child
  pub effect_none : (limit : ℕ) (added : Extra S) (it : Action) → is_of_streams it ≡ true → effect limit added it s ≡ Goes s
  unfolding effect
  effect_none limit added (action.Made conn) is = made_none conn
  effect_none limit added (action.HandlerDone conn task) is = goes_none (next_future s.loop.parts)
      (has_returned s.loop.parts task) (action.HandlerDone conn task)
  effect_none limit added (action.StartRead conn) is = goes_none (next_future s.loop.parts) true (action.StartRead conn)
  effect_none limit added (action.Lost conn broken) is = goes_none (next_future s.loop.parts) true (action.Lost conn broken)
  effect_none limit added (action.ReadableServer server) is = goes_none (next_future s.loop.parts) true (action.ReadableServer server)
  effect_none limit added (action.Readable conn) is = goes_none (next_future s.loop.parts) true (action.Readable conn)
  effect_none limit added (action.Writable conn) is = goes_none (next_future s.loop.parts) true (action.Writable conn)
  effect_none limit added (action.Up conn) is = goes_none (next_future s.loop.parts) true (action.Up conn)
  effect_none limit added (action.Down conn) is = goes_none (next_future s.loop.parts) true (action.Down conn)
  effect_none limit added (action.WritableChild child) is = goes_none (next_future s.loop.parts) true (action.WritableChild child)
  effect_none limit added (action.ChildItem child told) is = goes_none (next_future s.loop.parts) true (action.ChildItem child told)
  effect_none limit added (action.LostChild child broken) is = goes_none (next_future s.loop.parts) true (action.LostChild child broken)
  effect_none limit added _ is = absurd (false≢true is)

  -- ---- requests that stand at one
  pub drops_none : (conn : ℕ) (fault : Exc) → streams_change (drop_connect conn s.streams) (Raises fault) s ≡ Raises fault s
  drops_none conn fault =
      ap (λ streams. streams_change (drop_connect conn streams) (Raises fault) s) closed ∙ ap (Raises fault) unchanged

  pub drains_none : (yielded : Bool) (task : ℕ) (whom : Handed) → drains yielded task whom s ≡ Answers Nothing s
  drains_none yielded task whom = at whom
    where
      at : (whom : Handed) → drains yielded task whom s ≡ Answers Nothing s
      at (to.Conn id) =
          ap (λ streams. does Halts (drain yielded (next_future s.loop.parts) (to.Conn id) streams)
          (λ done now. drains_as task (to.Conn id) done.1 (with_streams done.0 now)) s) closed
          ∙ ap (Answers Nothing) unchanged
      at (to.Child id) =
          ap (λ streams. does Halts (drain yielded (next_future s.loop.parts) (to.Child id) streams)
          (λ done now. drains_as task (to.Child id) done.1 (with_streams done.0 now)) s) closed
          ∙ ap (Answers Nothing) unchanged

  pub reads_none : (task : ℕ) (op : ReadOp) (from : StreamReader) → reads task op from s ≡ Answers (Bytes []) s
  reads_none task op (OfConn id) =
      ap (λ streams. does Halts (read (next_future s.loop.parts) op (OfConn id) streams)
      (λ done now. reads_as task op (OfConn id) done.1 (with_streams done.0 now)) s) closed
      ∙ ap (Answers (Bytes [])) unchanged
  reads_none task op (OfChild pipe id) =
      ap (λ streams. does Halts (read (next_future s.loop.parts) op (OfChild pipe id) streams)
      (λ done now. reads_as task op (OfChild pipe id) done.1 (with_streams done.0 now)) s) closed
      ∙ ap (Answers (Bytes [])) unchanged

  pub reads_all_none : (task : ℕ) (from : StreamReader) (taken : List ℕ) → reads_all task from taken s ≡ Answers (Bytes (taken ++ [])) s
  reads_all_none task (OfConn id) taken =
      ap (λ streams. does Halts (read_all (next_future s.loop.parts) (OfConn id) streams)
      (λ done now. reads_all_as task (OfConn id) (taken ++ done.1.taken) done.1.got (with_streams done.0 now)) s) closed
      ∙ ap (Answers (Bytes (taken ++ []))) unchanged
  reads_all_none task (OfChild pipe id) taken =
      ap (λ streams. does Halts (read_all (next_future s.loop.parts) (OfChild pipe id) streams)
      (λ done now. reads_all_as task (OfChild pipe id) (taken ++ done.1.taken) done.1.got (with_streams done.0 now)) s) closed
      ∙ ap (Answers (Bytes (taken ++ []))) unchanged

  pub gives_up_none : (on : ℕ) (from : StreamReader) → waits_no_more on from s ≡ s
  gives_up_none on (OfConn id) = ap (λ streams. with_streams (give_up_read on (OfConn id) streams) s) closed ∙ unchanged
  gives_up_none on (OfChild pipe id) = ap (λ streams. with_streams (give_up_read on (OfChild pipe id) streams) s) closed ∙ unchanged

  -- What is heard at such a request, where nothing is open: the input, or an answer that names nothing.
  pub decides_none : (added : Extra S) (task : ℕ) (resume_point : ResumePoint) (heard : Input) → stands_at_streams resume_point ≡ true
      → (said : Input) × (decides added resume_point task heard s ≡ replied said s)
      × ((ids : Ids) → sends_made ids heard ≡ true → sends_made ids said ≡ true)
  decides_none added task (Connecting conn) (Send value) is = (Send value, refl, λ ids h. h)
  decides_none added task (Connecting conn) (Throw fault) is = (Throw fault, drops_none conn fault, λ ids h. h)
  decides_none added task (Yielding whom) (Send value) is = (Send Nothing, drains_none true task whom, λ ids h. refl)
  decides_none added task (Yielding whom) (Throw fault) is = (Throw fault, refl, λ ids h. h)
  decides_none added task (Reading from op on) (Send value) is =
      (Send (Bytes []), ap (reads task op from) (gives_up_none on from) ∙ reads_none task op from, λ ids h. refl)
  decides_none added task (Reading from op on) (Throw fault) is = (Throw fault, ap (Raises fault) (gives_up_none on from), λ ids h. h)
  decides_none added task (ReadingAll from taken on) (Send value) is =
      (Send (Bytes (taken ++ [])), ap (reads_all task from taken) (gives_up_none on from) ∙ reads_all_none task from taken, λ ids h. refl)
  decides_none added task (ReadingAll from taken on) (Throw fault) is = (Throw fault, ap (Raises fault) (gives_up_none on from), λ ids h. h)
  decides_none added task Asked heard is = absurd (false≢true is)
  decides_none added task (Sleeping tag) heard is = absurd (false≢true is)
  decides_none added task (Leaving group) heard is = absurd (false≢true is)
  decides_none added task (Serving key) heard is = absurd (false≢true is)
