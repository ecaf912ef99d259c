-- What a connection does lets its reader be, but where it receives; and so a child its pipes, but where one is told.
use Rattle.std.proofs.Common.{◌≡◌, ℕ, ℤ, Bool, true, false, cond, eqb, not, ◌&&◌, ◌||◌, List, [], ◌∷◌, ◌++◌, Option, Some, None, refl, sym, ap, subst, ◌∙◌}
use Rattle.std.specs.Prelude.{is_none, is_some}
use Rattle.std.proofs.lemmas.Bool.{eq-eqb, eqb-true, false≢true}
use Rattle.std.proofs.lemmas.List.{append-nil}
use Rattle.model_value.specs.declared.outcome.Outcome.TheVariants.{Failed}
use Rattle.model_value.specs.Value.{Exc}
use Rattle.model_wire.specs.declared.answer.Answer.TheVariants as answer
use Rattle.model_wire.specs.declared.call.Call.TheVariants as call
use Rattle.model_wire.specs.Call.{Answer}
use Rattle.model_stream.specs.declared.answers.ChildWait.TheVariants as wait_as
use Rattle.model_stream.specs.declared.answers.ChildWait.{ChildWait}
use Rattle.model_stream.specs.declared.answers.Drain.TheVariants as drain_as
use Rattle.model_stream.specs.declared.answers.Wrote.{Wrote}
use Rattle.model_stream.specs.declared.answers.Wrote.TheVariants as wrote
use Rattle.model_stream.specs.declared.put.Limited.{Limited}
use Rattle.model_stream.specs.Children.{Child, inlet, its_stdin, lose_child, fed, feed_more, break_stdin, exit_with}
use Rattle.model_stream.specs.Children.{close_child, write_child, drain_child, limits_child, wait_child, kill}
use Rattle.model_stream.specs.Connections.{Connection, outlet, its_sender, its_receiver, start_read, fail, received as hears, readable, connect_refused}
use Rattle.model_stream.specs.Connections.{lose, flushed, writable, up, down, stand_up, unmade, close, reads}
use Rattle.model_stream.specs.Connections.{handler_done, drop_connect, write_to, write_eof, drain_of, limits_of}
use Rattle.model_stream.specs.Doing.{Doing, Ends, Changes, Asks, MakeFuture, Settle, and_then, asks, asked_on, on, settles}
use Rattle.model_stream.specs.Reading.{feed, feed_eof, fail as failed}
use Rattle.model_stream.specs.Receivers.{Receiver, receive_end, receive_loss, takes_more, wakes}
use Rattle.model_stream.specs.Requests.{StreamReader, OfConn, OfChild}
use Rattle.model_stream.specs.Senders.{Sender, Drain, has_unsent, is_closing, is_flushed, close_sender, lose_sender, loss_of, send_more, schedule_loss}
use Rattle.model_stream.specs.Senders.{fail_sender, drain_sender, with_writer, write}
use Rattle.model_stream.specs.Sending.{limits, set_eof}
use Rattle.law_stream.specs.Ways.{Move, Heard, Always, told_by}
use Rattle.law_stream.proofs.Along.{always_if, always_map}
use Rattle.law_stream.specs.ReceiverOrder.{has_failed}
use Rattle.law_stream.proofs.ReceiverOrder.{Look, took_none}
use Rattle.law_received.specs.Calm.{Apart, FailedConn, LostConn, SameChild, SameConn, ScheduleNone}
use Rattle.law_received.specs.Feeding.{OneFed}
use Rattle.law_received.specs.Readers.{brought_by, bytes_if, received}
use Rattle.law_received.proofs.Apart.{BringNone, Closes, IsClosed, apart_always, apart_if, apart_then, apart_told}
use Rattle.law_received.proofs.Apart.{close_apart, drain_apart, fail_apart, lose_apart, schedule_apart, send_apart, write_apart}

-- ---- one reader
-- where nothing came, it holds what it held
pub one_still : (r : Receiver) (shut : Bool) (after : Receiver) (shuts : Bool) → after.reader.held ≡ r.reader.held → has_failed after ≡ has_failed r
    → (shut ≡ true → shuts ≡ true) → OneFed r shut [] [] [] after shuts
one_still r shut after shuts same failed closes =
    record {
      order = append-nil r.reader.held ∙ sym same;
      stays = λ is. failed ∙ is;
      none = λ was is. (refl, refl);
      fails = λ unfailed is. refl;
      kept = λ unfailed. refl;
      spent = λ was is. let had = was (sym failed ∙ is) in (same ∙ had.0, closes had.1);
    }

-- of one that isn't shut, and so didn't fail
pub one_taken : (r : Receiver) (shut : Bool) (came went : List ℕ) (after : Receiver) (shuts : Bool) → r.reader.held ++ came ≡ went ++ after.reader.held
    → has_failed after ≡ has_failed r → shut ≡ false → OneFed r shut came went [] after shuts
one_taken r shut came went after shuts order failed open_ =
    record {
      order = order;
      stays = λ is. failed ∙ is;
      none = λ was is. absurd (false≢true (sym open_ ∙ (was is).1));
      fails = λ unfailed is. absurd (false≢true (sym unfailed ∙ sym failed ∙ is));
      kept = λ unfailed. refl;
      spent = λ was is. absurd (false≢true (sym open_ ∙ (was (sym failed ∙ is)).1));
    }

-- a look takes a front
pub one_look : (r : Receiver) (shut : Bool) (took : List ℕ) (after : Receiver) (shuts : Bool) → Look r (after, took) → (shut ≡ true → shuts ≡ true)
    → OneFed r shut [] took [] after shuts
one_look r shut took after shuts it closes =
    record {
      order = it.order;
      stays = λ is. it.same ∙ is;
      none = λ was is. (took_none r.reader.held took after.reader.held it.order (it.leaves is), refl);
      fails = λ unfailed is. absurd (false≢true (sym unfailed ∙ sym it.same ∙ is));
      kept = λ unfailed. refl;
      spent = λ was is. let before = sym it.same ∙ is in (it.leaves before ∙ (was before).0, closes (was before).1);
    }

-- it fails, and holds nothing
pub one_fails : (r : Receiver) (shut : Bool) (after : Receiver) (shuts : Bool) → after.reader.held ≡ [] → has_failed after ≡ true → shuts ≡ true
    → OneFed r shut [] [] r.reader.held after shuts
one_fails r shut after shuts held failed closes =
    record {
      order = ap (λ rest. r.reader.held ++ rest) (sym held);
      stays = λ is. failed;
      none = λ was is. (refl, (was is).0);
      fails = λ unfailed is. refl;
      kept = λ unfailed. absurd (false≢true (sym unfailed ∙ failed));
      spent = λ was is. (held, closes);
    }

pub one_came : (r : Receiver) (shut : Bool) (came other went let_go : List ℕ) (after : Receiver) (shuts : Bool) → came ≡ other
    → OneFed r shut other went let_go after shuts → OneFed r shut came went let_go after shuts
one_came r shut came other went let_go after shuts same it = subst (λ bytes. OneFed r shut bytes went let_go after shuts) (sym same) it

-- ---- a reader
-- What was held and what was received then is what went, what was let go, and what is held after; another received nothing.
pub record OwnFed (from : StreamReader) (r : Receiver) (shut : Bool) (went let_go : List ℕ) (moves : List Move) (after : Receiver) (shuts : Bool)
    : Type 0 where
  pub schedule : ScheduleNone moves
  pub fed : OneFed r shut (received from (told_by moves)) went let_go after shuts
  pub others : (other : StreamReader) → (other ≡ from → ⊥) → received other (told_by moves) ≡ []

-- ---- a connection
-- only bytes are received
abbrev is_data : Answer → Bool
is_data (answer.Data bytes) = true
is_data _ = false

none_else : (from : StreamReader) (id : ℕ) (came : Answer) → is_data came ≡ false → brought_by from (call.Recv id) came ≡ []
none_else from id (answer.Data bytes) none = absurd (let bad : ⊥ = cc in bad)
none_else (OfConn other) id _ none = refl
none_else (OfChild pipe other) id _ none = refl

module _ (id : ℕ) where
  abbrev pub ConnFed : Connection → List Move → Connection → Type 0
  ConnFed c moves after = OwnFed (OfConn id) c.receiver (is_closing c.sender) [] [] moves after.receiver (is_closing after.sender)

  -- with nothing received, it holds what it held
  same_fed : (c : Connection) (moves : List Move) (after : Connection) → BringNone moves → SameConn c after → ConnFed c moves after
  same_fed c moves after none same =
      record {
        schedule = none.schedule;
        fed = one_came c.receiver (is_closing c.sender) (received (OfConn id) (told_by moves)) [] [] [] after.receiver (is_closing after.sender)
            (none.bring (OfConn id))
            (one_still c.receiver (is_closing c.sender) after.receiver (is_closing after.sender) same.held same.failed same.closes);
        others = λ other apart. none.bring other;
      }

  kept_conn : (c after : Connection) → after.receiver ≡ c.receiver → Closes c.sender after.sender → SameConn c after
  kept_conn c after same closes = record { held = ap (λ (r : Receiver). r.reader.held) same; failed = ap has_failed same; closes = closes }

  same_conn : (c : Connection) → SameConn c c
  same_conn c = kept_conn c c refl (λ is. is)

  pub conn_still : (c : Connection) (doing : Doing Connection) → Apart (SameConn c) doing → Always (ConnFed c) doing
  conn_still c doing h =
      always_map (λ moves after. BringNone moves × SameConn c after) (ConnFed c) doing
      (λ moves after it. same_fed c moves after it.0 it.1) (apart_always (SameConn c) doing h)

  conn_on : (change : Sender → Doing Sender) (c mid : Connection) → Apart (Closes mid.sender) (change mid.sender) → SameConn c mid
      → Apart (SameConn c) (on its_sender change mid)
  conn_on change c mid h same =
      apart_then {A = Sender} {B = Connection} (Closes mid.sender) (SameConn c) (change mid.sender) (λ after. Ends (record mid { sender = after })) h
      (λ after closes. record { held = same.held; failed = same.failed; closes = λ is. closes (same.closes is) })

  conn_asks : {R : Type 0} (change : Sender → Doing (Sender × R)) (c : Connection)
      → Apart (λ (done : Sender × R). Closes c.sender done.0) (change c.sender)
      → Apart (λ (done : Connection × R). SameConn c done.0) (asked_on its_sender change c)
  conn_asks {R} change c h =
      apart_then {A = Sender × R} {B = Connection × R} (λ done. Closes c.sender done.0) (λ done. SameConn c done.0) (change c.sender)
      (λ done. Ends (record c { sender = done.0 }, done.1)) h
      (λ done closes. record { held = refl; failed = refl; closes = closes })

  pub start_apart : (c : Connection) → Apart (SameConn c) (Ends (start_read c))
  start_apart c = kept_conn c (start_read c) refl (λ is. is)

  fails_apart : (c : Connection) → Apart (SameConn c) (fail id c)
  fails_apart c =
      conn_on (fail_sender (outlet id)) c c (fail_apart (outlet id) (λ bytes. refl) refl (λ broken. refl) c.sender) (same_conn c)

  -- its reader is told of the end, or of a loss with an exception
  ends_apart : (c mid : Connection) → SameConn c mid → Apart (SameConn c) (on its_receiver receive_end mid)
  ends_apart c mid same = at mid.receiver.waiter
    where
      at : (waiter : Option ℕ)
          → Apart (SameConn c) (and_then (wakes (feed_eof mid.receiver.reader) waiter) (λ after. Ends (record mid { receiver = after })))
      at None = record { held = same.held; failed = same.failed; closes = same.closes }
      at (Some future) = record { held = same.held; failed = same.failed; closes = same.closes }

  abbrev FailsFirst : Connection → Type 0
  FailsFirst mid = (mid.receiver.reader.held ≡ []) × (has_failed mid.receiver ≡ true)

  failed_apart : (fault : Exc) (c : Connection) → Apart FailsFirst (on its_receiver (receive_loss (Some fault)) c)
  failed_apart fault c = at c.receiver.waiter
    where
      at : (waiter : Option ℕ)
          → Apart FailsFirst (and_then (wakes (failed fault c.receiver.reader) waiter) (λ after. Ends (record c { receiver = after })))
      at None = (refl, refl)
      at (Some future) = (refl, refl)

  lost_same : (c mid : Connection) → SameConn c mid → Apart (SameConn c) (lose id false mid)
  lost_same c mid same =
      apart_then {A = Connection} {B = Connection} (SameConn c) (SameConn c) (on its_receiver (receive_loss (loss_of (outlet id) false)) mid)
      (on its_sender (lose_sender (outlet id) false)) (ends_apart c mid same)
      (λ end there.
      apart_then {A = Sender} {B = Connection} IsClosed (SameConn c) (lose_sender (outlet id) false end.sender) (λ after. Ends (record end { sender = after }))
      (lose_apart (outlet id) (λ bytes. refl) refl (λ b. refl) false end.sender)
      (λ after closed. record { held = there.held; failed = there.failed; closes = λ is. closed }))

  pub lose_conn : (broken : Bool) (c : Connection) → Apart (LostConn broken c) (lose id broken c)
  lose_conn false c = lost_same c c (same_conn c)
  lose_conn true c =
      apart_then {A = Connection} {B = Connection} FailsFirst FailedConn (on its_receiver (receive_loss (loss_of (outlet id) true)) c)
      (on its_sender (lose_sender (outlet id) true)) (failed_apart (outlet id).exception c)
      (λ mid there.
      apart_then {A = Sender} {B = Connection} IsClosed FailedConn (lose_sender (outlet id) true mid.sender) (λ after. Ends (record mid { sender = after }))
      (lose_apart (outlet id) (λ bytes. refl) refl (λ b. refl) true mid.sender)
      (λ after closed. record { held = there.0; failed = there.1; closes = closed }))

  flushed_apart : (c mid : Connection) → SameConn c mid → Apart (SameConn c) (flushed id mid)
  flushed_apart c mid same =
      apart_if (SameConn c) (not (is_flushed mid.sender)) (Ends mid) _ same
      (apart_if (SameConn c) (is_closing mid.sender) (lose id false mid) _ (lost_same c mid same)
      (apart_if (SameConn c) mid.sender.writer.eof (asks (call.Shut id) (Ends mid)) (Ends mid) (refl, λ came. same) same))

  pub writable_apart : (c : Connection) → Apart (SameConn c) (writable id c)
  writable_apart c =
      apart_if (SameConn c) (has_unsent c.sender) (and_then (on its_sender (send_more (outlet id)) c) (flushed id)) (Ends c)
      (apart_then (SameConn c) (SameConn c) (on its_sender (send_more (outlet id)) c) (flushed id)
      (conn_on (send_more (outlet id)) c c (send_apart (outlet id) (λ bytes. refl) refl (λ b. refl) c.sender) (same_conn c))
      (λ mid same. flushed_apart c mid same)) (same_conn c)

  pub up_apart : (c : Connection) → Apart (SameConn c) (up id c)
  up_apart c = at c.making
    where
      at : (making : Option ℕ) → Apart (SameConn c) (elim making [ Some future ↦ stand_up id future c | None ↦ Ends c ])
      at (Some future) = (refl, (refl, kept_conn c (record c { making = None }) refl (λ is. is)))
      at None = same_conn c

  pub down_apart : (c : Connection) → Apart (SameConn c) (down id c)
  down_apart c = at c.making
    where
      at : (making : Option ℕ) → Apart (SameConn c) (elim making [
        | Some future ↦ Changes (Settle future (Failed connect_refused)) (asks (call.Close id) (Ends (unmade c)))
        | None ↦ Ends c
      ])
      at (Some future) = (refl, λ came. kept_conn c (unmade c) refl (λ is. refl))
      at None = same_conn c

  pub close_conn : (c : Connection) → Apart (SameConn c) (close id c)
  close_conn c = conn_on (close_sender (outlet id)) c c (close_apart (outlet id) (λ bytes. refl) refl (λ b. refl) c.sender) (same_conn c)

  pub handled_apart : (returned : Bool) (c : Connection) → Apart (SameConn c) (handler_done id returned c)
  handled_apart returned c = apart_if (SameConn c) returned (Ends c) (close id c) (same_conn c) (close_conn c)

  pub drop_apart : (c : Connection) → Apart (SameConn c) (drop_connect id c)
  drop_apart c =
      apart_if (SameConn c) (is_some c.making) (asks (call.Close id) (Ends (unmade c))) (close id c)
      (refl, λ came. kept_conn c (unmade c) refl (λ is. refl)) (close_conn c)

  pub eof_apart : (c : Connection) → Apart (SameConn c) (write_eof id c)
  eof_apart c =
      let after = record c { sender = with_writer (set_eof c.sender.writer) c.sender } in
      let same : SameConn c after = kept_conn c after refl (λ is. is) in
      apart_if (SameConn c) (is_closing c.sender || c.sender.writer.eof) (Ends c) _ (same_conn c)
      (apart_if (SameConn c) (has_unsent c.sender) (Ends after) (asks (call.Shut id) (Ends after)) same (refl, λ came. same))

  pub write_to_apart : (piece : List ℕ) (c : Connection) → Apart (λ (done : Connection × Wrote). SameConn c done.0) (write_to id piece c)
  write_to_apart piece c =
      conn_asks {R = Wrote} (write (outlet id) piece) c (write_apart (outlet id) (λ bytes. refl) refl (λ b. refl) piece c.sender)

  pub drain_of_apart : (yielded : Bool) (next : ℕ) (c : Connection) → Apart (λ (done : Connection × Drain). SameConn c done.0) (drain_of yielded next c)
  drain_of_apart yielded next c = at c.receiver.reader.failed
    where
      at : (fault : Option Exc) → Apart (λ (done : Connection × Drain). SameConn c done.0) (elim fault [
        | None ↦ asked_on its_sender (drain_sender yielded next) c
        | Some fault ↦ cond yielded (asked_on its_sender (drain_sender yielded next) c) (Ends (c, drain_as.Raises fault))
      ])
      at None = conn_asks {R = Drain} (drain_sender yielded next) c (drain_apart yielded next c.sender)
      at (Some fault) =
          apart_if (λ (done : Connection × Drain). SameConn c done.0) yielded (asked_on its_sender (drain_sender yielded next) c)
          (Ends (c, drain_as.Raises fault)) (conn_asks {R = Drain} (drain_sender yielded next) c (drain_apart yielded next c.sender)) (same_conn c)

  pub limits_apart : (high low : Option ℤ) (c : Connection) → Apart (λ (done : Connection × Limited). SameConn c done.0) (limits_of high low c)
  limits_apart high low c = kept_conn c (record c { sender = with_writer (limits high low c.sender.writer) c.sender }) refl (λ is. is)

  -- ---- what is received
  abbrev pub ConnHears : Connection → Answer → List Move → Connection → Type 0
  ConnHears c came moves after = ConnFed c (Heard (call.Recv id) came ∷ moves) after

  unheard : (c : Connection) (came : Answer) → is_data came ≡ false → (doing : Doing Connection) → Apart (SameConn c) doing
      → Always (ConnHears c came) doing
  unheard c came none doing h =
      always_map (λ moves after. BringNone moves × SameConn c after) (ConnHears c came) doing
      (λ moves after it.
      same_fed c (Heard (call.Recv id) came ∷ moves) after
      (record {
        schedule = it.0.schedule;
        bring = λ from. ap (λ bytes. bytes ++ received from (told_by moves)) (none_else from id came none) ∙ it.0.bring from;
      }) it.1) (apart_always (SameConn c) doing h)

  -- bytes are fed
  bytes_mine : (bytes : List ℕ) → bytes_if (eqb id id) bytes ++ [] ≡ bytes
  bytes_mine bytes = ap (λ b. bytes_if b bytes ++ []) (eq-eqb id id refl) ∙ append-nil bytes

  bytes_others : (bytes : List ℕ) (other : StreamReader) → (other ≡ OfConn id → ⊥) → brought_by other (call.Recv id) (answer.Data bytes) ++ [] ≡ []
  bytes_others bytes (OfChild pipe other) apart = refl
  bytes_others bytes (OfConn other) apart = at (eqb other id) refl
    where
      at : (b : Bool) → eqb other id ≡ b → bytes_if b bytes ++ [] ≡ []
      at true is = absurd (apart (ap OfConn (eqb-true other id is)))
      at false is = refl

  -- of one that isn't closing
  data_fed : (bytes : List ℕ) (c : Connection) (waiter : Option ℕ) → is_closing c.sender ≡ false
      → ConnFed c (Heard (call.Recv id) (answer.Data bytes) ∷ []) (record c { receiver = record { reader = feed bytes c.receiver.reader; waiter = waiter } })
  data_fed bytes c waiter open_ =
      record {
        schedule = tt;
        fed = one_taken c.receiver (is_closing c.sender) (bytes_if (eqb id id) bytes ++ []) []
            (record { reader = feed bytes c.receiver.reader; waiter = waiter }) (is_closing c.sender)
            (ap (λ more. c.receiver.reader.held ++ more) (bytes_mine bytes)) refl open_;
        others = bytes_others bytes;
      }

  fed_with : (bytes : List ℕ) (c : Connection) → is_closing c.sender ≡ false → (waiter : Option ℕ)
      → Always (ConnHears c (answer.Data bytes)) (and_then (wakes (feed bytes c.receiver.reader) waiter) (λ after. Ends (record c { receiver = after })))
  fed_with bytes c open_ None = data_fed bytes c None open_
  fed_with bytes c open_ (Some future) =
      let it = data_fed bytes c None open_ in record { schedule = it.schedule; fed = it.fed; others = it.others }

  received_fed : (c : Connection) → is_closing c.sender ≡ false → (came : Answer) → Always (ConnHears c came) (hears id c came)
  received_fed c open_ (answer.Data bytes) = fed_with bytes c open_ c.receiver.waiter
  received_fed c open_ answer.Eof = unheard c answer.Eof refl (on its_receiver receive_end c) (ends_apart c c (same_conn c))
  received_fed c open_ answer.Again = unheard c answer.Again refl (Ends c) (same_conn c)
  received_fed c open_ answer.Broken = unheard c answer.Broken refl (fail id c) (fails_apart c)
  received_fed c open_ (answer.Turn now items) = unheard c (answer.Turn now items) refl (fail id c) (fails_apart c)
  received_fed c open_ answer.Done = unheard c answer.Done refl (fail id c) (fails_apart c)
  received_fed c open_ answer.Refused = unheard c answer.Refused refl (fail id c) (fails_apart c)
  received_fed c open_ answer.Conn = unheard c answer.Conn refl (fail id c) (fails_apart c)
  received_fed c open_ (answer.Took count) = unheard c (answer.Took count) refl (fail id c) (fails_apart c)
  received_fed c open_ answer.Child = unheard c answer.Child refl (fail id c) (fails_apart c)
  received_fed c open_ (answer.Extra bytes) = unheard c (answer.Extra bytes) refl (fail id c) (fails_apart c)

  -- one that reads isn't closing
  reads_open : (began closing more : Bool) → began && not closing && more ≡ true → closing ≡ false
  reads_open began false more is = refl
  reads_open true true more is = absurd (false≢true is)
  reads_open false true more is = absurd (false≢true is)

  pub readable_fed : (c : Connection) → Always (ConnFed c) (readable id c)
  readable_fed c =
      always_if (ConnFed c) (reads c) (Asks (call.Recv id) (hears id c)) (Ends c)
      (λ is came fit. received_fed c (reads_open c.began (is_closing c.sender) (takes_more c.receiver) is) came)
      (λ is. conn_still c (Ends c) (same_conn c))

-- ---- a child
module _ (id : ℕ) where
  child_on : (Holds : Sender → Type 0) (change : Sender → Doing Sender) (p mid : Child) → Apart Holds (change mid.stdin) → SameChild p mid
      → Apart (SameChild p) (on its_stdin change mid)
  child_on Holds change p mid h same =
      apart_then {A = Sender} {B = Child} Holds (SameChild p) (change mid.stdin) (λ after. Ends (record mid { stdin = after })) h (λ after any. same)

  child_asks : {R : Type 0} (change : Sender → Doing (Sender × R)) (p : Child)
      → Apart (λ (done : Sender × R). Closes p.stdin done.0) (change p.stdin)
      → Apart (λ (done : Child × R). SameChild p done.0) (asked_on its_stdin change p)
  child_asks {R} change p h =
      apart_then {A = Sender × R} {B = Child × R} (λ done. Closes p.stdin done.0) (λ done. SameChild p done.0) (change p.stdin)
      (λ done. Ends (record p { stdin = done.0 }, done.1)) h (λ done any. (refl, refl))

  child_loses : (broken : Bool) (p mid : Child) → SameChild p mid → Apart (SameChild p) (lose_child id broken mid)
  child_loses broken p mid same =
      child_on IsClosed (lose_sender (inlet id) broken) p mid (lose_apart (inlet id) (λ bytes. refl) refl (λ b. refl) broken mid.stdin) same

  pub child_lose_apart : (broken : Bool) (p : Child) → Apart (SameChild p) (lose_child id broken p)
  child_lose_apart broken p = child_loses broken p p (refl, refl)

  fed_apart : (p mid : Child) → SameChild p mid → Apart (SameChild p) (fed id mid)
  fed_apart p mid same =
      apart_if (SameChild p) (is_flushed mid.stdin && is_closing mid.stdin) (lose_child id false mid) (Ends mid) (child_loses false p mid same) same

  pub feed_apart : (p : Child) → Apart (SameChild p) (feed_more id p)
  feed_apart p =
      apart_if (SameChild p) (has_unsent p.stdin) (and_then (on its_stdin (send_more (inlet id)) p) (fed id)) (Ends p)
      (apart_then (SameChild p) (SameChild p) (on its_stdin (send_more (inlet id)) p) (fed id)
      (child_on (Closes p.stdin) (send_more (inlet id)) p p (send_apart (inlet id) (λ bytes. refl) refl (λ b. refl) p.stdin) (refl, refl))
      (λ mid same. fed_apart p mid same)) (refl, refl)

  pub break_apart : (p : Child) → Apart (SameChild p) (break_stdin id p)
  break_apart p =
      apart_if (SameChild p) p.stdin.writer.ended (Ends p) (on its_stdin (schedule_loss (inlet id) (has_unsent p.stdin)) p) (refl, refl)
      (child_on (Closes p.stdin) (schedule_loss (inlet id) (has_unsent p.stdin)) p p
      (schedule_apart (inlet id) (λ bytes. refl) refl (λ b. refl) (has_unsent p.stdin) p.stdin) (refl, refl))

  pub exit_apart : (code : ℤ) (p : Child) → Apart (SameChild p) (exit_with code p)
  exit_apart code p =
      apart_if (SameChild p) (is_none p.code) (settles p.waits _ (Ends (record p { code = Some code; waits = [] }))) (Ends p)
      (apart_told (SameChild p) p.waits _ (Ends (record p { code = Some code; waits = [] })) (refl, refl)) (refl, refl)

  pub child_close_apart : (p : Child) → Apart (SameChild p) (close_child id p)
  child_close_apart p =
      child_on (Closes p.stdin) (close_sender (inlet id)) p p (close_apart (inlet id) (λ bytes. refl) refl (λ b. refl) p.stdin) (refl, refl)

  pub child_write_apart : (piece : List ℕ) (p : Child) → Apart (λ (done : Child × Wrote). SameChild p done.0) (write_child id piece p)
  child_write_apart piece p =
      apart_if (λ (done : Child × Wrote). SameChild p done.0) (is_closing p.stdin) (Ends (p, wrote.Done)) (asked_on its_stdin (write (inlet id) piece) p)
      (refl, refl) (child_asks {R = Wrote} (write (inlet id) piece) p (write_apart (inlet id) (λ bytes. refl) refl (λ b. refl) piece p.stdin))

  pub child_drain_apart : (yielded : Bool) (next : ℕ) (p : Child) → Apart (λ (done : Child × Drain). SameChild p done.0) (drain_child yielded next p)
  child_drain_apart yielded next p = child_asks {R = Drain} (drain_sender yielded next) p (drain_apart yielded next p.stdin)

  pub child_limits_apart : (high low : Option ℤ) (p : Child) → Apart (λ (done : Child × Limited). SameChild p done.0) (limits_child high low p)
  child_limits_apart high low p = (refl, refl)

  pub child_wait_apart : (next : ℕ) (p : Child) → Apart (λ (done : Child × ChildWait). SameChild p done.0) (wait_child next p)
  child_wait_apart next p = at p.code
    where
      at : (code : Option ℤ) → Apart (λ (done : Child × ChildWait). SameChild p done.0) (elim code [
        | Some code ↦ Ends (p, wait_as.Code code)
        | None ↦ Changes MakeFuture (Ends (record p { waits = p.waits ++ next ∷ [] }, wait_as.Waits next))
      ])
      at (Some code) = (refl, refl)
      at None = (refl, refl)

  pub kill_apart : (p : Child) → Apart (SameChild p) (kill id p)
  kill_apart p =
      apart_if (SameChild p) (is_none p.code) (asks (call.Kill id) (Ends p)) (Ends p) (refl, λ came. (refl, refl)) (refl, refl)
