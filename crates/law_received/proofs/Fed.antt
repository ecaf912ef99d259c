-- What is done to all that is open, told of each reader: what it held, and what it was told and received then, is what went and
-- what it holds after.
use Rattle.std.proofs.Common.{◌≡◌, ◌⊎◌, inl, inr, ℕ, ℤ, Bool, true, false, cond, eqb, List, [], ◌++◌, Option, Some, None, slice_get, slice_set}
use Rattle.std.proofs.Common.{refl, sym, ap, subst, ◌∙◌}
use Rattle.std.specs.Prelude.{is_some}
use Rattle.std.proofs.lemmas.Bool.{cases_eq, eq-eqb}
use Rattle.std.proofs.lemmas.List.{append-nil}
use Rattle.model_pump.specs.declared.stream.Stream.{Stream}
use Rattle.model_pump.specs.declared.stream.Stream.TheVariants as stream
use Rattle.model_value.specs.declared.action.Action.TheVariants as action
use Rattle.model_value.specs.declared.action.ChildItem.{ChildItem}
use Rattle.model_value.specs.declared.action.ChildItem.TheVariants.{Broken, Out, OutEnd, Errs, ErrsEnd, Exit}
use Rattle.model_stream.specs.Children.{Child, break_stdin, exit_with, its_pipe, tell_child}
use Rattle.model_stream.specs.Connections.{Connection}
use Rattle.model_stream.specs.Doing.{Ends, and_then, on}
use Rattle.model_stream.specs.Reading.{Reading, feed, feed_eof}
use Rattle.model_stream.specs.Receivers.{Receiver, receive, receive_end, takes_more, wakes}
use Rattle.model_stream.specs.Requests.{StreamReader, OfConn, OfChild}
use Rattle.model_stream.specs.Senders.{is_closing}
use Rattle.model_stream.specs.Streams.{Streams}
use Rattle.law_cancel.proofs.Lookups.{get-set_other, get-set_same}
use Rattle.law_stream.specs.Ways.{Move, told_by}
use Rattle.law_stream.specs.ReceiverOrder.{has_failed}
use Rattle.law_received.specs.Feeding.{AreFed, AreOnlyFed, IsFed, News, OneFed, fed_if, is_told}
use Rattle.law_received.specs.Calm.{Apart, SameChild}
use Rattle.law_received.specs.Readers.{bytes_if, conn_receiver, conn_shut, held_of, is_news_to, is_shut, may_hear, pipe_hears}
use Rattle.law_received.specs.Readers.{pipe_receiver, received, receiver_of, told_to}
use Rattle.law_received.proofs.Apart.{BringNone, apart_map}
use Rattle.law_received.proofs.Own.{OwnFed, break_apart, exit_apart, one_came, one_still, one_taken}
use Rattle.law_received.proofs.Still.{now_child, now_conn, same_pipe}

-- ---- what goes
pub only_fed : (news : News) (s : Streams) (moves : List Move) (after : Streams) → AreOnlyFed news s moves after → AreFed news s moves after
only_fed news s moves after only =
    record { schedule = only.schedule; each = λ from. ([], (only.each from).0, (only.each from).1) }

-- something did, unless this holds
pub record FedBy (None_ : Type 0) (from : StreamReader) (news : News) (s : Streams) (moves : List Move) (after : Streams) : Type 0 where
  pub went : List ℕ
  pub let_go : List ℕ
  pub is : IsFed from news went let_go s moves after
  pub none : None_ → went ≡ []

-- ---- who reads
abbrev pub number_of : StreamReader → ℕ
number_of (OfConn id) = id
number_of (OfChild pipe id) = id

pub which_conn : (from : StreamReader) (id : ℕ) → (from ≡ OfConn id) ⊎ (from ≡ OfConn id → ⊥)
which_conn (OfChild pipe other) id = inr (λ e. let bad : ⊥ = cc in bad)
which_conn (OfConn other) id = at (cases_eq other id)
  where
    at : (other ≡ id) ⊎ (other ≡ id → ⊥) → (OfConn other ≡ OfConn id) ⊎ (OfConn other ≡ OfConn id → ⊥)
    at (inl e) = inl (ap OfConn e)
    at (inr n) = inr (λ e. n (ap number_of e))

pub other_conn : (s : Streams) (id : ℕ) (after : Connection) (other : StreamReader) → (other ≡ OfConn id → ⊥)
    → receiver_of other (now_conn s id after) ≡ receiver_of other s
other_conn s id after (OfConn other) apart =
    ap conn_receiver (get-set_other s.connections id other after (λ same. apart (ap OfConn (sym same))))
other_conn s id after (OfChild pipe other) apart = refl

other_shut : (s : Streams) (id : ℕ) (after : Connection) (other : StreamReader) → (other ≡ OfConn id → ⊥)
    → is_shut other (now_conn s id after) ≡ is_shut other s
other_shut s id after (OfConn other) apart =
    ap conn_shut (get-set_other s.connections id other after (λ same. apart (ap OfConn (sym same))))
other_shut s id after (OfChild pipe other) apart = refl

pub other_child : (s : Streams) (id : ℕ) (after : Child) (other : StreamReader) → ((pipe : Stream) → other ≡ OfChild pipe id → ⊥)
    → receiver_of other (now_child s id after) ≡ receiver_of other s
other_child s id after (OfConn other) apart = refl
other_child s id after (OfChild pipe other) apart =
    ap (pipe_receiver pipe) (get-set_other s.children id other after (λ same. apart pipe (ap (OfChild pipe) (sym same))))

-- ---- a connection's reader is fed, or read
module _ (s : Streams) (id : ℕ) (c after : Connection) (moves : List Move) (e : slice_get s.connections id ≡ Some c) where
  hear_same : (from : StreamReader) → may_hear from (now_conn s id after) ≡ may_hear from s
  hear_same (OfConn other) = refl
  hear_same (OfChild pipe other) = refl

  -- another, where nothing comes to it
  conn_apart : (it : StreamReader) → (it ≡ OfConn id → ⊥) → received it (told_by moves) ≡ [] → IsFed it None [] [] s moves (now_conn s id after)
  conn_apart it apart none =
      record {
        fed = one_came (receiver_of it s) (is_shut it s) (received it (told_by moves)) [] [] [] (receiver_of it (now_conn s id after))
            (is_shut it (now_conn s id after)) none
            (one_still (receiver_of it s) (is_shut it s) (receiver_of it (now_conn s id after)) (is_shut it (now_conn s id after))
            (ap (λ (r : Receiver). r.reader.held) (other_conn s id after it apart)) (ap has_failed (other_conn s id after it apart))
            (λ is. other_shut s id after it apart ∙ is));
        hears = λ told is. hear_same it ∙ is;
      }

  pub conn_by : (took let_go : List ℕ)
      → OwnFed (OfConn id) c.receiver (is_closing c.sender) took let_go moves after.receiver (is_closing after.sender) → (from : StreamReader)
      → FedBy (took ≡ []) from None s moves (now_conn s id after)
  conn_by took let_go own from = at from (which_conn from id)
    where
      mine : FedBy (took ≡ []) (OfConn id) None s moves (now_conn s id after)
      mine =
          record {
            went = took;
            let_go = let_go;
            is = record {
              fed = subst (λ o. OneFed (conn_receiver (slice_get s.connections id)) (conn_shut (slice_get s.connections id))
                  (received (OfConn id) (told_by moves)) took let_go (conn_receiver o) (conn_shut o))
                  (sym (get-set_same s.connections id c after e))
                  (subst (λ o. OneFed (conn_receiver o) (conn_shut o) (received (OfConn id) (told_by moves)) took let_go after.receiver
                  (is_closing after.sender)) (sym e) own.fed);
              hears = λ told is. is;
            };
            none = λ none. none;
          }

      at : (it : StreamReader) → (it ≡ OfConn id) ⊎ (it ≡ OfConn id → ⊥) → FedBy (took ≡ []) it None s moves (now_conn s id after)
      at it (inl same) = subst (λ x. FedBy (took ≡ []) x None s moves (now_conn s id after)) (sym same) mine
      at it (inr apart) = record { went = []; let_go = []; is = conn_apart it apart (own.others it apart); none = λ none. refl }

  pub conn_fed : (took let_go : List ℕ)
      → OwnFed (OfConn id) c.receiver (is_closing c.sender) took let_go moves after.receiver (is_closing after.sender)
      → AreFed None s moves (now_conn s id after)
  conn_fed took let_go own =
      record {
        schedule = own.schedule;
        each = λ from. ((conn_by took let_go own from).went, (conn_by took let_go own from).let_go, (conn_by took let_go own from).is);
      }

  pub conn_only : (let_go : List ℕ) → OwnFed (OfConn id) c.receiver (is_closing c.sender) [] let_go moves after.receiver (is_closing after.sender)
      → AreOnlyFed None s moves (now_conn s id after)
  conn_only let_go own =
      record {
        schedule = own.schedule;
        each = λ from.
            let by = conn_by [] let_go own from in
            (by.let_go, subst (λ went. IsFed from None went by.let_go s moves (now_conn s id after)) (by.none refl) by.is);
      }

-- ---- a child's pipes are told, or read
pub record PipeFed (pipe : Stream) (id : ℕ) (news : News) (went : List ℕ) (r after : Receiver) : Type 0 where
  pub order : r.reader.held ++ fed_if (takes_more r) (OfChild pipe id) news ≡ went ++ after.reader.held
  pub failed : has_failed after ≡ has_failed r
  pub takes : is_told (OfChild pipe id) news ≡ false → takes_more r ≡ true → takes_more after ≡ true

module _ (s : Streams) (id : ℕ) (p after : Child) (moves : List Move) (news : News) (e : slice_get s.children id ≡ Some p) (none : BringNone moves)
    (untold : (other : StreamReader) → ((pipe : Stream) → other ≡ OfChild pipe id → ⊥) → fed_if (may_hear other s) other news ≡ []) where
  abbrev PipesFed : (Stream → List ℕ) → Type 0
  PipesFed wents = (pipe : Stream) → PipeFed pipe id news (wents pipe) ((its_pipe pipe).get p) ((its_pipe pipe).get after)

  abbrev WentNone : (Stream → List ℕ) → Type 0
  WentNone wents = (pipe : Stream) → wents pipe ≡ []

  hear_apart : (it : StreamReader) → ((pipe : Stream) → it ≡ OfChild pipe id → ⊥) → may_hear it (now_child s id after) ≡ may_hear it s
  hear_apart (OfConn number) other = refl
  hear_apart (OfChild pipe number) other =
      ap (pipe_hears pipe) (get-set_other s.children id number after (λ same. other pipe (ap (OfChild pipe) (sym same))))

  shut_same : (it : StreamReader) → is_shut it s ≡ true → is_shut it (now_child s id after) ≡ true
  shut_same (OfConn number) is = is
  shut_same (OfChild pipe number) is = is

  child_apart : (from : StreamReader) → ((pipe : Stream) → from ≡ OfChild pipe id → ⊥) → IsFed from news [] [] s moves (now_child s id after)
  child_apart from other =
      record {
        fed = one_came (receiver_of from s) (is_shut from s) (fed_if (may_hear from s) from news ++ received from (told_by moves)) [] [] []
            (receiver_of from (now_child s id after)) (is_shut from (now_child s id after))
            (ap (λ bytes. bytes ++ received from (told_by moves)) (untold from other) ∙ none.bring from)
            (one_still (receiver_of from s) (is_shut from s) (receiver_of from (now_child s id after)) (is_shut from (now_child s id after))
            (ap (λ (r : Receiver). r.reader.held) (other_child s id after from other)) (ap has_failed (other_child s id after from other))
            (shut_same from));
        hears = λ told may. hear_apart from other ∙ may;
      }

  child_mine : (pipe : Stream) (went : List ℕ) → PipeFed pipe id news went ((its_pipe pipe).get p) ((its_pipe pipe).get after)
      → IsFed (OfChild pipe id) news went [] s moves (now_child s id after)
  child_mine pipe went it =
      let was : pipe_hears pipe (slice_get s.children id) ≡ takes_more ((its_pipe pipe).get p) = ap (pipe_hears pipe) e in
      let is : slice_get (slice_set s.children id after) id ≡ Some after = get-set_same s.children id p after e in
      let now : receiver_of (OfChild pipe id) (now_child s id after) ≡ (its_pipe pipe).get after = ap (pipe_receiver pipe) is in
      let old : receiver_of (OfChild pipe id) s ≡ (its_pipe pipe).get p = ap (pipe_receiver pipe) e in
      record {
        fed = one_taken (receiver_of (OfChild pipe id) s) false
            (fed_if (may_hear (OfChild pipe id) s) (OfChild pipe id) news ++ received (OfChild pipe id) (told_by moves)) went
            (receiver_of (OfChild pipe id) (now_child s id after)) false
            (ap (λ bytes. held_of (OfChild pipe id) s ++ (fed_if (may_hear (OfChild pipe id) s) (OfChild pipe id) news ++ bytes))
            (none.bring (OfChild pipe id))
            ∙ ap (λ bytes. held_of (OfChild pipe id) s ++ bytes) (append-nil (fed_if (may_hear (OfChild pipe id) s) (OfChild pipe id) news))
            ∙ ap (λ b. held_of (OfChild pipe id) s ++ fed_if b (OfChild pipe id) news) was
            ∙ ap (λ (r : Receiver). r.reader.held ++ fed_if (takes_more ((its_pipe pipe).get p)) (OfChild pipe id) news) old
            ∙ it.order
            ∙ ap (λ (r : Receiver). went ++ r.reader.held) (sym now))
            (ap has_failed now ∙ it.failed ∙ sym (ap has_failed old)) refl;
        hears = λ told may. ap (pipe_hears pipe) is ∙ it.takes told (sym was ∙ may);
      }

  pub child_by : (wents : Stream → List ℕ) → PipesFed wents → (from : StreamReader) → FedBy (WentNone wents) from news s moves (now_child s id after)
  child_by wents own (OfConn number) =
      record { went = []; let_go = []; is = child_apart (OfConn number) (λ pipe is. let bad : ⊥ = cc in bad); none = λ none_. refl }
  child_by wents own (OfChild pipe number) = by (cases_eq number id)
    where
      by : (number ≡ id) ⊎ (number ≡ id → ⊥) → FedBy (WentNone wents) (OfChild pipe number) news s moves (now_child s id after)
      by (inl same) =
          subst (λ n. FedBy (WentNone wents) (OfChild pipe n) news s moves (now_child s id after)) (sym same)
          (record { went = wents pipe; let_go = []; is = child_mine pipe (wents pipe) (own pipe); none = λ none_. none_ pipe })
      by (inr differ) =
          record { went = []; let_go = []; is = child_apart (OfChild pipe number) (λ other is. differ (ap number_of is)); none = λ none_. refl }

  pub child_fed : (wents : Stream → List ℕ) → PipesFed wents → AreFed news s moves (now_child s id after)
  child_fed wents own =
      record {
        schedule = none.schedule;
        each = λ from. ((child_by wents own from).went, (child_by wents own from).let_go, (child_by wents own from).is);
      }

  pub child_only : PipesFed (λ pipe. []) → AreOnlyFed news s moves (now_child s id after)
  child_only own =
      record {
        schedule = none.schedule;
        each = λ from.
            let by = child_by (λ pipe. []) own from in
            (by.let_go, subst (λ went. IsFed from news went by.let_go s moves (now_child s id after)) (by.none (λ pipe. refl)) by.is);
      }

-- ---- what a child tells its pipes
pub bytes_none : (b : Bool) → bytes_if b [] ≡ []
bytes_none true = refl
bytes_none false = refl

not_true : (b : Bool) → b ≡ true → b ≡ false → ⊥
not_true true is none = let bad : ⊥ = cc in bad
not_true false is none = let bad : ⊥ = cc in bad

-- a pipe that is told nothing
untold : (pipe : Stream) (id : ℕ) (told : ChildItem (List ℕ)) (r after : Receiver) → told_to (OfChild pipe id) (action.ChildItem id told) ≡ []
    → after ≡ r → PipeFed pipe id (Some (id, told)) [] r after
untold pipe id told r after none same =
    record {
      order = ap (λ bytes. r.reader.held ++ bytes_if (takes_more r) bytes) none ∙ ap (λ bytes. r.reader.held ++ bytes) (bytes_none (takes_more r))
          ∙ append-nil r.reader.held ∙ ap (λ (it : Receiver). it.reader.held) (sym same);
      failed = ap has_failed same;
      takes = λ is may. ap takes_more same ∙ may;
    }

-- one that is told bytes, where it takes more
told_bytes : (pipe : Stream) (id : ℕ) (told : ChildItem (List ℕ)) (bytes : List ℕ) (b : Bool) (r after : Receiver) → takes_more r ≡ b
    → told_to (OfChild pipe id) (action.ChildItem id told) ≡ bytes → is_news_to (OfChild pipe id) (action.ChildItem id told) ≡ true
    → after.reader.held ≡ r.reader.held ++ bytes_if b bytes → has_failed after ≡ has_failed r → PipeFed pipe id (Some (id, told)) [] r after
told_bytes pipe id told bytes b r after is brings news held failed =
    record {
      order = ap (λ more. r.reader.held ++ bytes_if (takes_more r) more) brings
          ∙ ap (λ it. r.reader.held ++ bytes_if it bytes) is ∙ sym held;
      failed = failed;
      takes = λ none may. absurd (not_true (is_news_to (OfChild pipe id) (action.ChildItem id told)) news none);
    }

module _ (id : ℕ) (p : Child) where
  abbrev pub PipesTold : ChildItem (List ℕ) → Child → Type 0
  PipesTold told after = (pipe : Stream) → PipeFed pipe id (Some (id, told)) [] ((its_pipe pipe).get p) ((its_pipe pipe).get after)

  -- one whose pipes stay
  same_told : (told : ChildItem (List ℕ)) (after : Child) → ((pipe : Stream) → told_to (OfChild pipe id) (action.ChildItem id told) ≡ [])
      → SameChild p after → PipesTold told after
  same_told told after none same pipe =
      untold pipe id told ((its_pipe pipe).get p) ((its_pipe pipe).get after) (none pipe) (same_pipe p after same pipe)

  broken_none : (pipe : Stream) → told_to (OfChild pipe id) (action.ChildItem id Broken) ≡ []
  broken_none stream.Out = refl
  broken_none stream.Errs = refl

  exit_none : (pipe : Stream) (code : ℤ) → told_to (OfChild pipe id) (action.ChildItem id (Exit code)) ≡ []
  exit_none stream.Out code = refl
  exit_none stream.Errs code = refl

  mine : (bytes : List ℕ) → bytes_if (eqb id id) bytes ≡ bytes
  mine bytes = ap (λ b. bytes_if b bytes) (eq-eqb id id refl)

  fed_out : (bytes : List ℕ) (b : Bool) → takes_more p.out ≡ b → (out : Receiver) → out.reader.held ≡ p.out.reader.held ++ bytes_if b bytes
      → has_failed out ≡ has_failed p.out → PipesTold (Out bytes) (record p { out = out })
  fed_out bytes b is out held failed stream.Out =
      told_bytes stream.Out id (Out bytes) bytes b p.out out is (mine bytes) (eq-eqb id id refl) held failed
  fed_out bytes b is out held failed stream.Errs = untold stream.Errs id (Out bytes) p.errs p.errs refl refl

  ended_out : (out : Receiver) → out.reader.held ≡ p.out.reader.held → has_failed out ≡ has_failed p.out
      → PipesTold OutEnd (record p { out = out })
  ended_out out held failed stream.Out =
      told_bytes stream.Out id OutEnd [] (takes_more p.out) p.out out refl refl (eq-eqb id id refl)
      (held ∙ sym (append-nil p.out.reader.held) ∙ ap (λ bytes. p.out.reader.held ++ bytes) (sym (bytes_none (takes_more p.out)))) failed
  ended_out out held failed stream.Errs = untold stream.Errs id OutEnd p.errs p.errs refl refl

  fed_errs : (bytes : List ℕ) (b : Bool) → takes_more p.errs ≡ b → (errs : Receiver) → errs.reader.held ≡ p.errs.reader.held ++ bytes_if b bytes
      → has_failed errs ≡ has_failed p.errs → PipesTold (Errs bytes) (record p { errs = errs })
  fed_errs bytes b is errs held failed stream.Errs =
      told_bytes stream.Errs id (Errs bytes) bytes b p.errs errs is (mine bytes) (eq-eqb id id refl) held failed
  fed_errs bytes b is errs held failed stream.Out = untold stream.Out id (Errs bytes) p.out p.out refl refl

  ended_errs : (errs : Receiver) → errs.reader.held ≡ p.errs.reader.held → has_failed errs ≡ has_failed p.errs
      → PipesTold ErrsEnd (record p { errs = errs })
  ended_errs errs held failed stream.Errs =
      told_bytes stream.Errs id ErrsEnd [] (takes_more p.errs) p.errs errs refl refl (eq-eqb id id refl)
      (held ∙ sym (append-nil p.errs.reader.held) ∙ ap (λ bytes. p.errs.reader.held ++ bytes) (sym (bytes_none (takes_more p.errs)))) failed
  ended_errs errs held failed stream.Out = untold stream.Out id ErrsEnd p.out p.out refl refl

  -- a pipe is woken, and stands so
  wakes_out : (Then : Child → Type 0) (reader : Reading) (waiter : Option ℕ)
      → ((out : Receiver) → out.reader ≡ reader → Then (record p { out = out }))
      → Apart Then (and_then (wakes reader waiter) (λ out. Ends (record p { out = out })))
  wakes_out Then reader None each = each (record { reader = reader; waiter = None }) refl
  wakes_out Then reader (Some future) each = each (record { reader = reader; waiter = None }) refl

  wakes_errs : (Then : Child → Type 0) (reader : Reading) (waiter : Option ℕ)
      → ((errs : Receiver) → errs.reader ≡ reader → Then (record p { errs = errs }))
      → Apart Then (and_then (wakes reader waiter) (λ errs. Ends (record p { errs = errs })))
  wakes_errs Then reader None each = each (record { reader = reader; waiter = None }) refl
  wakes_errs Then reader (Some future) each = each (record { reader = reader; waiter = None }) refl

  tell_out : (bytes : List ℕ) (b : Bool) → takes_more p.out ≡ b
      → Apart (PipesTold (Out bytes)) (cond b (on (its_pipe stream.Out) (receive bytes) p) (Ends p))
  tell_out bytes true is =
      wakes_out (PipesTold (Out bytes)) (feed bytes p.out.reader) p.out.waiter
      (λ out same.
      fed_out bytes true is out (ap (λ (reader : Reading). reader.held) same) (ap (λ (reader : Reading). is_some reader.failed) same))
  tell_out bytes false is = fed_out bytes false is p.out (sym (append-nil p.out.reader.held)) refl

  tell_out_end : (b : Bool) → Apart (PipesTold OutEnd) (cond b (on (its_pipe stream.Out) receive_end p) (Ends p))
  tell_out_end true =
      wakes_out (PipesTold OutEnd) (feed_eof p.out.reader) p.out.waiter (λ out same.
      ended_out out (ap (λ (reader : Reading). reader.held) same) (ap (λ (reader : Reading). is_some reader.failed) same))
  tell_out_end false = ended_out p.out refl refl

  tell_errs : (bytes : List ℕ) (b : Bool) → takes_more p.errs ≡ b
      → Apart (PipesTold (Errs bytes)) (cond b (on (its_pipe stream.Errs) (receive bytes) p) (Ends p))
  tell_errs bytes true is =
      wakes_errs (PipesTold (Errs bytes)) (feed bytes p.errs.reader) p.errs.waiter
      (λ errs same.
      fed_errs bytes true is errs (ap (λ (reader : Reading). reader.held) same) (ap (λ (reader : Reading). is_some reader.failed) same))
  tell_errs bytes false is = fed_errs bytes false is p.errs (sym (append-nil p.errs.reader.held)) refl

  tell_errs_end : (b : Bool) → Apart (PipesTold ErrsEnd) (cond b (on (its_pipe stream.Errs) receive_end p) (Ends p))
  tell_errs_end true =
      wakes_errs (PipesTold ErrsEnd) (feed_eof p.errs.reader) p.errs.waiter (λ errs same.
      ended_errs errs (ap (λ (reader : Reading). reader.held) same) (ap (λ (reader : Reading). is_some reader.failed) same))
  tell_errs_end false = ended_errs p.errs refl refl

  pub tell_apart : (told : ChildItem (List ℕ)) → Apart (PipesTold told) (tell_child id told p)
  tell_apart Broken =
      apart_map (SameChild p) (PipesTold Broken) (break_stdin id p) (λ after same. same_told Broken after broken_none same) (break_apart id p)
  tell_apart (Out bytes) = tell_out bytes (takes_more p.out) refl
  tell_apart OutEnd = tell_out_end (takes_more p.out)
  tell_apart (Errs bytes) = tell_errs bytes (takes_more p.errs) refl
  tell_apart ErrsEnd = tell_errs_end (takes_more p.errs)
  tell_apart (Exit code) =
      apart_map (SameChild p) (PipesTold (Exit code)) (exit_with code p) (λ after same. same_told (Exit code) after (λ pipe. exit_none pipe code) same)
      (exit_apart id code p)
