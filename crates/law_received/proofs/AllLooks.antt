-- A look of a read at one of all that is open takes a front of what it holds, and nothing of another; and a read that is given
-- up takes nothing.
use Rattle.std.proofs.Common.{◌≡◌, ◌⊎◌, inl, inr, ℕ, Bool, true, false, cond, eqb, not, ◌&&◌, List, [], ◌++◌, Option, Some, None}
use Rattle.std.proofs.Common.{slice_get, slice_set, refl, sym, ap, subst, ◌∙◌}
use Rattle.std.specs.Prelude.{is_some}
use Rattle.std.proofs.lemmas.Bool.{cases_eq}
use Rattle.std.proofs.lemmas.List.{append-nil}
use Rattle.model_pump.specs.declared.stream.Stream.{Stream}
use Rattle.model_pump.specs.declared.stream.Stream.TheVariants as stream
use Rattle.model_stream.specs.declared.answers.StreamGot.TheVariants as got_as
use Rattle.model_stream.specs.Children.{Child, its_pipe}
use Rattle.model_stream.specs.Connections.{Connection, its_receiver}
use Rattle.model_stream.specs.Doing.{Doing, Ends, and_then, asked_on}
use Rattle.model_stream.specs.Reading.{ReadOp, Reading}
use Rattle.model_stream.specs.Receivers as receiver
use Rattle.model_stream.specs.Receivers.{AllGot, Receiver, StreamGot}
use Rattle.model_stream.specs.Requests.{StreamReader, OfConn, OfChild}
use Rattle.model_stream.specs.Requests.{read, read_all, read_as, give_up_read}
use Rattle.model_stream.specs.Senders.{is_closing}
use Rattle.model_stream.specs.Streams.{Streams}
use Rattle.law_cancel.proofs.Lookups.{get-set_kept, get-set_same}
use Rattle.law_stream.specs.Ways.{Move, Always, told_by}
use Rattle.law_stream.proofs.Along.{always_into, always_map}
use Rattle.law_stream.specs.ReceiverOrder.{has_failed, went}
use Rattle.law_received.specs.Readers.{conn_receiver, held_of, is_failed, is_shut, may_hear, pipe_hears, pipe_receiver, received, receiver_of}
use Rattle.law_received.proofs.Apart.{BringNone, bring_nothing}
use Rattle.law_received.specs.Feeding.{AreFed, IsLook}
use Rattle.law_received.proofs.Fed.{PipeFed, child_fed, conn_fed, number_of, only_fed, other_child, other_conn, which_conn}
use Rattle.law_received.proofs.Still.{Still, now_child, now_conn, still_conn, still_fed, still_same}
use Rattle.law_received.proofs.Own.{one_came, one_look}
use Rattle.law_received.proofs.Looks.{Looks, all_looks, read_looks}

-- ---- what is read
-- what a look at one does, which takes this
pub record LooksAt (from : StreamReader) (took : List ℕ) (s : Streams) (moves : List Move) (after : Streams) : Type 0 where
  pub fed : AreFed None s moves after
  pub none : BringNone moves
  pub look : IsLook from took s after

-- where none has the number, nothing is held
vainly : (from : StreamReader) (s : Streams) → LooksAt from [] s [] s
vainly from s =
    record {
      fed = only_fed None s [] s (still_fed None s [] s bring_nothing (λ other. refl) (still_same s));
      none = bring_nothing;
      look = record { takes = refl; leaves = λ is. refl; others = λ other apart. refl; failed = λ which. refl };
    }

conn_looks : (s : Streams) (id : ℕ) (c : Connection) (r : Receiver) (took : List ℕ) (moves : List Move) → slice_get s.connections id ≡ Some c
    → Looks took c.receiver moves r → LooksAt (OfConn id) took s moves (now_conn s id (record c { receiver = r }))
conn_looks s id c r took moves e it =
    record {
      fed = conn_fed s id c (record c { receiver = r }) moves e took []
          (record {
            schedule = it.none.schedule;
            fed = one_came c.receiver (is_closing c.sender) (received (OfConn id) (told_by moves)) [] took [] r (is_closing c.sender)
                (it.none.bring (OfConn id)) (one_look c.receiver (is_closing c.sender) took r (is_closing c.sender) it.look (λ is. is));
            others = λ other apart. it.none.bring other;
          });
      none = it.none;
      look = record { takes = takes; leaves = leaves; others = others; failed = λ which. fails which (which_conn which id) };
    }
  where
    now : receiver_of (OfConn id) (now_conn s id (record c { receiver = r })) ≡ r
    now = ap conn_receiver (get-set_same s.connections id c (record c { receiver = r }) e)

    was : receiver_of (OfConn id) s ≡ c.receiver
    was = ap conn_receiver e

    takes : held_of (OfConn id) s ≡ took ++ held_of (OfConn id) (now_conn s id (record c { receiver = r }))
    takes =
        ap (λ (x : Receiver). x.reader.held) was ∙ sym (append-nil c.receiver.reader.held) ∙ it.look.order
        ∙ ap (λ (x : Receiver). took ++ x.reader.held) (sym now)

    leaves : is_failed (OfConn id) s ≡ true → held_of (OfConn id) (now_conn s id (record c { receiver = r })) ≡ held_of (OfConn id) s
    leaves is =
        ap (λ (x : Receiver). x.reader.held) now ∙ it.look.leaves (sym (ap has_failed was) ∙ is) ∙ sym (ap (λ (x : Receiver). x.reader.held) was)

    others : (other : StreamReader) → (other ≡ OfConn id → ⊥) → held_of other (now_conn s id (record c { receiver = r })) ≡ held_of other s
    others other apart = ap (λ (x : Receiver). x.reader.held) (other_conn s id (record c { receiver = r }) other apart)

    fails : (which : StreamReader) → (which ≡ OfConn id) ⊎ (which ≡ OfConn id → ⊥)
        → is_failed which (now_conn s id (record c { receiver = r })) ≡ is_failed which s
    fails which (inl same) =
        subst (λ x. is_failed x (now_conn s id (record c { receiver = r })) ≡ is_failed x s) (sym same)
        (ap has_failed now ∙ it.look.same ∙ sym (ap has_failed was))
    fails which (inr apart) = ap has_failed (other_conn s id (record c { receiver = r }) which apart)

-- the other pipe stays
abbrev put_pipe : Stream → Receiver → Child → Child
put_pipe pipe r p = (its_pipe pipe).put r p

-- what is taken of each
abbrev took_of : Stream → List ℕ → Stream → List ℕ
took_of stream.Out took stream.Out = took
took_of stream.Errs took stream.Errs = took
took_of stream.Out took stream.Errs = []
took_of stream.Errs took stream.Out = []

pipes_read : (pipe : Stream) (id : ℕ) (p : Child) (r : Receiver) (took : List ℕ) (moves : List Move) → Looks took ((its_pipe pipe).get p) moves r
    → (other : Stream) → PipeFed other id None (took_of pipe took other) ((its_pipe other).get p) ((its_pipe other).get (put_pipe pipe r p))
pipes_read stream.Out id p r took moves it stream.Out =
    record { order = it.look.order; failed = it.look.same; takes = λ told may. it.takes may }
pipes_read stream.Errs id p r took moves it stream.Errs =
    record { order = it.look.order; failed = it.look.same; takes = λ told may. it.takes may }
pipes_read stream.Out id p r took moves it stream.Errs =
    record { order = append-nil p.errs.reader.held; failed = refl; takes = λ told may. may }
pipes_read stream.Errs id p r took moves it stream.Out =
    record { order = append-nil p.out.reader.held; failed = refl; takes = λ told may. may }

got_pipe : (pipe : Stream) (r : Receiver) (p : Child) → (its_pipe pipe).get (put_pipe pipe r p) ≡ r
got_pipe stream.Out r p = refl
got_pipe stream.Errs r p = refl

other_pipe : (pipe other : Stream) (r : Receiver) (p : Child) → (other ≡ pipe → ⊥) → (its_pipe other).get (put_pipe pipe r p) ≡ (its_pipe other).get p
other_pipe stream.Out stream.Out r p apart = absurd (apart refl)
other_pipe stream.Errs stream.Errs r p apart = absurd (apart refl)
other_pipe stream.Out stream.Errs r p apart = refl
other_pipe stream.Errs stream.Out r p apart = refl

-- whether each failed, where the one that was read stays so
put_failed : (pipe other : Stream) (r : Receiver) (p : Child) → has_failed r ≡ has_failed ((its_pipe pipe).get p)
    → has_failed ((its_pipe other).get (put_pipe pipe r p)) ≡ has_failed ((its_pipe other).get p)
put_failed stream.Out stream.Out r p same = same
put_failed stream.Errs stream.Errs r p same = same
put_failed stream.Out stream.Errs r p same = refl
put_failed stream.Errs stream.Out r p same = refl

child_looks : (pipe : Stream) (s : Streams) (id : ℕ) (p : Child) (r : Receiver) (took : List ℕ) (moves : List Move) → slice_get s.children id ≡ Some p
    → Looks took ((its_pipe pipe).get p) moves r → LooksAt (OfChild pipe id) took s moves (now_child s id (put_pipe pipe r p))
child_looks pipe s id p r took moves e it =
    record {
      fed = child_fed s id p (put_pipe pipe r p) moves None e it.none (λ other apart. refl) (took_of pipe took) (pipes_read pipe id p r took moves it);
      none = it.none;
      look = record { takes = takes; leaves = leaves; others = others; failed = fails };
    }
  where
    is : slice_get (slice_set s.children id (put_pipe pipe r p)) id ≡ Some (put_pipe pipe r p)
    is = get-set_same s.children id p (put_pipe pipe r p) e

    now : receiver_of (OfChild pipe id) (now_child s id (put_pipe pipe r p)) ≡ r
    now = ap (pipe_receiver pipe) is ∙ got_pipe pipe r p

    was : receiver_of (OfChild pipe id) s ≡ (its_pipe pipe).get p
    was = ap (pipe_receiver pipe) e

    takes : held_of (OfChild pipe id) s ≡ took ++ held_of (OfChild pipe id) (now_child s id (put_pipe pipe r p))
    takes =
        ap (λ (x : Receiver). x.reader.held) was ∙ sym (append-nil ((its_pipe pipe).get p).reader.held) ∙ it.look.order
        ∙ ap (λ (x : Receiver). took ++ x.reader.held) (sym now)

    leaves : is_failed (OfChild pipe id) s ≡ true
        → held_of (OfChild pipe id) (now_child s id (put_pipe pipe r p)) ≡ held_of (OfChild pipe id) s
    leaves failed =
        ap (λ (x : Receiver). x.reader.held) now ∙ it.look.leaves (sym (ap has_failed was) ∙ failed)
        ∙ sym (ap (λ (x : Receiver). x.reader.held) was)

    fails : (which : StreamReader) → is_failed which (now_child s id (put_pipe pipe r p)) ≡ is_failed which s
    fails (OfConn number) = refl
    fails (OfChild stream_ number) =
        get-set_kept (λ o. has_failed (pipe_receiver stream_ o)) s.children id number p (put_pipe pipe r p) e
        (put_failed pipe stream_ r p it.look.same)

    others : (other : StreamReader) → (other ≡ OfChild pipe id → ⊥) → held_of other (now_child s id (put_pipe pipe r p)) ≡ held_of other s
    others (OfConn number) apart = refl
    others (OfChild stream_ number) apart = at (cases_eq number id)
      where
        at : (number ≡ id) ⊎ (number ≡ id → ⊥)
            → held_of (OfChild stream_ number) (now_child s id (put_pipe pipe r p)) ≡ held_of (OfChild stream_ number) s
        at (inl same) =
            ap (λ n. held_of (OfChild stream_ n) (now_child s id (put_pipe pipe r p))) same
            ∙ ap (λ (x : Receiver). x.reader.held)
            (ap (pipe_receiver stream_) is ∙ other_pipe pipe stream_ r p (λ piped. apart (ap (λ x. OfChild x number) piped ∙ ap (OfChild pipe) same))
            ∙ sym (ap (pipe_receiver stream_) e))
            ∙ sym (ap (λ n. held_of (OfChild stream_ n) s) same)
        at (inr differ) =
            ap (λ (x : Receiver). x.reader.held)
            (other_child s id (put_pipe pipe r p) (OfChild stream_ number) (λ other piped. differ (ap number_of piped)))

-- whatever is looked at, by what the answer says it took
module _ {R : Type 0} (other : R) (took : R → List ℕ → List ℕ → List ℕ) (none : (held : List ℕ) → took other held held ≡ [])
    (change : Receiver → Doing (Receiver × R))
    (looks : (r : Receiver) → Always (λ moves (done : Receiver × R). Looks (took done.1 r.reader.held done.0.reader.held) r moves done.0) (change r)) where
  abbrev pub Looked : StreamReader → Streams → List Move → Streams × R → Type 0
  Looked from s moves done = LooksAt from (took done.1 (held_of from s) (held_of from done.0)) s moves done.0

  in_vain : (from : StreamReader) (s : Streams) → Looked from s [] (s, other)
  in_vain from s = subst (λ bytes. LooksAt from bytes s [] s) (sym (none (held_of from s))) (vainly from s)

  pub reads_by : (from : StreamReader) (s : Streams) → Always (Looked from s) (read_as other from change s)
  reads_by (OfConn id) s = at (slice_get s.connections id) refl
    where
      at : (found : Option Connection) → slice_get s.connections id ≡ found → Always (Looked (OfConn id) s) (elim found [
        | None ↦ Ends (s, other)
        | Some one ↦ and_then (asked_on its_receiver change one) (λ done. Ends (now_conn s id done.0, done.1))
      ])
      at None e = in_vain (OfConn id) s
      at (Some c) e =
          always_into (Looked (OfConn id) s) (λ (done : Connection × R). (now_conn s id done.0, done.1)) (asked_on its_receiver change c)
          (always_into {A = Receiver × R} {B = Connection × R} (λ moves done. Looked (OfConn id) s moves (now_conn s id done.0, done.1))
          (λ done. (record c { receiver = done.0 }, done.1)) (change c.receiver)
          (always_map (λ moves (done : Receiver × R). Looks (took done.1 c.receiver.reader.held done.0.reader.held) c.receiver moves done.0)
          (λ moves (done : Receiver × R). Looked (OfConn id) s moves (now_conn s id (record c { receiver = done.0 }), done.1)) (change c.receiver)
          (λ moves done it. found c e moves done it) (looks c.receiver)))
        where
          found : (c : Connection) → slice_get s.connections id ≡ Some c → (moves : List Move) (done : Receiver × R)
              → Looks (took done.1 c.receiver.reader.held done.0.reader.held) c.receiver moves done.0
              → Looked (OfConn id) s moves (now_conn s id (record c { receiver = done.0 }), done.1)
          found c e moves done it =
              let after = record c { receiver = done.0 } in
              subst (λ (x : Receiver). LooksAt (OfConn id) (took done.1 (held_of (OfConn id) s) x.reader.held) s moves (now_conn s id after))
              (sym (ap conn_receiver (get-set_same s.connections id c after e)))
              (subst (λ (x : Receiver). LooksAt (OfConn id) (took done.1 x.reader.held done.0.reader.held) s moves (now_conn s id after))
              (sym (ap conn_receiver e)) (conn_looks s id c done.0 _ moves e it))
  reads_by (OfChild pipe id) s = at (slice_get s.children id) refl
    where
      at : (found : Option Child) → slice_get s.children id ≡ found → Always (Looked (OfChild pipe id) s) (elim found [
        | None ↦ Ends (s, other)
        | Some one ↦ and_then (asked_on (its_pipe pipe) change one) (λ done. Ends (now_child s id done.0, done.1))
      ])
      at None e = in_vain (OfChild pipe id) s
      at (Some p) e =
          always_into (Looked (OfChild pipe id) s) (λ (done : Child × R). (now_child s id done.0, done.1)) (asked_on (its_pipe pipe) change p)
          (always_into {A = Receiver × R} {B = Child × R} (λ moves done. Looked (OfChild pipe id) s moves (now_child s id done.0, done.1))
          (λ done. (put_pipe pipe done.0 p, done.1)) (change ((its_pipe pipe).get p))
          (always_map
          (λ moves (done : Receiver × R).
          Looks (took done.1 ((its_pipe pipe).get p).reader.held done.0.reader.held) ((its_pipe pipe).get p) moves done.0)
          (λ moves (done : Receiver × R). Looked (OfChild pipe id) s moves (now_child s id (put_pipe pipe done.0 p), done.1)) (change ((its_pipe pipe).get p))
          (λ moves done it. found p e moves done it) (looks ((its_pipe pipe).get p))))
        where
          found : (p : Child) → slice_get s.children id ≡ Some p → (moves : List Move) (done : Receiver × R)
              → Looks (took done.1 ((its_pipe pipe).get p).reader.held done.0.reader.held) ((its_pipe pipe).get p) moves done.0
              → Looked (OfChild pipe id) s moves (now_child s id (put_pipe pipe done.0 p), done.1)
          found p e moves done it =
              let after = put_pipe pipe done.0 p in
              subst (λ (x : Receiver). LooksAt (OfChild pipe id) (took done.1 (held_of (OfChild pipe id) s) x.reader.held) s moves (now_child s id after))
              (sym (ap (pipe_receiver pipe) (get-set_same s.children id p after e) ∙ got_pipe pipe done.0 p))
              (subst (λ (x : Receiver). LooksAt (OfChild pipe id) (took done.1 x.reader.held done.0.reader.held) s moves (now_child s id after))
              (sym (ap (pipe_receiver pipe) e)) (child_looks pipe s id p done.0 _ moves e it))

pub reads : (next : ℕ) (op : ReadOp) (from : StreamReader) (s : Streams)
    → Always (λ moves (done : Streams × StreamGot). LooksAt from (went done.1 (held_of from s) (held_of from done.0)) s moves done.0) (read next op from s)
reads next op from s =
    reads_by {R = StreamGot} (got_as.Bytes []) went (λ held. refl) (receiver.read next op) (read_looks next op) from s

pub reads_all : (next : ℕ) (from : StreamReader) (s : Streams)
    → Always (λ moves (done : Streams × AllGot). LooksAt from done.1.taken s moves done.0) (read_all next from s)
reads_all next from s =
    reads_by {R = AllGot} (record { taken = []; got = got_as.Bytes [] }) (λ said before after. said.taken) (λ held. refl) (receiver.read_all next)
    (all_looks next) from s

pub read_look : (next : ℕ) (op : ReadOp) (from : StreamReader) (s : Streams)
    → Always (λ moves (done : Streams × StreamGot). IsLook from (went done.1 (held_of from s) (held_of from done.0)) s done.0) (read next op from s)
read_look next op from s =
    always_map (λ moves (done : Streams × StreamGot). LooksAt from (went done.1 (held_of from s) (held_of from done.0)) s moves done.0)
    (λ moves (done : Streams × StreamGot). IsLook from (went done.1 (held_of from s) (held_of from done.0)) s done.0) (read next op from s)
    (λ moves done it. it.look) (reads next op from s)

pub all_look : (next : ℕ) (from : StreamReader) (s : Streams)
    → Always (λ moves (done : Streams × AllGot). IsLook from done.1.taken s done.0) (read_all next from s)
all_look next from s =
    always_map (λ moves (done : Streams × AllGot). LooksAt from done.1.taken s moves done.0)
    (λ moves (done : Streams × AllGot). IsLook from done.1.taken s done.0) (read_all next from s) (λ moves done it. it.look) (reads_all next from s)

-- ---- a read that is given up holds what it held
given_up : (on : ℕ) (r : Receiver) → (receiver.give_up_read on r).reader ≡ r.reader
given_up on r = at r.waiter
  where
    by : (b : Bool) → (cond b (record r { waiter = None }) r).reader ≡ r.reader
    by true = refl
    by false = refl

    at : (waiter : Option ℕ)
        → (elim waiter as (λ o. Receiver) [ None ↦ r | Some future ↦ cond (eqb future on) (record r { waiter = None }) r ]).reader ≡ r.reader
    at None = refl
    at (Some future) = by (eqb future on)

put_same : (pipe other : Stream) (r : Receiver) (p : Child) → r.reader ≡ ((its_pipe pipe).get p).reader
    → ((its_pipe other).get (put_pipe pipe r p)).reader ≡ ((its_pipe other).get p).reader
put_same stream.Out stream.Out r p same = same
put_same stream.Errs stream.Errs r p same = same
put_same stream.Out stream.Errs r p same = refl
put_same stream.Errs stream.Out r p same = refl

still_put : (s : Streams) (id : ℕ) (p after : Child) → slice_get s.children id ≡ Some p
    → ((pipe : Stream) → ((its_pipe pipe).get after).reader ≡ ((its_pipe pipe).get p).reader) → Still s (now_child s id after)
still_put s id p after e same = record { holds = holds; fails = fails; shuts = shuts; hears = hears }
  where
    fails : (from : StreamReader) → is_failed from (now_child s id after) ≡ is_failed from s
    fails (OfConn other) = refl
    fails (OfChild pipe other) =
        get-set_kept (λ o. has_failed (pipe_receiver pipe o)) s.children id other p after e (ap (λ (x : Reading). is_some x.failed) (same pipe))

    shuts : (from : StreamReader) → is_shut from s ≡ true → is_shut from (now_child s id after) ≡ true
    shuts (OfConn other) is = is
    shuts (OfChild pipe other) is = is

    holds : (from : StreamReader) → held_of from (now_child s id after) ≡ held_of from s
    holds (OfConn other) = refl
    holds (OfChild pipe other) =
        get-set_kept (λ o. (pipe_receiver pipe o).reader.held) s.children id other p after e (ap (λ (x : Reading). x.held) (same pipe))

    hears : (from : StreamReader) → may_hear from s ≡ true → may_hear from (now_child s id after) ≡ true
    hears (OfConn other) is = is
    hears (OfChild pipe other) is =
        get-set_kept (pipe_hears pipe) s.children id other p after e (ap (λ (x : Reading). not x.eof && not x.paused) (same pipe)) ∙ is

pub gives_up : (on : ℕ) (from : StreamReader) (s : Streams) → Still s (give_up_read on from s)
gives_up on (OfConn id) s = at (slice_get s.connections id) refl
  where
    at : (found : Option Connection) → slice_get s.connections id ≡ found → Still s (elim found [
      | None ↦ s
      | Some c ↦ now_conn s id (record c { receiver = receiver.give_up_read on c.receiver })
    ])
    at None e = still_same s
    at (Some c) e =
        still_conn s id c (record c { receiver = receiver.give_up_read on c.receiver }) e
        (record {
          held = ap (λ (x : Reading). x.held) (given_up on c.receiver);
          failed = ap (λ (x : Reading). is_some x.failed) (given_up on c.receiver);
          closes = λ is. is;
        })
gives_up on (OfChild pipe id) s = at (slice_get s.children id) refl
  where
    at : (found : Option Child) → slice_get s.children id ≡ found → Still s (elim found [
      | None ↦ s
      | Some p ↦ now_child s id ((its_pipe pipe).put (receiver.give_up_read on ((its_pipe pipe).get p)) p)
    ])
    at None e = still_same s
    at (Some p) e =
        let r = receiver.give_up_read on ((its_pipe pipe).get p) in
        still_put s id p (put_pipe pipe r p) e (λ other. put_same pipe other r p (given_up on ((its_pipe pipe).get p)))
