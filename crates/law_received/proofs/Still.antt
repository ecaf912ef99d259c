-- Where each reader holds what it held and none fails, whatever else is done to all that is open.
use Rattle.std.proofs.Common.{◌≡◌, ◌⊎◌, inl, inr, ℕ, true, List, [], ◌∷◌, ◌++◌, Option, Some, None, length, slice_get, slice_set}
use Rattle.std.proofs.Common.{refl, sym, ap, ◌∙◌}
use Rattle.std.proofs.lemmas.Bool.{cases_eq, false≢true}
use Rattle.model_pump.specs.declared.stream.Stream.{Stream}
use Rattle.model_pump.specs.declared.stream.Stream.TheVariants as stream
use Rattle.model_stream.specs.Children.{Child, its_pipe, new_child}
use Rattle.model_stream.specs.Connections.{Connection}
use Rattle.model_stream.specs.Doing.{Doing}
use Rattle.model_stream.specs.Receivers.{Receiver, new_receiver, takes_more}
use Rattle.model_stream.specs.Requests.{StreamReader, OfConn, OfChild}
use Rattle.model_stream.specs.Streams.{Streams, add_child, add_connection}
use Rattle.law_cancel.proofs.Lookups.{get-push_last, get-push_other, get-set_kept, get-set_other, get-set_same}
use Rattle.law_stream.specs.Ways.{Move, Always, told_by}
use Rattle.law_stream.proofs.Along.{always_map}
use Rattle.law_stream.specs.ReceiverOrder.{has_failed}
use Rattle.law_received.specs.Feeding.{AreOnlyFed, News, OneFed, fed_if}
use Rattle.law_received.specs.Calm.{Apart, SameChild, SameConn}
use Rattle.law_received.specs.Readers.{conn_receiver, conn_shut, held_of, is_failed, is_shut, may_hear, pipe_hears}
use Rattle.law_received.specs.Readers.{pipe_receiver, received, receiver_of}
use Rattle.law_received.proofs.Apart.{BringNone, apart_always}
use Rattle.law_received.proofs.Own.{one_came, one_still}

-- ---- where each holds what it held, and none fails
pub record Still (s after : Streams) : Type 0 where
  pub holds : (from : StreamReader) → held_of from after ≡ held_of from s
  pub fails : (from : StreamReader) → is_failed from after ≡ is_failed from s
  pub shuts : (from : StreamReader) → is_shut from s ≡ true → is_shut from after ≡ true
  pub hears : (from : StreamReader) → may_hear from s ≡ true → may_hear from after ≡ true

pub still_same : (s : Streams) → Still s s
still_same s = record { holds = λ from. refl; fails = λ from. refl; shuts = λ from is. is; hears = λ from is. is }

pub still_both : (s mid after : Streams) → Still s mid → Still mid after → Still s after
still_both s mid after first second =
    record {
      holds = λ from. second.holds from ∙ first.holds from;
      fails = λ from. second.fails from ∙ first.fails from;
      shuts = λ from is. second.shuts from (first.shuts from is);
      hears = λ from is. second.hears from (first.hears from is);
    }

pub still_fed : (news : News) (s : Streams) (moves : List Move) (after : Streams) → BringNone moves
    → ((from : StreamReader) → fed_if (may_hear from s) from news ≡ []) → Still s after → AreOnlyFed news s moves after
still_fed news s moves after none told still =
    record {
      schedule = none.schedule;
      each = λ from. (
        [],
        record {
          fed = one_came (receiver_of from s) (is_shut from s) (fed_if (may_hear from s) from news ++ received from (told_by moves)) [] [] []
              (receiver_of from after) (is_shut from after)
              (ap (λ bytes. bytes ++ received from (told_by moves)) (told from) ∙ none.bring from) (one_of from);
          hears = λ is may. still.hears from may;
        },
      );
    }
  where
    one_of : (from : StreamReader) → OneFed (receiver_of from s) (is_shut from s) [] [] [] (receiver_of from after) (is_shut from after)
    one_of from =
        one_still (receiver_of from s) (is_shut from s) (receiver_of from after) (is_shut from after) (still.holds from) (still.fails from)
        (still.shuts from)

pub apart_fed : {A : Type 0} (now : A → Streams) (s : Streams) (doing : Doing A) → Apart (λ result. Still s (now result)) doing
    → Always (λ moves result. AreOnlyFed None s moves (now result)) doing
apart_fed now s doing h =
    always_map (λ moves result. BringNone moves × Still s (now result)) (λ moves result. AreOnlyFed None s moves (now result)) doing
    (λ moves result it. still_fed None s moves (now result) it.0 (λ from. refl) it.1) (apart_always (λ result. Still s (now result)) doing h)

-- ---- one connection or child changes
abbrev pub now_conn : Streams → ℕ → Connection → Streams
now_conn s id c = record s { connections = slice_set s.connections id c }

abbrev pub now_child : Streams → ℕ → Child → Streams
now_child s id p = record s { children = slice_set s.children id p }

abbrev conn_holds : Option Connection → List ℕ
conn_holds o = (conn_receiver o).reader.held

abbrev pipe_holds : Stream → Option Child → List ℕ
pipe_holds pipe o = (pipe_receiver pipe o).reader.held

pub still_conn : (s : Streams) (id : ℕ) (c after : Connection) → slice_get s.connections id ≡ Some c → SameConn c after → Still s (now_conn s id after)
still_conn s id c after e same = record { holds = holds; fails = fails; shuts = shuts; hears = hears }
  where
    holds : (from : StreamReader) → held_of from (now_conn s id after) ≡ held_of from s
    holds (OfConn other) = get-set_kept conn_holds s.connections id other c after e same.held
    holds (OfChild pipe other) = refl

    fails : (from : StreamReader) → is_failed from (now_conn s id after) ≡ is_failed from s
    fails (OfConn other) = get-set_kept (λ o. has_failed (conn_receiver o)) s.connections id other c after e same.failed
    fails (OfChild pipe other) = refl

    shut : (other : ℕ) → (id ≡ other) ⊎ (id ≡ other → ⊥) → is_shut (OfConn other) s ≡ true → is_shut (OfConn other) (now_conn s id after) ≡ true
    shut other (inl mine) is =
        ap (λ n. conn_shut (slice_get (slice_set s.connections id after) n)) (sym mine)
        ∙ ap conn_shut (get-set_same s.connections id c after e)
        ∙ same.closes (sym (ap conn_shut e) ∙ ap (λ n. conn_shut (slice_get s.connections n)) mine ∙ is)
    shut other (inr apart) is = ap conn_shut (get-set_other s.connections id other after apart) ∙ is

    shuts : (from : StreamReader) → is_shut from s ≡ true → is_shut from (now_conn s id after) ≡ true
    shuts (OfConn other) is = shut other (cases_eq id other) is
    shuts (OfChild pipe other) is = is

    hears : (from : StreamReader) → may_hear from s ≡ true → may_hear from (now_conn s id after) ≡ true
    hears (OfConn other) is = is
    hears (OfChild pipe other) is = is

pub same_pipe : (p after : Child) → SameChild p after → (pipe : Stream) → (its_pipe pipe).get after ≡ (its_pipe pipe).get p
same_pipe p after same stream.Out = same.0
same_pipe p after same stream.Errs = same.1

pub still_child : (s : Streams) (id : ℕ) (p after : Child) → slice_get s.children id ≡ Some p → SameChild p after → Still s (now_child s id after)
still_child s id p after e same = record { holds = holds; fails = fails; shuts = shuts; hears = hears }
  where
    holds : (from : StreamReader) → held_of from (now_child s id after) ≡ held_of from s
    holds (OfConn other) = refl
    holds (OfChild pipe other) =
        get-set_kept (pipe_holds pipe) s.children id other p after e (ap (λ (r : Receiver). r.reader.held) (same_pipe p after same pipe))

    fails : (from : StreamReader) → is_failed from (now_child s id after) ≡ is_failed from s
    fails (OfConn other) = refl
    fails (OfChild pipe other) =
        get-set_kept (λ o. has_failed (pipe_receiver pipe o)) s.children id other p after e (ap has_failed (same_pipe p after same pipe))

    shuts : (from : StreamReader) → is_shut from s ≡ true → is_shut from (now_child s id after) ≡ true
    shuts (OfConn other) is = is
    shuts (OfChild pipe other) is = is

    hears : (from : StreamReader) → may_hear from s ≡ true → may_hear from (now_child s id after) ≡ true
    hears (OfConn other) is = is
    hears (OfChild pipe other) is =
        get-set_kept (pipe_hears pipe) s.children id other p after e (ap takes_more (same_pipe p after same pipe)) ∙ is

-- where connections and children are the same
pub still_alike : (s after : Streams) → after.connections ≡ s.connections → after.children ≡ s.children → Still s after
still_alike s after conns childs =
    record {
      holds = λ from. ap (λ (r : Receiver). r.reader.held) (same from);
      fails = λ from. ap has_failed (same from);
      shuts = shuts;
      hears = hears;
    }
  where
    same : (from : StreamReader) → receiver_of from after ≡ receiver_of from s
    same (OfConn id) = ap (λ cs. conn_receiver (slice_get cs id)) conns
    same (OfChild pipe id) = ap (λ ps. pipe_receiver pipe (slice_get ps id)) childs

    shuts : (from : StreamReader) → is_shut from s ≡ true → is_shut from after ≡ true
    shuts (OfConn id) is = ap (λ cs. conn_shut (slice_get cs id)) conns ∙ is
    shuts (OfChild pipe id) is = is

    hears : (from : StreamReader) → may_hear from s ≡ true → may_hear from after ≡ true
    hears (OfConn id) is = is
    hears (OfChild pipe id) is = ap (λ ps. pipe_hears pipe (slice_get ps id)) childs ∙ is

-- ---- one is opened
get-end : {X : Type 0} (xs : List X) → slice_get xs (length xs) ≡ None
get-end [] = refl
get-end (x ∷ xs) = get-end xs

pub still_opened : (s : Streams) (c : Connection) → c.receiver ≡ new_receiver → Still s (add_connection c s)
still_opened s c new =
    record {
      holds = λ from. ap (λ (r : Receiver). r.reader.held) (same from);
      fails = λ from. ap has_failed (same from);
      shuts = shuts;
      hears = hears;
    }
  where
    at : (other : ℕ) → (other ≡ length s.connections) ⊎ (other ≡ length s.connections → ⊥)
        → receiver_of (OfConn other) (add_connection c s) ≡ receiver_of (OfConn other) s
    at other (inl last) =
        ap (λ n. conn_receiver (slice_get (s.connections ++ c ∷ []) n)) last ∙ ap conn_receiver (get-push_last s.connections c) ∙ new
        ∙ sym (ap (λ n. conn_receiver (slice_get s.connections n)) last ∙ ap conn_receiver (get-end s.connections))
    at other (inr before) = ap conn_receiver (get-push_other s.connections c other before)

    same : (from : StreamReader) → receiver_of from (add_connection c s) ≡ receiver_of from s
    same (OfConn other) = at other (cases_eq other (length s.connections))
    same (OfChild pipe other) = refl

    shut : (other : ℕ) → (other ≡ length s.connections) ⊎ (other ≡ length s.connections → ⊥) → is_shut (OfConn other) s ≡ true
        → is_shut (OfConn other) (add_connection c s) ≡ true
    shut other (inl last) is =
        absurd (false≢true
        (sym (ap (λ n. conn_shut (slice_get s.connections n)) last ∙ ap conn_shut (get-end s.connections)) ∙ is))
    shut other (inr before) is = ap conn_shut (get-push_other s.connections c other before) ∙ is

    shuts : (from : StreamReader) → is_shut from s ≡ true → is_shut from (add_connection c s) ≡ true
    shuts (OfConn other) is = shut other (cases_eq other (length s.connections)) is
    shuts (OfChild pipe other) is = is

    hears : (from : StreamReader) → may_hear from s ≡ true → may_hear from (add_connection c s) ≡ true
    hears (OfConn other) is = is
    hears (OfChild pipe other) is = is

new_pipe : (closed_future : ℕ) (pipe : Stream) → (its_pipe pipe).get (new_child closed_future) ≡ new_receiver
new_pipe closed_future stream.Out = refl
new_pipe closed_future stream.Errs = refl

pub still_launched : (s : Streams) (closed_future : ℕ) → Still s (add_child (new_child closed_future) s)
still_launched s closed_future =
    record {
      holds = λ from. ap (λ (r : Receiver). r.reader.held) (same from);
      fails = λ from. ap has_failed (same from);
      shuts = shuts;
      hears = hears;
    }
  where
    at : (pipe : Stream) (other : ℕ) → (other ≡ length s.children) ⊎ (other ≡ length s.children → ⊥)
        → receiver_of (OfChild pipe other) (add_child (new_child closed_future) s) ≡ receiver_of (OfChild pipe other) s
    at pipe other (inl last) =
        ap (λ n. pipe_receiver pipe (slice_get (s.children ++ new_child closed_future ∷ []) n)) last
        ∙ ap (pipe_receiver pipe) (get-push_last s.children (new_child closed_future)) ∙ new_pipe closed_future pipe
        ∙ sym (ap (λ n. pipe_receiver pipe (slice_get s.children n)) last ∙ ap (pipe_receiver pipe) (get-end s.children))
    at pipe other (inr before) = ap (pipe_receiver pipe) (get-push_other s.children (new_child closed_future) other before)

    same : (from : StreamReader) → receiver_of from (add_child (new_child closed_future) s) ≡ receiver_of from s
    same (OfConn other) = refl
    same (OfChild pipe other) = at pipe other (cases_eq other (length s.children))

    shuts : (from : StreamReader) → is_shut from s ≡ true → is_shut from (add_child (new_child closed_future) s) ≡ true
    shuts (OfConn other) is = is
    shuts (OfChild pipe other) is = is

    hear : (pipe : Stream) (other : ℕ) → (other ≡ length s.children) ⊎ (other ≡ length s.children → ⊥)
        → may_hear (OfChild pipe other) s ≡ true → may_hear (OfChild pipe other) (add_child (new_child closed_future) s) ≡ true
    hear pipe other (inl last) is =
        absurd (false≢true
        (sym (ap (λ n. pipe_hears pipe (slice_get s.children n)) last ∙ ap (pipe_hears pipe) (get-end s.children)) ∙ is))
    hear pipe other (inr before) is = ap (pipe_hears pipe) (get-push_other s.children (new_child closed_future) other before) ∙ is

    hears : (from : StreamReader) → may_hear from s ≡ true → may_hear from (add_child (new_child closed_future) s) ≡ true
    hears (OfConn other) is = is
    hears (OfChild pipe other) is = hear pipe other (cases_eq other (length s.children)) is
