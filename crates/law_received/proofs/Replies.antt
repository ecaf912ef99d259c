-- What a read gives, at its start and at each waking, is what comes next of what was received.
use Rattle.std.proofs.Common.{◌≡◌, ℕ, true, false, List, [], ◌∷◌, ◌++◌, None, length, take, drop}
use Rattle.std.proofs.Common.{refl, sym, ap, subst, ◌∙◌}
use Rattle.std.proofs.lemmas.List.{append-nil}
use Rattle.model_wire.specs.Event.{Event}
use Rattle.model_wire.specs.Trace.{End}
use Rattle.model_loop.specs.Futures.{next_future}
use Rattle.model_stream.specs.declared.answers.StreamGot.TheVariants as got
use Rattle.model_stream.specs.Reading.{ReadOp}
use Rattle.model_stream.specs.Receivers.{AllGot, StreamGot}
use Rattle.model_stream.specs.Requests.{StreamReader, give_up_read, read, read_all}
use Rattle.model_stream.specs.Streams.{Streams}
use Rattle.model_machine.specs.Replies.{Halts, reads, reads_all, reads_all_as, reads_as, waits_no_more}
use Rattle.model_machine.specs.State.{State, with_streams}
use Rattle.law_reach.specs.Reaches.{IsUnmet}
use Rattle.law_stream.specs.Ways.{Move, told_by}
use Rattle.law_stream.specs.ReceiverOrder.{went}
use Rattle.law_walk.specs.Walks.{In}
use Rattle.law_walk.proofs.Trees.{IsMoved, does_comes}
use Rattle.law_received.specs.Gives.{GivesAll, GivesNext, IsNext}
use Rattle.law_stream.specs.ReaderSteps.{taken_away}
use Rattle.law_stream.proofs.ReceiverOrder.{took_none}
use Rattle.law_received.specs.Readers.{held_of, is_failed, received}
use Rattle.law_received.proofs.AllLooks as fed
use Rattle.law_received.proofs.AllLooks.{LooksAt, gives_up}
use Rattle.law_received.specs.Received.{AreReadInOrder, IsRead, read_of}
use Rattle.law_received.proofs.Going.{moves_say, read_is, received_then, step_order, taken_front}

dropped_front : (front back : List ℕ) → drop (length front) (front ++ back) ≡ back
dropped_front [] back = refl
dropped_front (byte ∷ front) back = dropped_front front back

-- ---- what a look takes is next
-- one that is read, or another, from which nothing is taken
look_on : (from : StreamReader) (took : List ℕ) (s : Streams) (events : List Event) (after : Streams) (later_ : List Event)
    → received from later_ ≡ received from events ++ [] → held_of from s ≡ took ++ held_of from after → is_failed from after ≡ is_failed from s
    → (is_failed from s ≡ true → held_of from after ≡ held_of from s) → (read let_go : List ℕ) → IsRead from read let_go s events
    → IsRead from (read ++ took) let_go after later_
look_on from took s events after later_ came takes same leaves read let_go it =
    record {
      order = came ∙ ap (λ bytes. bytes ++ []) it.order
          ∙ step_order read let_go (held_of from s) [] took [] (held_of from after) (is_failed from s) (append-nil (held_of from s) ∙ takes) it.kept
          (λ failed. took_none (held_of from s) took (held_of from after) (append-nil (held_of from s) ∙ takes) (leaves failed))
          ∙ ap (λ bytes. (read ++ took) ++ (bytes ++ held_of from after)) (append-nil let_go);
      kept = λ unfailed. it.kept (sym same ∙ unfailed);
      empty = λ failed. leaves (sym same ∙ failed) ∙ it.empty (sym same ∙ failed);
    }

module _ {S : Type 0} where
  looks_next : (s t : State S) (from : StreamReader) (took : List ℕ) (moves : List Move) (after : Streams) → IsMoved s moves t
      → LooksAt from took s.streams moves after → IsNext from took s (with_streams after t)
  looks_next s t from took moves after moved it = record { read = read; others = others }
    where
      came : (which : StreamReader) → received which (s.events ++ told_by moves) ≡ received which s.events ++ []
      came which =
          received_then which None s.events (told_by moves) (moves_say which moves)
          ∙ ap (λ bytes. received which s.events ++ bytes) (it.none.bring which)

      read : (before let_go : List ℕ) → IsRead from before let_go s.streams s.events → IsRead from (before ++ took) let_go after t.events
      read before let_go is =
          subst (λ events. IsRead from (before ++ took) let_go after events) (sym moved.events)
          (look_on from took s.streams s.events after (s.events ++ told_by moves) (came from) it.look.takes (it.look.failed from) it.look.leaves
          before let_go is)

      others : (other : StreamReader) → (other ≡ from → ⊥) → (before let_go : List ℕ) → IsRead other before let_go s.streams s.events
          → IsRead other before let_go after t.events
      others other apart before let_go is =
          let same = it.look.others other apart in
          subst (λ events. IsRead other before let_go after events) (sym moved.events)
          (subst (λ all. IsRead other all let_go after (s.events ++ told_by moves)) (append-nil before)
          (look_on other [] s.streams s.events after (s.events ++ told_by moves) (came other) (sym same) (it.look.failed other) (λ failed. same)
          before let_go is))

  -- ---- a read
  answered : (task : ℕ) (op : ReadOp) (from : StreamReader) (s t : State S) (said : StreamGot) (before after : List ℕ)
      → IsNext from (went said before after) s t → GivesNext from s (reads_as task op from said t)
  answered task op from s t (got.Bytes bytes) before after it = record { bytes = bytes; is = refl; next = it }
  answered task op from s t (got.Raises fault) before after it = record { bytes = went (got.Raises fault) before after; next = it }
  answered task op from s t (got.Waits on) before after it = record { read = it.read; others = it.others }

  unmet : (from : StreamReader) (s : State S) (how : End) (last : State S) → IsUnmet how → GivesNext from s (Halts how last)
  unmet from s how last is = is

  pub reads_next : (task : ℕ) (op : ReadOp) (from : StreamReader) (s : State S) → GivesNext from s (reads task op from s)
  reads_next task op from s =
      does_comes Halts (GivesNext from s) (unmet from s) (read (next_future s.loop.parts) op from s.streams)
      (λ (done : Streams × StreamGot) now. reads_as task op from done.1 (with_streams done.0 now)) s
      (λ moves (done : Streams × StreamGot). LooksAt from (went done.1 (held_of from s.streams) (held_of from done.0)) s.streams moves done.0)
      (fed.reads (next_future s.loop.parts) op from s.streams)
      (λ moves done t moved it.
      answered task op from s (with_streams done.0 t) done.1 (held_of from s.streams) (held_of from done.0)
      (looks_next s t from (went done.1 (held_of from s.streams) (held_of from done.0)) moves done.0 moved it))

  -- ---- a read of all
  all_answered : (task : ℕ) (from : StreamReader) (taken look : List ℕ) (s t : State S) (said : StreamGot) → IsNext from look s t
      → GivesAll from task taken s (reads_all_as task from (taken ++ look) said t)
  all_answered task from taken look s t (got.Bytes bytes) it = record { look = look; is = refl; next = it }
  all_answered task from taken look s t (got.Raises fault) it = record { bytes = look; next = it }
  all_answered task from taken look s t (got.Waits on) it =
      record { look = look; on = on; before = t; is = refl; next = record { read = it.read; others = it.others } }

  all_unmet : (task : ℕ) (from : StreamReader) (taken : List ℕ) (s : State S) (how : End) (last : State S) → IsUnmet how
      → GivesAll from task taken s (Halts how last)
  all_unmet task from taken s how last is = is

  pub all_next : (task : ℕ) (from : StreamReader) (taken : List ℕ) (s : State S) → GivesAll from task taken s (reads_all task from taken s)
  all_next task from taken s =
      does_comes Halts (GivesAll from task taken s) (all_unmet task from taken s) (read_all (next_future s.loop.parts) from s.streams)
      (λ (done : Streams × AllGot) now. reads_all_as task from (taken ++ done.1.taken) done.1.got (with_streams done.0 now)) s
      (λ moves (done : Streams × AllGot). LooksAt from done.1.taken s.streams moves done.0) (fed.reads_all (next_future s.loop.parts) from s.streams)
      (λ moves done t moved it.
      all_answered task from taken done.1.taken s (with_streams done.0 t) done.1.got
      (looks_next s t from done.1.taken moves done.0 moved it))

  -- ---- as its task is resumed, what it read stays
  pub given_up_next : (on : ℕ) (from : StreamReader) (s : State S) (other : StreamReader) (read let_go : List ℕ)
      → IsRead other read let_go s.streams s.events
      → IsRead other read let_go (waits_no_more on from s).streams (waits_no_more on from s).events
  given_up_next on from s other read let_go it =
      let still = gives_up on from s.streams in
      subst (λ all. IsRead other all let_go (give_up_read on from s.streams) s.events) (append-nil read)
      (look_on other [] s.streams s.events (give_up_read on from s.streams) s.events (sym (append-nil (received other s.events)))
      (sym (still.holds other)) (still.fails other) (λ failed. still.holds other) read let_go it)

  -- ---- fronts
  pub read_front : (s : State S) (from : StreamReader) (read let_go : List ℕ) → IsRead from read let_go s.streams s.events
      → read ≡ take (length read) (received from s.events)
  read_front s from read let_go it = sym (ap (take (length read)) it.order ∙ taken_front read (let_go ++ held_of from s.streams))

  pub held_behind : (s : State S) (from : StreamReader) (read let_go : List ℕ) → IsRead from read let_go s.streams s.events
      → let_go ++ held_of from s.streams ≡ drop (length read) (received from s.events)
  held_behind s from read let_go it = sym (ap (drop (length read)) it.order ∙ dropped_front read (let_go ++ held_of from s.streams))

  pub held_rest : (s : State S) (from : StreamReader) (read let_go : List ℕ) → IsRead from read let_go s.streams s.events
      → is_failed from s.streams ≡ false → held_of from s.streams ≡ drop (length read) (received from s.events)
  held_rest s from read let_go it unfailed =
      ap (λ bytes. bytes ++ held_of from s.streams) (sym (it.kept unfailed)) ∙ held_behind s from read let_go it

  pub read_one : (s : State S) (from : StreamReader) (read let_go : List ℕ) → IsRead from read let_go s.streams s.events
      → is_failed from s.streams ≡ false → read ≡ read_of from s.streams s.events
  read_one s from read let_go it unfailed =
      let held = held_of from s.streams in
      sym (ap (λ all. taken_away all held) (it.order ∙ ap (λ bytes. read ++ (bytes ++ held)) (it.kept unfailed)) ∙ read_is read held)

  pub failed_empty : (s : State S) → In AreReadInOrder s → (from : StreamReader) → is_failed from s.streams ≡ true → held_of from s.streams ≡ []
  failed_empty s ordered from failed = (ordered from).2.empty failed
