-- What reads took is a front of what was received, and goes on with each small thing that the machine does.
use Rattle.std.proofs.Common.{◌≡◌, ℕ, zero, suc, Bool, true, false, eqb, List, [], ◌∷◌, ◌++◌, Option, Some, None, length}
use Rattle.std.proofs.Common.{take, refl, sym, ap, subst, ◌∙◌, arith}
use Rattle.std.proofs.lemmas.Bool.{false≢true, lt-ltb}
use Rattle.std.proofs.lemmas.List.{append-nil, append_assoc, length-append}
use Rattle.model_pump.specs.declared.stream.Stream.TheVariants as stream
use Rattle.model_tree.specs.Syntax.{Program}
use Rattle.model_value.specs.declared.action.Action.TheVariants as action
use Rattle.model_value.specs.declared.action.ChildItem.{ChildItem}
use Rattle.model_value.specs.declared.action.ChildItem.TheVariants as news
use Rattle.model_value.specs.Action.{Action}
use Rattle.model_wire.specs.declared.call.Call.TheVariants as call
use Rattle.model_wire.specs.declared.event.Event.TheVariants as event
use Rattle.model_wire.specs.Call.{Call, Answer}
use Rattle.model_wire.specs.Event.{Event}
use Rattle.model_wire.specs.Journal.{Entry}
use Rattle.model_loop.specs.Parts.{Handle, Parts}
use Rattle.model_loop.specs.Totals.{callbacks_of}
use Rattle.model_stream.specs.Receivers.{new_receiver}
use Rattle.model_stream.specs.Requests.{StreamReader, OfConn, OfChild}
use Rattle.model_stream.specs.Streams.{Streams}
use Rattle.model_machine.specs.Outside.{select, watched}
use Rattle.model_machine.specs.State.{State, start}
use Rattle.model_machine.specs.Turn.{woken_by}
use Rattle.law_stream.specs.ReaderSteps.{taken_away}
use Rattle.law_stream.specs.Ways.{Move, Did, Heard, told_by}
use Rattle.law_walk.specs.Walks.{In, IsAside, IsHere, Runs, Walks, acts_alone, hears, is_aside, made_on, says}
use Rattle.law_stream.specs.ReceiverOrder.{has_failed}
use Rattle.law_stream.proofs.ReaderOrder.{in_order_then}
use Rattle.law_stream.proofs.ReceiverOrder.{behind}
use Rattle.law_received.specs.Readers.{brought_by, brought_last, bytes_if, held_of, is_failed, is_news_to, is_shut, may_hear, received}
use Rattle.law_received.specs.Readers.{received_after, receiver_of, told_to}
use Rattle.law_received.specs.Feeding.{AreFed, AreFedBy, IsSpent, News, OneFed, news_in}
use Rattle.law_received.proofs.Own.{one_still}
use Rattle.law_received.proofs.AllFed.{all_fed}
use Rattle.law_received.specs.Waiting.{Follows, IsDue, NoNews, entries_of}
use Rattle.law_received.proofs.Due.{due_after, due_heard, due_over, due_streams, due_taken, due_told, goes_on, made_follows, none_behind, none_empty}
use Rattle.law_received.proofs.Woken.{woken_due}
use Rattle.law_received.specs.Received.{AreOver, AreReadInOrder, HaveRead, IsBetween, IsRead, IsReading, Next, Same}

-- ---- what is received in events, one after another
-- events that say for themselves what is received, whatever call came before
abbrev pub SayAll : StreamReader → List Event → Type 0
SayAll from events = (last : Option Call) → received_after from last events ≡ received from events

pub received_then : (from : StreamReader) (last : Option Call) (events more : List Event) → SayAll from more
    → received_after from last (events ++ more) ≡ received_after from last events ++ received from more
received_then from last [] more say = say last
received_then from last (event.Called it ∷ events) more say = received_then from (Some it) events more say
received_then from last (event.Got came ∷ events) more say =
    ap (λ bytes. brought_last from last came ++ bytes) (received_then from None events more say)
    ∙ sym (append_assoc (brought_last from last came) (received_after from None events) (received from more))
received_then from last (event.Ran it ∷ events) more say =
    ap (λ bytes. told_to from it ++ bytes) (received_then from last events more say)
    ∙ sym (append_assoc (told_to from it) (received_after from last events) (received from more))
received_then from last (event.Said task text ∷ events) more say = received_then from last events more say

pub moves_say : (from : StreamReader) (moves : List Move) → SayAll from (told_by moves)
moves_say from [] last = refl
moves_say from (Did change ∷ moves) last = moves_say from moves last
moves_say from (Heard it came ∷ moves) last = refl

ran_say : (from : StreamReader) (it : Action) (moves : List Move) → SayAll from (event.Ran it ∷ told_by moves)
ran_say from it moves last = ap (λ bytes. told_to from it ++ bytes) (moves_say from moves last)

-- what happens beside brings nothing
beside_none : (from : StreamReader) (it : Call) (came : Answer) → is_aside it ≡ true → brought_by from it came ≡ []
beside_none (OfConn id) (call.Select wait watched) came is = refl
beside_none (OfConn id) (call.Extra code bytes) came is = refl
beside_none (OfChild pipe id) (call.Select wait watched) came is = refl
beside_none (OfChild pipe id) (call.Extra code bytes) came is = refl
beside_none from _ came is = absurd (false≢true is)

-- and so does a handle that has no news
ran_none : (from : StreamReader) (it : Action) → news_in it ≡ None → told_to from it ≡ []
ran_none (OfConn id) it none = refl
ran_none (OfChild pipe id) (action.ChildItem child told) none = absurd (let bad : ⊥ = cc in bad)
ran_none (OfChild stream.Out id) _ none = refl
ran_none (OfChild stream.Errs id) _ none = refl

-- one that does more than to streams alone is none
other_none : (it : Action) → acts_alone it ≡ false → news_in it ≡ None
other_none (action.ChildItem child told) other = absurd (false≢true (sym other))
other_none _ other = refl

-- ---- what was read
pub taken_front : (front back : List ℕ) → take (length front) (front ++ back) ≡ front
taken_front [] back = refl
taken_front (byte ∷ front) back = ap (λ bytes. byte ∷ bytes) (taken_front front back)

pub read_is : (went held : List ℕ) → taken_away (went ++ held) held ≡ went
read_is went held =
    ap (λ n. take n (went ++ held)) (let e = length-append went held in omega (arith, e)) ∙ taken_front went held

-- each that failed holds nothing, and receives no more
abbrev pub AreSpent : Streams → Type 0
AreSpent s = (from : StreamReader) → IsSpent (receiver_of from s) (is_shut from s)

-- what was read and let go, with what goes and is let go in a step
pub step_order : (read let_go held came went lost rest : List ℕ) (failed : Bool) → held ++ came ≡ went ++ (lost ++ rest)
    → (failed ≡ false → let_go ≡ []) → (failed ≡ true → went ≡ [])
    → (read ++ (let_go ++ held)) ++ came ≡ (read ++ went) ++ ((let_go ++ lost) ++ rest)
step_order read let_go held came went lost rest failed order kept none =
    append_assoc read (let_go ++ held) came
    ∙ ap (λ bytes. read ++ bytes) (append_assoc let_go held came ∙ ap (λ bytes. let_go ++ bytes) order)
    ∙ in_order_then read let_go went lost rest (behind let_go went failed kept none)

-- a step of one reader, in which this came, this went and this was let go
pub read_on : (from : StreamReader) (s : Streams) (events : List Event) (after : Streams) (later_ : List Event) (came went lost : List ℕ)
    → received from later_ ≡ received from events ++ came
    → OneFed (receiver_of from s) (is_shut from s) came went lost (receiver_of from after) (is_shut from after)
    → IsSpent (receiver_of from s) (is_shut from s) → (read let_go : List ℕ) → IsRead from read let_go s events
    → IsRead from (read ++ went) (let_go ++ lost) after later_
read_on from s events after later_ came went lost brings fed spent read let_go it =
    record {
      order = brings ∙ ap (λ bytes. bytes ++ came) it.order
          ∙ step_order read let_go (held_of from s) came went lost (held_of from after) (is_failed from s) fed.order it.kept
          (λ is. (fed.none spent is).0);
      kept = λ unfailed. ap (λ bytes. bytes ++ lost) (it.kept (standing unfailed (is_failed from s) refl)) ∙ fed.kept unfailed;
      empty = λ failed. (fed.spent spent failed).0;
    }
  where
    standing : is_failed from after ≡ false → (b : Bool) → is_failed from s ≡ b → is_failed from s ≡ false
    standing unfailed true is = absurd (false≢true (sym unfailed ∙ fed.stays is))
    standing unfailed false is = is

-- what a step adds to what was read, and to what was let go
pub record ReadsMore (from : StreamReader) (s : Streams) (events : List Event) (after : Streams) (later_ : List Event) : Type 0 where
  pub came : List ℕ
  pub went : List ℕ
  pub lost : List ℕ
  pub brings : received from later_ ≡ received from events ++ came
  pub fed : OneFed (receiver_of from s) (is_shut from s) came went lost (receiver_of from after) (is_shut from after)
  pub spent : IsSpent (receiver_of from s) (is_shut from s)

abbrev pub ReadMore : Streams → List Event → Streams → List Event → Type 0
ReadMore s events after later_ = (from : StreamReader) → ReadsMore from s events after later_

abbrev pub more_read : (from : StreamReader) (s : Streams) (events : List Event) (after : Streams) (later_ : List Event)
    → (more : ReadsMore from s events after later_) → (read let_go : List ℕ) → IsRead from read let_go s events
    → IsRead from (read ++ more.went) (let_go ++ more.lost) after later_
more_read from s events after later_ more read let_go it =
    read_on from s events after later_ more.came more.went more.lost more.brings more.fed more.spent read let_go it

-- with events that bring nothing
still : (s : Streams) (events more : List Event) → AreSpent s → ((from : StreamReader) → SayAll from more)
    → ((from : StreamReader) → received from more ≡ []) → ReadMore s events s (events ++ more)
still s events more spent say none from =
    record {
      came = [];
      went = [];
      lost = [];
      brings = received_then from None events more (say from) ∙ ap (λ bytes. received from events ++ bytes) (none from);
      fed = one_still (receiver_of from s) (is_shut from s) (receiver_of from s) (is_shut from s) refl refl (λ is. is);
      spent = spent from;
    }

-- with what a tree does
moved : (s : Streams) (events : List Event) (moves : List Move) (after : Streams) → AreSpent s → AreFed None s moves after
    → ReadMore s events after (events ++ told_by moves)
moved s events moves after spent fed from =
    let it = fed.each from in
    record {
      came = received from (told_by moves);
      went = it.0;
      lost = it.1;
      brings = received_then from None events (told_by moves) (moves_say from moves);
      fed = it.2.fed;
      spent = spent from;
    }

-- with what a child told, where its pipe takes more
told_nothing : (from : StreamReader) (it : Action) → (is_news_to from it ≡ true → ⊥) → told_to from it ≡ []
told_nothing (OfConn id) it none = refl
told_nothing (OfChild stream.Out id) (action.ChildItem child (news.Out bytes)) none = at (eqb id child) none
  where
    at : (b : Bool) → (b ≡ true → ⊥) → bytes_if b bytes ≡ []
    at true none_ = absurd (none_ refl)
    at false none_ = refl
told_nothing (OfChild stream.Errs id) (action.ChildItem child (news.Errs bytes)) none = at (eqb id child) none
  where
    at : (b : Bool) → (b ≡ true → ⊥) → bytes_if b bytes ≡ []
    at true none_ = absurd (none_ refl)
    at false none_ = refl
told_nothing (OfChild stream.Out id) _ none = refl
told_nothing (OfChild stream.Errs id) _ none = refl

fed_all : (from : StreamReader) (it : Action) (b : Bool) → (is_news_to from it ≡ true → b ≡ true) → bytes_if b (told_to from it) ≡ told_to from it
fed_all from it true heard = refl
fed_all from it false heard = sym (told_nothing from it (λ is. false≢true (heard is)))

told : (s : Streams) (events : List Event) (child : ℕ) (it : ChildItem (List ℕ)) (moves : List Move) (after : Streams)
    → AreSpent s → AreFed (Some (child, it)) s moves after
    → ((from : StreamReader) → is_news_to from (action.ChildItem child it) ≡ true → may_hear from s ≡ true)
    → ReadMore s events after (events ++ event.Ran (action.ChildItem child it) ∷ told_by moves)
told s events child it moves after spent fed heard from =
    let act = action.ChildItem child it in
    let one = fed.each from in
    record {
      came = told_to from act ++ received from (told_by moves);
      went = one.0;
      lost = one.1;
      brings = received_then from None events (event.Ran act ∷ told_by moves) (ran_say from act moves);
      fed = subst (λ bytes. OneFed (receiver_of from s) (is_shut from s) (bytes ++ received from (told_by moves)) one.0 one.1 (receiver_of from after)
          (is_shut from after)) (fed_all from act (may_hear from s) (heard from)) one.2.fed;
      spent = spent from;
    }

-- ---- what is told so goes on
-- what goes on with what is read
pub record TellsOn (Tells : Streams → List Event → Parts → Type 0) : Type 0 where
  pub reads : (s : Streams) (events : List Event) (p : Parts) (after : Streams) (later_ : List Event) (q : Parts) → ReadMore s events after later_
      → Tells s events p → Tells after later_ q
  pub loops : (s : Streams) (events : List Event) (p q : Parts) → Tells s events p → Tells s events q

all_read : (s : Streams) (events : List Event) (p : Parts) (after : Streams) (later_ : List Event) (q : Parts) → ReadMore s events after later_
    → AreReadInOrder s events p → AreReadInOrder after later_ q
all_read s events p after later_ q more it from =
    let was = it from in
    (was.0 ++ (more from).went, was.1 ++ (more from).lost, more_read from s events after later_ (more from) was.0 was.1 was.2)

pub order_tells : TellsOn AreReadInOrder
order_tells = record { reads = all_read; loops = λ s events p q it from. it from }

pub have_tells : (from : StreamReader) (read let_go : List ℕ) (first : Streams) (before : List Event) → TellsOn (HaveRead from read let_go first before)
have_tells from read let_go first before = record { reads = reads; loops = loops }
  where
    reads : (s : Streams) (events : List Event) (p : Parts) (after : Streams) (later_ : List Event) (q : Parts) → ReadMore s events after later_
        → HaveRead from read let_go first before s events p → HaveRead from read let_go first before after later_ q
    reads s events p after later_ q more it =
        let on = more from in
        record {
          ordered = all_read s events p after later_ q more it.ordered;
          more = it.more ++ on.went;
          lost = it.lost ++ on.lost;
          is = subst (λ all. IsRead from all (let_go ++ (it.lost ++ on.lost)) after later_) (append_assoc read it.more on.went)
              (subst (λ all. IsRead from ((read ++ it.more) ++ on.went) all after later_) (append_assoc let_go it.lost on.lost)
              (more_read from s events after later_ on (read ++ it.more) (let_go ++ it.lost) it.is));
          since = Next from first s after before events later_ it.more it.lost on.came on.went on.lost it.since on.brings on.spent on.fed;
        }

    loops : (s : Streams) (events : List Event) (p q : Parts) → HaveRead from read let_go first before s events p
        → HaveRead from read let_go first before s events q
    loops s events p q it =
        record { ordered = λ other. it.ordered other; more = it.more; lost = it.lost; is = it.is; since = it.since }

-- one that failed stays as it is
pub over_tells : (from : StreamReader) (read let_go : List ℕ) → TellsOn (AreOver from read let_go)
over_tells from read let_go = record { reads = reads; loops = loops }
  where
    reads : (s : Streams) (events : List Event) (p : Parts) (after : Streams) (later_ : List Event) (q : Parts) → ReadMore s events after later_
        → AreOver from read let_go s events p → AreOver from read let_go after later_ q
    reads s events p after later_ q more it =
        let on = more from in
        let none = on.fed.none on.spent it.failed in
        record {
          ordered = all_read s events p after later_ q more it.ordered;
          failed = on.fed.stays it.failed;
          is = subst (λ all. IsRead from all let_go after later_) (ap (λ bytes. read ++ bytes) none.0 ∙ append-nil read)
              (subst (λ all. IsRead from (read ++ on.went) all after later_) (ap (λ bytes. let_go ++ bytes) none.1 ∙ append-nil let_go)
              (more_read from s events after later_ on read let_go it.is));
        }

    loops : (s : Streams) (events : List Event) (p q : Parts) → AreOver from read let_go s events p → AreOver from read let_go s events q
    loops s events p q it = record { ordered = λ other. it.ordered other; failed = it.failed; is = it.is }

module _ {Tells : Streams → List Event → Parts → Type 0} (on_ : TellsOn Tells) where
  beside_reads : (s : Streams) (events more : List Event) (p : Parts) → AreSpent s → IsAside more → Tells s events p → Tells s (events ++ more) p
  beside_reads s events _ p spent (says task text) it =
      on_.reads s events p s (events ++ event.Said task text ∷ []) p
      (still s events (event.Said task text ∷ []) spent (λ from last. refl) (λ from. refl)) it
  beside_reads s events _ p spent (hears asked came is) it =
      on_.reads s events p s (events ++ event.Called asked ∷ event.Got came ∷ []) p
      (still s events (event.Called asked ∷ event.Got came ∷ []) spent (λ from last. refl)
      (λ from. ap (λ bytes. bytes ++ []) (beside_none from asked came is))) it

  -- each that failed goes on so
  spent_on : (news : News) (s : Streams) (moves : List Move) (after : Streams) → AreFed news s moves after → AreSpent s → AreSpent after
  spent_on news s moves after fed spent from = (fed.each from).2.fed.spent (spent from)

  tree_reads : (bar left : ℕ) (s : Streams) (events : List Event) (p : Parts) (moves : List Move) (after : Streams) → AreFed None s moves after
      → IsReading Tells bar left s events p → IsReading Tells bar left after (events ++ told_by moves) (made_on moves p)
  tree_reads bar left s events p moves after fed it =
      record {
        tells = on_.reads s events p after (events ++ told_by moves) (made_on moves p)
            (moved s events moves after it.spent fed) it.tells;
        due = due_streams bar left s after (made_on moves p) (λ from. (fed.each from).2.hears refl)
            (due_after bar left s p (made_on moves p) (made_follows moves p fed.schedule) it.due);
        spent = spent_on None s moves after fed it.spent;
      }

  pub here : (bar left : ℕ) → IsHere Follows AreFedBy Tells (IsReading Tells bar left)
  here bar left =
      record {
        tells = λ s events p it. it.tells;
        beside = λ s events more p is it.
            record { tells = beside_reads s events more p it.spent is it.tells; due = it.due; spent = it.spent };
        loops = λ s events p q follows it.
            record { tells = on_.loops s events p q it.tells; due = due_after bar left s p q follows it.due; spent = it.spent };
        tree = λ s events p moves after fed it. tree_reads bar left s events p moves after fed it;
        drops = λ conn s events p moves after began fed it. tree_reads bar left s events p moves after fed it;
      }

  ran_reads : (bar left : ℕ) (s : Streams) (events : List Event) (p : Parts) (handle : Handle) (rest : List Handle) (it : Action)
      → p.pending ≡ handle ∷ rest → news_in it ≡ None → IsReading Tells bar (suc left) s events p
      → IsReading Tells bar left s (events ++ event.Ran it ∷ []) (record p { pending = rest })
  ran_reads bar left s events p handle rest it first none reading =
      record {
        tells = on_.reads s events p s (events ++ event.Ran it ∷ []) (record p { pending = rest })
            (still s events (event.Ran it ∷ []) reading.spent (λ from. ran_say from it [])
            (λ from. ap (λ bytes. bytes ++ []) (ran_none from it none))) reading.tells;
        due = due_taken bar left s p handle rest first reading.due;
        spent = reading.spent;
      }

  told_reads : (bar left : ℕ) (s : Streams) (events : List Event) (p : Parts) (handle : Handle) (rest : List Handle) (child : ℕ)
      (it : ChildItem (List ℕ)) (moves : List Move) (after : Streams) → p.pending ≡ handle ∷ rest → handle.action ≡ action.ChildItem child it
      → AreFed (Some (child, it)) s moves after → IsReading Tells bar (suc left) s events p
      → IsReading Tells bar left after (events ++ event.Ran (action.ChildItem child it) ∷ told_by moves) (made_on moves (record p { pending = rest }))
  told_reads bar left s events p handle rest child it moves after first is fed reading =
      record {
        tells = on_.reads s events p after (events ++ event.Ran (action.ChildItem child it) ∷ told_by moves)
            (made_on moves (record p { pending = rest }))
            (told s events child it moves after reading.spent fed
            (λ from news. due_heard bar left s p handle rest from first reading.due (ap (is_news_to from) is ∙ news))) reading.tells;
        due = due_after bar left after (record p { pending = rest }) (made_on moves (record p { pending = rest }))
            (made_follows moves (record p { pending = rest }) fed.schedule)
            (due_told bar left s after p handle rest first reading.due
            (λ from none. (fed.each from).2.hears (sym (ap (is_news_to from) is) ∙ none)));
        spent = spent_on (Some (child, it)) s moves after fed reading.spent;
      }

  then_reads : (bar left : ℕ) (s : Streams) (events : List Event) (p : Parts) (handle : Handle) (rest : List Handle) (it : Action)
      (moves : List Move) (after : Streams) → p.pending ≡ handle ∷ rest → news_in it ≡ None → AreFed None s moves after
      → IsReading Tells bar (suc left) s events p
      → IsReading Tells bar left after ((events ++ event.Ran it ∷ []) ++ told_by moves) (made_on moves (record p { pending = rest }))
  then_reads bar left s events p handle rest it moves after first none fed reading =
      tree_reads bar left s (events ++ event.Ran it ∷ []) (record p { pending = rest }) moves after fed
      (ran_reads bar left s events p handle rest it first none reading)

  acts_reads : (bar left : ℕ) (s : Streams) (events : List Event) (p : Parts) (handle : Handle) (rest : List Handle) (it : Action)
      (moves : List Move) (after : Streams) → p.pending ≡ handle ∷ rest → handle.action ≡ it → AreFedBy (Runs it) s moves after
      → IsReading Tells bar (suc left) s events p
      → IsReading Tells bar left after ((events ++ event.Ran it ∷ []) ++ told_by moves) (made_on moves (record p { pending = rest }))
  acts_reads bar left s events p handle rest (action.ChildItem child told) moves after first is fed reading =
      subst (λ es. IsReading Tells bar left after es (made_on moves (record p { pending = rest })))
      (sym (append_assoc events (event.Ran (action.ChildItem child told) ∷ []) (told_by moves)))
      (told_reads bar left s events p handle rest child told moves after first is fed reading)
  acts_reads bar left s events p handle rest it moves after first is fed reading =
      then_reads bar left s events p handle rest it moves after first refl fed reading

  pub walks : Walks Follows AreFedBy Tells (IsReading Tells)
  walks =
      record {
        goes_on = goes_on;
        trees = all_fed;
        here = here;
        wakes = λ s events p time extra came fit it.
            record {
              tells = on_.loops s (events ++ event.Called (select time (watched s extra)) ∷ event.Got came ∷ []) p (woken_by came p)
                  (beside_reads s events _ p it.spent (hears (select time (watched s extra)) came refl) it.tells);
              due = woken_due s p time extra came fit it.due;
              spent = it.spent;
            };
        taken = λ bar left s events p handle rest first dead it.
            record {
              tells = on_.loops s events p (record p { pending = rest }) it.tells;
              due = due_taken bar left s p handle rest first it.due;
              spent = it.spent;
            };
        runs = λ bar left s events p handle rest it first live is other reading.
            ran_reads bar left s events p handle rest it first (other_none it other) reading;
        acts = λ bar left s events p handle rest it moves after first live is fed reading.
            acts_reads bar left s events p handle rest it moves after first is fed reading;
        empty = λ bar left s events p none it. absurd (none_empty bar left s p none it.due);
        stops = λ bar left s events p handle rest first behind it.
            absurd (false≢true (sym behind ∙ lt-ltb handle.stamp bar (none_behind bar left s p handle rest first it.due)));
        ends = λ bar s events p it. record { tells = it.tells; due = due_over bar s p it.due; spent = it.spent };
      }

-- ---- a run begins so
pub begins : {S : Type 0} (most : ℕ) (state : S) (program : Program) (answers : List Entry) → In IsBetween (start most state program answers)
begins most state program answers = record { tells = tells; due = due_first; spent = spent }
  where
    none : (from : StreamReader) → receiver_of from (start most state program answers).streams ≡ new_receiver
    none (OfConn id) = refl
    none (OfChild stream.Out id) = refl
    none (OfChild stream.Errs id) = refl

    nothing : (from : StreamReader) → received from [] ≡ held_of from (start most state program answers).streams
    nothing (OfConn id) = refl
    nothing (OfChild stream.Out id) = refl
    nothing (OfChild stream.Errs id) = refl

    tells : AreReadInOrder (start most state program answers).streams [] (start most state program answers).loop.parts
    tells from = (
      [],
      [],
      record {
        order = nothing from;
        kept = λ unfailed. refl;
        empty = λ failed. absurd (false≢true (sym (ap has_failed (none from)) ∙ failed));
      },
    )

    spent : AreSpent (start most state program answers).streams
    spent from failed = absurd (false≢true (sym (ap has_failed (none from)) ∙ failed))

    callbacks : (id : ℕ) → NoNews (callbacks_of (start most state program answers).loop.parts id)
    callbacks zero = (refl, tt)
    callbacks (suc id) = tt

    due_first : IsDue 0 0 (start most state program answers).streams (start most state program answers).loop.parts
    due_first =
        record {
          own = record { callbacks = callbacks; timers = tt };
          first = [];
          since = entries_of (start most state program answers).loop.parts.pending;
          pending = refl;
          many = refl;
          before = tt;
          after = (refl, tt);
          stamps = (omega arith, tt);
          once = λ from. omega arith;
        }

-- from a state on, with what was read so far
pub read_now : {S : Type 0} (s : State S) (from : StreamReader) (read let_go : List ℕ) → In IsBetween s → IsRead from read let_go s.streams s.events
    → In (IsReading (HaveRead from read let_go s.streams s.events) 0 0) s
read_now s from read let_go between it =
    record {
      tells = record {
        ordered = between.tells;
        more = [];
        lost = [];
        is = subst (λ all. IsRead from all (let_go ++ []) s.streams s.events) (sym (append-nil read))
            (subst (λ all. IsRead from read all s.streams s.events) (sym (append-nil let_go)) it);
        since = Same from s.streams s.events;
      };
      due = between.due;
      spent = between.spent;
    }

pub over_now : {S : Type 0} (s : State S) (from : StreamReader) (read let_go : List ℕ) → In IsBetween s → IsRead from read let_go s.streams s.events
    → is_failed from s.streams ≡ true → In (IsReading (AreOver from read let_go) 0 0) s
over_now s from read let_go between it failed =
    record {
      tells = record { ordered = between.tells; failed = failed; is = it };
      due = between.due;
      spent = between.spent;
    }
