-- What a tree comes to where something is open, in a request and in a callback.
use Rattle.std.proofs.Common.{◌≡◌, inr, ℕ, ◌+◌, Bool, true, false, List, [], ◌∷◌, Option, refl, sym, ◌∙◌, arith}
use Rattle.std.proofs.lemmas.Bool.{false≢true}
use Rattle.model_value.specs.Action.{Action}
use Rattle.model_value.specs.declared.action.Action.TheVariants as action
use Rattle.model_wire.specs.declared.call.Call.TheVariants as call
use Rattle.model_wire.specs.declared.event.Event.TheVariants as event
use Rattle.model_wire.specs.Call.{Answer, Call}
use Rattle.model_wire.specs.Fits.{fits}
use Rattle.model_wire.specs.Journal.{Entry, Answered, Refused}
use Rattle.model_wire.specs.Trace.{End}
use Rattle.model_loop.specs.Owning.{is_main_done}
use Rattle.model_stream.specs.Doing as doing
use Rattle.model_stream.specs.Doing.{Doing, Ends, Changes, Asks}
use Rattle.model_machine.specs.Does.{changed, does}
use Rattle.model_machine.specs.Extra.{Extra}
use Rattle.model_machine.specs.Replies.{RequestReply, Halts}
use Rattle.model_machine.specs.State.{State, noted, unbooked_in}
use Rattle.model_machine.specs.Went.{Went, Stops, answered_so, ask_so, fitted_so}
use Rattle.law_changes.specs.Changes.{OfParts}
use Rattle.law_changes.specs.Reaches.{stays}
use Rattle.law_changes.proofs.Folds.{on, one}
use Rattle.law_cases.specs.Trees.{Keeping, Owned, is_aside, is_of_streams, is_select}
use Rattle.law_reach.specs.Changes.{Hears, Calls, IsAskedAside, IsHeard, IsOpen, IsUnheard, MayAsk, OfLoop, made}
use Rattle.law_reach.specs.Asked.{IsAnswered}
use Rattle.law_reach.specs.Reaches.{ComesTo, GoesTo, InAnswer, InCallback, IsUnmet}
use Rattle.law_reach.specs.Streams.{of_doing}
use Rattle.law_reach.proofs.Rows.{asks_open, halts_before, heard_answered, in_answer, in_callback, in_turn, reply_asks_then, stops_before, unheard_answered}
use Rattle.law_reach.proofs.Rows.{went_asks_then}

-- what isn't asked aside is no select
no_select : (it : Call) → is_aside it ≡ false → is_select it ≡ false
no_select (call.Select wait watched) is = absurd (false≢true (sym is))
no_select _ is = refl

-- ---- whatever the rest comes to
abbrev IsOwnChange : doing.Change → Type 0
IsOwnChange doing.MakeFuture = Unit {0}
IsOwnChange (doing.CallSoon it) = is_of_streams it ≡ true
IsOwnChange (doing.Settle future outcome) = Unit {0}

module _ {S R : Type 0} (added : Extra S) (halts : End → State S → R) (Comes : State S → R → Type 0)
    (changes : (change : doing.Change) (s : State S) (it : R) → IsOwnChange change → Comes (unbooked_in (changed change) s) it → Comes s it)
    (hears : (call : Call) (answer : Answer) (left : List Entry) (s : State S) (it : R) → IsHeard added call answer left s
    → Comes (made (Hears call answer left) s) it → Comes s it)
    (misses : (call : Call) (how : End) (s : State S) → IsUnheard added call s → IsUnmet how → Comes s (halts how (made (Calls call) s)))
    (misfits : (how : End) (s : State S) → MayAsk added s → IsUnmet how → Comes s (halts how s)) where
  asked_comes : (call : Call) (next : Answer → State S → R) (s : State S) → MayAsk added s → is_select call ≡ false → IsAskedAside added call
      → ((answer : Answer) (t : State S) → t.streams ≡ s.streams → Comes t (next answer t)) → Comes s (ask_so halts call next s)
  asked_comes call next s may other aside each = by s.answers refl
    where
      fit : (b : Bool) (answer : Answer) (left : List Entry) → s.answers ≡ Answered answer ∷ left
          → Comes s (fitted_so halts b call answer next (made (Hears call answer left) s))
      fit true answer left e =
          hears call answer left s _ (record { may_ask = may; other = other; aside = aside; answered = e }) (each answer (made (Hears call answer left) s) refl)
      fit false answer left e =
          hears call answer left s _ (record { may_ask = may; other = other; aside = aside; answered = e }) (misfits _ (made (Hears call answer left) s) may tt)

      by : (entries : List Entry) → s.answers ≡ entries → Comes s (answered_so halts entries call next (noted (event.Called call) s))
      by [] e = misses call _ s (record { may_ask = may; other = other; aside = aside }) tt
      by (Refused line cause ∷ entries) e = misses call _ s (record { may_ask = may; other = other; aside = aside }) tt
      by (Answered answer ∷ entries) e = fit (fits call answer) answer entries e

  -- the streams stay as they were until the tree ends
  done_comes : {A : Type 0} (Left : ℕ → A → Type 0) (own : Owned) (number : ℕ) (tree : Doing A) (next : A → State S → R) (s : State S)
      → Keeping Left own number tree → IsOpen s → ((it : A) (t : State S) → IsOpen t → Comes t (next it t)) → Comes s (does halts tree next s)
  done_comes Left own number (Ends result) next s keeps opened each = each result s opened
  done_comes Left own number (Changes doing.MakeFuture rest) next s keeps opened each =
      changes doing.MakeFuture s _ tt (done_comes Left own (number + 1) rest next (unbooked_in (changed doing.MakeFuture) s) keeps opened each)
  done_comes Left own number (Changes (doing.CallSoon it) rest) next s keeps opened each =
      changes (doing.CallSoon it) s _ keeps.0 (done_comes Left own number rest next (unbooked_in (changed (doing.CallSoon it)) s) keeps.1 opened each)
  done_comes Left own number (Changes (doing.Settle future outcome) rest) next s keeps opened each =
      changes (doing.Settle future outcome) s _ tt
      (done_comes Left own number rest next (unbooked_in (changed (doing.Settle future outcome)) s) keeps.1 opened each)
  done_comes Left own number (Asks call rest) next s keeps opened each =
      asked_comes call (λ answer. does halts (rest answer) next) s (asks_open added s opened) (no_select call keeps.0)
      (λ is nothing. false≢true (sym keeps.0 ∙ is))
      (λ answer t same. done_comes Left own number (rest answer) next t (keeps.1 answer) (λ closed. opened (sym same ∙ closed)) each)

-- ---- in a request, and in a callback
not_main : (it : Action) → is_of_streams it ≡ true → is_main_done it ≡ false
not_main action.MainDone is = absurd (false≢true is)
not_main _ is = refl

change_row : {S : Type 0} (added : Extra S) (r : Option ℕ) (change : doing.Change) (s : State S) → IsOwnChange change
    → InAnswer added r s (unbooked_in (changed change) s)
change_row added r doing.MakeFuture s is = one (OfLoop (OfParts (of_doing doing.MakeFuture))) tt
change_row added r (doing.CallSoon it) s is = one (OfLoop (OfParts (of_doing (doing.CallSoon it)))) (not_main it is)
change_row added r (doing.Settle future outcome) s is = one (OfLoop (OfParts (of_doing (doing.Settle future outcome)))) tt

module _ {S : Type 0} (added : Extra S) (r : Option ℕ) where
  pub comes_after : {s t : State S} {it : RequestReply S} → InAnswer added r s t → IsAnswered s t → ComesTo added r t it → ComesTo added r s it
  comes_after {s} {t} {it} row asked comes = record {
    reaches = on row comes.reaches;
    ends = halts_before added (in_turn added (in_callback added (in_answer added row))) it comes.ends;
    asks = reply_asks_then s t it asked comes.asks;
  }

  pub goes_after : {s t : State S} {it : Went S} → InCallback added r s t → IsAnswered s t → GoesTo added r t it → GoesTo added r s it
  goes_after {s} {t} {it} row asked goes = record {
    reaches = on row goes.reaches;
    ends = stops_before added (in_turn added (in_callback added row)) it goes.ends;
    asks = went_asks_then s t it asked goes.asks;
  }

  -- ---- an ask in a request
  heard_comes : (call : Call) (answer : Answer) (left : List Entry) (s : State S) (it : RequestReply S) → IsHeard added call answer left s
      → ComesTo added r (made (Hears call answer left) s) it → ComesTo added r s it
  heard_comes call answer left s it heard comes =
      comes_after (one (Hears call answer left) heard) (heard_answered call answer left s heard.answered) comes

  missed_comes : (call : Call) (how : End) (s : State S) → IsUnheard added call s → IsUnmet how → ComesTo added r s (Halts how (made (Calls call) s))
  missed_comes call how s unheard unmet = record {
    reaches = one (Calls call) unheard;
    ends = inr (unheard.may_ask, unmet);
    asks = unheard_answered call s;
  }

  misfit_comes : (how : End) (s : State S) → MayAsk added s → IsUnmet how → ComesTo added r s (Halts how s)
  misfit_comes how s may unmet = record { reaches = stays; ends = inr (may, unmet); asks = omega arith }

  pub ask_comes : (call : Call) (next : Answer → State S → RequestReply S) (s : State S) → MayAsk added s → is_select call ≡ false
      → IsAskedAside added call → ((answer : Answer) (t : State S) → t.streams ≡ s.streams → ComesTo added r t (next answer t))
      → ComesTo added r s (ask_so Halts call next s)
  ask_comes =
      asked_comes added Halts (ComesTo added r) (λ change s it is comes. comes_after (change_row added r change s is) refl comes) heard_comes
      missed_comes misfit_comes

  pub tree_comes : {A : Type 0} (Left : ℕ → A → Type 0) (own : Owned) (number : ℕ) (tree : Doing A)
      (next : A → State S → RequestReply S) (s : State S)
      → Keeping Left own number tree → IsOpen s → ((it : A) (t : State S) → IsOpen t → ComesTo added r t (next it t))
      → ComesTo added r s (does Halts tree next s)
  tree_comes = done_comes added Halts (ComesTo added r)
      (λ change s it is comes. comes_after (change_row added r change s is) refl comes) heard_comes missed_comes misfit_comes

  pub tree_goes : {A : Type 0} (Left : ℕ → A → Type 0) (own : Owned) (number : ℕ) (tree : Doing A)
      (next : A → State S → Went S) (s : State S)
      → Keeping Left own number tree → IsOpen s → ((it : A) (t : State S) → IsOpen t → GoesTo added r t (next it t))
      → GoesTo added r s (does Stops tree next s)
  tree_goes = done_comes added Stops (GoesTo added r)
      (λ change s it is goes. goes_after (in_answer added (change_row added r change s is)) refl goes)
      (λ call answer left s it heard goes. goes_after (one (Hears call answer left) heard) (heard_answered call answer left s heard.answered) goes)
      (λ call how s unheard unmet. record {
        reaches = one (Calls call) unheard;
        ends = inr (unheard.may_ask, unmet);
        asks = unheard_answered call s;
      })
      (λ how s may unmet. record { reaches = stays; ends = inr (may, unmet); asks = omega arith })
