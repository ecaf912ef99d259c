-- Rows of changes: what may be done in a wider place, that no change opens anything where nothing is open, and how calls and
-- answers add up.
use Rattle.std.proofs.Common.{◌≡◌, ◌⊎◌, inl, inr, ℕ, zero, suc, refl, ap, sym, ◌∙◌, arith, List, [], ◌∷◌, ◌++◌, Option, length}
use mathlib.Core.List.{nil≢cons}
use Rattle.model_wire.specs.declared.event.Event.TheVariants as event
use Rattle.model_wire.specs.Event.{Event}
use Rattle.model_value.specs.Action.{Action}
use Rattle.model_wire.specs.Call.{Answer, Call}
use Rattle.model_wire.specs.Journal.{Entry, Answered}
use Rattle.model_wire.specs.Trace.{End}
use Rattle.model_stream.specs.Connections.{Connection}
use Rattle.model_stream.specs.Children.{Child}
use Rattle.model_stream.specs.Listeners.{Server}
use Rattle.model_stream.specs.Streams.{Opened, Streams, Written, no_streams}
use Rattle.model_machine.specs.Extra.{Extra}
use Rattle.model_machine.specs.Replies.{RequestReply, Answers, Raises, Suspends, Halts}
use Rattle.model_machine.specs.Sound.{IsClosed}
use Rattle.model_machine.specs.State.{State}
use Rattle.model_machine.specs.Went.{Went, Goes, Stops}
use Rattle.law_changes.specs.Reaches.{stays, goes}
use Rattle.law_changes.proofs.Folds.{widen}
use Rattle.law_reach.specs.Asked.{IsAnswered, IsAnsweredBefore, ReplyAsks, WentAsks, asks_in}
use Rattle.law_reach.specs.Changes.{StateChange, OfLoop, Says, MakesCoroutine, SetsResumePoint, Resumes, NamesFuture, EndsMain, ChangesExtra, ChangesStreams}
use Rattle.law_reach.specs.Changes.{Runs, Hears, Calls, IsOpen, MayAsk, MayInAnswer, MayInCallback, MayInRun, MayInTurn, made}
use Rattle.law_reach.specs.Reaches.{EndsIn, HaltsIn, InAnswer, InCallback, InRun, InTurn, StopsIn}

-- ---- in a wider place more may be done
module _ {S : Type 0} (added : Extra S) where
  callback_may : (r : Option ℕ) (change : StateChange S) (s : State S) → MayInAnswer added r change s → MayInCallback added r change s
  callback_may r (OfLoop change) s may = may
  callback_may r (Says task text) s may = may
  callback_may r (MakesCoroutine coroutine arguments) s may = may
  callback_may r (SetsResumePoint resume_point task) s may = may
  callback_may r (Resumes fresh task input) s may = absurd may
  callback_may r (NamesFuture future) s may = may
  callback_may r EndsMain s may = absurd may
  callback_may r (ChangesExtra extra) s may = may
  callback_may r (ChangesStreams streams) s may = may
  callback_may r (Runs it) s may = absurd may
  callback_may r (Hears call answer left) s may = may
  callback_may r (Calls call) s may = may

  turn_may : (r : Option ℕ) (change : StateChange S) (s : State S) → MayInCallback added r change s → MayInTurn added change s
  turn_may r (OfLoop change) s may = tt
  turn_may r (Says task text) s may = tt
  turn_may r (MakesCoroutine coroutine arguments) s may = tt
  turn_may r (SetsResumePoint resume_point task) s may = tt
  turn_may r (Resumes fresh task input) s may = tt
  turn_may r (NamesFuture future) s may = tt
  turn_may r EndsMain s may = tt
  turn_may r (ChangesExtra extra) s may = (r, may)
  turn_may r (ChangesStreams streams) s may = may
  turn_may r (Runs it) s may = tt
  turn_may r (Hears call answer left) s may = may
  turn_may r (Calls call) s may = may

  run_may : (change : StateChange S) (s : State S) → MayInTurn added change s → MayInRun change s
  run_may (ChangesStreams streams) s may = may
  run_may (Hears call answer left) s may = may.answered
  run_may (OfLoop change) s may = tt
  run_may (Says task text) s may = tt
  run_may (MakesCoroutine coroutine arguments) s may = tt
  run_may (SetsResumePoint resume_point task) s may = tt
  run_may (Resumes fresh task input) s may = tt
  run_may (NamesFuture future) s may = tt
  run_may EndsMain s may = tt
  run_may (ChangesExtra extra) s may = tt
  run_may (Runs it) s may = tt
  run_may (Calls call) s may = tt

  pub in_answer : {r : Option ℕ} {s t : State S} → InAnswer added r s t → InCallback added r s t
  in_answer row = widen (callback_may _) row

  pub in_callback : {r : Option ℕ} {s t : State S} → InCallback added r s t → InTurn added s t
  in_callback row = widen (turn_may _) row

  pub in_turn : {s t : State S} → InTurn added s t → InRun s t
  in_turn row = widen run_may row

module _ {S : Type 0} where
  -- ---- where nothing is open, no change opens anything
  change_closed : (change : StateChange S) (s : State S) → MayInRun change s → IsClosed s → IsClosed (made change s)
  change_closed (ChangesStreams streams) s may closed = absurd (may closed)
  change_closed (OfLoop change) s may closed = closed
  change_closed (Says task text) s may closed = closed
  change_closed (MakesCoroutine coroutine arguments) s may closed = closed
  change_closed (SetsResumePoint resume_point task) s may closed = closed
  change_closed (Resumes fresh task input) s may closed = closed
  change_closed (NamesFuture future) s may closed = closed
  change_closed EndsMain s may closed = closed
  change_closed (ChangesExtra extra) s may closed = closed
  change_closed (Runs it) s may closed = closed
  change_closed (Hears call answer left) s may closed = closed
  change_closed (Calls call) s may closed = closed

  pub row_closed : {s t : State S} → InRun s t → IsClosed s → IsClosed t
  row_closed stays closed = closed
  row_closed (goes row change may) closed = change_closed change _ may (row_closed row closed)

  -- so what is open was open or could be opened
  pub was_open : {s t : State S} → InRun s t → IsOpen t → IsOpen s
  was_open row opened = λ closed. opened (row_closed row closed)

  pub might_ask : (added : Extra S) {s t : State S} → InRun s t → MayAsk added t → MayAsk added s
  might_ask added row may = λ closed nothing. may (row_closed row closed) nothing

  -- what is open may be asked
  pub asks_open : (added : Extra S) (s : State S) → IsOpen s → MayAsk added s
  asks_open added s opened = λ closed nothing. opened closed

-- either nothing is open and nothing can be opened, or not
streams_shut : (servers : List Server) (connections : List Connection) (children : List Child) (opened : List Opened) (written : List Written) (most : ℕ)
    → let t : Streams = record { servers = servers; connections = connections; children = children; opened = opened; written = written; most = most } in
    (t ≡ no_streams 0) ⊎ (t ≡ no_streams 0 → ⊥)
streams_shut [] [] [] [] [] zero = inl refl
streams_shut (x ∷ xs) connections children opened written most = inr (λ e. nil≢cons (sym (ap (λ (t : Streams). t.servers) e)))
streams_shut [] (x ∷ xs) children opened written most = inr (λ e. nil≢cons (sym (ap (λ (t : Streams). t.connections) e)))
streams_shut [] [] (x ∷ xs) opened written most = inr (λ e. nil≢cons (sym (ap (λ (t : Streams). t.children) e)))
streams_shut [] [] [] (x ∷ xs) written most = inr (λ e. nil≢cons (sym (ap (λ (t : Streams). t.opened) e)))
streams_shut [] [] [] [] (x ∷ xs) most = inr (λ e. nil≢cons (sym (ap (λ (t : Streams). t.written) e)))
streams_shut [] [] [] [] [] (suc most) = inr (λ e. let none : suc most ≡ 0 = ap (λ (t : Streams). t.most) e in absurd (omega (arith, none)))

pub closed_or_open : {S : Type 0} (s : State S) → IsClosed s ⊎ IsOpen s
closed_or_open s =
    streams_shut s.streams.servers s.streams.connections s.streams.children s.streams.opened s.streams.written s.streams.most

-- ---- how a run ends
module _ {S : Type 0} (added : Extra S) {s t : State S} (row : InRun s t) where
  pub ends_before : (how : End) → EndsIn added t how → EndsIn added s how
  ends_before how (inl away) = inl away
  ends_before how (inr met) = inr (might_ask added row met.0, met.1)

  pub halts_before : (it : RequestReply S) → HaltsIn added t it → HaltsIn added s it
  halts_before (Answers value now) h = tt
  halts_before (Raises fault now) h = tt
  halts_before (Suspends now) h = tt
  halts_before (Halts how last) h = ends_before how h

  pub stops_before : (it : Went S) → StopsIn added t it → StopsIn added s it
  stops_before (Goes now) h = tt
  stops_before (Stops how last) h = ends_before how h

-- ---- what is asked
pub asks-said : (es : List Event) (task : ℕ) (text : List ℕ) → asks_in (es ++ event.Said task text ∷ []) ≡ asks_in es
asks-said [] task text = refl
asks-said (event.Called call ∷ es) task text = ap suc (asks-said es task text)
asks-said (event.Got answer ∷ es) task text = asks-said es task text
asks-said (event.Ran it ∷ es) task text = asks-said es task text
asks-said (event.Said other words ∷ es) task text = asks-said es task text

pub asks-ran : (es : List Event) (it : Action) → asks_in (es ++ event.Ran it ∷ []) ≡ asks_in es
asks-ran [] it = refl
asks-ran (event.Called call ∷ es) it = ap suc (asks-ran es it)
asks-ran (event.Got answer ∷ es) it = asks-ran es it
asks-ran (event.Ran other ∷ es) it = asks-ran es it
asks-ran (event.Said task text ∷ es) it = asks-ran es it

pub asks-called : (es : List Event) (call : Call) → asks_in (es ++ event.Called call ∷ []) ≡ suc (asks_in es)
asks-called [] call = refl
asks-called (event.Called other ∷ es) call = ap suc (asks-called es call)
asks-called (event.Got answer ∷ es) call = asks-called es call
asks-called (event.Ran it ∷ es) call = asks-called es call
asks-called (event.Said task text ∷ es) call = asks-called es call

pub asks-got : (es : List Event) (answer : Answer) → asks_in (es ++ event.Got answer ∷ []) ≡ asks_in es
asks-got [] answer = refl
asks-got (event.Called call ∷ es) answer = ap suc (asks-got es answer)
asks-got (event.Got other ∷ es) answer = asks-got es answer
asks-got (event.Ran it ∷ es) answer = asks-got es answer
asks-got (event.Said task text ∷ es) answer = asks-got es answer

module _ {S : Type 0} where
  pub heard_answered : (call : Call) (answer : Answer) (left : List Entry) (s : State S) → s.answers ≡ Answered answer ∷ left
      → IsAnswered s (made (Hears call answer left) s)
  heard_answered call answer left s e =
      let a = asks-got (s.events ++ event.Called call ∷ []) answer in
      let b = asks-called s.events call in
      let c = ap length e in
      omega (arith, a, b, c)

  pub unheard_answered : (call : Call) (s : State S) → IsAnsweredBefore s (made (Calls call) s)
  unheard_answered call s = let b = asks-called s.events call in omega (arith, b)

  -- one after another
  pub before_then : (s t u : State S) → IsAnswered s t → IsAnsweredBefore t u → IsAnsweredBefore s u
  before_then s t u first second = omega (arith, first, second)

  pub reply_asks_then : (s t : State S) (it : RequestReply S) → IsAnswered s t → ReplyAsks t it → ReplyAsks s it
  reply_asks_then s t (Answers value now) first second = second ∙ first
  reply_asks_then s t (Raises fault now) first second = second ∙ first
  reply_asks_then s t (Suspends now) first second = second ∙ first
  reply_asks_then s t (Halts how last) first second = before_then s t last first second

  pub went_asks_then : (s t : State S) (it : Went S) → IsAnswered s t → WentAsks t it → WentAsks s it
  went_asks_then s t (Goes now) first second = second ∙ first
  went_asks_then s t (Stops how last) first second = before_then s t last first second
