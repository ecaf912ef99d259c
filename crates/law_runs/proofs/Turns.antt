-- What steps, handles, turns and runs leave: events are only added, and turns and calls are bounded by what the outside answers.
use Rattle.std.proofs.Common.{◌≡◌, ℕ, ◌+◌, ◌≤◌, zero, suc, Bool, true, false, List, [], ◌∷◌, ◌++◌, length, subst, refl}
use Rattle.std.proofs.Common.{ap, sym, ◌∙◌, arith}
use Rattle.std.proofs.lemmas.Bool.{true≢false}
use Rattle.model_wire.specs.declared.event.End.TheVariants as end
use Rattle.model_wire.specs.declared.event.Event.TheVariants as event
use Rattle.model_wire.specs.Call.{Answer}
use Rattle.model_wire.specs.Event.{Event}
use Rattle.model_wire.specs.Fits.{fits}
use Rattle.model_wire.specs.Journal.{Entry, Answered, Refused}
use Rattle.model_machine.specs.Extra.{AsksNothing, Extra}
use Rattle.model_machine.specs.Run.{run_after, run_on}
use Rattle.model_machine.specs.Sound.{IsClosed}
use Rattle.model_machine.specs.State.{State, noted}
use Rattle.model_machine.specs.Turn.{call_of, is_stalled, turn, turn_unless, turned_by}
use Rattle.model_machine.specs.Went.{Went, Goes, Stops, answered_by, answers_in, fitted, state_of}
use Rattle.law_changes.proofs.Folds.{fold}
use Rattle.law_reach.specs.Asked.{WentAsks, asks_in}
use Rattle.law_reach.specs.Changes.{StateChange, OfLoop, Says, MakesCoroutine, SetsResumePoint, Resumes, NamesFuture, EndsMain, ChangesExtra, ChangesStreams}
use Rattle.law_reach.specs.Changes.{Runs, Hears, Calls, MayInRun, MayInTurn, made}
use Rattle.law_reach.proofs.Rows.{asks-ran, asks-said, in_turn}
use Rattle.law_reach.proofs.Turning.{turn_asks, turn_row, turned_row}
use Rattle.law_runs.specs.Growth.{EventsGrow, turns_in}
use Rattle.law_runs.proofs.Counts.{goes_on_same, goes_on_one, goes_on_then, turns-said, turns-ran, turns-got, turns-selected, turns-other}
use Rattle.law_runs.proofs.Counts.{answers-said, answers-ran, answers-got, answers-called}

-- ---- events are added, and each answer is one that was left
pub record IsAlong {S : Type 0} (s t : State S) : Type 0 where
  pub events : EventsGrow s.events t.events
  pub had : answers_in t.events + length t.answers ≡ answers_in s.events + length s.answers
  pub left : length t.answers ≤ length s.answers

along_as : {S : Type 0} (s t : State S) → t.events ≡ s.events → t.answers ≡ s.answers → IsAlong s t
along_as s t e a = record { events = rw e (goes_on_same s.events); had = rw (e, a) refl; left = rw a (omega arith) }

along_then : {S : Type 0} (s t u : State S) → IsAlong s t → IsAlong t u → IsAlong s u
along_then s t u first second = record {
  events = goes_on_then s.events t.events u.events first.events second.events;
  had = second.had ∙ first.had;
  left = let a = first.left in let b = second.left in omega arith;
}

along_one : {S : Type 0} (e : Event) (s : State S) → answers_in (s.events ++ e ∷ []) ≡ answers_in s.events → IsAlong s (noted e s)
along_one e s same = record { events = goes_on_one s.events e; had = ap (λ n. n + length s.answers) same; left = omega arith }

change-along : {S : Type 0} (change : StateChange S) (s : State S) → MayInRun change s → IsAlong s (made change s)
change-along (Says task text) s may = along_one (event.Said task text) s (answers-said s.events task text)
change-along (Runs it) s may = along_one (event.Ran it) s (answers-ran s.events it)
change-along (Calls call) s may = along_one (event.Called call) s (answers-called s.events call)
change-along (Hears call answer left) s may =
    let asked = s.events ++ event.Called call ∷ [] in
    let a = answers-got asked answer in
    let b = answers-called s.events call in
    let c = ap length may in
    record {
      events = goes_on_then s.events asked (asked ++ event.Got answer ∷ []) (goes_on_one s.events _) (goes_on_one asked _);
      had = omega (arith, a, b, c);
      left = omega (arith, c);
    }
change-along (OfLoop change) s may = along_as s _ refl refl
change-along (MakesCoroutine coroutine arguments) s may = along_as s _ refl refl
change-along (SetsResumePoint resume_point task) s may = along_as s _ refl refl
change-along (Resumes fresh task input) s may = along_as s _ refl refl
change-along (NamesFuture future) s may = along_as s _ refl refl
change-along EndsMain s may = along_as s _ refl refl
change-along (ChangesExtra extra) s may = along_as s _ refl refl
change-along (ChangesStreams streams) s may = along_as s _ refl refl

-- ---- the rest of a turn, once its select was answered: no turn begins
change-turns : {S : Type 0} (added : Extra S) (change : StateChange S) (s : State S) → MayInTurn added change s
    → turns_in (made change s).events ≡ turns_in s.events
change-turns added (Says task text) s may = turns-said s.events task text
change-turns added (Runs it) s may = turns-ran s.events it
change-turns added (Calls call) s may = turns-other s.events call may.other
change-turns added (Hears call answer left) s may = turns-got (s.events ++ event.Called call ∷ []) answer ∙ turns-other s.events call may.other
change-turns added (OfLoop change) s may = refl
change-turns added (MakesCoroutine coroutine arguments) s may = refl
change-turns added (SetsResumePoint resume_point task) s may = refl
change-turns added (Resumes fresh task input) s may = refl
change-turns added (NamesFuture future) s may = refl
change-turns added EndsMain s may = refl
change-turns added (ChangesExtra extra) s may = refl
change-turns added (ChangesStreams streams) s may = refl

turned-turns : {S : Type 0} (limit : ℕ) (added : Extra S) (answer : Answer) (s : State S)
    → turns_in (state_of (turned_by limit added answer s)).events ≡ turns_in s.events
turned-turns limit added answer s =
    fold (λ a b. turns_in b.events ≡ turns_in a.events) (λ a. refl) (λ a b c first second. second ∙ first) (change-turns added)
    (turned_row limit added answer s)

-- ---- where nothing is open, and what is added asks nothing, the outside isn't asked then
pub record IsOn {S : Type 0} (s t : State S) : Type 0 where
  pub events : EventsGrow s.events t.events
  pub turns : asks_in t.events ≡ asks_in s.events
  pub got : answers_in t.events ≡ answers_in s.events

on_as : {S : Type 0} (s t : State S) → t.events ≡ s.events → IsOn s t
on_as s t e = record { events = rw e (goes_on_same s.events); turns = ap asks_in e; got = ap answers_in e }

on_then : {S : Type 0} (s t u : State S) → IsOn s t → IsOn t u → IsOn s u
on_then s t u first second = record {
  events = goes_on_then s.events t.events u.events first.events second.events;
  turns = second.turns ∙ first.turns;
  got = second.got ∙ first.got;
}

abbrev StaysOn : {S : Type 0} → State S → State S → Type 0
StaysOn s t = IsClosed s → IsOn s t × IsClosed t

change-on : {S : Type 0} (added : Extra S) → AsksNothing added → (change : StateChange S) (s : State S) → MayInTurn added change s
    → StaysOn s (made change s)
change-on added nothing (Says task text) s may closed = (
  record { events = goes_on_one s.events _; turns = asks-said s.events task text; got = answers-said s.events task text },
  closed,
)
change-on added nothing (Runs it) s may closed = (
  record { events = goes_on_one s.events _; turns = asks-ran s.events it; got = answers-ran s.events it },
  closed,
)
change-on added nothing (Calls call) s may closed = absurd (may.may_ask closed nothing)
change-on added nothing (Hears call answer left) s may closed = absurd (may.may_ask closed nothing)
change-on added nothing (ChangesStreams streams) s may closed = absurd (may closed)
change-on added nothing (OfLoop change) s may closed = (on_as s _ refl, closed)
change-on added nothing (MakesCoroutine coroutine arguments) s may closed = (on_as s _ refl, closed)
change-on added nothing (SetsResumePoint resume_point task) s may closed = (on_as s _ refl, closed)
change-on added nothing (Resumes fresh task input) s may closed = (on_as s _ refl, closed)
change-on added nothing (NamesFuture future) s may closed = (on_as s _ refl, closed)
change-on added nothing EndsMain s may closed = (on_as s _ refl, closed)
change-on added nothing (ChangesExtra extra) s may closed = (on_as s _ refl, closed)

pub turned-on : {S : Type 0} (limit : ℕ) (added : Extra S) (answer : Answer) (s : State S) → IsClosed s → AsksNothing added
    → IsOn s (state_of (turned_by limit added answer s))
turned-on limit added answer s closed nothing =
    (fold StaysOn (λ t c. (on_as t t refl, c))
    (λ a b c first second closed. let x = first closed in let y = second x.1 in (on_then a b c x.0 y.0, y.1)) (change-on added nothing)
    (turned_row limit added answer s) closed).0

-- ---- turns. Each selects once. One that goes on took an answer.
module _ {S : Type 0} (limit : ℕ) (added : Extra S) where
  turn-along : (s : State S) → IsAlong s (state_of (turn limit added s))
  turn-along s = fold IsAlong (λ t. along_as t t refl refl) along_then change-along (turn_row limit added s)

  pub turn-grows : (s : State S) → EventsGrow s.events (state_of (turn limit added s)).events
  turn-grows s = (turn-along s).events

  pub turn-had : (s : State S)
      → let t = state_of (turn limit added s) in answers_in t.events + length t.answers ≡ answers_in s.events + length s.answers
  turn-had s = (turn-along s).had

  -- once its select was answered
  abbrev heard_by : State S → Answer → List Entry → State S
  heard_by s answer left = noted (event.Got answer) (record (noted (event.Called (call_of added s)) s) { answers = left })

  abbrev Turned : State S → Went S → Type 0
  Turned s (Goes now) = (turns_in now.events ≡ suc (turns_in s.events)) × (suc (length now.answers) ≤ length s.answers)
  Turned s (Stops how last) = turns_in last.events ≡ suc (turns_in s.events)

  turn-turned : (s : State S) → is_stalled added s ≡ false → Turned s (turn limit added s)
  unfolding turn
  turn-turned s e = unless (is_stalled added s) e
    where
      begun : (answer : Answer) (left : List Entry) → turns_in (heard_by s answer left).events ≡ suc (turns_in s.events)
      begun answer left = turns-got (s.events ++ event.Called (call_of added s) ∷ []) answer ∙ turns-selected s.events (call_of added s) refl

      after : (answer : Answer) (left : List Entry) → s.answers ≡ Answered answer ∷ left → (went : Went S)
          → turns_in (state_of went).events ≡ turns_in (heard_by s answer left).events → IsAlong (heard_by s answer left) (state_of went) → Turned s went
      after answer left e (Goes now) same along = (
        same ∙ begun answer left,
        (let a = along.left in let b = ap length e in omega (arith, a, b)),
      )
      after answer left e (Stops how last) same along = same ∙ begun answer left

      fit : (b : Bool) (answer : Answer) (left : List Entry) → s.answers ≡ Answered answer ∷ left
          → Turned s (fitted b (call_of added s) answer (turned_by limit added) (heard_by s answer left))
      fit true answer left e =
          after answer left e (turned_by limit added answer (heard_by s answer left)) (turned-turns limit added answer (heard_by s answer left))
          (fold IsAlong (λ t. along_as t t refl refl) along_then change-along (in_turn added (turned_row limit added answer (heard_by s answer left))))
      fit false answer left e = begun answer left

      by : (entries : List Entry) → s.answers ≡ entries
          → Turned s (answered_by entries (call_of added s) (turned_by limit added) (noted (event.Called (call_of added s)) s))
      by [] e = turns-selected s.events (call_of added s) refl
      by (Refused line cause ∷ entries) e = turns-selected s.events (call_of added s) refl
      by (Answered answer ∷ entries) e = fit (fits (call_of added s) answer) answer entries e

      unless : (b : Bool) → b ≡ false → Turned s (turn_unless limit added b s)
      unless true n = absurd (true≢false n)
      unless false n = by s.answers refl

  pub turn-one : (s : State S) → is_stalled added s ≡ false → turns_in (state_of (turn limit added s)).events ≡ turns_in s.events + 1
  turn-one s e = of (turn limit added s) (turn-turned s e)
    where
      of : (went : Went S) → Turned s went → turns_in (state_of went).events ≡ turns_in s.events + 1
      of (Goes now) is = is.0 ∙ omega arith
      of (Stops how last) is = is ∙ omega arith

  -- where nothing is open, and what is added asks nothing, a turn has one answer at most
  abbrev pub HadOne : State S → Went S → Type 0
  HadOne s went = answers_in (state_of went).events ≤ answers_in s.events + 1

  pub turn-had_one : (s : State S) → IsClosed s → AsksNothing added → HadOne s (turn limit added s)
  unfolding turn
  turn-had_one s closed nothing = unless (is_stalled added s)
    where
      one : (answer : Answer) (left : List Entry) (n : ℕ) → n ≡ answers_in (heard_by s answer left).events → n ≤ answers_in s.events + 1
      one answer left n same =
          let a = answers-got (s.events ++ event.Called (call_of added s) ∷ []) answer in
          let b = answers-called s.events (call_of added s) in
          omega (arith, same, a, b)

      fit : (b : Bool) (answer : Answer) (left : List Entry) → HadOne s (fitted b (call_of added s) answer (turned_by limit added) (heard_by s answer left))
      fit true answer left = one answer left _ (turned-on limit added answer (heard_by s answer left) closed nothing).got
      fit false answer left = one answer left _ refl

      none : HadOne s (Stops (end.Over (call_of added s)) (noted (event.Called (call_of added s)) s))
      none = let b = answers-called s.events (call_of added s) in omega (arith, b)

      by : (entries : List Entry) → HadOne s (answered_by entries (call_of added s) (turned_by limit added) (noted (event.Called (call_of added s)) s))
      by [] = none
      by (Refused line cause ∷ entries) = none
      by (Answered answer ∷ entries) = fit (fits (call_of added s) answer) answer entries

      unless : (b : Bool) → HadOne s (turn_unless limit added b s)
      unless true = omega arith
      unless false = by s.answers

  -- ---- runs
  pub run-grows : (allowed left : ℕ) (s : State S) → EventsGrow s.events (run_on limit added allowed left s).events
  unfolding run_on
  run-grows allowed zero s = goes_on_same s.events
  run-grows allowed (suc left) s = at (turn limit added s) (turn-grows s) (run-grows allowed left)
    where
      at : (went : Went S) → EventsGrow s.events (state_of went).events
          → ((t : State S) → EventsGrow t.events (run_on limit added allowed left t).events)
          → EventsGrow s.events (run_after (run_on limit added allowed left) went).events
      at (Goes now) first rest = goes_on_then s.events now.events (run_on limit added allowed left now).events first (rest now)
      at (Stops how last) first rest = first

  stalled : (s : State S) → is_stalled added s ≡ true → turn limit added s ≡ Stops end.Stalled s
  unfolding turn
  stalled s e = ap (λ b. turn_unless limit added b s) e

  pub run-bounded : (allowed left : ℕ) (s : State S)
      → turns_in (run_on limit added allowed left s).events ≤ turns_in s.events + length s.answers + 1
  unfolding run_on
  run-bounded allowed zero s = omega arith
  run-bounded allowed (suc left) s = at (is_stalled added s) refl (run-bounded allowed left)
    where
      of : ((t : State S) → turns_in (run_on limit added allowed left t).events ≤ turns_in t.events + length t.answers + 1)
          → (went : Went S) → Turned s went
          → turns_in (run_after (run_on limit added allowed left) went).events ≤ turns_in s.events + length s.answers + 1
      of rest (Goes now) is = let a = is.0 in let b = is.1 in let d = rest now in omega arith
      of rest (Stops how last) is = omega (arith, is)

      at : (b : Bool) → is_stalled added s ≡ b
          → ((t : State S) → turns_in (run_on limit added allowed left t).events ≤ turns_in t.events + length t.answers + 1)
          → turns_in (run_after (run_on limit added allowed left) (turn limit added s)).events ≤ turns_in s.events + length s.answers + 1
      at true e rest =
          subst (λ (w : Went S). turns_in (run_after (run_on limit added allowed left) w).events ≤ turns_in s.events + length s.answers + 1)
          (sym (stalled s e)) (omega arith)
      at false e rest = of rest (turn limit added s) (turn-turned s e)

  -- a run asks once more at most than the outside has answers
  pub run-asks : (allowed left : ℕ) (s : State S) → asks_in (run_on limit added allowed left s).events ≤ asks_in s.events + length s.answers + 1
  unfolding run_on
  run-asks allowed zero s = omega arith
  run-asks allowed (suc left) s = at (turn limit added s) (turn_asks limit added s) (run-asks allowed left)
    where
      at : (went : Went S) → WentAsks s went
          → ((t : State S) → asks_in (run_on limit added allowed left t).events ≤ asks_in t.events + length t.answers + 1)
          → asks_in (run_after (run_on limit added allowed left) went).events ≤ asks_in s.events + length s.answers + 1
      at (Goes now) asked rest = let d = rest now in omega (arith, asked, d)
      at (Stops how last) asked rest = omega (arith, asked)
