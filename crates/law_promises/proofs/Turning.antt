-- What each row of a run keeps, all states of a run keep.
use Rattle.std.proofs.Common.{◌≡◌, ℕ, zero, suc, refl, Bool, true, false, List, [], ◌∷◌, nat_lt}
use Rattle.model_wire.specs.declared.event.Event.TheVariants as event
use Rattle.model_wire.specs.Call.{Answer}
use Rattle.model_wire.specs.Fits.{fits}
use Rattle.model_wire.specs.Journal.{Entry, Answered, Refused}
use Rattle.model_loop.specs.Parts.{Handle}
use Rattle.model_machine.specs.Extra.{Extra}
use Rattle.model_machine.specs.Mids.{mids, mids_below, mids_by, mids_fitted, mids_if, mids_unless, next_mids, then_mids}
use Rattle.model_machine.specs.State.{State, noted, unbooked_in}
use Rattle.model_machine.specs.Turn.{call_of, is_stalled, run_first, turn, woken_by}
use Rattle.model_machine.specs.Went.{Went, Goes, Stops, state_of}
use Rattle.law_changes.proofs.Folds.{one}
use Rattle.law_reach.specs.Changes.{Hears}
use Rattle.law_reach.specs.Reaches.{InRun}
use Rattle.law_reach.proofs.Rows.{in_callback, in_turn}
use Rattle.law_reach.proofs.Turning.{first_turns, turn_row, woken_row}
use Rattle.law_promises.specs.Stays.{AfterTurn, AreAll, AreDoneIn, IsRunOf}
use Rattle.law_promises.proofs.ToldStays.{run_stays}

module _ {S : Type 0} (Holds : State S → Type 0) (keeps : (s t : State S) → InRun s t → Holds s → Holds t) (limit : ℕ) (added : Extra S) where
  then_all : (s : State S) (go_on : State S → List (State S)) (went : Went S) → Holds s → InRun s (state_of went)
      → ((t : State S) → Holds t → AreAll Holds (go_on t)) → AreAll Holds (then_mids go_on went)
  then_all s go_on (Goes now) holds row each = (keeps s now row holds, each now (keeps s now row holds))
  then_all s go_on (Stops how last) holds row each = tt

  next_all : (bar : ℕ) (handles : List Handle) (go_on : State S → List (State S)) (s : State S) → Holds s
      → ((t : State S) → Holds t → AreAll Holds (go_on t)) → AreAll Holds (next_mids limit added bar handles go_on s)
  next_all bar [] go_on s holds each = tt
  next_all bar (handle ∷ rest) go_on s holds each = at (nat_lt handle.stamp bar)
    where
      at : (b : Bool) → AreAll Holds (mids_if limit added b handle rest go_on s)
      at true = then_all s go_on (run_first limit added handle rest s) holds (in_turn added (first_turns limit added handle rest s).reaches) each
      at false = tt

  below_all : (bar count : ℕ) (s : State S) → Holds s → AreAll Holds (mids_below limit added bar count s)
  unfolding mids_below
  below_all bar zero s holds = tt
  below_all bar (suc count) s holds = next_all bar s.loop.parts.pending (mids_below limit added bar count) s holds (below_all bar count)

  mids_all : (s : State S) → Holds s → AreAll Holds (mids limit added s)
  mids_all s holds = unless (is_stalled added s)
    where
      from_all : (came : Answer) (t : State S) → Holds t → AreAll Holds (mids_fitted limit added true came t)
      from_all came t it =
          let now = keeps t (unbooked_in (woken_by came) t) (in_turn added (in_callback added (woken_row added came t))) it in
          (now, below_all _ _ (unbooked_in (woken_by came) t) now)

      fit : (b : Bool) (came : Answer) (t : State S) → Holds t → AreAll Holds (mids_fitted limit added b came t)
      fit true came t it = from_all came t it
      fit false came t it = tt

      by : (entries : List Entry) → s.answers ≡ entries
          → AreAll Holds (mids_by limit added entries (call_of added s) (noted (event.Called (call_of added s)) s))
      by [] e = tt
      by (Refused line cause ∷ entries) e = tt
      by (Answered came ∷ entries) e = fit (fits (call_of added s) came) came _ (keeps s _ (one (Hears (call_of added s) came entries) e) holds)

      unless : (b : Bool) → AreAll Holds (mids_unless limit added b s)
      unless true = tt
      unless false = by s.answers refl

  after : (goes_on : State S → Type 0) (s : State S) (went : Went S) → Holds s → InRun s (state_of went) → ((t : State S) → Holds t → goes_on t)
      → AfterTurn Holds goes_on went
  after goes_on s (Goes now) holds row each = each now (keeps s now row holds)
  after goes_on s (Stops how last) holds row each = keeps s last row holds

  run_all : (turns : ℕ) (s : State S) → Holds s → IsRunOf Holds limit added turns s
  run_all zero s holds = holds
  run_all (suc turns) s holds = (
    holds,
    mids_all s holds,
    after (IsRunOf Holds limit added turns) s (turn limit added s) holds (turn_row limit added s) (run_all turns),
  )

pub run_done : {S : Type 0} (limit : ℕ) (added : Extra S) (turns : ℕ) (s : State S) → IsRunOf (AreDoneIn s.loop.parts) limit added turns s
run_done {S} limit added turns s =
    run_all (AreDoneIn s.loop.parts) (λ t u row before id outcome e. run_stays row id outcome (before id outcome e)) limit added turns s
    (λ id outcome e. e)
