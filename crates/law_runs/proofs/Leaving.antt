-- A turn that ends the run leaves a sound state, unless it ended it in the middle of a callback.
use Rattle.std.proofs.Common.{◌≡◌, inl, inr, ℕ, zero, suc, ◌∙◌}
use Rattle.model_says.specs.Says.{step_limit}
use Rattle.model_wire.specs.Call.{Answer}
use Rattle.model_wire.specs.Trace.{End}
use Rattle.model_machine.specs.Extra.{Extra}
use Rattle.model_machine.specs.Sound.{IsStateSound}
use Rattle.model_machine.specs.State.{State, unbooked_in}
use Rattle.model_machine.specs.Turn.{run_pending, turn, turn_over, turned_by, woken_by}
use Rattle.model_machine.specs.Went.{Went, Goes, Stops, state_of, went_on}
use Rattle.law_changes.proofs.Folds.{on}
use Rattle.law_replies.specs.Added.{KeepsSound}
use Rattle.law_replies.specs.InStep.{LeavesStateSound}
use Rattle.law_runs.proofs.Turning.{over_left, pending_in, turn_left, woken_in}
use Rattle.law_reach.specs.Reaches.{EndsIn, InRun, StopsIn}
use Rattle.law_reach.proofs.Rows.{ends_before}
use Rattle.law_reach.proofs.Turning.{pending_turns, turn_row}
use Rattle.law_runs.specs.Ends.{IsLeftSound, EndsAfter, EndsSound}

-- what was open as the streams were the same
same_ends : {S : Type 0} (added : Extra S) (s t : State S) → t.streams ≡ s.streams → (how : End) → EndsIn added t how → EndsIn added s how
same_ends added s t same how (inl away) = inl away
same_ends added s t same how (inr met) = inr (λ closed nothing. met.0 (same ∙ closed) nothing, met.1)

module _ {S : Type 0} (added : Extra S) (keeps : KeepsSound added) where
  -- ---- a turn
  turned_in : (s : State S) (answer : Answer) (t : State S) → t.streams ≡ s.streams → IsStateSound added t
      → IsLeftSound added s (turned_by step_limit added answer t)
  turned_in s answer t same sound =
      let woken = unbooked_in (woken_by answer) t in
      at (run_pending step_limit added woken) (pending_in added keeps woken (woken_in added t answer sound)) (pending_turns step_limit added woken).ends
    where
      at : (w : Went S) → LeavesStateSound added w → StopsIn added (unbooked_in (woken_by answer) t) w
          → IsLeftSound added s (went_on (turn_over t.main_done) w)
      at (Goes now) left ends = over_left added (IsLeftSound added s) (λ t h. h) (λ how last h. inr h) t.main_done now left
      at (Stops how last) left ends = inl (same_ends added s (unbooked_in (woken_by answer) t) same how ends)

  pub turn_in : (s : State S) → IsStateSound added s → IsLeftSound added s (turn step_limit added s)
  turn_in s = turn_left added (IsLeftSound added s) (λ t h. h) (λ how last h. inr h) s (turned_in s)

  -- ---- a run
  pub ends_in : (first : State S) (turns : ℕ) (s : State S) → InRun first s → IsStateSound added s → EndsSound added first turns s
  unfolding EndsSound
  ends_in first zero s row sound = tt
  ends_in first (suc turns) s row sound =
      at (turn step_limit added s) (turn_in s sound) (on row (turn_row step_limit added s)) (λ t r h. ends_in first turns t r h)
    where
      at : (w : Went S) → IsLeftSound added s w → InRun first (state_of w)
          → ((t : State S) → InRun first t → IsStateSound added t → EndsSound added first turns t)
          → EndsAfter added first (EndsSound added first turns) w
      at (Goes now) left reaches rest = rest now reaches left
      at (Stops how last) (inl ends) reaches rest = inl (ends_before added row how ends)
      at (Stops how last) (inr left) reaches rest = inr left
