-- What is taken back was there: a timeout or a group that takes its request back finds the task's count above 0, unless somebody
-- else called `uncancel` on the task before.
use Rattle.std.specs.Prelude.{◌≡◌, ℕ, zero, suc, true, false, List, ◌∷◌, ◌++◌}
use Rattle.std.specs.List.{list_any}
use Rattle.model_says.specs.Says.{step_limit}
use Rattle.model_loop.specs.Ledger.{Origin, LedgerEntry, Took}
use Rattle.law_promises.specs.Owed.{is_by_hand, uncancels}
use Rattle.model_machine.specs.Extra.{Extra}
use Rattle.model_machine.specs.State.{State}
use Rattle.model_machine.specs.Turn.{turn}
use Rattle.model_machine.specs.Went.{Went, Goes, Stops}

-- Where a timeout or a group took its request back and lowered nothing, such an `uncancel` of the same task stands before.
abbrev pub TakesWhatWasThere : List LedgerEntry → Type 0
TakesWhatWasThere ledger =
    (before after : List LedgerEntry) (task : ℕ) (by : Origin) → ledger ≡ before ++ Took task by false ∷ after → is_by_hand by ≡ false
    → list_any (uncancels task) before ≡ true

abbrev pub HasRightLedger : {S : Type 0} → State S → Type 0
HasRightLedger s = TakesWhatWasThere s.loop.ledger

abbrev pub EachAfter : {S : Type 0} → (each : State S → Type 0) → Went S → Type 0
EachAfter each (Goes now) = each now
EachAfter each (Stops end last) = HasRightLedger last

-- of each state between two turns, of a run of so many turns from a state on, and of the state in which it ends
unfoldable pub HasRightLedgers : {S : Type 0} → Extra S → (turns : ℕ) → State S → Type 0
HasRightLedgers added zero s = HasRightLedger s
HasRightLedgers added (suc turns) s = HasRightLedger s × EachAfter (HasRightLedgers added turns) (turn step_limit added s)
