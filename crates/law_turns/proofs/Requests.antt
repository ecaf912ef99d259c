-- What requests, and a task's step, leave of the parts.
use Rattle.std.proofs.Common.{ℕ, Bool, true, false, List, Option, None, Result, Ok, Err, if◌then◌else◌, refl}
use Rattle.model_value.specs.Input.{Input}
use Rattle.model_value.specs.declared.outcome.Outcome.TheVariants.{Value as Returned, Failed, Cancelled}
use Rattle.model_value.specs.Value.{Value, Exc}
use Rattle.model_loop.specs.Cancel.{cancel}
use Rattle.model_loop.specs.Ledger.{Origin, request_each}
use Rattle.model_loop.specs.Parts.{Parts}
use Rattle.model_loop.specs.Suspend.{suspend}
use Rattle.model_loop.specs.Tasks.{begin_step, finish, future_of, is_cancelled, must_cancel_of, clear_must_cancel}
use Rattle.law_changes.specs.Blocks.{OfRequest, cancels, keeps_asked, counts, sets_must_cancel, OfWait, cycles, registers_step, begins_wait, in_wait}
use Rattle.law_changes.specs.Blocks.{clears_must_cancel}
use Rattle.law_changes.specs.Changes.{PartsChange, ClearsMustCancel, WaitsFor}
use Rattle.law_changes.specs.Reaches.{goes}
use Rattle.law_changes.proofs.Folds.{one, widen}
use Rattle.law_changes.proofs.PartsRows.{cancel_in, each_in, suspend_in}
use Rattle.law_turns.specs.After.{OutcomeIn, ResultIn, IsAfter, MayLeave}
use Rattle.law_turns.proofs.Frame.{row_leaves}
use Rattle.law_turns.proofs.Parts.{after_on, change_after, settle_after}

module _ (test : Value → Bool) (grown : Bool) (excused : Option ℕ) where
  may_request : (change : PartsChange) (p : Parts) → OfRequest change p → MayLeave test grown change p
  may_request _ p (cancels future) = tt
  may_request _ p (keeps_asked future) = tt
  may_request _ p (counts task) = tt
  may_request _ p (sets_must_cancel task) = tt

  pub cancel_after : (id : ℕ) (p : Parts) → IsAfter test grown excused p (cancel id p).parts
  cancel_after id p = row_leaves test grown excused (widen may_request (cancel_in id p))

  pub each_after : (by : Origin) (tasks : List ℕ) (p : Parts) → IsAfter test grown excused p (request_each by tasks p).parts
  each_after by tasks p = row_leaves test grown excused (widen may_request (each_in by tasks p))

  -- ---- a step
  pub begin_after : (task : ℕ) (input : Input) (p : Parts) → IsAfter test grown excused p (begin_step task input p).parts
  begin_after task input p = row_leaves test grown excused (goes (one (WaitsFor task None) tt) (ClearsMustCancel task) tt)

  may_wait : (task on : ℕ) (change : PartsChange) (p : Parts) → OfWait task on change p → MayLeave test grown change p
  may_wait task on _ p (cycles why) = refl
  may_wait task on _ p registers_step = refl
  may_wait task on _ p begins_wait = tt
  may_wait task on change p (in_wait it) = may_request change p it
  may_wait task on _ p clears_must_cancel = tt

  pub suspend_after : (task on : ℕ) (p : Parts) → IsAfter test grown excused p (suspend task on p).parts
  suspend_after task on p = row_leaves test grown excused (widen (may_wait task on) (suspend_in task on p))

  pub finish_after : (task : ℕ) (end : Result Value Exc) (p : Parts) → ResultIn test end → IsAfter test grown excused p (finish task end p)
  finish_after task (Ok value) p good =
      after_on test grown excused p (clear_must_cancel task p) _
      (settle_after test grown excused (future_of p task) (if must_cancel_of p task then Cancelled else Returned value) (clear_must_cancel task p)
      (at (must_cancel_of p task)))
      (change_after test grown excused task _ p (λ t. refl))
    where
      at : (b : Bool) → OutcomeIn test (if b then Cancelled else Returned value)
      at true = tt
      at false = good
  finish_after task (Err fault) p good =
      settle_after test grown excused (future_of p task) (if is_cancelled fault then Cancelled else Failed fault) p (at (is_cancelled fault))
    where
      at : (b : Bool) → OutcomeIn test (if b then Cancelled else Failed fault)
      at true = tt
      at false = tt
