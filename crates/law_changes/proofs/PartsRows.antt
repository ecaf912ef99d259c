-- What the loop does to its parts is a row of changes.
use Rattle.std.proofs.Common.{ℕ, zero, suc, refl, Bool, true, false, List, [], ◌∷◌, ◌++◌, Option, Some, None, Result, Ok, Err, length, slice_get}
use Rattle.std.proofs.Common.{if◌then◌else◌}
use Rattle.model_value.specs.Action.{CycleKind}
use Rattle.model_value.specs.declared.action.Action.TheVariants.{StepInCycle, Wakeup}
use Rattle.model_value.specs.declared.outcome.Outcome.TheVariants.{Cancelled}
use Rattle.model_value.specs.Input.{Input}
use Rattle.model_value.specs.Value.{Value, Exc, Outcome}
use Rattle.model_loop.specs.Cancel.{CancelRequest, Canceller, cancel, cancel_below, cancel_by, cancel_each, cancel_within, has_seen}
use Rattle.model_loop.specs.Futures.{made_before}
use Rattle.model_loop.specs.Ledger.{Origin, request_each, request_where}
use Rattle.model_loop.specs.Parts.{Future, FutureKind, Plain, OfTask, Many, Parts, Task}
use Rattle.model_loop.specs.Cycles.{cycle}
use Rattle.model_loop.specs.Suspend.{cancel_wait, suspend, wait_on}
use Rattle.model_loop.specs.Tasks.{begin_step, finish, future_of, must_cancel_of, lives, clear_must_cancel}
use Rattle.law_cancel.proofs.SuspendCases.{suspend_unless}
use Rattle.law_cancel.proofs.CancelCases.{cancel_at, cancel_kind, cancel_task_where, cancel_unseen, cancel_until, cancel_waiter, asked_where}
use Rattle.law_cancel.proofs.CancelCases.{must_cancel_unless}
use Rattle.law_changes.specs.Blocks.{OfRequest, cancels, keeps_asked, counts, sets_must_cancel, OfWait, cycles, registers_step, begins_wait, in_wait}
use Rattle.law_changes.specs.Blocks.{clears_must_cancel}
use Rattle.law_changes.specs.Changes.{PartsChange, MayInParts, made_of_parts, CallsSoon, Settles, Registers, KeepsAsked, WaitsFor, SetsMustCancel}
use Rattle.law_changes.specs.Changes.{ClearsMustCancel, Counts}
use Rattle.law_changes.specs.Reaches.{Reaches, ReachAlone, PartsReach, stays, goes}
use Rattle.law_changes.proofs.Folds.{one, on, widen}

-- ---- cancel requests
abbrev ByRows : Canceller → Type 0
ByRows c = (id : ℕ) (seen : List ℕ) (p : Parts) → Reaches made_of_parts OfRequest p (c id seen p).parts

each_row : (c : Canceller) → ByRows c → (ids seen : List ℕ) (p : Parts) → Reaches made_of_parts OfRequest p (cancel_each c ids seen p).parts
each_row c rows [] seen p = stays
each_row c rows (id ∷ ids) seen p = on (rows id seen p) (each_row c rows ids (c id seen p).seen (c id seen p).parts)

module _ (member waiter : Canceller) (members : ByRows member) (waiters : ByRows waiter) where
  waiter_row : (task : ℕ) (o : Option ℕ) (seen : List ℕ) (p : Parts) → Reaches made_of_parts OfRequest p (cancel_waiter waiter task o seen p).parts
  waiter_row task None seen p = one (SetsMustCancel task) (sets_must_cancel task)
  waiter_row task (Some id) seen p = at (waiter id seen p).answer
    where
      at : (b : Bool) → Reaches made_of_parts OfRequest p (must_cancel_unless b task (waiter id seen p)).parts
      at true = waiters id seen p
      at false = goes (waiters id seen p) (SetsMustCancel task) (sets_must_cancel task)

  unseen_row : (task : ℕ) (o : Option Task) (seen : List ℕ) (p : Parts) → Reaches made_of_parts OfRequest p (cancel_unseen waiter task o seen p).parts
  unseen_row task None seen p = stays
  unseen_row task (Some it) seen p = on (one (Counts task) (counts task)) (waiter_row task it.waiter (seen ++ task ∷ []) _)

  task_row : (b : Bool) (task : ℕ) (seen : List ℕ) (p : Parts) → Reaches made_of_parts OfRequest p (cancel_task_where waiter b task seen p).parts
  task_row true task seen p = stays
  task_row false task seen p = unseen_row task (slice_get p.tasks task) seen p

  asked_row : (b : Bool) (id : ℕ) (p : Parts) (it : CancelRequest) → Reaches made_of_parts OfRequest p it.parts
      → Reaches made_of_parts OfRequest p (asked_where b id it).parts
  asked_row true id p it row = goes row (KeepsAsked id) (keeps_asked id)
  asked_row false id p it row = row

  kind_row : (kind : FutureKind) → ByRows (cancel_kind member waiter kind)
  kind_row Plain id seen p = one (Settles id Cancelled) (cancels id)
  kind_row (OfTask task) id seen p = task_row (has_seen seen task) task seen p
  kind_row (Many others asked) id seen p =
      asked_row (cancel_each member (made_before id others) seen p).answer id p (cancel_each member (made_before id others) seen p)
      (each_row member members (made_before id others) seen p)

  until_row : (o : Option Outcome) (kind : FutureKind) → ByRows (cancel_until member waiter o kind)
  until_row (Some outcome) kind id seen p = stays
  until_row None kind id seen p = kind_row kind id seen p

  at_row : (o : Option Future) → ByRows (cancel_at member waiter o)
  at_row None id seen p = stays
  at_row (Some future) id seen p = until_row future.outcome future.kind id seen p

  by_row : ByRows (cancel_by member waiter)
  by_row id seen p = at_row (slice_get p.futures id) id seen p

below_row : (bound : ℕ) (waiter : Canceller) → ByRows waiter → ByRows (cancel_below bound waiter)
below_row zero waiter rows id seen p = stays
below_row (suc bound) waiter rows id seen p = by_row (cancel_below bound waiter) waiter (below_row bound waiter rows) rows id seen p

within_row : (tasks : ℕ) → ByRows (cancel_within tasks)
within_row zero id seen p = stays
within_row (suc tasks) id seen p = below_row (suc id) (cancel_within tasks) (within_row tasks) id seen p

pub cancel_in : (id : ℕ) (p : Parts) → Reaches made_of_parts OfRequest p (cancel id p).parts
cancel_in id p = within_row (suc (length p.tasks)) id [] p

pub each_in : (by : Origin) (tasks : List ℕ) (p : Parts) → Reaches made_of_parts OfRequest p (request_each by tasks p).parts
each_in by [] p = stays
each_in by (task ∷ tasks) p = on (at (lives p task)) (each_in by tasks (request_where (lives p task) by (future_of p task) p).parts)
  where
    at : (b : Bool) → Reaches made_of_parts OfRequest p (request_where b by (future_of p task) p).parts
    at true = cancel_in (future_of p task) p
    at false = stays

may_request : (r : Option ℕ) (change : PartsChange) (p : Parts) → OfRequest change p → MayInParts r change p
may_request r _ p (cancels future) = tt
may_request r _ p (keeps_asked future) = tt
may_request r _ p (counts task) = tt
may_request r _ p (sets_must_cancel task) = tt

pub cancel_row : (r : Option ℕ) (id : ℕ) (p : Parts) → PartsReach r p (cancel id p).parts
cancel_row r id p = widen (may_request r) (cancel_in id p)

-- ---- the task that runs
module _ (task : ℕ) where
  pub begin_row : (input : Input) (p : Parts) → ReachAlone (Some task) p (begin_step task input p).parts
  begin_row input p = goes (one (WaitsFor task None) refl) (ClearsMustCancel task) refl

  pub finish_row : (end : Result Value Exc) (p : Parts) → ReachAlone (Some task) p (finish task end p)
  finish_row (Ok value) p = goes (one (ClearsMustCancel task) refl) (Settles (future_of p task) _) tt
  finish_row (Err fault) p = one (Settles (future_of p task) _) tt

-- ---- and waits
module _ (task future : ℕ) where
  waits_in : (p : Parts) → Reaches made_of_parts (OfWait task future) p (wait_on task future p)
  waits_in p = goes (one (Registers future (Wakeup task)) registers_step) (WaitsFor task (Some future)) begins_wait

  pub suspend_in : (p : Parts) → Reaches made_of_parts (OfWait task future) p (suspend task future p).parts
  suspend_in p = at (cycle p task future)
    where
      asked : Reaches made_of_parts (OfWait task future) p (cancel future (wait_on task future p)).parts
      asked = on (waits_in p) (widen (λ change q it. in_wait it) (cancel_in future (wait_on task future p)))

      answered : (b : Bool) → Reaches made_of_parts (OfWait task future) p
          (if b then clear_must_cancel task (cancel future (wait_on task future p)).parts else (cancel future (wait_on task future p)).parts)
      answered true = goes asked (ClearsMustCancel task) clears_must_cancel
      answered false = asked

      must_cancel : (b : Bool) → Reaches made_of_parts (OfWait task future) p (cancel_wait b task future (wait_on task future p)).parts
      must_cancel true = answered (cancel future (wait_on task future p)).answer
      must_cancel false = waits_in p

      at : (o : Option CycleKind) → Reaches made_of_parts (OfWait task future) p (suspend_unless o task future p).parts
      at (Some why) = one (CallsSoon (StepInCycle task why)) (cycles why)
      at None = must_cancel (must_cancel_of p task)
