-- A sound state: what holds of the loop between any two callbacks, and inside one for all but the task that runs.
use Rattle.std.specs.Prelude.{◌≡◌, ℕ, ◌<◌, true, List, Option, Some, None}
use Rattle.model_loop.specs.Parts.{Parts}
use Rattle.model_loop.specs.Cycles.{Leads}
use Rattle.model_loop.specs.Futures.{next_future}
use Rattle.model_loop.specs.Tasks.{lives, waiter_of}
use Rattle.model_loop.specs.Loop.{Loop}
use Rattle.model_loop.specs.Timeouts.{timeout_of}
use Rattle.model_loop.specs.Groups.{group_of}
use Rattle.model_loop.specs.Numbered.{IsNumbered}
use Rattle.model_loop.specs.Owning.{OwnsFutures, AreSettled, AreCallbacks}
use Rattle.model_loop.specs.Ways.{is_running, HasOneWay, IsReady}
use Rattle.model_loop.specs.MustCancel.{MustCancelWaits}
use Rattle.model_loop.specs.Entries.{AreTimed}
use Rattle.model_loop.specs.Deadlines.{HasTag}
use Rattle.model_loop.specs.Children.{IsGroup}
use Rattle.model_loop.specs.Balance.{CountsBalance}

-- no future leads to itself
abbrev pub HasNoCycle : Parts → Type 0
HasNoCycle p = (id : ℕ) → Leads p id id → ⊥

-- Tasks and futures, while this task is running, or none. must_cancel of the excused task needs no reason: that is the one that
-- runs, or, inside a wait, the one that has just begun to wait.
pub record ArePartsSound (running excused : Option ℕ) (p : Parts) : Type 0 where
  pub owns : OwnsFutures p
  pub settled : AreSettled p
  pub callbacks : AreCallbacks p
  -- the task that runs lives, and waits for nothing
  pub runs : (task : ℕ) → is_running running task ≡ true → lives p task ≡ true
  pub free : (task : ℕ) → is_running running task ≡ true → waiter_of p task ≡ None
  pub waits_made : (task on : ℕ) → waiter_of p task ≡ Some on → on < next_future p
  pub one_way : HasOneWay running p
  pub ready : IsReady p
  pub must_cancel : MustCancelWaits excused p

-- The loop, whose group `id` was told of the tasks `told id` that they are done, in this order.
pub record IsSound (running : Option ℕ) (told : ℕ → List ℕ) (l : Loop) : Type 0 where
  pub numbered : IsNumbered l.parts
  pub no_cycle : HasNoCycle l.parts
  pub parts : ArePartsSound running running l.parts
  pub timed : AreTimed l.parts
  pub timeouts : (id : ℕ) → HasTag l.parts id (timeout_of l id)
  pub groups : (id : ℕ) → IsGroup l.parts id (told id) (group_of l id)
  pub balance : CountsBalance l
