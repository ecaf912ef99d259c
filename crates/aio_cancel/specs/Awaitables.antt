-- The queue, the futures and the tasks, as the parts of the loop.
use Rattle.std.specs.Prelude.{◌≡◌, ℕ, suc, List, [], ◌∷◌, ◌++◌, length}
use Rattle.model_value.specs.Action.{Action}
use Rattle.model_loop.specs.Parts as plain
use Rattle.model_loop.specs.Parts.{Future, Task, Parts}
use Rattle.aio_ready.specs.declared.handle.Handle.{Handle}
use Rattle.aio_ready.specs.Queue.{Queue, soon_all}

pub record Awaitables : Type 0 where
  pub queue : Queue
  pub futures : List Future
  pub tasks : List Task

abbrev pub handles_from : ℕ → List Handle → List plain.Handle
handles_from place [] = []
handles_from place (handle ∷ handles) =
    record { stamp = place; tag = place; action = handle.action; dead = handle.dead } ∷ handles_from (suc place) handles

-- all that wait, in order
abbrev pub waiting : Queue → List Handle
waiting q = q.below ++ q.after

-- The parts, whose handles are stamped and named by their places. A request reads neither, and appends handles alone.
abbrev pub parts : Awaitables → Parts
parts v = record {
  time = 0;
  next_stamp = length (waiting v.queue);
  next_tag = length (waiting v.queue);
  pending = handles_from 0 (waiting v.queue);
  timers = [];
  futures = v.futures;
  tasks = v.tasks;
}

-- some actions were appended, in order, and nothing else happened to the queue
abbrev pub Appended : Queue → Queue → Type 0
Appended before after = (actions : List Action) × (after ≡ soon_all actions before)
