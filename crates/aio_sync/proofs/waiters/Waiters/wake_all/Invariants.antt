use Rattle.std.proofs.Common.{◌≡◌, ℕ, None, true, map}
use Rattle.model_sync.specs.Synced.{wakes}
use Rattle.aio_task.specs.Keeps.{Known}
use Rattle.aio_task.specs.View.{View}
use Rattle.refine_added.specs.Seen.{SeesAll}
use Rattle.aio_sync.specs.Woken.{are_free}
use Rattle.aio_sync.proofs.waiters.Waiters.wake_all.Given as goal

abbrev pub invariant-loop-waiter : goal.invariant-loop-waiter
invariant-loop-waiter l = record {
  idle : l.parts.called ≡ None;
  free : are_free l.parts.futures l.waiter-iterator ≡ true;
  rest : (known : ℕ → Known) (w : View) → SeesAll known (map wakes l.waiter-iterator) l.parts w → SeesAll known (map wakes l.self) l.initial.parts w;
}
