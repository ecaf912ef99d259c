-- Tasks and the body as trees of numbers, and back. By it types of code may be seen as such.
use Rattle.std.specs.Prelude.{ℕ, Bool, List, Option}
use Rattle.std.specs.Coded.{Coded, code_by, coded_option, coded×, coded_list, coded_ℕ, coded_bool}
use Rattle.std.proofs.Common.{refl}
use Rattle.model_loop.specs.Parts.{Future, Task}
use Rattle.aio_ready.specs.Queue.{Queue}
use Rattle.aio_ready.specs.contracts.ready.Ready as ready
use Rattle.aio_future.specs.Code.{coded_future}
use Rattle.aio_cancel.specs.Awaitables.{Awaitables}

abbrev pub coded_task : Coded Task
coded_task =
    code_by (ℕ × (Option ℕ × (ℕ × Bool))) (coded× coded_ℕ (coded× (coded_option coded_ℕ) (coded× coded_ℕ coded_bool)))
    (λ t. (t.future, (t.waiter, (t.cancels, t.must_cancel))))
    (λ p. record { future = p.0; waiter = p.1.0; cancels = p.1.1.0; must_cancel = p.1.1.1 })
    (λ _. refl)

abbrev pub coded_view : Coded Awaitables
coded_view =
    code_by (Queue × (List Future × List Task)) (coded× ready.the_row.coded (coded× (coded_list coded_future) (coded_list coded_task)))
    (λ v. (v.queue, (v.futures, v.tasks)))
    (λ p. record { queue = p.0; futures = p.1.0; tasks = p.1.1 })
    (λ _. refl)
