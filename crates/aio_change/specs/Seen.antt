-- What changes make of the loop's parts in code, as they are seen.
use Rattle.std.specs.Prelude.{[], ◌∷◌, ◌++◌, None}
use Rattle.model_loop.specs.Parts.{Plain}
use Rattle.model_stream.specs.Doing.{Change, MakeFuture, CallSoon, Settle}
use Rattle.aio_future.specs.Settled.{called, settled}
use Rattle.aio_ready.specs.Queue.{soon, soon_all}
use Rattle.aio_task.specs.View.{View}

abbrev pub seen_changed : Change → View → View
seen_changed MakeFuture v = record v { futures = v.futures ++ record { kind = Plain; outcome = None; callbacks = [] } ∷ [] }
seen_changed (CallSoon action) v = record v { queue = soon action v.queue }
seen_changed (Settle future outcome) v =
    record v { futures = settled future outcome v.futures; queue = soon_all (called future v.futures) v.queue }
