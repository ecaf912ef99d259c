use Rattle.aio_timer.proofs.Keeping.{none_kept, none_timers}
use Rattle.aio_timer.proofs.live.Live.new.Goals as goal

pub returns-clause-kept : goal.returns-clause-kept
returns-clause-kept c =
    none_kept _ c.new-places.ensures.heap_order c.new-places.ensures.items c.new-numbers.ensures.items c.new-entries.ensures.empty

pub returns-clause-none : goal.returns-clause-none
returns-clause-none c =
    none_timers (record { entries = c.new-entries.result; places = c.new-places.result; numbers = c.new-numbers.result; next = 0 })
    c.new-numbers.ensures.items
