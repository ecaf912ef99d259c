use Rattle.std.proofs.Common.{ℕ, ◌+◌, sym, ap, ◌∙◌}
use Rattle.aio_timer.specs.Schedule.{placed_after}
use Rattle.aio_timer.specs.Kept.{timer_of}
use Rattle.aio_timer.proofs.Keeping.{filled_kept, filled_timers, same_kept, same_timers}
use Rattle.aio_timer.proofs.live.Live.put.Goals as goal

pub returns-in_default-reserve-clause-kept : goal.returns-in_default-reserve-clause-kept
returns-in_default-reserve-clause-kept c = same_kept c.args.self.now c.reserve.new.self c.reserve.ensures.same c.requires

pub returns-in_default-reserve-clause-err : goal.returns-in_default-reserve-clause-err
returns-in_default-reserve-clause-err c = same_timers c.args.self.now c.reserve.new.self c.reserve.ensures.same

pub enter-requires-clause-heap : goal.enter-requires-clause-heap
enter-requires-clause-heap c = let kept = same_kept c.args.self.now c.reserve.new.self c.reserve.ensures.same c.requires in kept.heap

pub returns-clause-kept : goal.returns-clause-kept
returns-clause-kept c =
    let same = c.reserve.ensures.same in
    filled_kept c.reserve.new.self
    (record { entries = c.insert_reserved-slot.new.self; places = c.enter.new.places; numbers = c.push_reserved.new.self; next = c.in-Some.next })
    c.insert_reserved-slot.result (record { number = c.args.self.now.next; when = c.args.when }, c.args.handle)
    (same_kept c.args.self.now c.reserve.new.self same c.requires) (sym same.next) c.insert_reserved-slot.ensures.was_vacant
    c.insert_reserved-slot.ensures.updates c.enter.ensures c.push_reserved.ensures.items
    (c.in-Some.ensures.1 ∙ ap (λ (n : ℕ). n + 1) (sym same.next))

pub returns-clause-after : goal.returns-clause-after
returns-clause-after c =
    let same = c.reserve.ensures.same in
    filled_timers c.reserve.new.self
    (record { entries = c.insert_reserved-slot.new.self; places = c.enter.new.places; numbers = c.push_reserved.new.self; next = c.in-Some.next })
    c.insert_reserved-slot.result (record { number = c.args.self.now.next; when = c.args.when }, c.args.handle)
    (same_kept c.args.self.now c.reserve.new.self same c.requires) (sym same.next) c.insert_reserved-slot.ensures.was_vacant
    c.insert_reserved-slot.ensures.updates c.enter.ensures c.push_reserved.ensures.items
    (c.in-Some.ensures.1 ∙ ap (λ (n : ℕ). n + 1) (sym same.next))
    ∙ ap (placed_after (timer_of (record { number = c.args.self.now.next; when = c.args.when }, c.args.handle)))
    (same_timers c.args.self.now c.reserve.new.self same)
