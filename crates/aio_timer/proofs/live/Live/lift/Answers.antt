use Rattle.std.proofs.Common.{refl}
use Rattle.aio_timer.proofs.Keeping.{left_kept, left_timers}
use Rattle.aio_timer.proofs.live.Live.lift.Goals as goal

pub settle-requires : goal.settle-requires
settle-requires c = c.requires.kept.heap

pub returns-clause-kept : goal.returns-clause-kept
returns-clause-kept c =
    left_kept c.args.self.now
    (record { entries = c.remove-entry.new.self; places = c.settle.new.places; numbers = c.thin.new.numbers; next = c.args.self.now.next })
    c.args.slot c.remove-entry.result c.requires.kept c.remove-entry.ensures.value c.remove-entry.ensures.updates c.settle.ensures c.thin.ensures refl

pub returns-clause-after : goal.returns-clause-after
returns-clause-after c =
    left_timers c.args.self.now
    (record { entries = c.remove-entry.new.self; places = c.settle.new.places; numbers = c.thin.new.numbers; next = c.args.self.now.next })
    c.args.slot c.remove-entry.result c.requires.kept c.remove-entry.ensures.value c.remove-entry.ensures.updates c.settle.ensures c.thin.ensures refl
