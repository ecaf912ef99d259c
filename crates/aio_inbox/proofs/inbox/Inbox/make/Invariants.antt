use Rattle.std.proofs.Common.{◌≡◌, ◌≤◌}
use Rattle.crossbeam_queue.specs.Passes.{view, IsPassOf}
use Rattle.aio_inbox.specs.declared.view.InboxView.TheVariants.{Takes}
use Rattle.aio_inbox.specs.Views.{new_taker, new_posters}
use Rattle.aio_inbox.proofs.inbox.Inbox.make.Given as goal

abbrev pub invariant-loop-seat : goal.invariant-loop-seat
invariant-loop-seat g l =
    IsPassOf l.queue l.pass × (view l.pass ≡ Takes (new_taker l.seat)) × (l.posters.items ≡ new_posters l.seat) × (l.seat ≤ l.seats)
    × (l.seats ≡ l.initial.seats)
