use Rattle.std.proofs.Common.{not, ◌&&◌, ◌∙◌, ap}
use Rattle.aio_core.proofs.Following.{cancelled_else, cancelled_then}
use Rattle.aio_core.proofs.turns.cancel_after_main.Goals as goal
use Rattle.aio_core.proofs.turns.cancel_after_main.Goals.{else-body-via-then-body+else-not-done_before, else-body-via-else-body}

pub cancel_everything-requires : goal.cancel_everything-requires
cancel_everything-requires g c = c.requires

pub returns-then-not-done_before : goal.returns-then-not-done_before
returns-then-not-done_before g c =
    cancelled_then c.args.body.now c.cancel_everything.new.body c.args.done_before c.if-body.true c.if-not-done_before.true c.cancel_everything.ensures

pub returns-else-body : goal.returns-else-body
returns-else-body g c =
    let body = c.args.body.now in
    cancelled_else body c.args.done_before (elim c.else-body.branch [
      | else-body-via-then-body+else-not-done_before w ↦
          ap (λ b. b && not c.args.done_before) w.if-body.true ∙ ap not w.if-not-done_before.false
      | else-body-via-else-body w ↦ ap (λ b. b && not c.args.done_before) w.if-body.false
    ])
