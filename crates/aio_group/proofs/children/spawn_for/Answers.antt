use Rattle.aio_group.proofs.Spawning.{child_kept, child_moves}
use Rattle.aio_group.proofs.children.spawn_for.Goals as goal

pub returns-clause-kept : goal.returns-clause-kept
returns-clause-kept c =
    child_kept c.args.parts.now c.spawn.new.self c.on_done.new.self c.args.id c.in_ok-task.task c.future_of-future.result
    c.in_ok-task.ensures.number c.in_ok-task.ensures.after c.in_ok-task.ensures.queue c.in_ok-task.ensures.frame
    c.future_of-future.ensures c.on_done.ensures

pub returns-clause-moves : goal.returns-clause-moves
returns-clause-moves c =
    child_moves c.args.parts.now c.spawn.new.self c.on_done.new.self c.args.id c.in_ok-task.task c.future_of-future.result
    c.in_ok-task.ensures.number c.in_ok-task.ensures.after c.in_ok-task.ensures.queue c.in_ok-task.ensures.frame
    c.future_of-future.ensures c.on_done.ensures
