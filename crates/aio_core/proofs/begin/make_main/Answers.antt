use Rattle.std.proofs.Common.{◌∙◌, refl}
use Rattle.aio_core.proofs.Opening.{main_made}
use Rattle.aio_core.proofs.begin.make_main.Goals as goal

pub returns : goal.returns
returns g c = λ extra kept fresh e answers.
    main_made c.args.program.now c.args.body.now c.hold-2.new.self _ extra kept fresh e c.in_ok-main.main _ c.in_ok-main.ensures
    (c.of.ensures ∙ c.new.ensures.items) c.in_ok-hold.ensures c.ticket.new.self c.spawn.new.self c.on_done.new.self c.in_ok-task.task
    c.future_of-own.result c.ticket.ensures c.in_ok-task.ensures.number c.in_ok-task.ensures.after c.in_ok-task.ensures.queue
    c.in_ok-task.ensures.frame c.future_of-own.ensures c.on_done.ensures refl answers
