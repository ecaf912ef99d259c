use Rattle.std.proofs.Common.{◌≡◌, Some, rules, subst}
use Rattle.aio_timeout.proofs.Handlers.{handle_given_up, timer_given_up}
use Rattle.aio_timeout.specs.declared.handler.TimeoutHandler.TheVariants.{Soon, At}
use Rattle.aio_timeout.specs.Kept.{IsHandler}
use Rattle.aio_timeout.proofs.handler.give_up.Goals as goal

pub returns-in-Some-Soon-clause-after : goal.returns-in-Some-Soon-clause-after
returns-in-Some-Soon-clause-after c = λ t p tag keeps h.
    let is : c.args.handler ≡ Some (Soon c.in-Some-Soon.handle) = search rules in
    rw c.cancel_handle.ensures
    (handle_given_up t c.args.parts.now p c.in-Some-Soon.handle tag keeps (subst (λ it. IsHandler t p it tag) is h))

pub returns-in-Some-At-clause-after : goal.returns-in-Some-At-clause-after
returns-in-Some-At-clause-after c = λ t p tag keeps h.
    let is : c.args.handler ≡ Some (At c.in-Some-At.timer) = search rules in
    rw c.cancel_timer.ensures
    (timer_given_up t c.args.parts.now p c.in-Some-At.timer tag keeps (subst (λ it. IsHandler t p it tag) is h))
