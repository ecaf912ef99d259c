use Rattle.std.proofs.Common.{subst, sym}
use Rattle.model_loop.specs.Groups.{at_begin, begin_exit, abort_if_raised}
use Rattle.model_loop.specs.Parts.{profile_named}
use Rattle.aio_group.specs.Exits.{taken_back}
use Rattle.aio_group.specs.Stands.{GroupSteps}
use Rattle.aio_group.proofs.Going.{then_moves}
use Rattle.aio_group.proofs.Standing.{then_steps}
use Rattle.aio_group.proofs.Exiting.{begun_same}
use Rattle.aio_group.proofs.Leaving.{begin_steps}
use Rattle.aio_group.proofs.exits.begin.Goals as goal

pub returns-clause-same : goal.returns-clause-same
returns-clause-same c =
    begun_same c.args.group.now c.set_exiting.new.self c.take_back.new.group c.abort_if.new.group _ _ c.set_exiting.ensures
    c.take_back.ensures.same c.abort_if.ensures.same

pub returns-clause-moves : goal.returns-clause-moves
returns-clause-moves c =
    then_moves c.args.parts.now c.take_back.new.parts c.abort_if.new.parts c.take_back.ensures.moves c.abort_if.ensures.moves

pub returns-clause-steps : goal.returns-clause-steps
returns-clause-steps c =
    let a = c.args.group.now in
    let b = c.set_exiting.new.self in
    let d = c.take_back.new.group in
    let v = c.args.parts.now in
    let w = c.take_back.new.parts in
    let raised = c.args.raised in
    let profile = profile_named v.profile in
    let first : GroupSteps a v b v (begin_exit raised) =
    subst (λ h. GroupSteps a v h v (begin_exit raised)) (sym c.set_exiting.ensures) (begin_steps a v raised) in
    let taken : GroupSteps b v d w (taken_back profile (at_begin profile)) =
    subst (λ now. GroupSteps b v d w (taken_back profile now)) c.is_taken_back_last-now.ensures.begin c.take_back.ensures.steps in
    then_steps a d c.abort_if.new.group v w c.abort_if.new.parts (λ id l. taken_back profile (at_begin profile) id (begin_exit raised id l))
    (abort_if_raised raised)
    (then_steps a b d v v w (begin_exit raised) (taken_back profile (at_begin profile)) first taken)
    (c.abort_if.ensures.steps raised c.is_some-failed.ensures)
