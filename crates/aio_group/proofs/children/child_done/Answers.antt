use Rattle.std.proofs.Common.{◌≡◌, Option, Some, None, refl, ap, sym, subst, ◌∙◌, inl, Bor}
use Rattle.std.specs.Prelude.{is_some}
use Rattle.std.specs.Option.{option_copied}
use Rattle.model_loop.specs.Groups as plain
use Rattle.aio_group.specs.Held.{Held}
use Rattle.aio_group.specs.Stands.{GroupSteps}
use Rattle.aio_group.proofs.Belonging.{belongs_on, belongs_as}
use Rattle.aio_group.proofs.Going.{then_moves}
use Rattle.aio_group.proofs.Stepping.{blamed, heard_child, done_steps, fails_steps, heard_belongs}
use Rattle.aio_group.proofs.children.child_done.Goals as goal

copied_some : {T : Type 0} (o : Option (Bor T)) → is_some (option_copied o) ≡ is_some o
copied_some None = refl
copied_some (Some x) = refl

pub wake_exit-requires : goal.wake_exit-requires
wake_exit-requires c = record {
  idle = c.requires.idle;
  belongs = heard_belongs c.args.parts.now c.args.group.now c.hear_of.new.self c.args.child _ c.hear_of.ensures c.requires.belongs;
}

pub returns-then-not-failed-clause-belongs : goal.returns-then-not-failed-clause-belongs
returns-then-not-failed-clause-belongs c =
    belongs_on c.args.parts.now c.wake_exit.new.parts c.wake_exit.ensures.moves c.hear_of.new.self
    (heard_belongs c.args.parts.now c.args.group.now c.hear_of.new.self c.args.child _ c.hear_of.ensures c.requires.belongs)

pub returns-then-not-failed-clause-steps : goal.returns-then-not-failed-clause-steps
returns-then-not-failed-clause-steps c =
    let a = c.args.group.now in
    let v = c.args.parts.now in
    let w = c.wake_exit.new.parts in
    let child = c.args.child in
    let failed = c.is_some-failed.result in
    let b = heard_child a v child c.requires.child failed in
    let is = c.is_some-failed.ensures ∙ sym (copied_some c.failure_of.result) ∙ ap is_some c.failure_of.ensures in
    let wake : GroupSteps b v b w plain.wake_exit = subst (λ h. GroupSteps h v h w plain.wake_exit) c.hear_of.ensures c.wake_exit.ensures.steps in
    subst (λ h. GroupSteps a v h w (λ id. plain.child_done id child)) (sym c.hear_of.ensures)
    (done_steps a v child c.requires.child failed is w wake c.if-not-failed.true)

pub returns-clause-belongs : goal.returns-clause-belongs
returns-clause-belongs c =
    let v = c.args.parts.now in
    let w = c.wake_exit.new.parts in
    let x = c.blame.new.parts in
    let same = c.blame.ensures.same in
    let heard = heard_belongs v c.args.group.now c.hear_of.new.self c.args.child _ c.hear_of.ensures c.requires.belongs in
    belongs_as x c.hear_of.new.self c.blame.new.group (ap (λ (h : Held). h.children) same) (inl (ap (λ (h : Held). h.exit_future) same))
    (belongs_on w x c.blame.ensures.moves c.hear_of.new.self (belongs_on v w c.wake_exit.ensures.moves c.hear_of.new.self heard))

pub returns-clause-moves : goal.returns-clause-moves
returns-clause-moves c =
    then_moves c.args.parts.now c.wake_exit.new.parts c.blame.new.parts c.wake_exit.ensures.moves c.blame.ensures.moves

pub returns-clause-steps : goal.returns-clause-steps
returns-clause-steps c =
    let a = c.args.group.now in
    let v = c.args.parts.now in
    let w = c.wake_exit.new.parts in
    let x = c.blame.new.parts in
    let child = c.args.child in
    let failed = c.is_some-failed.result in
    let b = heard_child a v child c.requires.child failed in
    let is = c.is_some-failed.ensures ∙ sym (copied_some c.failure_of.result) ∙ ap is_some c.failure_of.ensures in
    let wake : GroupSteps b v b w plain.wake_exit = subst (λ h. GroupSteps h v h w plain.wake_exit) c.hear_of.ensures c.wake_exit.ensures.steps in
    let blame : GroupSteps b w c.blame.new.group x blamed = subst (λ h. GroupSteps h w c.blame.new.group x blamed) c.hear_of.ensures c.blame.ensures.steps in
    fails_steps a v child c.requires.child failed is w x c.blame.new.group wake blame c.if-not-failed.false
