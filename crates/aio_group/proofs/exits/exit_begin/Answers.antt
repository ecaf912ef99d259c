use Rattle.std.proofs.Common.{◌≡◌, false, refl, ap, sym, subst, ◌∙◌, inl}
use Rattle.std.specs.Option.{option_copied}
use Rattle.model_loop.specs.Groups as plain
use Rattle.model_loop.specs.Loop.{Group}
use Rattle.model_loop.specs.Parts.{Parts, profile_named}
use Rattle.aio_task.specs.View.{View}
use Rattle.aio_task.specs.Keeps.{NameMap}
use Rattle.aio_group.specs.Answers.{gone_on}
use Rattle.aio_group.specs.Exits.{begun, last_step, Exits}
use Rattle.aio_group.specs.Held.{Held}
use Rattle.aio_group.specs.Stands.{Belongs, KeepsGroup, GroupSteps}
use Rattle.aio_group.proofs.Exiting.{LeftByExit, begun_ruled, begun_whole, exits_on, exit_belongs}
use Rattle.aio_group.proofs.Going.{then_moves}
use Rattle.aio_group.proofs.Waiting.{begun_passes}
use Rattle.aio_group.proofs.exits.exit_begin.Goals as goal

pub returns-clause-moves : goal.returns-clause-moves
returns-clause-moves c =
    then_moves c.args.parts.now c.begin.new.parts c.before_next.new.parts
    (then_moves c.args.parts.now c.next.new.parts c.begin.new.parts c.in_ok-next.ensures.moves c.begin.ensures.moves) c.before_next.ensures.moves

pub returns-clause-belongs : goal.returns-clause-belongs
returns-clause-belongs c =
    let same = c.begin.ensures.same in
    let last = c.before_next.ensures.same in
    subst (λ h. Belongs c.before_next.new.parts h) (sym c.go_on.ensures.after)
    (exit_belongs c.args.group.now c.before_next.new.group (option_copied c.failure_in.result) c.args.parts.now c.next.new.parts c.before_next.new.parts
    c.requires.belongs c.in_ok-next.ensures.moves
    (then_moves c.next.new.parts c.begin.new.parts c.before_next.new.parts c.begin.ensures.moves c.before_next.ensures.moves)
    (ap (λ (h : Held). h.children) last ∙ ap (λ (h : Held). h.children) same)
    (inl (ap (λ (h : Held). h.exit_future) last ∙ ap (λ (h : Held). h.exit_future) same)) c.in_ok-next.next c.in_ok-next.ensures.next)

pub returns-clause-steps : goal.returns-clause-steps
returns-clause-steps c =
    let a = c.args.group.now in
    let b = c.begin.new.group in
    let d = c.before_next.new.group in
    let v = c.args.parts.now in
    let w = c.next.new.parts in
    let x = c.begin.new.parts in
    let y = c.before_next.new.parts in
    let n = c.in_ok-next.next in
    let raised = c.args.raised in
    let body = option_copied c.failure_in.result in
    let same = c.begin.ensures.same in
    let profile = profile_named v.profile in
    let at_w : w.profile ≡ v.profile = ap (λ (z : View). z.profile) c.in_ok-next.ensures.moves.frame in
    let at_x : x.profile ≡ v.profile = ap (λ (z : View). z.profile) c.begin.ensures.moves.frame ∙ at_w in
    let first : GroupSteps a w b x (begun profile raised) =
    subst (λ number. GroupSteps a w b x (begun (profile_named number) raised)) at_w c.begin.ensures.steps in
    let last : GroupSteps b x d y (last_step profile n) =
    subst (λ number. GroupSteps b x d y (last_step (profile_named number) n)) at_x c.before_next.ensures.steps in
    let left : (t : NameMap) (p : Parts) (group : Group) → KeepsGroup t p a group → LeftByExit a b body × (a.ended ≡ false) =
    λ t p group is.
    let early = is.early c.requires.fresh in (
      record {
        children = ap (λ (h : Held). h.children) same;
        failed = ap (λ (h : Held). h.failed) same;
        body = ap (λ (h : Held). h.body) same ∙ sym c.failure_in.ensures;
        exiting = ap (λ (h : Held). h.exiting) same;
        ended = ap (λ (h : Held). h.ended) same ∙ early.0;
        exit_future = ap (λ (h : Held). h.exit_future) same ∙ early.1;
      },
      early.0,
    ) in
    let whole = exits_on a b d body v w x y profile (begun profile raised) (plain.exit_begin raised) refl (begun_whole raised profile)
    (λ id l e. begun_ruled profile raised id l) (begun_passes profile raised) first c.before_next.ensures.same n c.in_ok-next.ensures.next last left in
    subst (λ h. Exits a v h y (plain.exit_begin raised) c.go_on.result) (sym c.go_on.ensures.after)
    (subst (λ r. Exits a v (gone_on n d) y (plain.exit_begin raised) r) (sym c.go_on.ensures.answer) whole)
