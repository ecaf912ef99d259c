use Rattle.std.proofs.Common.{◌≡◌, false, refl, ap, sym, subst, ◌∙◌, inr}
use Rattle.std.specs.Option.{option_copied}
use Rattle.model_loop.specs.Groups as plain
use Rattle.model_loop.specs.Loop.{Group}
use Rattle.model_loop.specs.Parts.{Parts, profile_named}
use Rattle.aio_task.specs.View.{View}
use Rattle.aio_task.specs.Keeps.{NameMap}
use Rattle.aio_group.specs.Answers.{gone_on}
use Rattle.aio_group.specs.Exits.{heard, last_step, Exits}
use Rattle.aio_group.specs.Held.{Held}
use Rattle.aio_group.specs.Stands.{Belongs, KeepsGroup, GroupSteps}
use Rattle.aio_group.proofs.Exiting.{LeftByExit, heard_ruled, is_going, exits_on, exit_belongs}
use Rattle.aio_group.proofs.Going.{then_moves}
use Rattle.aio_group.proofs.Waiting.{heard_passes}
use Rattle.aio_group.proofs.exits.exit_woken.Goals as goal

pub returns-clause-moves : goal.returns-clause-moves
returns-clause-moves c =
    then_moves c.args.parts.now c.hear.new.parts c.before_next.new.parts
    (then_moves c.args.parts.now c.next.new.parts c.hear.new.parts c.in_ok-next.ensures.moves c.hear.ensures.moves) c.before_next.ensures.moves

pub returns-clause-belongs : goal.returns-clause-belongs
returns-clause-belongs c =
    let same = c.hear.ensures.same in
    let last = c.before_next.ensures.same in
    subst (λ h. Belongs c.before_next.new.parts h) (sym c.go_on.ensures.after)
    (exit_belongs c.args.group.now c.before_next.new.group (option_copied c.body.result) c.args.parts.now c.next.new.parts c.before_next.new.parts
    c.requires.belongs c.in_ok-next.ensures.moves
    (then_moves c.next.new.parts c.hear.new.parts c.before_next.new.parts c.hear.ensures.moves c.before_next.ensures.moves)
    (ap (λ (h : Held). h.children) last ∙ ap (λ (h : Held). h.children) same)
    (inr (ap (λ (h : Held). h.exit_future) last ∙ ap (λ (h : Held). h.exit_future) same)) c.in_ok-next.next c.in_ok-next.ensures.next)

pub returns-clause-steps : goal.returns-clause-steps
returns-clause-steps c =
    let a = c.args.group.now in
    let b = c.hear.new.group in
    let d = c.before_next.new.group in
    let v = c.args.parts.now in
    let w = c.next.new.parts in
    let x = c.hear.new.parts in
    let y = c.before_next.new.parts in
    let n = c.in_ok-next.next in
    let input = c.args.input in
    let body = option_copied c.body.result in
    let same = c.hear.ensures.same in
    let going = is_going a.exiting a.ended c.requires.going in
    let profile = profile_named v.profile in
    let at_x : x.profile ≡ v.profile =
    ap (λ (z : View). z.profile) c.hear.ensures.moves.frame ∙ ap (λ (z : View). z.profile) c.in_ok-next.ensures.moves.frame in
    let last : GroupSteps b x d y (last_step profile n) =
    subst (λ number. GroupSteps b x d y (last_step (profile_named number) n)) at_x c.before_next.ensures.steps in
    let left : (t : NameMap) (p : Parts) (group : Group) → KeepsGroup t p a group → LeftByExit a b body × (a.ended ≡ false) =
    λ t p group is. (
      record {
        children = ap (λ (h : Held). h.children) same;
        failed = ap (λ (h : Held). h.failed) same;
        body = ap (λ (h : Held). h.body) same ∙ sym c.body.ensures;
        exiting = ap (λ (h : Held). h.exiting) same ∙ going.0;
        ended = ap (λ (h : Held). h.ended) same ∙ going.1;
        exit_future = ap (λ (h : Held). h.exit_future) same;
      },
      going.1,
    ) in
    let whole = exits_on a b d body v w x y profile (heard input) (plain.exit_woken input) refl (λ id l e. refl)
    (λ id l e. heard_ruled input id l ∙ e) (heard_passes input) c.hear.ensures.steps c.before_next.ensures.same n c.in_ok-next.ensures.next last left in
    subst (λ h. Exits a v h y (plain.exit_woken input) c.go_on.result) (sym c.go_on.ensures.after)
    (subst (λ r. Exits a v (gone_on n d) y (plain.exit_woken input) r) (sym c.go_on.ensures.answer) whole)
