use Rattle.std.proofs.Common.{◌≡◌, ◌<◌, ◌≤◌, ℕ, refl, Some, ap, subst, ◌∙◌, arith}
use Rattle.std.proofs.lemmas.Result.{IfOk-weaker}
use Rattle.model_value.specs.Value.{Group}
use Rattle.model_says.specs.Operations.{out_of_range}
use Rattle.model_loop.specs.Groups.{enter_group, make_group, next_group}
use Rattle.model_loop.specs.Loop.{Loop}
use Rattle.model_machine.specs.Replies.{most_ids}
use Rattle.model_machine.specs.State.{in_loop}
use Rattle.aio_group.specs.Stands.{Came, GroupsStand as GroupStands}
use Rattle.aio_group.proofs.Going.{same_on}
use Rattle.refine_parts.proofs.Appending.{extends_same}
use Rattle.aio_body.specs.declared.reply.RequestReply.TheVariants.{Answers}
use Rattle.aio_serve.proofs.Grouping.{none_grouped, one_grouped}
use Rattle.aio_serve.proofs.GroupsNeed.{same_many}
use Rattle.aio_serve.proofs.GroupsOn.{groups_stand, stands_stepped, step_same}
use Rattle.aio_serve.proofs.Saying.{answers_so, raises_so}
use Rattle.aio_serve.proofs.groups.enter_group.Goals as goal

pub returns-then-len-ge-MOST_IDS : goal.returns-then-len-ge-MOST_IDS
returns-then-len-ge-MOST_IDS g c =
    let body = c.args.body.now in
    IfOk-weaker c.out_of_range.result _ _ (λ said e at s h.
    let stands = h.going.in_step.stands in
    let same = same_many stands.name_map s.loop.parts body.groups s.loop.groups stands.blocks.groups in
    let many : most_ids ≤ next_group s.loop = omega (arith, same, c.len.ensures, c.if-len-ge-MOST_IDS.true) in
    raises_so c.args.task at body s said _ out_of_range e (none_grouped g.X.Extra.added.meaning c.args.task s many) h.going.in_step)
    c.out_of_range.ensures

pub returns : goal.returns
returns g c at s h =
    let body = c.args.body.now in
    let task = c.args.task in
    let groups = c.enter.new.self in
    let in_step = h.going.in_step in
    let name_map = in_step.stands.name_map in
    let same = same_many name_map s.loop.parts body.groups s.loop.groups in_step.stands.blocks.groups in
    let number : c.in_ok-id.id ≡ next_group s.loop = c.in_ok-id.ensures.number ∙ same in
    let change : Loop → Loop = λ l. enter_group (next_group l) (make_group task l) in
    let few : next_group s.loop < most_ids = omega (arith, same, c.len.ensures, c.if-len-ge-MOST_IDS.false) in
    let came : Came name_map s.loop groups body.parts (change s.loop) = record {
      name_map = name_map;
      stands =
          subst (λ (k : ℕ). GroupStands name_map groups body.parts (enter_group k (make_group task s.loop))) number
          (c.enter.ensures.stands name_map body.parts (make_group task s.loop)
          (c.in_ok-id.ensures.stands name_map body.parts s.loop (groups_stand (Some task) at body s in_step.stands)));
      extends = extends_same name_map s.loop.parts;
      goes_on = same_on s.loop.parts;
    } in
    answers_so task at (record body { groups = groups }) (in_loop change s) _ _ (Group (next_group s.loop))
    (ap Answers (c.group.ensures ∙ ap Group number)) (one_grouped g.X.Extra.added.meaning task s few) (record {
      stands = stands_stepped (Some task) at body s body.parts groups change in_step.stands came (step_same s.loop (change s.loop) refl refl refl) refl;
      called = in_step.called;
      running = in_step.running;
    })
