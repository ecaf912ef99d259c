use Rattle.std.proofs.Common.{None, ap, subst, sym, ◌∙◌}
use Rattle.model_loop.specs.Children.{HasPlainExit}
use Rattle.model_loop.specs.Groups.{child_done, group_of}
use Rattle.model_machine.specs.State.{State}
use Rattle.aio_task.specs.View.{View}
use Rattle.aio_serve.proofs.Grouping.{belong_takes, child_takes, idle_takes}
use Rattle.aio_serve.proofs.GroupsOn.{child_done_leaves, groups_stand, stands_stepped}
use Rattle.aio_serve.proofs.groups.child_done.Goals as goal

pub child_done-requires-clause-idle : goal.child_done-requires-clause-idle
child_done-requires-clause-idle g c = idle_takes c.args.group c.args.task c.args.body.now c.requires

pub child_done-requires-clause-belongs : goal.child_done-requires-clause-belongs
child_done-requires-clause-belongs g c = belong_takes c.args.group c.args.task c.args.body.now c.requires

pub child_done-requires-clause-child : goal.child_done-requires-clause-child
child_done-requires-clause-child g c = child_takes c.args.group c.args.task c.args.body.now c.requires

pub returns : goal.returns
returns g c at s h =
    let body = c.args.body.now in
    let group = c.args.group in
    let is = c.child_done.ensures in
    let plain : HasPlainExit s.loop.parts (group_of s.loop group) =
    subst (λ (x : State _). HasPlainExit x.loop.parts (group_of x.loop group)) (sym h.after) (h.sound.loop.groups group).plain_exit in
    record {
      stands =
          stands_stepped None at body s c.child_done.new.parts c.child_done.new.self (child_done group c.args.task) h.stands
          (is.stands h.stands.name_map s.loop (groups_stand None at body s h.stands)) (child_done_leaves group c.args.task s.loop plain)
          (ap (λ (v : View). v.profile) is.moves.frame);
      called = ap (λ (v : View). v.called) is.moves.frame ∙ h.called;
      running = ap (λ (v : View). v.running) is.moves.frame ∙ h.running;
    }
