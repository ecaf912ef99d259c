use Rattle.std.proofs.Common.{Some, refl, ap, ◌∙◌}
use Rattle.std.proofs.Math.Logic.{∥∥₁_elim}
use Rattle.std.proofs.Props.{props}
use Rattle.model_loop.specs.Groups.{exit_woken}
use Rattle.model_machine.specs.State.{Leaving}
use Rattle.law_replies.proofs.Counts.{own_there}
use Rattle.aio_task.specs.View.{View}
use Rattle.aio_serve.proofs.GroupExits.{woken_freshly, exit_pends, exits_so}
use Rattle.aio_serve.proofs.Grouping.{belong_decides, exit_goes_on, idle_decides, running_decides, slot_decides, within_deciding}
use Rattle.aio_serve.proofs.GroupsOn.{exit_woken_leaves, groups_stand}
use Rattle.aio_serve.proofs.groups.leave_group.Goals as goal

pub exit_woken-requires : goal.exit_woken-requires
exit_woken-requires g c =
    let task = c.args.task in
    let body = c.args.body.now in
    record {
      idle = idle_decides task (Leaving c.args.group) body c.requires;
      belongs = belong_decides task (Leaving c.args.group) body c.requires;
      going = exit_goes_on task c.args.group body c.requires;
    }

pub go_on-requires : goal.go_on-requires
go_on-requires g c =
    let task = c.args.task in
    let group = c.args.group in
    let body = c.args.body.now in
    let moves = c.exit_woken.ensures.moves in
    record {
      idle = ap (λ (v : View). v.called) moves.frame ∙ idle_decides task (Leaving group) body c.requires;
      running = ap (λ (v : View). v.running) moves.frame ∙ running_decides task (Leaving group) body c.requires;
      within = slot_decides task (Leaving group) body c.requires;
      pending = λ future e. ∥∥₁_elim c.requires (hlevel props) (λ w.
          let s = w.1.0 in
          let stands = w.1.1.in_step.stands in
          let came = c.in_ok-exit.ensures.stands stands.name_map s.loop (groups_stand (Some task) w.0 body s stands) stands.profile.rules in
          exit_pends stands.name_map s.loop c.exit_woken.new.self c.exit_woken.new.parts (exit_woken c.args.input group s.loop) came.0
          (woken_freshly c.args.input group s.loop) c.in_ok-exit.exit future came.1 e);
    }

pub returns : goal.returns
returns g c at s h =
    let task = c.args.task in
    let group = c.args.group in
    let body = c.args.body.now in
    let input = c.args.input in
    let mid = record body { parts = c.exit_woken.new.parts; groups = c.exit_woken.new.self } in
    let came = c.in_ok-exit.ensures.stands h.in_step.stands.name_map s.loop (groups_stand (Some task) at body s h.in_step.stands)
    h.in_step.stands.profile.rules in
    exits_so task group at body mid c.go_on.new.body s (exit_woken input group s.loop) h.in_step
    (within_deciding task (Leaving group) at body s h) c.exit_woken.ensures.moves refl came.0
    (exit_woken_leaves input group s.loop (own_there s.loop.parts h.asked.others.loop.parts.owns)) (woken_freshly input group s.loop)
    c.in_ok-exit.exit c.go_on.result came.1 c.go_on.ensures
