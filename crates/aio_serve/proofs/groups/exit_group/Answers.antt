use Rattle.std.proofs.Common.{Some, refl, ap, subst, sym, ◌∙◌}
use Rattle.std.proofs.Math.Logic.{∥∥₁_elim}
use Rattle.std.proofs.Props.{props}
use Rattle.std.proofs.lemmas.Result.{IfOk-weaker}
use Rattle.model_says.specs.Requests.{bad_argument}
use Rattle.model_value.specs.declared.request.Request.TheVariants as request
use Rattle.model_loop.specs.Groups.{exit_begin}
use Rattle.law_replies.proofs.Counts.{own_there}
use Rattle.aio_body.proofs.May.{going_of, idle_of, running_of}
use Rattle.aio_body.specs.Asked.{Says}
use Rattle.aio_task.specs.View.{View}
use Rattle.aio_serve.proofs.GroupExits.{begins_freshly, exit_pends, exits_so}
use Rattle.aio_serve.proofs.Grouping.{belong_may, exit_entered, exit_fresh, exit_means, exit_refused}
use Rattle.aio_serve.proofs.GroupsOn.{exit_begin_leaves, groups_stand}
use Rattle.aio_body.proofs.HasSlot.{slot_there, within_going}
use Rattle.aio_serve.proofs.Saying.{raises_so}
use Rattle.aio_serve.proofs.groups.exit_group.Goals as goal

pub returns-in_default : goal.returns-in_default
returns-in_default g c =
    let body = c.args.body.now in
    let task = c.args.task in
    IfOk-weaker c.bad_argument.result _ _ (λ said e at s h.
    raises_so task at body s said _ bad_argument e
    (exit_refused g.X.Extra.added.meaning task s c.args.group.now c.args.fault (sym c.as_group.ensures ∙ c.in_default.is))
    h.going.in_step) c.bad_argument.ensures

pub exit_begin-requires : goal.exit_begin-requires
exit_begin-requires g c =
    let task = c.args.task in
    let body = c.args.body.now in
    let may = going_of task (request.GroupExit c.args.group.now c.args.fault) body c.requires in
    let named = sym c.as_group.ensures ∙ c.in-Some.is in
    record {
      idle = idle_of task body may;
      belongs = belong_may task body may;
      entered = exit_entered task c.args.group.now c.args.fault c.in-Some.id body c.requires named;
      fresh = exit_fresh task c.args.group.now c.args.fault c.in-Some.id body c.requires named;
    }

pub go_on-requires : goal.go_on-requires
go_on-requires g c =
    let task = c.args.task in
    let body = c.args.body.now in
    let may = going_of task (request.GroupExit c.args.group.now c.args.fault) body c.requires in
    let moves = c.exit_begin.ensures.moves in
    record {
      idle = ap (λ (v : View). v.called) moves.frame ∙ idle_of task body may;
      running = ap (λ (v : View). v.running) moves.frame ∙ running_of task body may;
      within = slot_there task body may;
      pending = λ future e. ∥∥₁_elim may (hlevel props) (λ w.
          let s = w.1.0 in
          let stands = w.1.1.in_step.stands in
          let came = c.in_ok-exit.ensures.stands stands.name_map s.loop (groups_stand (Some task) w.0 body s stands) stands.profile.rules in
          exit_pends stands.name_map s.loop c.exit_begin.new.self c.exit_begin.new.parts (exit_begin c.args.fault c.in-Some.id s.loop) came.0
          (begins_freshly c.args.fault c.in-Some.id s.loop) c.in_ok-exit.exit future came.1 e);
    }

pub returns : goal.returns
returns g c at s h =
    let task = c.args.task in
    let body = c.args.body.now in
    let id = c.in-Some.id in
    let fault = c.args.fault in
    let mid = record body { parts = c.exit_begin.new.parts; groups = c.exit_begin.new.self } in
    let in_step = h.going.in_step in
    let came = c.in_ok-exit.ensures.stands in_step.stands.name_map s.loop (groups_stand (Some task) at body s in_step.stands) in_step.stands.profile.rules in
    subst (Says task at c.go_on.new.body c.go_on.result)
    (sym (exit_means g.X.Extra.added.meaning task s c.args.group.now fault id (sym c.as_group.ensures ∙ c.in-Some.is)))
    (exits_so task id at body mid c.go_on.new.body s (exit_begin fault id s.loop) in_step (within_going task at body s h.going) c.exit_begin.ensures.moves refl
    came.0 (exit_begin_leaves fault id s.loop (own_there s.loop.parts h.going.sound.others.loop.parts.owns)) (begins_freshly fault id s.loop)
    c.in_ok-exit.exit c.go_on.result came.1 c.go_on.ensures)
