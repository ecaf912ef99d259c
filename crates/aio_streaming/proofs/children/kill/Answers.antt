use Rattle.std.proofs.Common.{sym, subst, ◌∙◌}
use Rattle.model_value.specs.declared.request.Request.TheVariants as request
use Rattle.model_says.specs.Requests.{bad_argument}
use Rattle.model_loop.specs.Futures.{next_future}
use Rattle.model_stream.specs.Requests.{kill}
use Rattle.aio_wire.specs.Port.{ported}
use Rattle.law_cases.specs.TreeEnd.{owned_in as plain_in}
use Rattle.law_cases.proofs.Asking.{kills}
use Rattle.aio_body.specs.Asking.{Comes, serving}
use Rattle.aio_body.proofs.Alone.{refused_alone}
use Rattle.refine_streams.proofs.Forgetting.{kill_forgets}
use Rattle.refine_streams.proofs.Meaning.{kill_means, kill_refused}
use Rattle.aio_streaming.proofs.Ending.{done_so, events_beside}
use Rattle.aio_streaming.proofs.children.kill.Goals as goal

pub returns-in_default : goal.returns-in_default
returns-in_default g c =
    let asked = request.Kill c.args.child.now in
    record {
      comes =
          subst (Comes _ (serving g.X.Extra.added c.args.task asked c.args.body.now c.args.body.now) (ported c.args.wire.now c.args.body.now.events)
          (ported c.args.wire.now c.args.body.now.events)) (sym c.or_stop.ensures)
          (refused_alone g.X.Extra.added g.W.Wire.outside c.args.task asked c.args.body.now c.args.wire.now bad_argument
          (λ at s h.
          kill_refused g.X.Extra.added.meaning c.args.task s c.args.child.now
          (sym (c.as_child.ensures s h.going.in_step.stands.transports) ∙ c.in_default.is))
          c.bad_argument.result c.bad_argument.ensures);
    }

pub returns : goal.returns
returns g c =
    let asked = request.Kill c.args.child.now in
    record {
      comes =
          subst (Comes _ (serving g.X.Extra.added c.args.task asked c.args.body.now c.kill_child.new.body) (ported c.args.wire.now c.args.body.now.events)
          (ported c.kill_child.new.wire c.kill_child.new.body.events)) (sym c.done.ensures)
          (done_so c.args.task asked c.args.body.now g.W.Wire.outside c.requires c.kill_child.new.body c.args.wire.now c.kill_child.new.wire
          (λ n. kill c.in-Some.id)
          (λ at s h.
          kill_means g.X.Extra.added.meaning c.args.task s c.args.child.now c.in-Some.id
          (sym (c.as_child.ensures s h.going.in_step.stands.transports) ∙ c.in-Some.is))
          (kill_forgets c.in-Some.id)
          (λ s kept. kills (plain_in s) (next_future s.loop.parts) c.in-Some.id s.streams kept)
          (events_beside c.args.body.now c.kill_child.new.body c.kill_child.ensures.frame) c.kill_child.result c.kill_child.ensures.comes);
    }
