use Rattle.std.proofs.Common.{Some, refl, sym, ap, subst, ◌∙◌}
use Rattle.std.specs.Option.{option_map}
use Rattle.model_value.specs.declared.request.Request.TheVariants as request
use Rattle.model_says.specs.Requests.{bad_argument}
use Rattle.model_loop.specs.Futures.{next_future}
use Rattle.model_stream.specs.Requests.{close}
use Rattle.model_stream.specs.Streams.{close_server}
use Rattle.model_machine.specs.Arguments.{AServer, AWriter}
use Rattle.aio_wire.specs.Port.{ported}
use Rattle.law_cases.specs.TreeEnd.{owned_in as plain_in}
use Rattle.law_cases.proofs.Asking.{closes}
use Rattle.law_cases.proofs.Opening.{closes_server}
use Rattle.aio_opened.specs.Closing.{closable_as}
use Rattle.aio_body.specs.Asking.{Comes, serving}
use Rattle.aio_body.proofs.Alone.{refused_alone}
use Rattle.refine_streams.proofs.Forgetting.{close_forgets, close_server_forgets}
use Rattle.refine_streams.proofs.Meaning.{close_means, close_refused}
use Rattle.refine_streams.proofs.Served.{asking_idle, asking_owned}
use Rattle.aio_streaming.specs.Done.{done_as}
use Rattle.aio_streaming.proofs.Ending.{done_so, told_beside}
use Rattle.aio_streaming.proofs.Writes.{told_so}
use Rattle.aio_streaming.proofs.writing.close.Goals as goal

pub returns-in-None : goal.returns-in-None
returns-in-None g c =
    let asked = request.Close c.args.x.now in
    record {
      comes =
          subst (Comes _ (serving g.X.Extra.added c.args.task asked c.args.body.now c.args.body.now)
          (ported c.args.wire.now c.args.body.now.events)
          (ported c.args.wire.now c.args.body.now.events)) (sym c.or_stop.ensures)
          (refused_alone g.X.Extra.added g.W.Wire.outside c.args.task asked c.args.body.now c.args.wire.now bad_argument
          (λ at s h.
          close_refused g.X.Extra.added.meaning c.args.task s c.args.x.now
          (sym (c.as_closable.ensures s h.going.in_step.stands.transports) ∙ ap (option_map closable_as) c.in-None.is))
          c.bad_argument.result c.bad_argument.ensures);
    }

pub returns-in-Some-Server : goal.returns-in-Some-Server
returns-in-Some-Server g c =
    let asked = request.Close c.args.x.now in
    record {
      comes =
          subst (Comes _ (serving g.X.Extra.added c.args.task asked c.args.body.now c.close_listener.new.body)
          (ported c.args.wire.now c.args.body.now.events) (ported c.close_listener.new.wire c.close_listener.new.body.events))
          (sym c.done.ensures)
          (done_so c.args.task asked c.args.body.now g.W.Wire.outside c.requires c.close_listener.new.body c.args.wire.now c.close_listener.new.wire
          (λ n. close_server c.in-Some-Server.id)
          (λ at s h.
          close_means g.X.Extra.added.meaning c.args.task s c.args.x.now (AServer c.in-Some-Server.id)
          (sym (c.as_closable.ensures s h.going.in_step.stands.transports) ∙ ap (option_map closable_as) c.in-Some-Server.is
          ∙ ap (λ k. Some (closable_as k)) c.in-Some-Server.field-0-is))
          (close_server_forgets c.in-Some-Server.id)
          (λ s kept. closes_server (plain_in s) (next_future s.loop.parts) c.in-Some-Server.id s.streams kept)
          (told_beside c.args.body.now c.close_listener.new.body c.close_listener.ensures.frame) c.close_listener.result
          c.close_listener.ensures.comes);
    }

pub close-requires-clause-idle : goal.close-requires-clause-idle
close-requires-clause-idle g c = asking_idle c.args.task (request.Close c.args.x.now) c.args.body.now c.requires

pub close-requires-clause-own : goal.close-requires-clause-own
close-requires-clause-own g c = asking_owned c.args.task (request.Close c.args.x.now) c.args.body.now c.requires

pub returns-in-Some-Writer : goal.returns-in-Some-Writer
returns-in-Some-Writer g c =
    let asked = request.Close c.args.x.now in
    let new = record c.args.body.now { parts = c.close.new.parts; transports = c.close.new.self } in
    record {
      comes =
          subst (Comes _ (serving g.X.Extra.added c.args.task asked c.args.body.now new)
          (ported c.args.wire.now c.args.body.now.events)
          (ported c.args.wire.now c.args.body.now.events))
          (sym (c.done-in-Some-Writer.ensures ∙ ap done_as c.or_stop-in-Some-Writer.ensures))
          (told_so c.args.task asked c.args.body.now g.W.Wire.outside c.requires new c.args.wire.now (λ n. close c.in-Some-Writer.whom)
          (λ at s h.
          close_means g.X.Extra.added.meaning c.args.task s c.args.x.now (AWriter c.in-Some-Writer.whom)
          (sym (c.as_closable.ensures s h.going.in_step.stands.transports) ∙ ap (option_map closable_as) c.in-Some-Writer.is
          ∙ ap (λ k. Some (closable_as k)) c.in-Some-Writer.field-0-is))
          (close_forgets c.in-Some-Writer.whom)
          (λ s kept. closes (plain_in s) (next_future s.loop.parts) c.in-Some-Writer.whom s.streams kept)
          refl refl c.close.result c.close.ensures.told);
    }
