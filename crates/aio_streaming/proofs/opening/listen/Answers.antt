use Rattle.std.proofs.Common.{◌≡◌, Option, Some, None, ℕ, SFits, w64, rules, sym, refl, ap, subst, ◌∙◌}
use Rattle.std.proofs.lemmas.Int.{to_z-of_z}
use Rattle.model_value.specs.declared.request.Request.TheVariants as request
use Rattle.model_says.specs.Operations.{out_of_range}
use Rattle.model_says.specs.Requests.{bad_argument}
use Rattle.model_loop.specs.Futures.{next_future}
use Rattle.model_stream.specs.Streams.{listen}
use Rattle.model_machine.specs.Replies.{bad_port, listens_as}
use Rattle.model_machine.specs.State.{State}
use Rattle.aio_wire.specs.Port.{ported}
use Rattle.law_cases.specs.TreeEnd.{owned_in as plain_in}
use Rattle.law_cases.specs.Trees.{WaitsNever}
use Rattle.law_cases.proofs.Opening.{listens}
use Rattle.aio_body.specs.Asking.{Comes, serving}
use Rattle.aio_body.proofs.Alone.{refused_alone}
use Rattle.refine_streams.proofs.Forgetting.{listen_forgets}
use Rattle.refine_streams.proofs.Meaning.{listen_past, listen_refused}
use Rattle.refine_streams.proofs.Nexts.{listens_add}
use Rattle.aio_streaming.specs.Answered.{answered_by, listened_as}
use Rattle.aio_streaming.specs.Ports.{port_in}
use Rattle.aio_streaming.proofs.Answered.{answered_so}
use Rattle.aio_streaming.proofs.Ending.{told_beside}
use Rattle.aio_streaming.proofs.Opens.{listens_at, listens_nowhere}
use Rattle.aio_streaming.proofs.opening.listen.Goals as goal

pub returns-in_default : goal.returns-in_default
returns-in_default g c =
    let asked = request.Listen c.args.port.now c.args.handler in
    record {
      comes =
          subst (Comes _ (serving g.X.Extra.added c.args.task asked c.args.body.now c.args.body.now) (ported c.args.wire.now c.args.body.now.events)
          (ported c.args.wire.now c.args.body.now.events)) (sym c.or_stop.ensures)
          (refused_alone g.X.Extra.added g.W.Wire.outside c.args.task asked c.args.body.now c.args.wire.now bad_argument
          (λ at s h.
          listen_refused g.X.Extra.added.meaning c.args.task s c.args.port.now c.args.handler (sym c.as_int.ensures ∙ c.in_default.is))
          c.bad_argument.result c.bad_argument.ensures);
    }

pub returns-then-not-may_listen : goal.returns-then-not-may_listen
returns-then-not-may_listen g c =
    let asked = request.Listen c.args.port.now c.args.handler in
    record {
      comes =
          subst (Comes _ (serving g.X.Extra.added c.args.task asked c.args.body.now c.args.body.now) (ported c.args.wire.now c.args.body.now.events)
          (ported c.args.wire.now c.args.body.now.events)) (sym c.or_stop-then-not-may_listen.ensures)
          (refused_alone g.X.Extra.added g.W.Wire.outside c.args.task asked c.args.body.now c.args.wire.now out_of_range
          (λ at s h.
          listen_past g.X.Extra.added.meaning c.args.task s c.args.port.now c.args.handler c.in-Some.number (sym c.as_int.ensures ∙ c.in-Some.is)
          (sym (c.may_listen.ensures.is s.streams h.going.in_step.stands.transports) ∙ c.if-not-may_listen.true))
          c.out_of_range.result c.out_of_range.ensures);
    }

pub returns-in_default-as_port : goal.returns-in_default-as_port
returns-in_default-as_port g c =
    let asked = request.Listen c.args.port.now c.args.handler in
    let fits : SFits w64 c.in-Some.number = search rules in
    record {
      comes =
          subst (Comes _ (serving g.X.Extra.added c.args.task asked c.args.body.now c.args.body.now) (ported c.args.wire.now c.args.body.now.events)
          (ported c.args.wire.now c.args.body.now.events)) (sym c.or_stop-in_default-as_port.ensures)
          (refused_alone g.X.Extra.added g.W.Wire.outside c.args.task asked c.args.body.now c.args.wire.now bad_port
          (λ at s h.
          listens_nowhere g.X.Extra.added.meaning c.args.task s c.args.port.now c.in-Some.number (sym c.as_int.ensures ∙ c.in-Some.is) c.args.handler
          (sym (c.may_listen.ensures.is s.streams h.going.in_step.stands.transports) ∙ c.if-not-may_listen.false)
          (ap port_in (sym (to_z-of_z w64 c.in-Some.number fits)) ∙ sym c.as_port.ensures ∙ c.in_default-as_port.is))
          c.bad_port.result c.bad_port.ensures);
    }

said_so : {S : Type 0} (it : Option ℕ) (t : State S) → listens_as it t ≡ answered_by (listened_as it) t
said_so None t = refl
said_so (Some id) t = refl

pub returns : goal.returns
returns g c =
    let asked = request.Listen c.args.port.now c.args.handler in
    let fits : SFits w64 c.in-Some.number = search rules in
    record {
      comes =
          answered_so c.args.task asked c.args.body.now g.W.Wire.outside c.requires c.listen_at.new.body c.args.wire.now c.listen_at.new.wire
          (λ n. listen c.in-Some-as_port.number c.args.handler) listened_as listens_as said_so listens_add
          (λ at s h.
          listens_at g.X.Extra.added.meaning c.args.task s c.args.port.now c.in-Some.number (sym c.as_int.ensures ∙ c.in-Some.is) c.args.handler
          c.in-Some-as_port.number
          (sym (c.may_listen.ensures.is s.streams h.going.in_step.stands.transports) ∙ c.if-not-may_listen.false)
          (ap port_in (sym (to_z-of_z w64 c.in-Some.number fits)) ∙ sym c.as_port.ensures ∙ c.in-Some-as_port.is))
          (listen_forgets c.in-Some-as_port.number c.args.handler) WaitsNever
          (λ s kept. listens (plain_in s) (next_future s.loop.parts) c.in-Some-as_port.number c.args.handler s.streams kept)
          (told_beside c.args.body.now c.listen_at.new.body c.listen_at.ensures.frame) c.listen_at.result c.listened.result
          c.listen_at.ensures.comes c.listened.ensures;
    }
