use Rattle.std.proofs.Common.{SFits, w64, rules, sym, ap, subst, ◌∙◌}
use Rattle.std.proofs.lemmas.Int.{to_z-of_z}
use Rattle.model_value.specs.declared.request.Request.TheVariants as request
use Rattle.model_says.specs.Operations.{out_of_range}
use Rattle.model_says.specs.Requests.{bad_argument}
use Rattle.model_machine.specs.Replies.{bad_port}
use Rattle.aio_wire.specs.Port.{ported}
use Rattle.aio_body.specs.Asking.{Comes, serving}
use Rattle.aio_body.proofs.Alone.{refused_alone}
use Rattle.refine_streams.proofs.Meaning.{connect_no_port, connect_past}
use Rattle.refine_streams.proofs.Served.{asking_idle, asking_owned}
use Rattle.aio_streaming.specs.Ports.{port_in}
use Rattle.aio_streaming.proofs.Connects.{connect_fails, connect_idle, connect_pending, connect_raises, connect_running, connect_stands, connect_there}
use Rattle.aio_streaming.proofs.Opens.{connects_nowhere, connects_to}
use Rattle.aio_streaming.proofs.opening.connect.Goals as goal

pub returns-in_default : goal.returns-in_default
returns-in_default g c =
    let asked = request.Connect c.args.port.now in
    record {
      comes =
          subst (Comes _ (serving g.X.Extra.added c.args.task asked c.args.body.now c.args.body.now) (ported c.args.wire.now c.args.body.now.events)
          (ported c.args.wire.now c.args.body.now.events)) (sym c.or_stop.ensures)
          (refused_alone g.X.Extra.added g.W.Wire.outside c.args.task asked c.args.body.now c.args.wire.now bad_argument
          (λ at s h.
          connect_no_port g.X.Extra.added.meaning c.args.task s c.args.port.now (sym c.as_int.ensures ∙ c.in_default.is))
          c.bad_argument.result c.bad_argument.ensures);
    }

pub returns-then-not-may_connect : goal.returns-then-not-may_connect
returns-then-not-may_connect g c =
    let asked = request.Connect c.args.port.now in
    record {
      comes =
          subst (Comes _ (serving g.X.Extra.added c.args.task asked c.args.body.now c.args.body.now) (ported c.args.wire.now c.args.body.now.events)
          (ported c.args.wire.now c.args.body.now.events)) (sym c.or_stop-then-not-may_connect.ensures)
          (refused_alone g.X.Extra.added g.W.Wire.outside c.args.task asked c.args.body.now c.args.wire.now out_of_range
          (λ at s h.
          connect_past g.X.Extra.added.meaning c.args.task s c.args.port.now c.in-Some.number (sym c.as_int.ensures ∙ c.in-Some.is)
          (sym (c.may_connect.ensures.is s.streams h.going.in_step.stands.transports) ∙ c.if-not-may_connect.true))
          c.out_of_range.result c.out_of_range.ensures);
    }

pub returns-in_default-as_port : goal.returns-in_default-as_port
returns-in_default-as_port g c =
    let asked = request.Connect c.args.port.now in
    let fits : SFits w64 c.in-Some.number = search rules in
    record {
      comes =
          subst (Comes _ (serving g.X.Extra.added c.args.task asked c.args.body.now c.args.body.now) (ported c.args.wire.now c.args.body.now.events)
          (ported c.args.wire.now c.args.body.now.events)) (sym c.or_stop-in_default-as_port.ensures)
          (refused_alone g.X.Extra.added g.W.Wire.outside c.args.task asked c.args.body.now c.args.wire.now bad_port
          (λ at s h.
          connects_nowhere g.X.Extra.added.meaning c.args.task s c.args.port.now c.in-Some.number (sym c.as_int.ensures ∙ c.in-Some.is)
          (sym (c.may_connect.ensures.is s.streams h.going.in_step.stands.transports) ∙ c.if-not-may_connect.false)
          (ap port_in (sym (to_z-of_z w64 c.in-Some.number fits)) ∙ sym c.as_port.ensures ∙ c.in_default-as_port.is))
          c.bad_port.result c.bad_port.ensures);
    }

pub begun-requires-clause-idle : goal.begun-requires-clause-idle
begun-requires-clause-idle g c = asking_idle c.args.task (request.Connect c.args.port.now) c.args.body.now c.requires

pub begun-requires-clause-own : goal.begun-requires-clause-own
begun-requires-clause-own g c = asking_owned c.args.task (request.Connect c.args.port.now) c.args.body.now c.requires

pub waits-requires-clause-idle : goal.waits-requires-clause-idle
waits-requires-clause-idle g c =
    let fits : SFits w64 c.in-Some.number = search rules in
    connect_idle c.args.task c.in-Some-as_port.number (request.Connect c.args.port.now) c.args.body.now
    g.W.Wire.outside c.requires c.begun.new.body c.args.wire.now c.begun.new.wire
    (λ at s h.
    connects_to g.X.Extra.added.meaning c.args.task s c.args.port.now c.in-Some.number (sym c.as_int.ensures ∙ c.in-Some.is) c.in-Some-as_port.number
    (sym (c.may_connect.ensures.is s.streams h.going.in_step.stands.transports) ∙ c.if-not-may_connect.false)
    (ap port_in (sym (to_z-of_z w64 c.in-Some.number fits)) ∙ sym c.as_port.ensures ∙ c.in-Some-as_port.is))
    c.in-Ok-Some.field-0 c.in-Ok-Some.ensures.comes c.in-Ok-Some.ensures.frame c.in-Ok-Some.connecting c.in-Ok-Some.field-0-is

pub waits-requires-clause-running : goal.waits-requires-clause-running
waits-requires-clause-running g c =
    let fits : SFits w64 c.in-Some.number = search rules in
    connect_running c.args.task c.in-Some-as_port.number (request.Connect c.args.port.now) c.args.body.now
    g.W.Wire.outside c.requires c.begun.new.body c.args.wire.now c.begun.new.wire
    (λ at s h.
    connects_to g.X.Extra.added.meaning c.args.task s c.args.port.now c.in-Some.number (sym c.as_int.ensures ∙ c.in-Some.is) c.in-Some-as_port.number
    (sym (c.may_connect.ensures.is s.streams h.going.in_step.stands.transports) ∙ c.if-not-may_connect.false)
    (ap port_in (sym (to_z-of_z w64 c.in-Some.number fits)) ∙ sym c.as_port.ensures ∙ c.in-Some-as_port.is))
    c.in-Ok-Some.field-0 c.in-Ok-Some.ensures.comes c.in-Ok-Some.ensures.frame c.in-Ok-Some.connecting c.in-Ok-Some.field-0-is

pub waits-requires-clause-pending : goal.waits-requires-clause-pending
waits-requires-clause-pending g c =
    let fits : SFits w64 c.in-Some.number = search rules in
    connect_pending c.args.task c.in-Some-as_port.number (request.Connect c.args.port.now) c.args.body.now
    g.W.Wire.outside c.requires c.begun.new.body c.args.wire.now c.begun.new.wire
    (λ at s h.
    connects_to g.X.Extra.added.meaning c.args.task s c.args.port.now c.in-Some.number (sym c.as_int.ensures ∙ c.in-Some.is) c.in-Some-as_port.number
    (sym (c.may_connect.ensures.is s.streams h.going.in_step.stands.transports) ∙ c.if-not-may_connect.false)
    (ap port_in (sym (to_z-of_z w64 c.in-Some.number fits)) ∙ sym c.as_port.ensures ∙ c.in-Some-as_port.is))
    c.in-Ok-Some.field-0 c.in-Ok-Some.ensures.comes c.in-Ok-Some.ensures.frame c.in-Ok-Some.connecting c.in-Ok-Some.field-0-is

pub waits-requires-clause-there : goal.waits-requires-clause-there
waits-requires-clause-there g c =
    let fits : SFits w64 c.in-Some.number = search rules in
    connect_there c.args.task c.in-Some-as_port.number (request.Connect c.args.port.now) c.args.body.now
    g.W.Wire.outside c.requires c.begun.new.body c.args.wire.now c.begun.new.wire
    (λ at s h.
    connects_to g.X.Extra.added.meaning c.args.task s c.args.port.now c.in-Some.number (sym c.as_int.ensures ∙ c.in-Some.is) c.in-Some-as_port.number
    (sym (c.may_connect.ensures.is s.streams h.going.in_step.stands.transports) ∙ c.if-not-may_connect.false)
    (ap port_in (sym (to_z-of_z w64 c.in-Some.number fits)) ∙ sym c.as_port.ensures ∙ c.in-Some-as_port.is))
    c.in-Ok-Some.field-0 c.in-Ok-Some.ensures.comes c.in-Ok-Some.ensures.frame c.in-Ok-Some.connecting c.in-Ok-Some.field-0-is

pub returns-in-Ok-Some : goal.returns-in-Ok-Some
returns-in-Ok-Some g c =
    let fits : SFits w64 c.in-Some.number = search rules in
    record {
      comes =
          subst (Comes g.W.Wire.outside
          (serving g.X.Extra.added c.args.task (request.Connect c.args.port.now) c.args.body.now c.waits.new.body)
          (ported c.args.wire.now c.args.body.now.events) (ported c.begun.new.wire c.waits.new.body.events)) (sym c.or_stop-in-Ok-Some.ensures)
          (connect_stands c.args.task c.in-Some-as_port.number (request.Connect c.args.port.now) c.args.body.now
          g.W.Wire.outside c.requires c.begun.new.body c.args.wire.now c.begun.new.wire
          (λ at s h.
          connects_to g.X.Extra.added.meaning c.args.task s c.args.port.now c.in-Some.number (sym c.as_int.ensures ∙ c.in-Some.is) c.in-Some-as_port.number
          (sym (c.may_connect.ensures.is s.streams h.going.in_step.stands.transports) ∙ c.if-not-may_connect.false)
          (ap port_in (sym (to_z-of_z w64 c.in-Some.number fits)) ∙ sym c.as_port.ensures ∙ c.in-Some-as_port.is))
          c.in-Ok-Some.field-0 c.in-Ok-Some.ensures.comes c.in-Ok-Some.ensures.frame c.in-Ok-Some.connecting
          c.in-Ok-Some.field-0-is c.waits.new.body c.waits.result c.waits.ensures.is c.waits.ensures.suspends
          c.waits.ensures.frame c.waits.ensures.slots);
    }

pub returns-in-Ok-None : goal.returns-in-Ok-None
returns-in-Ok-None g c =
    let fits : SFits w64 c.in-Some.number = search rules in
    record {
      comes =
          subst (Comes _ (serving g.X.Extra.added c.args.task (request.Connect c.args.port.now) c.args.body.now c.begun.new.body)
          (ported c.args.wire.now c.args.body.now.events) (ported c.begun.new.wire c.begun.new.body.events)) (sym c.or_stop-in-Ok-None.ensures)
          (connect_raises c.args.task c.in-Some-as_port.number (request.Connect c.args.port.now) c.args.body.now
          g.W.Wire.outside c.requires c.begun.new.body c.args.wire.now c.begun.new.wire
          (λ at s h.
          connects_to g.X.Extra.added.meaning c.args.task s c.args.port.now c.in-Some.number (sym c.as_int.ensures ∙ c.in-Some.is) c.in-Some-as_port.number
          (sym (c.may_connect.ensures.is s.streams h.going.in_step.stands.transports) ∙ c.if-not-may_connect.false)
          (ap port_in (sym (to_z-of_z w64 c.in-Some.number fits)) ∙ sym c.as_port.ensures ∙ c.in-Some-as_port.is))
          c.in-Ok-None.field-0 c.in-Ok-None.ensures.comes c.in-Ok-None.ensures.frame c.in-Ok-None.field-0-is c.raises.result c.raises.ensures);
    }

pub returns-in-Err : goal.returns-in-Err
returns-in-Err g c =
    let fits : SFits w64 c.in-Some.number = search rules in
    record {
      comes =
          connect_fails c.args.task c.in-Some-as_port.number (request.Connect c.args.port.now) c.args.body.now
          g.W.Wire.outside c.requires c.begun.new.body c.args.wire.now c.begun.new.wire
          (λ at s h.
          connects_to g.X.Extra.added.meaning c.args.task s c.args.port.now c.in-Some.number (sym c.as_int.ensures ∙ c.in-Some.is) c.in-Some-as_port.number
          (sym (c.may_connect.ensures.is s.streams h.going.in_step.stands.transports) ∙ c.if-not-may_connect.false)
          (ap port_in (sym (to_z-of_z w64 c.in-Some.number fits)) ∙ sym c.as_port.ensures ∙ c.in-Some-as_port.is))
          c.in-Err.stop c.in-Err.ensures.comes;
    }
