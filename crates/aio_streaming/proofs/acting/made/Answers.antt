use Rattle.std.proofs.Common.{◌<◌, ◌≤◌, length, sym, ap, refl, ◌∙◌, arith}
use Rattle.std.proofs.lemmas.Result.{on_ok_weaker}
use Rattle.model_value.specs.declared.action.Action.TheVariants as action
use Rattle.model_machine.specs.Replies.{most_ids}
use Rattle.aio_body.specs.declared.run_state.RunState.{RunState}
use Rattle.aio_task.specs.View.{View}
use Rattle.aio_streaming.proofs.Callbacks.{taken_idle, taken_owned}
use Rattle.aio_streaming.proofs.Handlers.{closes_so, handles_none, handles_so, one_conn}
use Rattle.aio_streaming.proofs.acting.made.Goals as goal

pub returns-in_default : goal.returns-in_default
returns-in_default g c =
    handles_none g.X.Extra.added c.args.conn c.args.body.now (λ s stands. sym c.in_default.is ∙ c.handler_of.ensures s stands)

pub close-requires-clause-idle : goal.close-requires-clause-idle
close-requires-clause-idle g c = taken_idle {a = g.X.Extra.added} (action.Made c.args.conn) c.args.body.now c.requires refl

pub close-requires-clause-own : goal.close-requires-clause-own
close-requires-clause-own g c = taken_owned {a = g.X.Extra.added} (action.Made c.args.conn) c.args.body.now c.requires

pub returns-then-len-ge-MOST_IDS : goal.returns-then-len-ge-MOST_IDS
returns-then-len-ge-MOST_IDS g c =
    let body = c.args.body.now in
    let new = record body { parts = c.close.new.parts; transports = c.close.new.self } in
    let same = body.slots.ok.0 in
    let many : most_ids ≤ length body.slots.items = omega (arith, same, c.len.ensures, c.if-len-ge-MOST_IDS.true) in
    on_ok_weaker c.close.result
    (closes_so g.X.Extra.added c.args.conn body c.in-Some.coroutine
    (λ s stands. sym c.in-Some.is ∙ c.handler_of.ensures s stands) new c.requires many refl)
    c.close.ensures.told

pub spawn-requires : goal.spawn-requires
spawn-requires g c = record {
  idle =
      ap (λ (v : View). v.called) c.ticket.ensures ∙ ap (λ (b : RunState _). b.parts.called) c.in_ok-hold.ensures.frame
      ∙ taken_idle {a = g.X.Extra.added} (action.Made c.args.conn) c.args.body.now c.requires refl;
}

pub on_done-requires-clause-idle : goal.on_done-requires-clause-idle
on_done-requires-clause-idle g c =
    ap (λ (v : View). v.called) c.in-Ok.ensures.frame ∙ ap (λ (v : View). v.called) c.ticket.ensures
    ∙ ap (λ (b : RunState _). b.parts.called) c.in_ok-hold.ensures.frame
    ∙ taken_idle {a = g.X.Extra.added} (action.Made c.args.conn) c.args.body.now c.requires refl

pub returns-in-Ok : goal.returns-in-Ok
returns-in-Ok g c at s h =
    let body = c.args.body.now in
    let held = c.hold-2.new.self in
    let same = body.slots.ok.0 in
    let with_conn =
    one_conn c.args.conn c.of.result c.push.new.self.items c.new-items.result.items c.conn.result c.of.ensures
    c.in_ok-push.ensures.items c.new-items.ensures.items c.conn.ensures in
    let few : length body.slots.items < most_ids = omega (arith, same, c.len.ensures, c.if-len-ge-MOST_IDS.false) in
    handles_so g.X.Extra.added c.args.conn body c.in-Some.coroutine
    (λ s stands. sym c.in-Some.is ∙ c.handler_of.ensures s stands) _ with_conn few held c.in_ok-hold.ensures c.ticket.new.self
    c.spawn.new.self c.on_done.new.self c.in-Ok.task c.future_of-own.result c.ticket.ensures c.in-Ok.ensures.number
    c.in-Ok.ensures.after c.in-Ok.ensures.queue c.in-Ok.ensures.frame c.future_of-own.ensures c.on_done.ensures at s h
    (record held { parts = c.on_done.new.self }) refl
