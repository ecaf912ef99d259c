use Rattle.std.proofs.Common.{◌≡◌, ◌∙◌, ap}
use Rattle.std.proofs.lemmas.Result.{on_ok_weaker}
use Rattle.model_value.specs.declared.action.Action.TheVariants.{StartRead}
use Rattle.model_stream.specs.Connections.{Connection, accepted}
use Rattle.model_stream.specs.Doing.{CallSoon}
use Rattle.aio_change.specs.Seen.{seen_changed}
use Rattle.aio_stream.specs.Kept.{with_connection}
use Rattle.aio_listener.proofs.Accepts.{accepts_next, accepts_own, accepts_told}
use Rattle.aio_listener.proofs.accepting.accept.Goals as goal

placed : (c : goal.After-call_soon-2)
    → c.add_connection.new.self ≡ with_connection (accepted c.in_ok-closed.closed c.args.handler) c.args.streams.now
placed c = c.in_ok-id.ensures.after ∙ ap (λ (it : Connection). with_connection it c.args.streams.now) c.accepted.ensures

pub returns-clause-told : goal.returns-clause-told
returns-clause-told c =
    on_ok_weaker c.call_soon-2.result
    (λ (soon : c.call_soon-2.new.parts ≡ seen_changed (CallSoon (StartRead c.in_ok-id.id)) c.call_soon.new.parts).
    accepts_told c.args.handler c.args.streams.now c.add_connection.new.self c.in_ok-closed.closed c.in_ok-id.id c.args.parts.now
    c.make_future.new.parts c.call_soon.new.parts c.call_soon-2.new.parts c.in_ok-closed.ensures.number c.in_ok-id.ensures.number
    c.in_ok-closed.ensures.after c.in_ok-call_soon.ensures.after soon (placed c))
    c.call_soon-2.ensures.after

pub returns-clause-next : goal.returns-clause-next
returns-clause-next c =
    on_ok_weaker c.call_soon-2.result
    (λ (soon : c.call_soon-2.new.parts ≡ seen_changed (CallSoon (StartRead c.in_ok-id.id)) c.call_soon.new.parts).
    accepts_next c.args.handler c.args.streams.now c.add_connection.new.self c.in_ok-closed.closed c.in_ok-id.id c.args.parts.now
    c.make_future.new.parts c.call_soon.new.parts c.call_soon-2.new.parts c.in_ok-closed.ensures.number c.in_ok-id.ensures.number
    c.in_ok-closed.ensures.after c.in_ok-call_soon.ensures.after soon (placed c))
    c.call_soon-2.ensures.after

pub returns-clause-own : goal.returns-clause-own
returns-clause-own c =
    on_ok_weaker c.call_soon-2.result
    (λ (soon : c.call_soon-2.new.parts ≡ seen_changed (CallSoon (StartRead c.in_ok-id.id)) c.call_soon.new.parts).
    accepts_own c.args.handler c.args.streams.now c.add_connection.new.self c.in_ok-closed.closed c.in_ok-id.id c.args.parts.now
    c.make_future.new.parts c.call_soon.new.parts c.call_soon-2.new.parts c.in_ok-closed.ensures.number c.in_ok-id.ensures.number
    c.in_ok-closed.ensures.after c.in_ok-call_soon.ensures.after soon (placed c) c.requires.own)
    c.call_soon-2.ensures.after
