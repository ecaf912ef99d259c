use Rattle.std.proofs.Common.{◌∙◌, sym, ap}
use Rattle.std.specs.Option.{option_map}
use Rattle.aio_core.proofs.Running.{alive_on, at_bar_so, fewer, may_run, reached_first, reached_next, run_stops, runs_away}
use Rattle.aio_core.proofs.Waking.{idle_alive}
use Rattle.aio_core.proofs.handles.run_below.Goals as goal

pub loop-action-init : goal.loop-action-init
loop-action-init g c = reached_first g.X.Extra.added g.W.Wire.outside c.args.body.now c.args.wire.now

pub next_below-requires : goal.next_below-requires
next_below-requires g c =
    let l = c.loop-action in
    record { idle = idle_alive l.body (alive_on g.X.Extra.added g.W.Wire.outside c.args.body.now c.args.wire.now l.body l.wire l.invariant c.requires) }

pub run_next-requires : goal.run_next-requires
run_next-requires g c =
    let l = c.loop-action in
    let next = sym c.next_below.ensures.action ∙ ap (option_map (λ it. it.0)) c.in-Some.is in
    may_run l.body c.next_below.new.self c.in-Some.action c.next_below.ensures.after next
    (alive_on g.X.Extra.added g.W.Wire.outside c.args.body.now c.args.wire.now l.body l.wire l.invariant c.requires)

pub loop-action-smaller : goal.loop-action-smaller
loop-action-smaller g c =
    let l = c.loop-action in
    let next = sym c.next_below.ensures.action ∙ ap (option_map (λ it. it.0)) c.in-Some.is in
    fewer g.X.Extra.added g.W.Wire.outside c.args.body.now c.args.wire.now l.body l.wire l.invariant
    c.next_below.new.self c.next_below.ensures.after c.in-Some.action next c.run_next.new.body c.run_next.new.wire c.requires
    (rw c.in-Ok-Goes.field-0-is at c.in-Ok-Goes.ensures)

pub loop-action-preserved : goal.loop-action-preserved
loop-action-preserved g c =
    let l = c.loop-action in
    let next = sym c.next_below.ensures.action ∙ ap (option_map (λ it. it.0)) c.in-Some.is in
    reached_next g.X.Extra.added g.W.Wire.outside c.args.body.now c.args.wire.now l.body l.wire l.invariant
    c.next_below.new.self c.next_below.ensures.after c.in-Some.action next c.run_next.new.body c.run_next.new.wire
    (rw c.in-Ok-Goes.field-0-is at c.in-Ok-Goes.ensures)

pub returns-in-Ok-Runaway : goal.returns-in-Ok-Runaway
returns-in-Ok-Runaway g c =
    let l = c.loop-action in
    let next = sym c.next_below.ensures.action ∙ ap (option_map (λ it. it.0)) c.in-Some.is in
    runs_away g.X.Extra.added g.W.Wire.outside c.args.body.now c.args.wire.now l.body l.wire l.invariant
    c.next_below.new.self c.next_below.ensures.after c.in-Some.action next c.run_next.new.body c.run_next.new.wire c.in-Ok-Runaway.task
    (rw c.in-Ok-Runaway.field-0-is at c.in-Ok-Runaway.ensures)

pub returns-in-Err : goal.returns-in-Err
returns-in-Err g c =
    let l = c.loop-action in
    let next = sym c.next_below.ensures.action ∙ ap (option_map (λ it. it.0)) c.in-Some.is in
    run_stops g.X.Extra.added g.W.Wire.outside c.args.body.now c.args.wire.now l.body l.wire l.invariant
    c.next_below.new.self c.next_below.ensures.after c.in-Some.action next c.run_next.new.body c.run_next.new.wire c.in-Err.stop c.in-Err.ensures

pub returns : goal.returns
returns g c =
    let l = c.loop-action in
    let next = sym c.next_below.ensures.action ∙ ap (option_map (λ it. it.0)) c.in_default.is in
    at_bar_so g.X.Extra.added g.W.Wire.outside c.args.body.now c.args.wire.now l.body l.wire l.invariant c.next_below.new.self c.next_below.ensures.after next
