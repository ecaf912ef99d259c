use Rattle.std.proofs.Common.{◌≡◌, true, false, Ok, length, ◌∙◌, refl, sym, ap, subst}
use Rattle.std.proofs.lemmas.Result.{err_from_is_err_and}
use Rattle.model_value.specs.declared.action.Action.TheVariants as action
use Rattle.model_value.specs.Action.{Action}
use Rattle.model_stream.specs.Doing.{Ends}
use Rattle.model_stream.specs.Streams.{Streams, act}
use Rattle.aio_exchange.specs.Follows.{Reach, reach}
use Rattle.aio_task.specs.View.{View}
use Rattle.aio_stream.specs.Standing.{Comes}
use Rattle.aio_listener.specs.Acts.{is_of_child}
use Rattle.aio_listener.proofs.Acts.{nothing_comes, or_else, starved_comes, told_comes}
use Rattle.aio_listener.proofs.acting.act.Goals as goal

pub returns-in-ReadableServer-clause-comes : goal.returns-in-ReadableServer-clause-comes
returns-in-ReadableServer-clause-comes g c =
    let old : Reach View g.row.W.Denot = reach c.args.parts.now c.args.port.now.wire.now c.args.port.now.events.now in
    let new : Reach View g.row.W.Denot = reach c.readable_server.new.parts c.readable_server.new.port.wire.now c.readable_server.new.port.events.now in
    let next = length c.args.parts.now.futures in
    subst (λ (it : Action). Comes g.W.Wire.outside (act next c.args.returned it) c.args.streams.now c.readable_server.new.streams old new
    c.readable_server.result)
    (sym c.in-ReadableServer.is) c.readable_server.ensures.comes

pub returns-in-Readable-clause-comes : goal.returns-in-Readable-clause-comes
returns-in-Readable-clause-comes g c =
    let old : Reach View g.row.W.Denot = reach c.args.parts.now c.args.port.now.wire.now c.args.port.now.events.now in
    let new : Reach View g.row.W.Denot = reach c.readable.new.parts c.readable.new.port.wire.now c.readable.new.port.events.now in
    let next = length c.args.parts.now.futures in
    subst (λ (it : Action). Comes g.W.Wire.outside (act next c.args.returned it) c.args.streams.now c.readable.new.self old new c.readable.result)
    (sym c.in-Readable.is) c.readable.ensures.comes

pub returns-in-Writable-clause-comes : goal.returns-in-Writable-clause-comes
returns-in-Writable-clause-comes g c =
    let old : Reach View g.row.W.Denot = reach c.args.parts.now c.args.port.now.wire.now c.args.port.now.events.now in
    let new : Reach View g.row.W.Denot = reach c.writable.new.parts c.writable.new.port.wire.now c.writable.new.port.events.now in
    let next = length c.args.parts.now.futures in
    subst (λ (it : Action). Comes g.W.Wire.outside (act next c.args.returned it) c.args.streams.now c.writable.new.self old new c.writable.result)
    (sym c.in-Writable.is) c.writable.ensures.comes

pub returns-in-Down-clause-comes : goal.returns-in-Down-clause-comes
returns-in-Down-clause-comes g c =
    let old : Reach View g.row.W.Denot = reach c.args.parts.now c.args.port.now.wire.now c.args.port.now.events.now in
    let new : Reach View g.row.W.Denot = reach c.down.new.parts c.down.new.port.wire.now c.down.new.port.events.now in
    let next = length c.args.parts.now.futures in
    subst (λ (it : Action). Comes g.W.Wire.outside (act next c.args.returned it) c.args.streams.now c.down.new.self old new c.down.result)
    (sym c.in-Down.is) c.down.ensures.comes

pub returns-in-Lost-clause-comes : goal.returns-in-Lost-clause-comes
returns-in-Lost-clause-comes g c =
    let old : Reach View g.row.W.Denot = reach c.args.parts.now c.args.port.now.wire.now c.args.port.now.events.now in
    let new : Reach View g.row.W.Denot = reach c.lose.new.parts c.lose.new.port.wire.now c.lose.new.port.events.now in
    let next = length c.args.parts.now.futures in
    subst (λ (it : Action). Comes g.W.Wire.outside (act next c.args.returned it) c.args.streams.now c.lose.new.self old new c.lose.result)
    (sym c.in-Lost.is) c.lose.ensures.comes

pub returns-in_err-up-in-Up-clause-comes : goal.returns-in_err-up-in-Up-clause-comes
returns-in_err-up-in-Up-clause-comes g c =
    let p = err_from_is_err_and c.from_residual.result c.from_residual.ensures.1 in
    let old : Reach View g.row.W.Denot = reach c.args.parts.now c.args.port.now.wire.now c.args.port.now.events.now in
    let new : Reach View g.row.W.Denot = reach c.up.new.parts c.args.port.now.wire.now c.args.port.now.events.now in
    let next = length c.args.parts.now.futures in
    rw (p.1, p.2) (starved_comes g.W.Wire.outside (act next c.args.returned c.args.action.now) c.args.streams.now c.up.new.self old new refl)

pub returns-in_ok-up-in-Up-clause-comes : goal.returns-in_ok-up-in-Up-clause-comes
returns-in_ok-up-in-Up-clause-comes g c =
    let old : Reach View g.row.W.Denot = reach c.args.parts.now c.args.port.now.wire.now c.args.port.now.events.now in
    let new : Reach View g.row.W.Denot = reach c.up.new.parts c.args.port.now.wire.now c.args.port.now.events.now in
    let next = length c.args.parts.now.futures in
    subst (λ (it : Action). Comes {R = Unit {0}} g.W.Wire.outside (act next c.args.returned it) c.args.streams.now c.up.new.self old new (Ok tt))
    (sym c.in-Up.is)
    (told_comes g.W.Wire.outside (act next c.args.returned (action.Up c.in-Up.id)) c.args.streams.now c.up.new.self old new refl
    c.in_ok-up-in-Up.ensures.told)

pub returns-in_err-handler_done-in-HandlerDone-clause-comes : goal.returns-in_err-handler_done-in-HandlerDone-clause-comes
returns-in_err-handler_done-in-HandlerDone-clause-comes g c =
    let p = err_from_is_err_and c.from_residual-in_err-handler_done-in-HandlerDone.result c.from_residual-in_err-handler_done-in-HandlerDone.ensures.1 in
    let old : Reach View g.row.W.Denot = reach c.args.parts.now c.args.port.now.wire.now c.args.port.now.events.now in
    let new : Reach View g.row.W.Denot = reach c.handler_done.new.parts c.args.port.now.wire.now c.args.port.now.events.now in
    let next = length c.args.parts.now.futures in
    rw (p.1, p.2) (starved_comes g.W.Wire.outside (act next c.args.returned c.args.action.now) c.args.streams.now c.handler_done.new.self old new refl)

pub returns-in_ok-handler_done-in-HandlerDone-clause-comes : goal.returns-in_ok-handler_done-in-HandlerDone-clause-comes
returns-in_ok-handler_done-in-HandlerDone-clause-comes g c =
    let old : Reach View g.row.W.Denot = reach c.args.parts.now c.args.port.now.wire.now c.args.port.now.events.now in
    let new : Reach View g.row.W.Denot = reach c.handler_done.new.parts c.args.port.now.wire.now c.args.port.now.events.now in
    let next = length c.args.parts.now.futures in
    subst (λ (it : Action). Comes {R = Unit {0}} g.W.Wire.outside (act next c.args.returned it) c.args.streams.now c.handler_done.new.self old new
    (Ok tt)) (sym c.in-HandlerDone.is)
    (told_comes g.W.Wire.outside (act next c.args.returned (action.HandlerDone c.in-HandlerDone.conn c.in-HandlerDone.task)) c.args.streams.now
    c.handler_done.new.self old new refl
    c.in_ok-handler_done-in-HandlerDone.ensures.told)

pub returns-in-StartRead-clause-comes : goal.returns-in-StartRead-clause-comes
returns-in-StartRead-clause-comes g c =
    let old : Reach View g.row.W.Denot = reach c.args.parts.now c.args.port.now.wire.now c.args.port.now.events.now in
    let next = length c.args.parts.now.futures in
    subst (λ (it : Action). Comes {R = Unit {0}} g.W.Wire.outside (act next c.args.returned it) c.args.streams.now c.start_read.new.self old old (Ok tt))
    (sym c.in-StartRead.is)
    (told_comes g.W.Wire.outside (act next c.args.returned (action.StartRead c.in-StartRead.id)) c.args.streams.now c.start_read.new.self old old refl
    (c.start_read.ensures.told c.args.parts.now))

pub returns-in-StartRead-clause-own : goal.returns-in-StartRead-clause-own
returns-in-StartRead-clause-own g c = c.start_read.ensures.own c.args.parts.now c.requires.own

pub returns-in-Made-clause-comes : goal.returns-in-Made-clause-comes
returns-in-Made-clause-comes g c =
    let old : Reach View g.row.W.Denot = reach c.args.parts.now c.args.port.now.wire.now c.args.port.now.events.now in
    let next = length c.args.parts.now.futures in
    let P : Action → Type 0 = λ it. Comes {R = Unit {0}} g.W.Wire.outside (act next c.args.returned it) c.args.streams.now c.args.streams.now old old (Ok tt) in
    let n : Comes {R = Unit {0}} g.W.Wire.outside (λ (s : Streams). Ends s) c.args.streams.now c.args.streams.now old old (Ok tt) =
    nothing_comes g.W.Wire.outside c.args.streams.now old in
    let no : (it : Action) → c.args.action.now ≡ it → is_of_child it ≡ true → P c.args.action.now =
    λ it e h. absurd (let bad : true ≡ false = sym (ap is_of_child e ∙ h) ∙ c.requires.no_child in let none : ⊥ = cc in none) in
    or_else c.in-Made.is (λ w. subst P (sym w.1) n) (λ r.
    or_else r (λ w. no (action.WritableChild w.0) w.1 refl) (λ r.
    or_else r (λ w. no (action.ChildItem w.0 w.1) w.2 refl) (λ r.
    or_else r (λ w. no (action.LostChild w.0 w.1) w.2 refl) (λ r.
    or_else r (λ w. subst P (sym w.1) n) (λ r.
    or_else r (λ w. subst P (sym w.2) n) (λ r.
    or_else r (λ w. subst P (sym w.1) n) (λ r.
    or_else r (λ w. subst P (sym w.2) n) (λ r.
    or_else r (λ w. subst P (sym w.2) n) (λ r.
    or_else r (λ w. subst P (sym w.1) n) (λ r.
    or_else r (λ w. subst P (sym w) n) (λ r.
    or_else r (λ w. subst P (sym w.2) n) (λ w. subst P (sym w.1) n))))))))))))
