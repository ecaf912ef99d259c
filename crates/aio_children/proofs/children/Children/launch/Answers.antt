use Rattle.std.proofs.Common.{◌≡◌, ◌∙◌, [], ◌∷◌, ◌++◌, refl, sym, ap, length}
use Rattle.std.proofs.lemmas.Result.{err_from_is_err_and}
use Rattle.model_stream.specs.Children.{Child, new_child}
use Rattle.aio_exchange.specs.Follows.{Reach, reach}
use Rattle.aio_task.specs.View.{View}
use Rattle.aio_children.proofs.Launching.{launch_met, launch_refused, launch_starved, launch_started, own_launched}
use Rattle.aio_children.proofs.children.Children.launch.Given.{Over}
use Rattle.aio_children.proofs.children.Children.launch.Goals as goal

pub returns-in_err-answer-clause-comes : goal.returns-in_err-answer-clause-comes
returns-in_err-answer-clause-comes g c =
    let p = err_from_is_err_and c.from_residual.result c.from_residual.ensures.1 in
    let old : Reach View g.row.W.Denot = reach c.args.parts.now c.args.port.now.wire.now c.args.port.now.events.now in
    let new : Reach View g.row.W.Denot = reach c.args.parts.now c.ask.new.port.wire.now c.ask.new.port.events.now in
    rw (p.1, p.2)
    (launch_met g.W.Wire.outside c.args.words (length c.args.parts.now.futures) c.args.self.now c.args.self.now c.in_err-answer.field-0.0 old new
    c.in_err-answer.ensures.asks refl)

pub returns-then-not-started-clause-comes : goal.returns-then-not-started-clause-comes
returns-then-not-started-clause-comes g c =
    let old : Reach View g.row.W.Denot = reach c.args.parts.now c.args.port.now.wire.now c.args.port.now.events.now in
    let new : Reach View g.row.W.Denot = reach c.args.parts.now c.ask.new.port.wire.now c.ask.new.port.events.now in
    launch_refused g.W.Wire.outside c.args.words (length c.args.parts.now.futures) c.args.self.now c.in_ok-answer.answer old new
    c.in_ok-answer.ensures.asks refl (sym c.is_started-started.ensures ∙ c.if-not-started.true)

pub returns-in_err-closed-clause-comes : goal.returns-in_err-closed-clause-comes
returns-in_err-closed-clause-comes g c =
    let p = err_from_is_err_and c.from_residual-in_err-closed.result c.from_residual-in_err-closed.ensures.1 in
    let old : Reach View g.row.W.Denot = reach c.args.parts.now c.args.port.now.wire.now c.args.port.now.events.now in
    let mid : Reach View g.row.W.Denot = reach c.args.parts.now c.ask.new.port.wire.now c.ask.new.port.events.now in
    let new : Reach View g.row.W.Denot = reach c.make_future.new.parts c.ask.new.port.wire.now c.ask.new.port.events.now in
    rw (p.1, p.2)
    (launch_starved g.W.Wire.outside c.args.words (length c.args.parts.now.futures) c.args.self.now c.args.self.now c.in_ok-answer.answer
    old mid new c.in_ok-answer.ensures.asks refl refl)

pub returns-in_err-push-clause-comes : goal.returns-in_err-push-clause-comes
returns-in_err-push-clause-comes g c =
    let p = err_from_is_err_and c.from_residual-in_err-push.result c.from_residual-in_err-push.ensures.1 in
    let old : Reach View g.row.W.Denot = reach c.args.parts.now c.args.port.now.wire.now c.args.port.now.events.now in
    let mid : Reach View g.row.W.Denot = reach c.args.parts.now c.ask.new.port.wire.now c.ask.new.port.events.now in
    let new : Reach View g.row.W.Denot = reach c.make_future.new.parts c.ask.new.port.wire.now c.ask.new.port.events.now in
    rw (p.1, p.2)
    (launch_starved g.W.Wire.outside c.args.words (length c.args.parts.now.futures) c.args.self.now c.push.new.self c.in_ok-answer.answer
    old mid new c.in_ok-answer.ensures.asks refl refl)

pushed : (g : Over) (c : goal.In_ok-push g) → c.push.new.self
    ≡ record c.args.self.now { children = c.args.self.now.children ++ new_child (length c.args.parts.now.futures) ∷ [] }
pushed g c =
    c.in_ok-push.ensures ∙ ap (λ (p : Child). record c.args.self.now { children = c.args.self.now.children ++ p ∷ [] })
    (c.new.ensures ∙ ap new_child c.in_ok-closed.ensures.number)

pub returns-clause-comes : goal.returns-clause-comes
returns-clause-comes g c =
    let old : Reach View g.row.W.Denot = reach c.args.parts.now c.args.port.now.wire.now c.args.port.now.events.now in
    let mid : Reach View g.row.W.Denot = reach c.args.parts.now c.ask.new.port.wire.now c.ask.new.port.events.now in
    let new : Reach View g.row.W.Denot = reach c.make_future.new.parts c.ask.new.port.wire.now c.ask.new.port.events.now in
    launch_started g.W.Wire.outside c.args.words (length c.args.parts.now.futures) c.args.self.now c.next_id-id.result c.push.new.self
    c.in_ok-answer.answer old mid new c.in_ok-answer.ensures.asks refl (sym c.is_started-started.ensures ∙ c.if-not-started.false)
    c.in_ok-closed.ensures.after refl c.next_id-id.ensures (pushed g c)

pub returns-clause-own : goal.returns-clause-own
returns-clause-own g c =
    own_launched c.args.parts.now c.make_future.new.parts (length c.args.parts.now.futures) c.args.self.now c.push.new.self c.in_ok-closed.ensures.after
    refl (pushed g c) c.requires.own
