use Rattle.std.proofs.Common.{◌≡◌, List, None, Some, Ok, slice_get, subst}
use Rattle.model_stream.specs.Children.{Child, kill}
use Rattle.model_stream.specs.Requests as requests
use Rattle.aio_exchange.specs.Follows.{Reach, reach}
use Rattle.aio_task.specs.View.{View}
use Rattle.aio_children.specs.Kept.{Kept}
use Rattle.aio_children.specs.Standing.{Comes}
use Rattle.aio_children.proofs.Placing.{at_place, comes_absent, comes_beside, past_place}
use Rattle.aio_children.proofs.children.Children.kill.Goals as goal

pub returns-in_default-clause-comes : goal.returns-in_default-clause-comes
returns-in_default-clause-comes g c v =
    let old : Reach View g.row.W.Denot = reach v c.args.port.now.wire.now c.args.port.now.events.now in
    let i = c.self.inside in
    let before : Kept = record { children = i.children.items; most = i.most } in
    let nothing : Unit {0} = tt in
    let past : slice_get i.children.items c.args.id ≡ None =
    subst (λ (ps : List Child). slice_get ps c.args.id ≡ None) c.deref.ensures.value
    (past_place c.deref.result.now c.args.id c.in_default.ensures.lookup.3) in
    subst (λ (k : Kept). Comes {R = Unit {0}} g.W.Wire.outside (requests.kill c.args.id) k k old old (Ok tt)) c.self.view_is
    (comes_absent before c.args.id past g.W.Wire.outside (kill c.args.id) old nothing)

pub returns-clause-comes : goal.returns-clause-comes
returns-clause-comes g c v =
    let old : Reach View g.row.W.Denot = reach v c.args.port.now.wire.now c.args.port.now.events.now in
    let new : Reach View g.row.W.Denot = reach v c.kill.new.port.wire.now c.kill.new.port.events.now in
    let i = c.self.inside in
    let before : Kept = record { children = i.children.items; most = i.most } in
    let read = c.in-Some.ensures.lookup in
    let there : slice_get i.children.items c.args.id ≡ Some c.in-Some.child.now =
    subst (λ (ps : List Child). slice_get ps c.args.id ≡ Some c.in-Some.child.now) c.deref.ensures.value
    (at_place c.deref.result.now c.args.id c.in-Some.child.now read.3.0 read.1) in
    subst (λ (k : Kept). Comes g.W.Wire.outside (requests.kill c.args.id) k k old new c.kill.result) c.self.view_is
    (comes_beside before c.args.id c.in-Some.child.now there g.W.Wire.outside (kill c.args.id) old new c.kill.result (c.kill.ensures.follows v))
