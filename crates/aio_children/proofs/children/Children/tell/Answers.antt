use Rattle.std.proofs.Common.{OnOk, slice_set, sym, subst}
use Rattle.model_stream.specs.Children.{tell_child}
use Rattle.model_stream.specs.Streams.{its_children, on_one}
use Rattle.aio_children.specs.Kept.{Kept}
use Rattle.aio_children.specs.Owned.{OwnsChildren}
use Rattle.aio_children.specs.Standing.{Told}
use Rattle.aio_children.proofs.Placing.{at_place, own_at, own_told, past_place, told_absent, told_placed}
use Rattle.aio_children.proofs.children.Children.tell.Goals as goal

pub returns-in_default-clause-told : goal.returns-in_default-clause-told
returns-in_default-clause-told c =
    let i = c.self.inside in
    let before : Kept = record { children = i.children.items; most = i.most } in
    subst (λ (k : Kept). Told (on_one its_children c.args.id
    (tell_child c.args.id c.args.item.now)) k before c.args.parts.now c.args.parts.now) c.self.view_is
    (told_absent before c.args.id (past_place i.children.items c.args.id c.in_default.ensures.item.3)
    (tell_child c.args.id c.args.item.now) c.args.parts.now)

pub returns-clause-told : goal.returns-clause-told
returns-clause-told c =
    let i = c.self.inside in
    let before : Kept = record { children = i.children.items; most = i.most } in
    subst (λ (k : Kept). OnOk c.tell.result (Told (on_one its_children c.args.id (tell_child c.args.id c.args.item.now)) k
    (record before { children = slice_set i.children.items c.args.id c.tell.new.self }) c.args.parts.now c.tell.new.parts))
    c.self.view_is
    (told_placed before c.args.id c.in-Some.child.now c.tell.new.self
    (at_place i.children.items c.args.id c.in-Some.child.now c.in-Some.ensures.item.3.0 c.in-Some.ensures.item.1)
    (tell_child c.args.id c.args.item.now) c.args.parts.now c.tell.new.parts c.tell.result c.tell.ensures.tells)

pub tell-requires-clause-own : goal.tell-requires-clause-own
tell-requires-clause-own c =
    let i = c.self.inside in
    own_at c.args.parts.now i.children.items c.args.id c.in-Some.child.now
    (at_place i.children.items c.args.id c.in-Some.child.now c.in-Some.ensures.item.3.0 c.in-Some.ensures.item.1)
    (subst (OwnsChildren c.args.parts.now) (sym c.self.view_is) c.requires.own)

pub returns-clause-own : goal.returns-clause-own
returns-clause-own c =
    let i = c.self.inside in
    let before : Kept = record { children = i.children.items; most = i.most } in
    own_told before c.args.id c.in-Some.child.now c.tell.new.self
    (at_place i.children.items c.args.id c.in-Some.child.now c.in-Some.ensures.item.3.0 c.in-Some.ensures.item.1)
    (tell_child c.args.id c.args.item.now) c.args.parts.now c.tell.new.parts c.tell.result c.tell.ensures.tells c.tell.ensures.own
    (subst (OwnsChildren c.args.parts.now) (sym c.self.view_is) c.requires.own)
