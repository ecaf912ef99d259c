use Rattle.std.proofs.Common.{OnOk, slice_set, sym, subst}
use Rattle.std.proofs.lemmas.Result.{on_ok_weaker}
use Rattle.model_stream.specs.Children as child
use Rattle.model_wire.specs.declared.event.Handed.TheVariants as to
use Rattle.model_stream.specs.Requests as requests
use Rattle.aio_children.specs.Kept.{Kept}
use Rattle.aio_children.specs.Owned.{OwnsChildren}
use Rattle.aio_children.specs.Standing.{Told}
use Rattle.aio_children.proofs.Placing.{at_place, own_at, own_told, past_place, told_absent, told_placed}
use Rattle.aio_children.proofs.children.Children.close.Goals as goal

pub returns-in_default-clause-told : goal.returns-in_default-clause-told
returns-in_default-clause-told c =
    let i = c.self.inside in
    let before : Kept = record { children = i.children.items; most = i.most } in
    subst (λ (k : Kept). Told (requests.close (to.Child c.args.id)) k before c.args.parts.now c.args.parts.now) c.self.view_is
    (told_absent before c.args.id (past_place i.children.items c.args.id c.in_default.ensures.item.3) (child.close_child c.args.id) c.args.parts.now)

pub returns-clause-told : goal.returns-clause-told
returns-clause-told c =
    let i = c.self.inside in
    let before : Kept = record { children = i.children.items; most = i.most } in
    subst (λ (k : Kept). OnOk c.close.result (Told (requests.close (to.Child c.args.id)) k
    (record before { children = slice_set i.children.items c.args.id c.close.new.self }) c.args.parts.now c.close.new.parts))
    c.self.view_is
    (told_placed before c.args.id c.in-Some.child.now c.close.new.self
    (at_place i.children.items c.args.id c.in-Some.child.now c.in-Some.ensures.item.3.0 c.in-Some.ensures.item.1)
    (child.close_child c.args.id) c.args.parts.now c.close.new.parts c.close.result c.close.ensures.tells)

pub returns-clause-own : goal.returns-clause-own
returns-clause-own c =
    let i = c.self.inside in
    let before : Kept = record { children = i.children.items; most = i.most } in
    own_told before c.args.id c.in-Some.child.now c.close.new.self
    (at_place i.children.items c.args.id c.in-Some.child.now c.in-Some.ensures.item.3.0 c.in-Some.ensures.item.1)
    (child.close_child c.args.id) c.args.parts.now c.close.new.parts c.close.result c.close.ensures.tells (on_ok_weaker c.close.result
    (λ keeps. keeps (own_at c.args.parts.now i.children.items c.args.id c.in-Some.child.now
    (at_place i.children.items c.args.id c.in-Some.child.now c.in-Some.ensures.item.3.0 c.in-Some.ensures.item.1)
    (subst (OwnsChildren c.args.parts.now) (sym c.self.view_is) c.requires.own))) c.close.ensures.own)
    (subst (OwnsChildren c.args.parts.now) (sym c.self.view_is) c.requires.own)
