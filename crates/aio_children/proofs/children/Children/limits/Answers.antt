use Rattle.std.proofs.Common.{Ok, Result, slice_set, sym, subst}
use Rattle.model_wire.specs.declared.event.Handed.TheVariants as to
use Rattle.model_stream.specs.declared.put.Limited.{Limited}
use Rattle.model_stream.specs.declared.put.Limited.TheVariants as limited
use Rattle.model_stream.specs.Children.{Child, limits_child}
use Rattle.model_stream.specs.Doing.{Doing}
use Rattle.model_stream.specs.Requests.{limits}
use Rattle.aio_exchange.specs.Tells.{Tells}
use Rattle.aio_exchange.proofs.Telling.{tells_ends}
use Rattle.aio_change.specs.Seen.{seen_changed}
use Rattle.aio_children.specs.Kept.{Kept}
use Rattle.aio_children.specs.Owned.{OwnsChildren}
use Rattle.aio_children.specs.Standing.{ToldWith}
use Rattle.aio_children.proofs.Placing.{at_place, own_changed_alone, past_place, said_absent, said_placed}
use Rattle.aio_children.proofs.children.Children.limits.Goals as goal

pub returns-in_default-clause-told : goal.returns-in_default-clause-told
returns-in_default-clause-told c v =
    let i = c.self.inside in
    let before : Kept = record { children = i.children.items; most = i.most } in
    subst (λ (k : Kept). ToldWith (limits c.args.high c.args.low (to.Child c.args.id)) k before v v limited.Set) c.self.view_is
    (said_absent before c.args.id (past_place i.children.items c.args.id c.in_default.ensures.item.3) limited.Set (limits_child c.args.high c.args.low) v)

pub returns-clause-told : goal.returns-clause-told
returns-clause-told c v =
    let i = c.self.inside in
    let before : Kept = record { children = i.children.items; most = i.most } in
    let told : Tells {A = Child × Limited} seen_changed (limits_child c.args.high c.args.low c.in-Some.child.now) v v (c.limits.new.self, c.limits.result) =
    subst (λ (d : Doing (Child × Limited)). Tells seen_changed d v v (c.limits.new.self, c.limits.result)) (sym c.limits.ensures.is)
    (tells_ends seen_changed {A = Child × Limited} (c.limits.new.self, c.limits.result) v) in
    let fine : Result Limited (Unit {0}) = Ok c.limits.result in
    subst (λ (k : Kept). ToldWith (limits c.args.high c.args.low (to.Child c.args.id)) k
    (record before { children = slice_set i.children.items c.args.id c.limits.new.self }) v v c.limits.result)
    c.self.view_is
    (said_placed before c.args.id c.in-Some.child.now c.limits.new.self
    (at_place i.children.items c.args.id c.in-Some.child.now c.in-Some.ensures.item.3.0 c.in-Some.ensures.item.1)
    limited.Set (limits_child c.args.high c.args.low) (λ (said : Limited). said) v v fine told)

pub returns-clause-own : goal.returns-clause-own
returns-clause-own c v own =
    let i = c.self.inside in
    let before : Kept = record { children = i.children.items; most = i.most } in
    own_changed_alone before c.args.id c.in-Some.child.now c.limits.new.self
    (at_place i.children.items c.args.id c.in-Some.child.now c.in-Some.ensures.item.3.0 c.in-Some.ensures.item.1)
    v (c.limits.ensures.own v) (subst (OwnsChildren v) (sym c.self.view_is) own)
