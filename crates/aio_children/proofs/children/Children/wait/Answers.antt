use Rattle.std.proofs.Common.{IfOk, length, pos, slice_set, sym, subst}
use Rattle.model_stream.specs.declared.answers.ChildWait.{ChildWait}
use Rattle.model_stream.specs.declared.answers.ChildWait.TheVariants as wait_as
use Rattle.model_stream.specs.Children.{wait_child}
use Rattle.model_stream.specs.Requests.{wait}
use Rattle.aio_children.specs.Kept.{Kept}
use Rattle.aio_children.specs.Owned.{OwnsChildren}
use Rattle.aio_children.specs.Standing.{ToldWith}
use Rattle.aio_children.proofs.Placing.{at_place, own_said, past_place, said_absent, said_placed}
use Rattle.aio_children.proofs.children.Children.wait.Goals as goal

pub returns-in_default-clause-told : goal.returns-in_default-clause-told
returns-in_default-clause-told c =
    let i = c.self.inside in
    let before : Kept = record { children = i.children.items; most = i.most } in
    subst (λ (k : Kept). ToldWith (wait (length c.args.parts.now.futures) c.args.id) k before c.args.parts.now c.args.parts.now (wait_as.Code (pos 0)))
    c.self.view_is
    (said_absent before c.args.id (past_place i.children.items c.args.id c.in_default.ensures.item.3) (wait_as.Code (pos 0)) (wait_child
    (length c.args.parts.now.futures)) c.args.parts.now)

pub returns-clause-told : goal.returns-clause-told
returns-clause-told c =
    let i = c.self.inside in
    let before : Kept = record { children = i.children.items; most = i.most } in
    subst (λ (k : Kept). IfOk c.wait.result (λ said. ToldWith (wait (length c.args.parts.now.futures) c.args.id) k
    (record before { children = slice_set i.children.items c.args.id c.wait.new.self }) c.args.parts.now c.wait.new.parts said))
    c.self.view_is
    (said_placed before c.args.id c.in-Some.child.now c.wait.new.self
    (at_place i.children.items c.args.id c.in-Some.child.now c.in-Some.ensures.item.3.0 c.in-Some.ensures.item.1)
    (wait_as.Code (pos 0)) (wait_child (length c.args.parts.now.futures)) (λ
    (said : ChildWait). said) c.args.parts.now c.wait.new.parts c.wait.result c.wait.ensures.tells)

pub returns-clause-own : goal.returns-clause-own
returns-clause-own c =
    let i = c.self.inside in
    let before : Kept = record { children = i.children.items; most = i.most } in
    own_said before c.args.id c.in-Some.child.now c.wait.new.self
    (at_place i.children.items c.args.id c.in-Some.child.now c.in-Some.ensures.item.3.0 c.in-Some.ensures.item.1)
    (wait_as.Code (pos 0)) (wait_child (length c.args.parts.now.futures)) (λ
    (said : ChildWait). said) c.args.parts.now c.wait.new.parts c.wait.result c.wait.ensures.tells c.wait.ensures.own
    (subst (OwnsChildren c.args.parts.now) (sym c.self.view_is) c.requires.own)
