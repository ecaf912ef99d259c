use Rattle.std.proofs.Common.{◌≡◌, ◌+◌, ◌++◌, [], ◌∷◌, take, ap, sym, subst, ◌∙◌}
use Rattle.std.proofs.lemmas.List.{take_more}
use Rattle.aio_flat.specs.Code.{AreBodiesOf}
use Rattle.aio_flat.proofs.CodeLemmas.{bodies-push}
use Rattle.aio_flat.proofs.flat.bodies_of.Goals as goal

pub loop-coroutine-preserved : goal.loop-coroutine-preserved
loop-coroutine-preserved c =
    let l = c.loop-coroutine in
    let program = c.args.places.now in
    let front = take l.coroutine-index c.args.coroutines.now in
    let coroutine = c.coroutine-item.result in
    let body = c.in_ok-body_of.field-0 in
    let more : take (l.coroutine-index + 1) c.args.coroutines.now ≡ front ++ coroutine ∷ [] =
    take_more c.args.coroutines.now l.coroutine-index coroutine c.loop-coroutine-test.true
    ∙ ap (λ x. front ++ x ∷ []) (sym c.coroutine-item.is) in
    subst (λ bodies. AreBodiesOf program (take (l.coroutine-index + 1) c.args.coroutines.now) bodies) (sym c.in_ok-push.ensures.items)
    (subst (λ coroutines. AreBodiesOf program coroutines (l.bodies.items ++ body ∷ [])) (sym more)
    (bodies-push program front l.bodies.items coroutine body l.invariant c.in_ok-body_of.ensures))
