use Rattle.std.proofs.Common.{◌≡◌, ◌+◌, ◌++◌, [], ◌∷◌, take, ap, sym, ◌∙◌, append_assoc}
use Rattle.std.proofs.lemmas.List.{take_more}
use Rattle.model_text.specs.Canonical.{coroutine_text, coroutines_text}
use Rattle.script_canonical.proofs.Joined.{coroutines_text-push}
use Rattle.script_canonical.proofs.program.push_coroutines.Goals as goal

pub loop-coroutine-preserved : goal.loop-coroutine-preserved
loop-coroutine-preserved c =
    let l = c.loop-coroutine in
    let front = take l.coroutine-index c.args.coroutines.now in
    let coroutine = c.coroutine-item.result in
    let more : take (l.coroutine-index + 1) c.args.coroutines.now ≡ front ++ coroutine ∷ [] =
    take_more c.args.coroutines.now l.coroutine-index coroutine c.loop-coroutine-test.true ∙ ap (λ x. front ++ x ∷ []) (sym c.coroutine-item.is) in
    c.in_ok-push_coroutine.ensures
    ∙ ap (λ text. text ++ coroutine_text coroutine) l.invariant
    ∙ append_assoc c.args.out.now.items (coroutines_text front) (coroutine_text coroutine)
    ∙ ap (λ text. c.args.out.now.items ++ text) (sym (coroutines_text-push front coroutine))
    ∙ ap (λ cs. c.args.out.now.items ++ coroutines_text cs) (sym more)
