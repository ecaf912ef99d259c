use Rattle.std.proofs.Common.{◌≡◌, ◌+◌, ◌++◌, [], ◌∷◌, take, ap, sym, ◌∙◌, append_assoc}
use Rattle.std.proofs.lemmas.List.{take_more}
use Rattle.script_canonical.proofs.Joined.{more_text-push}
use Rattle.script_canonical.proofs.expression.push_more.Goals as goal

pub loop-item-preserved : goal.loop-item-preserved
loop-item-preserved c =
    let l = c.loop-item in
    let front = take l.item-index c.args.items.now in
    let item = c.item-item.result in
    let more : take (l.item-index + 1) c.args.items.now ≡ front ++ item ∷ [] =
    take_more c.args.items.now l.item-index item c.loop-item-test.true ∙ ap (λ x. front ++ x ∷ []) (sym c.item-item.is) in
    rw more (rw more_text-push (simp (c.in_ok-push_expr.ensures, c.in_ok-extend_from_slice.ensures.items, l.invariant, append_assoc)))
