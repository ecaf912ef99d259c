-- Each item is smaller than the list, and the text so far grows by what stands before the item and by the item's.
use Rattle.std.proofs.Common.{rules, ◌≡◌, ◌+◌, ◌<◌, ◌++◌, [], ◌∷◌, take, ap, sym, ◌∙◌, append_assoc}
use Rattle.std.proofs.lemmas.List.{take_more}
use Rattle.law_value.proofs.Joined.{separator-push, quoted_items-push}
use Rattle.aio_base.specs.Size.{value_size, list_size}
use Rattle.aio_base.proofs.Sizes.{value_size-item}
use Rattle.aio_base.proofs.text.+quoted.Goals as goal

pub push_items-push_quoted-requires : goal.push_items-push_quoted-requires
push_items-push_quoted-requires t c =
    let smaller : value_size c.item-item.result < list_size c.args.items.now =
    value_size-item c.args.items.now c.loop-item.item-index c.item-item.result c.loop-item-test.true c.item-item.is in
    search rules

pub push_items-loop-item-preserved : goal.push_items-loop-item-preserved
push_items-loop-item-preserved t c =
    let l = c.loop-item in
    let front = take l.item-index c.args.items.now in
    let item = c.item-item.result in
    let more : take (l.item-index + 1) c.args.items.now ≡ front ++ item ∷ [] =
    take_more c.args.items.now l.item-index item c.loop-item-test.true ∙ ap (λ x. front ++ x ∷ []) (sym c.item-item.is) in
    rw more (
      rw quoted_items-push (simp (c.in_ok-push_quoted.ensures, c.in_ok-extend_from_slice.ensures.items, l.invariant.0, l.invariant.1, append_assoc)),
      sym (separator-push front item),
    )
