use Rattle.std.proofs.Common.{◌≡◌, ◌+◌, Some, [], ◌∷◌, ◌++◌, map, take, drop, ap, sym, ◌∙◌}
use Rattle.std.proofs.lemmas.List.{drop_more, map-append, take_more, take-append-drop}
use Rattle.std.specs.Option.{option_map}
use Rattle.std.specs.Rc.{rc_str_bytes}
use Rattle.model_machine.specs.Arguments.{texts_of}
use Rattle.model_value.specs.Value.{Value, values}
use Rattle.aio_opened.proofs.Words.{texts_more, texts_none}
use Rattle.aio_opened.proofs.texts.texts_of.Goals as goal

pub returns-in-None : goal.returns-in-None
returns-in-None c =
    let items = c.args.items.now in
    let i = c.loop-item.item-index in
    let x : Value = c.item-item.result in
    let whole : items ≡ take i items ++ x ∷ drop (i + 1) items =
    sym (take-append-drop i items)
    ∙ ap (λ l. take i items ++ l) (drop_more items i x c.loop-item-test.true ∙ ap (λ y. y ∷ drop (i + 1) items) (sym c.item-item.is)) in
    sym (ap (λ l. texts_of (values l)) whole ∙ texts_none (take i items) (drop (i + 1) items) x
    (sym c.text_of.ensures ∙ ap (option_map (λ text. rc_str_bytes text.now)) c.in-None.is))

pub loop-item-preserved : goal.loop-item-preserved
loop-item-preserved c =
    let items = c.args.items.now in
    let i = c.loop-item.item-index in
    let front = take i items in
    let x : Value = c.item-item.result in
    let words = map rc_str_bytes c.loop-item.words.items in
    let more : take (i + 1) items ≡ front ++ x ∷ [] =
    take_more items i x c.loop-item-test.true ∙ ap (λ y. front ++ y ∷ []) (sym c.item-item.is) in
    ap (λ l. texts_of (values l)) more
    ∙ texts_more front x words (rc_str_bytes c.in-Some.word.now) c.loop-item.invariant
    (sym c.text_of.ensures ∙ ap (option_map (λ text. rc_str_bytes text.now)) c.in-Some.is)
    ∙ ap Some (sym (
    ap (map rc_str_bytes) c.in_ok-push-in-Some.ensures.items
    ∙ map-append rc_str_bytes c.loop-item.words.items (c.in_ok-clone-in-Some.field-0 ∷ [])
    ∙ ap (λ word. words ++ word ∷ []) c.in_ok-clone-in-Some.ensures.cases
    ))
