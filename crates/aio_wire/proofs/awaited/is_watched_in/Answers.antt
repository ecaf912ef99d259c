use Rattle.std.proofs.Common.{◌≡◌, List, Some, None, map, sym, ap, ◌∙◌, subst}
use Rattle.std.specs.List.{IsDistinct}
use Rattle.std.specs.Map.{keys_of, lookup}
use Rattle.model_wire.specs.declared.watch.Watch.{Watch}
use Rattle.aio_wire.specs.Places.{Place, is_same_place, place_of_item, placed}
use Rattle.aio_wire.proofs.Watching.{only_one, watched_as}
use Rattle.aio_wire.proofs.awaited.is_watched_in.Goals as goal

pub returns-in-Some : goal.returns-in-Some
returns-in-Some c =
    let it = c.args.item.now in
    let entries = c.args.watch.now in
    let distinct : IsDistinct is_same_place (keys_of (map placed entries)) =
    subst (λ (es : List (Place × Watch)). IsDistinct is_same_place (keys_of es)) c.requires.entries c.requires.unique in
    let found : Some c.in-Some.entry.now ≡ lookup (is_same_place (place_of_item it)) (map placed entries) =
    c.in-Some.ensures.value
    ∙ ap (λ (es : List (Place × Watch)). lookup (is_same_place c.place_of_item.result) es) c.requires.entries
    ∙ ap (λ (p : Place). lookup (is_same_place p) (map placed entries)) c.place_of_item.ensures in
    c.is_watched_by.ensures ∙ ap (watched_as it) found ∙ sym (only_one it entries distinct)

pub returns-in-None : goal.returns-in-None
returns-in-None c =
    let it = c.args.item.now in
    let entries = c.args.watch.now in
    let distinct : IsDistinct is_same_place (keys_of (map placed entries)) =
    subst (λ (es : List (Place × Watch)). IsDistinct is_same_place (keys_of es)) c.requires.entries c.requires.unique in
    let none : None ≡ lookup (is_same_place (place_of_item it)) (map placed entries) =
    c.in-None.ensures.value
    ∙ ap (λ (es : List (Place × Watch)). lookup (is_same_place c.place_of_item.result) es) c.requires.entries
    ∙ ap (λ (p : Place). lookup (is_same_place p) (map placed entries)) c.place_of_item.ensures in
    ap (watched_as it) none ∙ sym (only_one it entries distinct)
