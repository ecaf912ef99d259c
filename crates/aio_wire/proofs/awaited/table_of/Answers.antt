use Rattle.std.proofs.Common.{◌≡◌, ℕ, ◌+◌, ◌<◌, length, get_or, false, List, [], ◌∷◌, ◌++◌, Option, Some, None, is_some, map, take, refl, sym, ap, ◌∙◌, true≢false}
use Rattle.std.proofs.lemmas.List.{take_more, map-append}
use Rattle.indexmap.specs.IndexMap.{get}
use Rattle.indexmap.proofs.CallerLemmas.{insert_entry-new}
use Rattle.model_wire.specs.declared.watch.Watch.{Watch}
use Rattle.aio_wire.specs.Places.{Place, is_same_place, place_of, placed}
use Rattle.aio_wire.proofs.awaited.table_of.Goals as goal

none_of : {X : Type 0} (it : Option X) → is_some it ≡ false → it ≡ None
none_of None h = refl
none_of (Some x) h = absurd (true≢false h)

one_more : (entries : List Watch) (i : ℕ) (d : Watch) → i < length entries → (before : List (Place × Watch)) → before ≡ map placed (take i entries)
    → (place : Place) → place ≡ place_of (get_or entries i d) → before ++ (place, get_or entries i d) ∷ [] ≡ map placed (take (i + 1) entries)
one_more entries i d lt before is place here =
    ap (λ es. es ++ (place, get_or entries i d) ∷ []) is
    ∙ ap (λ p. map placed (take i entries) ++ (p, get_or entries i d) ∷ []) here
    ∙ sym (map-append placed (take i entries) (get_or entries i d ∷ [])) ∙ ap (map placed) (sym (take_more entries i d lt))

pub loop-entry-preserved : goal.loop-entry-preserved
loop-entry-preserved c =
    let entries = c.args.watch.now in
    let i = c.loop-entry.entry-index in
    let none : get is_same_place c.loop-entry.table c.place_of.result ≡ None =
    sym c.in_ok-insert.ensures.old ∙ none_of c.in_ok-insert.field-0 (sym c.is_some.ensures ∙ c.if-is_some.false) in (
      c.in_ok-insert.ensures.entries ∙ insert_entry-new is_same_place c.loop-entry.table c.place_of.result _ none
          ∙ one_more entries i _ c.loop-entry-test.true c.loop-entry.table.entries c.loop-entry.invariant.0 c.place_of.result c.place_of.ensures,
      c.in_ok-insert.ensures.unique,
    )
