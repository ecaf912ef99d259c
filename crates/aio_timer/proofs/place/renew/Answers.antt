use Rattle.std.proofs.Common.{◌≡◌, rules, List, filter, sym, subst, Contains}
use Rattle.std.specs.BinaryHeap.{heap_items}
use Rattle.std.specs.declared.cmp.Reverse.{Reverse}
use Rattle.std.proofs.lemmas.Fn.{filter_same}
use Rattle.std.proofs.lemmas.List.Sorted.{Contains-permutation}
use Rattle.aio_timer.specs.declared.place.Place.{Place}
use Rattle.aio_timer.specs.Kept.{stands}
use Rattle.aio_timer.proofs.Waiting.{contains_filter}
use Rattle.aio_timer.proofs.place.renew.Goals as goal

pub returns-then-not-is_crowded-clause-kept : goal.returns-then-not-is_crowded-clause-kept
returns-then-not-is_crowded-clause-kept c = λ place live among. among

pub returns-clause-kept : goal.returns-clause-kept
returns-clause-kept c = λ place live among.
    let left = c.retain.ensures.filtered in
    let same : left.0 ≡ filter (stands c.args.entries.now) (heap_items c.args.places.now) =
    filter_same _ (stands c.args.entries.now) _ (λ x b f' k. search rules) _ _ left.1 in
    Contains-permutation left.0 (heap_items c.retain.new.self) place left.2
    (subst (λ (xs : List (Reverse Place)). Contains xs place) (sym same)
    (contains_filter (stands c.args.entries.now) (heap_items c.args.places.now) place live among))
