-- Callbacks are appended, those of one item behind those of the ones before it.
use Rattle.std.proofs.Common.{◌≡◌, ℕ, ◌+◌, ◌<◌, ◌≤◌, List, [], ◌∷◌, ◌++◌, length, get_or, take, append-nil, ◌∙◌, refl, sym, ap}
use Rattle.std.specs.List.{flat_map}
use Rattle.std.proofs.lemmas.Grind.{flat_map-append}
use Rattle.std.proofs.lemmas.List.{take_all, take_more}
use Rattle.model_value.specs.Action.{Action}
use Rattle.model_wire.specs.Call.{Item}
use Rattle.model_machine.specs.Outside.{actions_of}
use Rattle.aio_ready.specs.Queue as queue
use Rattle.aio_ready.specs.Queue.{Queue}
use Rattle.aio_task.specs.View.{View}
use Rattle.aio_core.specs.News.{Appends}

soon_all-append : (actions more : List Action) (q : Queue)
    → queue.soon_all (actions ++ more) q ≡ queue.soon_all more (queue.soon_all actions q)
soon_all-append [] more q = refl
soon_all-append (action ∷ actions) more q = soon_all-append actions more (queue.soon action q)

-- some, and then others
pub appends_then : (actions more : List Action) (v w u : View) → Appends actions v w → Appends more w u
    → Appends (actions ++ more) v u
appends_then actions more v w u first second =
    second ∙ ap (λ (x : View). record x { queue = queue.soon_all more x.queue }) first
    ∙ ap (λ (q : Queue). record v { queue = q }) (sym (soon_all-append actions more v.queue))

-- those of one item more
pub appends_more : (items : List Item) (i : ℕ) (d : Item) (v w u : View) → i < length items
    → Appends (flat_map actions_of (take i items)) v w
    → Appends (actions_of (get_or items i d)) w u → Appends (flat_map actions_of (take (i + 1) items)) v u
appends_more items i d v w u h first second =
    appends_then (flat_map actions_of (take i items)) (actions_of (get_or items i d)) v w u first second
    ∙ ap (λ actions. record v { queue = queue.soon_all actions v.queue }) (sym one)
  where
    one : flat_map actions_of (take (i + 1) items) ≡ flat_map actions_of (take i items) ++ actions_of (get_or items i d)
    one =
        ap (flat_map actions_of) (take_more items i d h) ∙ flat_map-append actions_of (take i items) (get_or items i d ∷ [])
        ∙ ap (λ actions. flat_map actions_of (take i items) ++ actions) (append-nil (actions_of (get_or items i d)))

-- those of all
pub appends_all : (items : List Item) (i : ℕ) (v w : View) → length items ≤ i → Appends (flat_map actions_of (take i items)) v w
    → Appends (flat_map actions_of items) v w
appends_all items i v w h appended =
    appended ∙ ap (λ those. record v { queue = queue.soon_all (flat_map actions_of those) v.queue }) (take_all i items h)
