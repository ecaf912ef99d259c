-- The streams that code stands for by its children, and what a call on them comes to.
use Rattle.std.specs.Prelude.{◌≡◌, ℕ, List, [], ◌∷◌, ◌++◌, Option, Some, None, Result, OnOk, IfOk}
use Rattle.model_stream.specs.Doing.{Doing}
use Rattle.model_stream.specs.Streams.{Opened, OpenedChild, Streams}
use Rattle.aio_wire.specs.Outside.{Outside}
use Rattle.aio_wire.specs.declared.stop.Stop.{Stop}
use Rattle.aio_exchange.specs.Follows.{Follows, Reach, after_of, with_after}
use Rattle.aio_exchange.specs.Tells.{Tells}
use Rattle.aio_task.specs.View.{View}
use Rattle.aio_change.specs.Seen.{seen_changed}
use Rattle.aio_children.specs.Kept.{Kept}

-- It keeps no history: what was written stands in the streams alone.
pub record ChildrenStandFor (k : Kept) (s : Streams) : Type 0 where
  pub children : s.children ≡ k.children
  pub most : s.most ≡ k.most

-- listeners and connections are as they were, and those were opened
pub record Beside (those : List Opened) (before after : Streams) : Type 0 where
  pub servers : after.servers ≡ before.servers
  pub connections : after.connections ≡ before.connections
  pub opened : after.opened ≡ those

-- what was opened, after a launch that answers this
abbrev pub opened_after : Option ℕ → List Opened → List Opened
opened_after None opened = opened
opened_after (Some id) opened = opened ++ OpenedChild id ∷ []

-- It stands for what became of these streams, whose listeners and connections are as they were.
abbrev pub StandsAfter : (new : Kept) (those : List Opened) (before after : Streams) → Type 0
StandsAfter new those before after = ChildrenStandFor new after × Beside those before after

-- A call does what a tree says, whatever the streams that it stands for, and then stands for those that come of it.
abbrev pub Comes : {W R : Type 0} → Outside W → (Streams → Doing Streams) → (old new : Kept) → (from to : Reach View W) → Result R Stop → Type 0
Comes o tree old new from to result =
    (s : Streams) → ChildrenStandFor old s
    → (after : Streams) × (Follows o seen_changed (tree s) from to (after_of after result) × OnOk result (StandsAfter new s.opened s after))

abbrev pub Answers : {W R : Type 0} → Outside W → (Streams → Doing (Streams × R)) → (old new : Kept) → (from to : Reach View W) → Result R Stop → Type 0
Answers o tree old new from to result =
    (s : Streams) → ChildrenStandFor old s
    → (after : Streams) × (Follows o seen_changed (tree s) from to (with_after after result) × OnOk result (StandsAfter new s.opened s after))

-- the same of a launch
abbrev pub Launches : {W : Type 0} → Outside W → (Streams → Doing (Streams × Option ℕ)) → (old new : Kept) → (from to : Reach View W)
    → Result (Option ℕ) Stop → Type 0
Launches o tree old new from to result =
    (s : Streams) → ChildrenStandFor old s
    → (after : Streams)
    × (Follows o seen_changed (tree s) from to (with_after after result) × IfOk result (λ said. StandsAfter new (opened_after said s.opened) s after))

-- the same of a call that asks nothing
abbrev pub Told : (Streams → Doing Streams) → (old new : Kept) → (from to : View) → Type 0
Told tree old new from to =
    (s : Streams) → ChildrenStandFor old s → (after : Streams) × (Tells seen_changed (tree s) from to after × StandsAfter new s.opened s after)

abbrev pub ToldWith : {R : Type 0} → (Streams → Doing (Streams × R)) → (old new : Kept) → (from to : View) → R → Type 0
ToldWith tree old new from to result =
    (s : Streams) → ChildrenStandFor old s → (after : Streams) × (Tells seen_changed (tree s) from to (after, result) × StandsAfter new s.opened s after)

-- the same of one that changes nothing of the loop
abbrev pub Becomes : (Streams → Streams) → (old new : Kept) → Type 0
Becomes change old new = (s : Streams) → ChildrenStandFor old s → StandsAfter new s.opened s (change s)
