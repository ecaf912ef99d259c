-- The streams that code stands for, and what a call on them comes to.
use Rattle.std.specs.Prelude.{◌≡◌, not, List, Result, OnOk, length, take}
use Rattle.std.specs.List.{filter}
use Rattle.model_stream.specs.Doing.{Doing}
use Rattle.model_stream.specs.Streams.{Opened, Streams}
use Rattle.aio_wire.specs.Outside.{Outside}
use Rattle.aio_wire.specs.declared.stop.Stop.{Stop}
use Rattle.aio_exchange.specs.Follows.{Follows, Reach, after_of, with_after}
use Rattle.aio_exchange.specs.Tells.{Tells}
use Rattle.law_over.specs.Gone.{is_gone}
use Rattle.aio_task.specs.View.{View}
use Rattle.aio_change.specs.Seen.{seen_changed}
use Rattle.aio_children.specs.Standing as children
use Rattle.aio_stream.specs.Standing as streams
use Rattle.aio_transports.specs.Kept.{Kept, Remaining}

-- those of these that aren't gone
abbrev pub not_gone : Streams → List Opened → List Opened
not_gone s = filter (λ one. not (is_gone one s))

-- So many of what was opened were seen, and of them those are left that aren't gone, and perhaps some that are.
pub record Remains (r : Remaining) (s : Streams) : Type 0 where
  pub seen : length (take r.seen s.opened) ≡ r.seen
  pub left : not_gone s r.those ≡ not_gone s (take r.seen s.opened)

-- Its listeners, connections and children, what was opened, and how many of each kind can be numbered are those that are kept, and
-- what it doesn't watch any more is gone. It keeps no history: what was written stands in the streams alone.
pub record TransportsStandFor (k : Kept) (s : Streams) : Type 0 where
  pub streams : streams.StreamStandsFor k.streams s
  pub children : children.ChildrenStandFor k.children s
  pub remaining : Remains k.remaining s

-- It stands for what became of these streams, of which as many can be numbered as before.
abbrev pub StandsAfter : (new : Kept) (before after : Streams) → Type 0
StandsAfter new before after = TransportsStandFor new after × (after.most ≡ before.most)

-- A call does what a tree says, whatever the streams that it stands for, and then stands for those that come of it.
abbrev pub Comes : {W R : Type 0} → Outside W → (Streams → Doing Streams) → (old new : Kept) → (from to : Reach View W)
    → Result R Stop → Type 0
Comes o tree old new from to result =
    (s : Streams) → TransportsStandFor old s
    → (after : Streams) × (Follows o seen_changed (tree s) from to (after_of after result) × OnOk result (StandsAfter new s after))

-- the same of one with an answer
abbrev pub Answers : {W R : Type 0} → Outside W → (Streams → Doing (Streams × R)) → (old new : Kept)
    → (from to : Reach View W) → Result R Stop → Type 0
Answers o tree old new from to result =
    (s : Streams) → TransportsStandFor old s
    → (after : Streams) × (Follows o seen_changed (tree s) from to (with_after after result) × OnOk result (StandsAfter new s after))

-- the same of a call that asks nothing
abbrev pub Told : (Streams → Doing Streams) → (old new : Kept) → (from to : View) → Type 0
Told tree old new from to =
    (s : Streams) → TransportsStandFor old s → (after : Streams) × (Tells seen_changed (tree s) from to after × StandsAfter new s after)

abbrev pub ToldWith : {R : Type 0} → (Streams → Doing (Streams × R)) → (old new : Kept) → (from to : View) → R → Type 0
ToldWith tree old new from to result =
    (s : Streams) → TransportsStandFor old s → (after : Streams) × (Tells seen_changed (tree s) from to
    (after, result) × StandsAfter new s after)

-- the same of one that changes nothing of the loop
abbrev pub Becomes : (Streams → Streams) → (old new : Kept) → Type 0
Becomes change old new = (s : Streams) → TransportsStandFor old s → StandsAfter new s (change s)
