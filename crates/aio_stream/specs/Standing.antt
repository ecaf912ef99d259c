-- The streams that code stands for, and what a call on them comes to.
use Rattle.std.specs.Prelude.{◌≡◌, Result, OnOk}
use Rattle.model_stream.specs.Doing.{Doing}
use Rattle.model_stream.specs.Streams.{Streams}
use Rattle.aio_wire.specs.Outside.{Outside}
use Rattle.aio_wire.specs.declared.stop.Stop.{Stop}
use Rattle.aio_exchange.specs.Follows.{Follows, Reach, after_of, with_after}
use Rattle.aio_exchange.specs.Tells.{Tells}
use Rattle.aio_task.specs.View.{View}
use Rattle.aio_change.specs.Seen.{seen_changed}
use Rattle.aio_stream.specs.Kept.{Kept}

-- It keeps no history: what was written stands in the streams alone.
pub record StreamStandsFor (k : Kept) (s : Streams) : Type 0 where
  pub servers : s.servers ≡ k.servers
  pub connections : s.connections ≡ k.connections
  pub opened : s.opened ≡ k.opened
  pub most : s.most ≡ k.most

-- It stands for what became of these streams, whose children are as they were.
abbrev pub StandsAfter : (new : Kept) (before after : Streams) → Type 0
StandsAfter new before after = StreamStandsFor new after × (after.children ≡ before.children)

-- A call does what a tree says, whatever the streams that it stands for, and then stands for those that come of it.
abbrev pub Comes : {W R : Type 0} → Outside W → (Streams → Doing Streams) → (old new : Kept) → (from to : Reach View W) → Result R Stop → Type 0
Comes o tree old new from to result =
    (s : Streams) → StreamStandsFor old s
    → (after : Streams) × (Follows o seen_changed (tree s) from to (after_of after result) × OnOk result (StandsAfter new s after))

abbrev pub Answers : {W R : Type 0} → Outside W → (Streams → Doing (Streams × R)) → (old new : Kept) → (from to : Reach View W) → Result R Stop → Type 0
Answers o tree old new from to result =
    (s : Streams) → StreamStandsFor old s
    → (after : Streams) × (Follows o seen_changed (tree s) from to (with_after after result) × OnOk result (StandsAfter new s after))

-- the same of a call that asks nothing
abbrev pub Told : (Streams → Doing Streams) → (old new : Kept) → (from to : View) → Type 0
Told tree old new from to =
    (s : Streams) → StreamStandsFor old s → (after : Streams) × (Tells seen_changed (tree s) from to after × StandsAfter new s after)

abbrev pub ToldWith : {R : Type 0} → (Streams → Doing (Streams × R)) → (old new : Kept) → (from to : View) → R → Type 0
ToldWith tree old new from to result =
    (s : Streams) → StreamStandsFor old s → (after : Streams) × (Tells seen_changed (tree s) from to (after, result) × StandsAfter new s after)

-- the same of one that changes nothing of the loop
abbrev pub Becomes : (Streams → Streams) → (old new : Kept) → Type 0
Becomes change old new = (s : Streams) → StreamStandsFor old s → StandsAfter new s (change s)
