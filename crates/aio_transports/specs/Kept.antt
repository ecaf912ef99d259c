-- What code keeps of all that was opened.
use Rattle.std.specs.Prelude.{ℕ, List, ◌++◌, Option, Some, None, drop, length}
use Rattle.model_stream.specs.Streams.{Opened}
use Rattle.aio_children.specs.Kept.{Kept as Children}
use Rattle.aio_stream.specs.Kept.{Kept as Streams, with_child}

-- Of what was opened, what may still be watched, in order: of the first so many as were seen. What was opened since comes after it.
pub record Remaining : Type 0 where
  pub those : List Opened
  pub seen : ℕ

abbrev pub remaining_of : (those : List Opened) → (seen : ℕ) → Remaining
remaining_of those seen = record { those = those; seen = seen }

-- what was opened since
abbrev pub since : List Opened → Remaining → List Opened
since opened r = drop r.seen opened

-- all was seen
abbrev pub all_seen : List Opened → Remaining → Remaining
all_seen opened r = remaining_of (r.those ++ since opened r) (length opened)

-- Listeners and connections, each kind by number; what was opened, in order of opening, children too; children by number; and what
-- may still be watched. How many of each kind can be numbered both know.
pub record Kept : Type 0 where
  pub streams : Streams
  pub children : Children
  pub remaining : Remaining

abbrev pub kept_all : Streams → Children → Remaining → Kept
kept_all streams children remaining = record { streams = streams; children = children; remaining = remaining }

-- what a launch answered is put into the order of opening
abbrev pub with_launched : Option ℕ → Streams → Streams
with_launched None streams = streams
with_launched (Some id) streams = with_child id streams
