-- What was opened stays, in order of opening, and what is opened is added after it.
use Rattle.std.specs.Prelude.{◌≡◌, List, ◌++◌}
use Rattle.model_stream.specs.Doing.{Doing}
use Rattle.model_stream.specs.Streams.{Opened, Streams}
use Rattle.law_over.specs.AllEnds.{AllEnds}

abbrev pub Grown : (before after : Streams) → Type 0
Grown before after = (more : List Opened) × (after.opened ≡ before.opened ++ more)

-- however a tree ends
abbrev pub Grows : (Streams → Doing Streams) → Type 0
Grows tree = (s : Streams) → AllEnds (Grown s) (tree s)

abbrev pub GrowsWith : {R : Type 0} → (Streams → Doing (Streams × R)) → Type 0
GrowsWith tree = (s : Streams) → AllEnds (λ done. Grown s done.0) (tree s)
