-- How a run over the wire goes, and what is known of the outside, as the definitions have it.
use Rattle.std.specs.Prelude.{ℕ, List, Option, Result, Ok, Err}
use Rattle.model_wire.specs.Event.{Event}
use Rattle.model_wire.specs.Told.{ShelfSeen, WireSeen}
use Rattle.model_wire.specs.Trace.{End}
use Rattle.model_commands.specs.Causes.{IsCaused}
use Rattle.model_commands.specs.Outputs.{Outside, Pace}
use Rattle.model_commands.specs.Telling.{Between, TellsAll, TellsFirst, TellsFirstAndOne}
use Rattle.aio_drive.specs.declared.driver.Manner.{Manner}
use Rattle.aio_drive.specs.declared.halt.Halt.{Halt}
use Rattle.aio_drive.specs.declared.halt.Halt.TheVariants.{Memory, Sink}

abbrev pub pace_of : (file : Option (List ℕ)) → Manner → Pace
pace_of file manner = record { trace = manner.trace; turns = manner.turns; file = file }

-- what is seen of the shelf and of the wire, before and after
abbrev pub between : (old new : ShelfSeen) → (before after : WireSeen) → Between
between old new before after = record { old = old; new = new; before = before; after = after }

-- how much of a run it was told, by what the call answers: all, or the first of it
abbrev pub TellsBy : Result ℕ Halt → Between → (file : Option (List ℕ)) → List Event → Type 0
TellsBy (Ok status) seen = TellsAll seen
TellsBy (Err Memory) seen = TellsFirstAndOne seen
TellsBy (Err Sink) seen = TellsFirst seen

-- why a run ended so of which it was told all
abbrev pub IsCausedBy : Result ℕ Halt → (before after : WireSeen) → End → Type 0
IsCausedBy (Ok status) before after end = IsCaused before after end
IsCausedBy (Err halt) before after end = Unit {0}

abbrev pub told_by : Result ℕ Halt → Between → (same fails : Type 0) → Outside
told_by result seen same fails =
    record {
      seen = seen;
      same = same;
      fails = fails;
      told = TellsBy result seen;
      caused = IsCausedBy result seen.before seen.after;
    }
