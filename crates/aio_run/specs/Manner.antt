-- How a replay runs, as the definitions have it.
use Rattle.std.specs.Prelude.{ℕ, List}
use Rattle.model_program.specs.Program as plain
use Rattle.aio_drive.specs.declared.driver.Manner.{Manner}

abbrev pub manner_of : (journal : List ℕ) → Manner → plain.Manner
manner_of journal manner = record { journal = journal; trace = manner.trace; turns = manner.turns }
