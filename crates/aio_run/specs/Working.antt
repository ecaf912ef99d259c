-- What is counted of the work of a seed.
use Rattle.std.specs.Prelude.{◌≡◌, ℕ, List, Ok}
use Rattle.model_tree.specs.Syntax.{Program}
use Rattle.model_text.specs.Scripts.{script_of}
use Rattle.model_wire.specs.JournalText.{entries_of}
use Rattle.model_program.specs.Runs.{run}
use Rattle.model_program.specs.Transcript.{status_of}
use Rattle.model_words.specs.Words.{most_turns}
use Rattle.model_work.specs.Work as plain
use Rattle.model_commands.specs.Works.{counts_of}
use Rattle.aio_tally.specs.Tallied.{plain_counts}
use Rattle.aio_tally.specs.declared.tallying.Tally.{Tally}

-- a program's run over a journal with this text has these counts and this status
pub record TalliesOver (program : Program) (journal : List ℕ) (it : Tally) : Type 0 where
  pub counts : plain_counts it.counts ≡ counts_of program (entries_of journal) most_turns
  pub status : it.status ≡ status_of (run program (entries_of journal) most_turns).end

-- so has the run of the program that a seed's script spells, over the journal
abbrev pub TalliesWork : (seed : ℕ) → Tally → Type 0
TalliesWork seed it = (program : Program) × (script_of (plain.script seed) ≡ Ok program) × TalliesOver program plain.journal it
