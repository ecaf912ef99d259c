use Rattle.aio_inbox.specs.Naming.{table_of}
use Rattle.try_pumps.proofs.cases.is_right.Given as goal

-- the inbox is the queue that was just made
abbrev pub ghosts-run_case : goal.ghosts-run_case
ghosts-run_case g a = record { table = table_of a.unnamed }
