use Rattle.aio_inbox.specs.Naming.{table_of}
use Rattle.aio.proofs.live.run_polling.Given as goal

-- the inbox is the queue that was just made
abbrev pub ghosts-run_named : goal.ghosts-run_named
ghosts-run_named g a = record { table = table_of a.unnamed }
