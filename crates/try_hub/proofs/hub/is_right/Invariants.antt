use Rattle.aio_inbox.specs.Naming.{table_of}
use Rattle.try_hub.proofs.hub.is_right.Given as goal

-- the inbox is the queue that was just made
abbrev pub ghosts-plays : goal.ghosts-plays
ghosts-plays g a = record { table = table_of a.unnamed }
