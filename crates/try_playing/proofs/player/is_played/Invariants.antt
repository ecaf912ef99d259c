use Rattle.aio_inbox.specs.Naming.{table_of}
use Rattle.try_playing.proofs.player.is_played.Given as goal

-- the inbox is the queue that was just made
abbrev pub ghosts-plays : goal.ghosts-plays
ghosts-plays g a = record { table = table_of a.unnamed }
