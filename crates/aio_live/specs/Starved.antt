-- Want of memory.
use Rattle.std.specs.Prelude.{true}
use Rattle.aio_live.specs.States.{StateSeen}

-- memory was refused, and all else is as before
abbrev pub starved : {Run : Type 0} → StateSeen Run → StateSeen Run
starved state = record state { hub = record state.hub { starved = true } }
