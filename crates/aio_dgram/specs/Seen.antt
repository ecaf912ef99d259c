-- What the machine keeps of endpoints in code.
use Rattle.std.specs.Prelude.{ℕ, List}
use Rattle.model_dgram.specs.Endpoints.{Endpoints, dgram_keeps}
use Rattle.aio_dgram.specs.declared.dgram.Dgram.{Dgram}

abbrev pub kept_of : Dgram → Endpoints
kept_of x = record { drawn = x.drawn; waiting = x.waiting.entries; opened = x.opened; endpoints = x.endpoints.entries }

-- its futures
abbrev pub own_of : Dgram → List ℕ
own_of x = (dgram_keeps (kept_of x)).own
