-- What is seen of a wire that tells nothing of what another one is asked.
use Rattle.std.specs.Prelude.{[], None}
use Rattle.model_wire.specs.Told.{WireSeen, WireEnd, Going, OutOfAnswers, AtRefused}
use Rattle.aio_wire.specs.Replied.{EndAgrees}

-- It ended as the other one did, its answers fit as the other's do, and it failed as often.
abbrev pub untold : WireSeen → WireSeen
untold wire = record { left = None; asked = None; handed = None; end = wire.end; fitting = wire.fitting; faults = wire.faults }

-- where nothing is told of what is left, no end says otherwise
pub untold_end : (end : WireEnd) → EndAgrees end None
untold_end Going = tt
untold_end OutOfAnswers = λ held is. Prim.cc
untold_end (AtRefused line cause) = ([], λ held is. Prim.cc)
