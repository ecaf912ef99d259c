use Rattle.refine_streams.proofs.Standing.{stands_passed, stands_waiting}
use Rattle.refine_streams.proofs.bodies.bodies_stand_along_ways.Goals as goal

pub returns-clause-passed : goal.returns-clause-passed
returns-clause-passed g c = λ out d old new s way after h owns ended transports parts events.
    stands_passed out d old new s way after h owns ended transports parts events

pub returns-clause-waiting : goal.returns-clause-waiting
returns-clause-waiting g c = λ out d old new s way after h owns ended transports parts events.
    stands_waiting out d old new s way after h owns ended transports parts events
