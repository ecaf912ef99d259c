use Rattle.aio_dgram.specs.Seen.{kept_of}
use Rattle.aio_dgram.proofs.Kept.{takes, takes_none}
use Rattle.aio_dgram.proofs.Places.{is_lost}
use Rattle.aio_dgram.proofs.dgram.Dgram.take.Goals as goal

pub returns-in-Some-clause-none : goal.returns-in-Some-clause-none
returns-in-Some-clause-none c =
    let a = c.args in
    takes_none (kept_of a.self.now) (c.get_mut.follows.lender c.take.new.self).entries a.id c.in-Some.endpoint.now c.take.new.self c.take.result
    c.in-Some.ensures.value (c.get_mut.follows.holds c.take.new.self).0 c.take.ensures

pub returns-in-Some-clause-first : goal.returns-in-Some-clause-first
returns-in-Some-clause-first c =
    let a = c.args in
    takes (kept_of a.self.now) (c.get_mut.follows.lender c.take.new.self).entries a.id c.in-Some.endpoint.now c.take.new.self c.take.result
    c.in-Some.ensures.value (c.get_mut.follows.holds c.take.new.self).0 c.take.ensures

pub returns-in-None-clause-first : goal.returns-in-None-clause-first
returns-in-None-clause-first c = λ endpoint e. is_lost c.args.self.now.endpoints.entries c.args.id endpoint c.in-None.ensures.value e
