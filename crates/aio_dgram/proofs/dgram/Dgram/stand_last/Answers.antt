use Rattle.std.proofs.Common.{ap, ◌∙◌, length}
use Rattle.std.specs.Prelude.{nat_lt}
use Rattle.model_dgram.specs.Endpoints.{Endpoint}
use Rattle.aio_dgram.specs.Seen.{kept_of}
use Rattle.aio_dgram.proofs.Kept.{line_below}
use Rattle.aio_dgram.proofs.Places.{is_found, is_lost}
use Rattle.aio_dgram.proofs.dgram.Dgram.stand_last.Goals as goal

pub stand_last-requires : goal.stand_last-requires
stand_last-requires c = line_below (kept_of c.args.self.now) c.requires.tidy c.args.id c.in-Some.endpoint.now c.in-Some.ensures.value

pub returns-in_ok-stand_last-in-Some-clause-had : goal.returns-in_ok-stand_last-in-Some-clause-had
returns-in_ok-stand_last-in-Some-clause-had c = λ endpoint e.
    let a = c.args in
    c.has_line-had.ensures
    ∙ ap (λ (it : Endpoint). nat_lt 0 (length it.senders))
    (is_found a.self.now.endpoints.entries a.id c.in-Some.endpoint.now endpoint c.in-Some.ensures.value e)

pub returns-in-None-clause-had : goal.returns-in-None-clause-had
returns-in-None-clause-had c = λ endpoint e. is_lost c.args.self.now.endpoints.entries c.args.id endpoint c.in-None.ensures.value e
