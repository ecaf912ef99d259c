use Rattle.std.proofs.Common.{◌∙◌}
use Rattle.aio_serve.proofs.Owning.{lent_of}
use Rattle.aio_serve.proofs.Serving.{asks, some_goes}
use Rattle.aio_serve.proofs.table.serve.Goals as goal

pub set-requires : goal.set-requires
set-requires g c = some_goes c.requires.asked

pub returns-in-Set : goal.returns-in-Set
returns-in-Set g c = rw c.in-Set.is (c.set.ensures c.args.task)

pub exit_timeout-requires : goal.exit_timeout-requires
exit_timeout-requires g c = asks c.in-TimeoutExit.is c.requires.asked

pub returns-in-TimeoutExit : goal.returns-in-TimeoutExit
returns-in-TimeoutExit g c = rw c.in-TimeoutExit.is c.exit_timeout.ensures

pub exit_group-requires : goal.exit_group-requires
exit_group-requires g c = asks c.in-GroupExit.is c.requires.asked

pub returns-in-GroupExit : goal.returns-in-GroupExit
returns-in-GroupExit g c = rw c.in-GroupExit.is c.exit_group.ensures

pub serve_lent-said-requires-clause-lent : goal.serve_lent-said-requires-clause-lent
serve_lent-said-requires-clause-lent g c =
    lent_of c.args.request c.in_default.not-Set c.in_default.not-TimeoutExit c.in_default.not-GroupExit ∙ c.requires.own
