use Rattle.std.proofs.Common.{◌∙◌, ap}
use Rattle.aio_stream.specs.Kept.{all_opened}
use Rattle.aio_transports.specs.Kept.{Remaining, since}
use Rattle.aio_transports.proofs.Filtering.{since_cut, since_none}
use Rattle.aio_transports.proofs.transports.remaining.Remaining.since.Goals as goal

pub returns-in-Some : goal.returns-in-Some
returns-in-Some c =
    since_cut c.args.opened.now _ c.in-Some.since.now c.self.inside.seen c.in-Some.ensures.cases
    ∙ ap (λ (r : Remaining). since (all_opened c.args.opened.now) r) c.self.view_is

pub returns-in-None : goal.returns-in-None
returns-in-None c =
    since_none c.args.opened.now c.self.inside.seen c.in-None.ensures.cases
    ∙ ap (λ (r : Remaining). since (all_opened c.args.opened.now) r) c.self.view_is
