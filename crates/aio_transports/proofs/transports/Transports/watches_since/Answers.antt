use Rattle.std.proofs.Common.{◌==◌, not, List, length, ◌∙◌, ap}
use Rattle.std.specs.List.{flat_map}
use Rattle.model_stream.specs.Streams.{Opened as PlainOpened}
use Rattle.aio_transports.specs.Kept.{Kept, since}
use Rattle.aio_transports.specs.Watched.{watched_of}
use Rattle.aio_transports.proofs.transports.Transports.watches_since.Goals as goal

pub returns : goal.returns
returns c =
    c.any_watched.ensures
    ∙ ap (λ (those : List PlainOpened). not (length (flat_map (watched_of c.args.self.now) those) == 0))
    (c.since.ensures ∙ ap (λ (xs : List PlainOpened). since xs c.self.inside.remaining) c.opened_in_order.ensures
    ∙ ap (λ (k : Kept). since k.streams.opened k.remaining) c.self.view_is)
