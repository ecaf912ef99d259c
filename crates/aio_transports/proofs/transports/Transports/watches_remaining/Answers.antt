use Rattle.std.proofs.Common.{◌==◌, not, List, length, ◌∙◌, ap}
use Rattle.std.specs.List.{flat_map}
use Rattle.model_stream.specs.Streams.{Opened as PlainOpened}
use Rattle.aio_transports.specs.Kept.{Kept}
use Rattle.aio_transports.specs.Watched.{watched_of}
use Rattle.aio_transports.proofs.transports.Transports.watches_remaining.Goals as goal

pub returns : goal.returns
returns c =
    c.any_watched.ensures
    ∙ ap (λ (those : List PlainOpened). not (length (flat_map (watched_of c.args.self.now) those) == 0))
    (c.those.ensures ∙ ap (λ (k : Kept). k.remaining.those) c.self.view_is)
