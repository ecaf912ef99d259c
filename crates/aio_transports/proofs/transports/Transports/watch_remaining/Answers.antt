use Rattle.std.proofs.Common.{◌≡◌, ◌++◌, List, OnOk, ◌∙◌, ap, subst}
use Rattle.std.specs.List.{flat_map}
use Rattle.model_stream.specs.Streams.{Opened as PlainOpened}
use Rattle.aio_transports.specs.Kept.{Kept}
use Rattle.aio_transports.specs.Watched.{watched_of}
use Rattle.aio_transports.proofs.transports.Transports.watch_remaining.Goals as goal

pub returns : goal.returns
returns c =
    subst (λ (those : List PlainOpened). OnOk c.watch_all.result
    (c.watch_all.new.into.items ≡ c.args.into.now.items ++ flat_map (watched_of c.args.self.now) those))
    (c.those.ensures ∙ ap (λ (k : Kept). k.remaining.those) c.self.view_is) c.watch_all.ensures
