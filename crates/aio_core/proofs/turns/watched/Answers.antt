use Rattle.std.proofs.Common.{◌++◌, ◌∙◌, ap}
use Rattle.model_stream.specs.Watching.{watch_list}
use Rattle.aio_core.proofs.Watching.{list_so, stands_watched}
use Rattle.aio_core.proofs.turns.watched.Goals as goal

pub returns-clause-list : goal.returns-clause-list
returns-clause-list g c =
    λ d s h. list_so g.X.Extra.added.meaning s c.watch.new.into.items c.of.result c.watches.result
    ((c.in_ok-watch.ensures s.streams h.stands.transports).1 ∙ ap (λ list. list ++ watch_list s.streams)
    c.new-entries.ensures.items)
    (c.watches.ensures h.stands.name_map s.loop.parts s.extra h.stands.extra)
    (c.of.ensures ∙ c.in_ok-put_extra.ensures)

pub returns-clause-stands : goal.returns-clause-stands
returns-clause-stands g c = stands_watched c.args.body.now c.watch.new.self (λ streams h. (c.in_ok-watch.ensures streams h).0)
