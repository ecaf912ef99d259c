use Rattle.std.proofs.Common.{◌∙◌, sym}
use Rattle.model_stream.specs.Watching.{watch_list}
use Rattle.aio_core.proofs.Watching.{any_else, any_then}
use Rattle.aio_core.proofs.turns.is_watched.Goals as goal

pub returns-then-is_watched : goal.returns-then-is_watched
returns-then-is_watched g c =
    λ d s h. c.if-is_watched.true
    ∙ any_then (watch_list s.streams) (g.X.Extra.added.meaning.watches s.extra)
    (sym (c.is_watched.ensures s.streams h.stands.transports) ∙ c.if-is_watched.true)

pub returns-else-is_watched : goal.returns-else-is_watched
returns-else-is_watched g c =
    λ d s h. c.watches.ensures h.stands.name_map s.loop.parts s.extra h.stands.extra
    ∙ any_else (watch_list s.streams) (g.X.Extra.added.meaning.watches s.extra)
    (sym (c.is_watched.ensures s.streams h.stands.transports) ∙ c.if-is_watched.false)
