-- What a wake makes of the loop's parts.
use Rattle.std.specs.Prelude.{ℕ, Option, None, Some}
use Rattle.model_value.specs.Value.{Nothing}
use Rattle.model_value.specs.declared.outcome.Outcome.TheVariants.{Value as Returned}
use Rattle.model_stream.specs.Doing.{Settle}
use Rattle.aio_change.specs.View.{View}
use Rattle.aio_change.specs.Seen.{seen_changed}

-- the read that waits, if one does, goes on
abbrev pub seen_woken : Option ℕ → View → View
seen_woken None v = v
seen_woken (Some future) v = seen_changed (Settle future (Returned Nothing)) v
