-- Why a run over the wire ended as it did.
use Rattle.std.specs.Prelude.{◌≡◌, false}
use Rattle.model_wire.specs.declared.event.End.TheVariants as end
use Rattle.model_wire.specs.Told.{AtRefused, OutOfAnswers, WireSeen}
use Rattle.model_wire.specs.Trace.{End}

-- At a refused line only where the wire stands at it; for want of answers only where it has none left; and by an answer that doesn't
-- fit only where not each answer of the wire fits.
abbrev pub IsCaused : (before after : WireSeen) → End → Type 0
IsCaused before after (end.JournalRefused line cause) = after.end ≡ AtRefused line cause
IsCaused before after (end.Over call) = after.end ≡ OutOfAnswers
IsCaused before after (end.Mismatch count call) = before.fitting ≡ false
IsCaused before after _ = Unit {0}
